-- What the calls of a lane say.
use Rattle.std.specs.Prelude.{ℕ, List, Bool, ◌&&◌, false, true}
use Rattle.ax25_link.specs.Air.{IsLawful, Transmission}
use Rattle.ax25_link.specs.Window.{Window}
use Rattle.air_rehearsal.specs.declared.lane.Sent.{Sent}
use Rattle.air_rehearsal.specs.declared.lane.Sort.{Sort}
use Rattle.air_rehearsal.specs.declared.lane.Sort.TheVariants as sort

-- the transmission at this place may be delivered
abbrev pub MayDeliver : Window → List Transmission → ℕ → Type 0
MayDeliver w list place = (t : Transmission) × IsLawful w list place t

-- whether the frame is an I or S frame
abbrev pub is_numbered : Sort → Bool
is_numbered sort.Call = false
is_numbered sort.Numbered = true
is_numbered sort.Plain = false

-- whether it overtakes those before it: an I or S frame that was delivered
abbrev pub overtakes : Sent → Bool
overtakes sent = sent.is_delivered && is_numbered sent.sort
