-- What a station's reader has heard, and what an octet brings to it.
use Rattle.std.specs.Prelude.{◌≡◌, ℕ, ◌≤◌, List, [], ◌∷◌, ◌++◌, length, take, Bool, true, false, Option, None, Some}
use Rattle.std.specs.Option.{option_to_list}
use Rattle.px_base.specs.CallSign.{CallSign}
use Rattle.kiss.specs.KissText.{kiss_frames}
use Rattle.ax25_frames.specs.FrameText.{FrameText, FrameValue}
use Rattle.turn_loop.specs.Events.{IsFor, NoneFor}
use Rattle.turn_loop.specs.Station.{StationValue}

-- The reader goes on as if it had heard these octets: whatever comes later, their frames together are those of these
-- octets and those that it still finds.
abbrev pub HasHeard : StationValue → List ℕ → Type 0
HasHeard reader octets =
    (later : List ℕ) → kiss_frames (octets ++ later) ≡ kiss_frames octets ++ kiss_frames (reader.heard ++ later)

-- the octets of the frame of KISS text that the last octet ended, if it did
abbrev pub texts_ended : Bool → StationValue → List (List ℕ)
texts_ended false reader = []
texts_ended true reader = option_to_list reader.ended

-- An octet came: whatever octets the reader has heard, it has heard this one too, which ended that frame, or none.
abbrev pub HearsOctet : StationValue → ℕ → StationValue → Bool → Type 0
HearsOctet old octet new ended =
    (octets : List ℕ) → HasHeard old octets
    → HasHeard new (octets ++ octet ∷ [])
    × (kiss_frames (octets ++ octet ∷ []) ≡ kiss_frames octets ++ texts_ended ended new)

-- Octets came: whatever octets the reader has heard, it has heard these too, and neither they nor fewer of them ended a
-- frame of KISS text.
abbrev pub HearsRun : StationValue → List ℕ → StationValue → Type 0
HearsRun old run new =
    (octets : List ℕ) → HasHeard old octets
    → HasHeard new (octets ++ run)
    × ((n : ℕ) → n ≤ length run → kiss_frames (octets ++ take n run) ≡ kiss_frames octets)

-- the frame for the station that has these octets, or that none has
abbrev pub Finds : CallSign → List ℕ → Option FrameValue → Type 0
Finds me octets None = NoneFor me octets
Finds me octets (Some frame) = FrameText frame octets × IsFor me frame
