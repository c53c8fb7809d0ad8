-- What a session sends by itself, one packet after another (FTL0 1990, downloading): DATA of what is due, then
-- DATA_END.
use Rattle.std.specs.Prelude.{ℕ, suc, ◌+◌, ◌-◌, ◌==◌, min, List, [], ◌∷◌, length, take, drop, flat_map}
use Rattle.std.specs.Prelude.{Bool, true, false, ◌&&◌, if◌then◌else◌, Option, None, Some}
use Rattle.std.specs.List.{list_any}
use Rattle.ftl0_packets.specs.ErrorCodes.{octet_of}
use Rattle.ftl0_packets.specs.declared.error_code.ErrorCode.TheVariants as error
use Rattle.ftl0_packets.specs.Layout.{PacketValue, data_end, data_part, dl_error_resp}
use Rattle.file_store.specs.Store.{Store}
use Rattle.ftl0_session.specs.Downloads.Table.{DownloadState, Due, kept, listing, octets_in, ready, sending, stored}
use Rattle.ftl0_session.specs.Downloads.Table.{waiting}

-- how many octets a DATA has at most
abbrev pub most_data : ℕ
most_data = 254

-- how many octets are due of it
abbrev pub due_len : Due → ℕ
due_len (stored number place last) = last - place
due_len (kept octets) = length octets

-- these octets
abbrev pub due_octets : Store → Due → List ℕ
due_octets store (stored number place last) = take (last - place) (drop place (octets_in store number))
due_octets store (kept octets) = octets

-- what is due of it once its first octets, this many, were sent
abbrev pub moved : ℕ → Due → Due
moved count (stored number place last) = stored number (place + count) last
moved count (kept octets) = kept (drop count octets)

-- what is due of each once this many octets were sent, of the first to the last
abbrev pub after_octets : ℕ → List Due → List Due
after_octets count [] = []
after_octets count (due ∷ later) = moved (min count (due_len due)) due ∷ after_octets (count - due_len due) later

-- the octets of all that is due, one after another
abbrev pub joined : Store → List Due → List ℕ
joined store dues = flat_map (due_octets store) dues

-- the octets that are due in a state
abbrev pub octets_due : Store → DownloadState → List ℕ
octets_due store ready = []
octets_due store (sending number place last) = due_octets store (stored number place last)
octets_due store waiting = []
octets_due store (listing dues) = joined store dues

-- the state once this many of them were sent
abbrev pub state_after : ℕ → DownloadState → DownloadState
state_after count ready = ready
state_after count (sending number place last) = sending number (place + min count (last - place)) last
state_after count waiting = waiting
state_after count (listing dues) = listing (after_octets count dues)

-- the state once all were sent, and DATA_END: the caller says then whether the file came
abbrev pub state_at_end : DownloadState → DownloadState
state_at_end ready = ready
state_at_end (sending number place last) = waiting
state_at_end waiting = waiting
state_at_end (listing dues) = ready

-- whether anything is due: DATA, or DATA_END if no octets are left
abbrev pub is_due : DownloadState → Bool
is_due ready = false
is_due (sending number place last) = true
is_due waiting = false
is_due (listing dues) = true

-- how many octets are due, and one for DATA_END; none if nothing is due
abbrev pub octets_left : Store → DownloadState → ℕ
octets_left store state = if is_due state then suc (length (octets_due store state)) else 0

-- whether the octets of a DATA are read from the store then, and not kept
abbrev pub is_stored : Due → Bool
is_stored (stored number place last) = true
is_stored (kept octets) = false

abbrev pub is_read : DownloadState → Bool
is_read ready = false
is_read (sending number place last) = true
is_read waiting = false
is_read (listing dues) = list_any is_stored dues

-- a packet that is sent, and the state after it
pub record DuePacket : Type 0 where
  pub packet : PacketValue
  pub state : DownloadState

-- While octets are left, DATA of the next 254, the last one shorter; if a read of them fails, error 3 in its place, and
-- the session is ready. None are left: DATA_END.
abbrev pub due_packet : Store → DownloadState → Bool → DuePacket
due_packet store state fails =
    if length (octets_due store state) == 0 then record { packet = data_end; state = state_at_end state }
    else if fails && is_read state
    then record { packet = dl_error_resp (octet_of error.ServerFsys); state = ready }
    else record { packet = data_part (take most_data (octets_due store state)); state = state_after most_data state }

-- What is due next in a state, whether a read fails or none does; nothing if the session is ready or waits.
abbrev pub next_due : Store → DownloadState → Bool → Option DuePacket
next_due store state fails = if is_due state then Some (due_packet store state fails) else None
