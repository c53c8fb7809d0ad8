-- KISS text, on the whole list of octets. The sections named are those of "The KISS TNC: A simple Host-to-TNC
-- communications protocol" (Chepponis and Karn, 1987).
use Rattle.std.specs.Prelude.{◌≢◌, ℕ, List, [], ◌∷◌, ◌++◌, length, drop, Bool, true, false, if◌then◌else◌, ◌==◌, nat_lt, map, Option, Some, None}
use Rattle.std.specs.Option.{option_map}
use Rattle.std.specs.List.{slice_split, flat_map, filter, filter_map, list_any, AllByRecursion}
use Rattle.kiss.specs.declared.whole.Part.{Part}
use Rattle.kiss.specs.declared.whole.Part.TheVariants.{Frame, Dropped, Passed}

-- FEND, the octet before and after each frame ("Asynchronous Frame Format")
abbrev pub fend : ℕ
fend = 0xC0

-- FESC, which begins an escape ("Transparency")
abbrev pub fesc : ℕ
fesc = 0xDB

-- TFEND, which stands for FEND after FESC ("Transparency")
abbrev pub tfend : ℕ
tfend = 0xDC

-- TFESC, which stands for FESC after FESC ("Transparency")
abbrev pub tfesc : ℕ
tfesc = 0xDD

-- the type octet of data on port 0: the low four bits are the command, the high four the port ("Control of the KISS TNC")
abbrev pub data_on_port_0 : ℕ
data_on_port_0 = 0x00

-- the most octets of a frame after its type octet
abbrev pub most_octets : ℕ
most_octets = 400

-- whether an octet is FEND
abbrev pub is_fend : ℕ → Bool
is_fend octet = octet == fend

-- an octet as it is sent inside a frame ("Transparency")
abbrev pub escape_octet : ℕ → List ℕ
escape_octet octet = if octet == fend then fesc ∷ tfend ∷ [] else if octet == fesc then fesc ∷ tfesc ∷ [] else octet ∷ []

-- octets as they are sent inside a frame ("Transparency")
abbrev pub escape : List ℕ → List ℕ
escape octets = flat_map escape_octet octets

-- the KISS text of x, as data on port 0 ("Asynchronous Frame Format")
abbrev pub kiss_text : List ℕ → List ℕ
kiss_text x = fend ∷ data_on_port_0 ∷ (escape x ++ fend ∷ [])

-- an octet before what was read
abbrev pub with_front : ℕ → Option (List ℕ) → Option (List ℕ)
with_front octet read = option_map (λ octets. octet ∷ octets) read

-- the octets that a piece between two FENDs was sent for, None where it has an ill escape: FESC followed by neither TFEND nor TFESC,
-- or by the end of the piece ("Transparency")
abbrev pub unescape : List ℕ → Option (List ℕ)
unescape [] = Some []
unescape (octet ∷ []) = if octet == fesc then None else Some (octet ∷ [])
unescape (octet ∷ next ∷ rest) = if octet == fesc
    then (if next == tfend then with_front fend (unescape rest) else if next == tfesc then with_front fesc (unescape rest) else None)
    else with_front octet (unescape (next ∷ rest))

-- what unescaped octets are: the type octet, then the frame's (a piece has octets, so the first line is never asked for)
abbrev pub part_of_text : List ℕ → Part
part_of_text [] = Dropped
part_of_text (kind ∷ octets) = if nat_lt most_octets (length octets) then Dropped
    else if kind == data_on_port_0 then Frame octets else Passed

-- what a piece between two FENDs is
abbrev pub part_of : Option (List ℕ) → Part
part_of None = Dropped
part_of (Some text) = part_of_text text

-- all but the last
abbrev pub but_last : List (List ℕ) → List (List ℕ)
but_last [] = []
but_last (piece ∷ []) = []
but_last (piece ∷ next ∷ rest) = piece ∷ but_last (next ∷ rest)

-- whether a piece has an octet
abbrev pub has_octets : List ℕ → Bool
has_octets [] = false
has_octets (octet ∷ octets) = true

-- the pieces between two FENDs that have octets: what stands before the first FEND and after the last is left out, and two FENDs in a row
-- delimit nothing ("Asynchronous Frame Format")
abbrev pub pieces : List ℕ → List (List ℕ)
pieces octets = filter has_octets (but_last (drop 1 (slice_split is_fend octets)))

-- the parts of a list of octets, in order
unfoldable pub kiss_parts : List ℕ → List Part
kiss_parts octets = map (λ piece. part_of (unescape piece)) (pieces octets)

-- the octets of a frame
abbrev pub frame_of : Part → Option (List ℕ)
frame_of (Frame octets) = Some octets
frame_of Dropped = None
frame_of Passed = None

-- the frames of a list of octets, in order
unfoldable pub kiss_frames : List ℕ → List (List ℕ)
kiss_frames octets = filter_map frame_of (kiss_parts octets)

-- no octet is FEND
abbrev pub HasNoFend : List ℕ → Type 0
HasNoFend octets = AllByRecursion (λ octet. octet ≢ fend) octets

-- the octets from the last FEND on, none where there is no FEND
abbrev pub from_last_fend : List ℕ → List ℕ
from_last_fend [] = []
from_last_fend (octet ∷ rest) = if list_any is_fend rest then from_last_fend rest else if octet == fend then octet ∷ rest else []
