-- The records of a journal as octets. Each stands behind an open gate, and a gate follows its last octet.
use Rattle.std.specs.Prelude.{◌≡◌, ◌≢◌, ℕ, zero, suc, ◌+◌, ◌<◌, ◌≤◌, ◌==◌, List, [], ◌∷◌, ◌++◌, length, take, drop, slice_index, Bool, ◌&&◌, nat_le, nat_lt, if◌then◌else◌}
use Rattle.std.specs.List.{AllByRecursion}
use Rattle.px_base.specs.Numbers.{le16, le16_octets}
use Rattle.px_base.specs.Octets.{IsOctets}

-- a record: of what kind it is, and its content
pub record Record : Type 0 where
  pub kind : ℕ
  pub content : List ℕ

-- the record of this kind and content
abbrev pub record_of : ℕ → List ℕ → Record
record_of kind content = record { kind = kind; content = content }

-- the kind is an octet, and the content at most 600 octets
pub record IsRecord (entry : Record) : Type 0 where
  pub kind : entry.kind < 256
  pub octets : IsOctets entry.content
  pub most : length entry.content ≤ 600

-- one octet of kind, two of the content's length, the content
abbrev pub record_text : Record → List ℕ
record_text entry = entry.kind ∷ le16_octets (length entry.content) ++ entry.content

-- the records one after another, each behind an open gate, 01
abbrev pub records_text : List Record → List ℕ
records_text [] = []
records_text (entry ∷ entries) = 1 ∷ record_text entry ++ records_text entries

-- a gate stands at the front, and isn't open
abbrev pub StartsClosed : List ℕ → Type 0
StartsClosed [] = ⊥
StartsClosed (gate ∷ octets) = gate ≢ 1

-- no record with a gate behind it stands at the front
abbrev pub StartsCut : List ℕ → Type 0
StartsCut octets =
    (entry : Record) (gate : ℕ) (later : List ℕ) → IsRecord entry → octets ≡ record_text entry ++ gate ∷ later → ⊥

-- What stands from a gate on: these records before the first gate that isn't open; or these records and then, at this
-- place, an open gate that no whole record with a gate behind it follows.
pub data Reading : Type 0 where
  whole : List Record → Reading
  broken : List Record → ℕ → Reading

-- The octets from a gate at this place on stand for this: they are the text of records, and then what ends them.
abbrev pub StandsFrom : ℕ → List ℕ → Reading → Type 0
StandsFrom place octets (whole entries) =
    (rest : List ℕ) × AllByRecursion IsRecord entries × (octets ≡ records_text entries ++ rest) × StartsClosed rest
StandsFrom place octets (broken entries at) =
    (rest : List ℕ) × AllByRecursion IsRecord entries × (octets ≡ records_text entries ++ 1 ∷ rest) × StartsCut rest
    × (at ≡ place + length (records_text entries))

-- The same, computed from the front.

-- how many octets the record has whose text begins so: three, and the content's length
abbrev pub record_len : List ℕ → ℕ
record_len octets = 3 + le16 octets 1

-- whether a record with a gate behind it stands at the front
abbrev pub starts_whole : List ℕ → Bool
starts_whole octets = nat_le (le16 octets 1) 600 && nat_lt (record_len octets) (length octets)

-- the record at the front
abbrev pub record_in : List ℕ → Record
record_in octets = record_of (slice_index octets 0) (take (le16 octets 1) (drop 3 octets))

-- with this record before what was read
abbrev pub with_record : Record → Reading → Reading
with_record entry (whole entries) = whole (entry ∷ entries)
with_record entry (broken entries at) = broken (entry ∷ entries) at

-- with these records before what was read
abbrev pub with_records : List Record → Reading → Reading
with_records [] reading = reading
with_records (entry ∷ entries) reading = with_record entry (with_records entries reading)

-- with this record behind what was read; nothing is read behind damage
abbrev pub with_end : Reading → Record → Reading
with_end (whole entries) entry = whole (entries ++ entry ∷ [])
with_end (broken entries at) entry = broken entries at

-- what stands from a gate at this place on, with at most so many records
unfoldable pub reading_within : ℕ → ℕ → List ℕ → Reading
reading_within zero place octets = broken [] place
reading_within (suc most) place [] = broken [] place
reading_within (suc most) place (gate ∷ octets) =
    if gate == 1 then
    (if starts_whole octets
    then with_record (record_in octets)
    (reading_within most (place + 1 + record_len octets) (drop (record_len octets) octets))
    else broken [] place)
    else whole []

-- what stands from a gate at this place on; there are no more records than octets
unfoldable pub reading_from : ℕ → List ℕ → Reading
reading_from place octets = reading_within (length octets) place octets

-- what stands from the gate at this place of octets on
abbrev pub reading_at : ℕ → List ℕ → Reading
reading_at place octets = reading_from place (drop place octets)

-- this record stands behind the gate at this place, and a gate behind it
pub record HasRecord (place : ℕ) (entry : Record) (octets : List ℕ) : Type 0 where
  pub there : place + 4 + length entry.content < length octets
  pub reading : reading_at place octets ≡ with_record entry (reading_at (place + 4 + length entry.content) octets)

-- a record of this kind and length stands behind the gate at this place, and then what is read from behind it
abbrev pub StartsRecord : ℕ → ℕ → ℕ → List ℕ → Type 0
StartsRecord place kind len octets =
    reading_at place octets
    ≡ with_record (record_of kind (take len (drop (place + 4) octets))) (reading_at (place + 4 + len) octets)
