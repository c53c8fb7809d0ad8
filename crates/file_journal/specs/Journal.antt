-- What the octets of a disk stand for.
use Rattle.std.specs.Prelude.{◌≡◌, ◌⊎◌, ℕ, ◌+◌, ◌%◌, ◌<◌, ◌≤◌, List, [], ◌∷◌, ◌++◌, length, take, slice_index, Bool, not, ◌&&◌, ◌==◌, nat_le, nat_lt, if◌then◌else◌, Option, None, Some}
use Rattle.std.specs.Str.{bytes_eq}
use Rattle.px_base.specs.Numbers.{le32, le32_octets}
use Rattle.file_journal.specs.Layout.{first_gate, half_end, half_gate, half_in, up_to}
use Rattle.file_journal.specs.declared.layout.Half.{Half}
use Rattle.file_journal.specs.Records.{Record, Reading, whole, reading_at, with_end}
use Rattle.file_journal.specs.declared.layout.Layout.{Layout}

-- What octets stand for: for no store, since they begin with these eight octets; for none, since the block number isn't
-- in 1 to 65,536; or for a store with a block number, where it has one yet, and what is read of the records in its
-- half.
pub data Standing : Type 0 where
  no_store : List ℕ → Standing
  bad_number : Standing
  store : Option ℕ → Reading → Standing

-- a block number is from 1 to 65,536
abbrev pub is_block_number : ℕ → Bool
is_block_number blocks = nat_le 1 blocks && nat_le blocks 65536

-- a store with this block number and what was read
abbrev pub store_of : ℕ → Reading → Standing
store_of blocks reading = store (Some blocks) reading

-- what is read of the records of this half, which end where it ends
abbrev pub read_half : Layout → ℕ → Half → List ℕ → Reading
read_half layout blocks chosen octets =
    reading_at (half_gate layout blocks chosen) (up_to (half_end layout blocks chosen) octets)

-- Octets 0 to 7 are the magic, 8 to 11 the block number, 12 to 14 zero, 15 the selector. The layout and the block
-- number say where the first gate stands, and with the selector in which half the records are. At most 16 octets are a
-- store that isn't formatted yet; where they end before or with the first gate its formatting was interrupted, and it
-- has no records.
unfoldable pub journal_of : List ℕ → Layout → List ℕ → Standing
journal_of magic layout octets =
    if nat_le (length octets) 16 then store None (whole [])
    else if not (bytes_eq (take 8 octets) magic) then no_store (take 8 octets)
    else if not (is_block_number (le32 octets 8)) then bad_number
    else if nat_lt (length octets) (first_gate layout (le32 octets 8) + 2) then store (Some (le32 octets 8)) (whole [])
    else store_of (le32 octets 8) (read_half layout (le32 octets 8) (half_in layout octets) octets)

-- not refused by its magic or its block number
abbrev pub HasGoodHeader : Standing → Type 0
HasGoodHeader standing = ((found : List ℕ) → standing ≡ no_store found → ⊥) × (standing ≡ bad_number → ⊥)

-- with one more record at the end
abbrev pub with_last : Standing → Record → Standing
with_last (store blocks reading) entry = store blocks (with_end reading entry)
with_last (no_store found) entry = no_store found
with_last bad_number entry = bad_number

-- the same records, or these and the new one
abbrev pub IsBeforeOrAfter : Standing → Record → Standing → Type 0
IsBeforeOrAfter before entry now = (now ≡ before) ⊎ (now ≡ with_last before entry)

-- the same; but a store that had no block number yet, and so no records, may have got this one
abbrev pub IsSameStore : ℕ → Standing → Standing → Type 0
IsSameStore blocks before now =
    (now ≡ before) ⊎ ((before ≡ store None (whole [])) × (now ≡ store (Some blocks) (whole [])))

-- The header of a store: magic, block number, zeros, the selector 00.
abbrev pub header_text : List ℕ → ℕ → List ℕ
header_text magic blocks = magic ++ le32_octets blocks ++ 0 ∷ 0 ∷ 0 ∷ 0 ∷ []

-- the selector, or 00 where it is odd
abbrev pub even_selector : List ℕ → ℕ
even_selector octets = if slice_index octets 15 % 2 == 1 then 0 else slice_index octets 15

-- the header of a store, with an even selector
abbrev pub even_header : List ℕ → List ℕ
even_header octets = take 15 octets ++ even_selector octets ∷ []

-- Behind a header of 16 octets come any octets up to this place, and then two closed gates.
pub record HasGates (gate : ℕ) (header now : List ℕ) : Type 0 where
  pub gap : List ℕ
  pub size : 16 + length gap ≡ gate
  pub octets : now ≡ header ++ gap ++ 0 ∷ 0 ∷ []

-- More than 16 octets after a recovery, where the first gate of their store stands at this place: where there was no
-- octet behind that gate, two closed gates stand there, and the selector is even then; all else stays.
pub record IsAfterFinishing (gate : ℕ) (before now : List ℕ) : Type 0 where
  pub finished : length before < gate + 2 → HasGates gate (even_header before) now
  pub same : gate + 2 ≤ length before → now ≡ before

-- The content after a recovery with this magic, layout and block number: at most 16 octets give way to a header and two
-- closed gates.
pub record IsAfterRecovery (magic : List ℕ) (layout : Layout) (blocks : ℕ) (before now : List ℕ) : Type 0 where
  pub new : length before ≤ 16 → HasGates (first_gate layout blocks) (header_text magic blocks) now
  pub known : 16 < length before → IsAfterFinishing (first_gate layout (le32 before 8)) before now
