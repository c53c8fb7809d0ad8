-- Where the parts of a store stand on its disk.
use Rattle.std.specs.Prelude.{◌≡◌, ℕ, ◌+◌, ◌*◌, ◌/◌, ◌%◌, ◌==◌, List, replicate, take, drop, slice_index, if◌then◌else◌}
use Rattle.std.specs.Prelude.{Option, None, Some, ⊤}
use Rattle.file_journal.specs.declared.layout.Half.{Half}
use Rattle.file_journal.specs.declared.layout.Half.TheVariants as half
use Rattle.file_journal.specs.declared.layout.Layout.{Layout}
use Rattle.file_journal.specs.declared.layout.Layout.TheVariants as layout

-- the place of a block, from 0 on
abbrev pub block_place : ℕ → ℕ
block_place block = 16 + 512 * block

-- what blocks hold: the octets of each, by its number
abbrev pub Blocks : Type 0
Blocks = ℕ → List ℕ

-- the octets of a block
abbrev pub block_in : List ℕ → Blocks
block_in octets block = take 512 (drop (block_place block) octets)

-- the octets of a block of a disk; zeros where its content isn't told
abbrev pub blocks_on : Option (List ℕ) → Blocks
blocks_on None block = replicate 512 0
blocks_on (Some octets) block = block_in octets block

-- each of the blocks that are asked for holds the same
abbrev pub HoldSame : (ℕ → Type 0) → Blocks → Blocks → Type 0
HoldSame asked one other = (block : ℕ) → asked block → other block ≡ one block

-- the place of the first gate of a store of so many blocks
abbrev pub first_gate : Layout → ℕ → ℕ
first_gate layout.Growing blocks = 16
first_gate layout.Blocks blocks = 16 + 512 * blocks
first_gate layout.Halves blocks = 16 + 512 * blocks

-- the layout has blocks before its records
abbrev pub HasBlocks : Layout → Type 0
HasBlocks layout.Growing = ⊥
HasBlocks layout.Blocks = ⊤
HasBlocks layout.Halves = ⊤

-- how many octets each half of the records has in a store of so many blocks
abbrev pub half_size : ℕ → ℕ
half_size blocks = 65536 + 28 * blocks

-- how many calls of the disk a rewriting makes at most there: one for each record, which has four octets at least, and
-- four more
abbrev pub rewriting_calls : ℕ → ℕ
rewriting_calls blocks = half_size blocks / 4 + 4

-- the half that a selector says: the first one where it is even, and where there is no other
abbrev pub half_by : Layout → ℕ → Half
half_by layout.Growing selector = half.First
half_by layout.Blocks selector = half.First
half_by layout.Halves selector = if selector % 2 == 1 then half.Second else half.First

-- the half that octet 15 of a store says
abbrev pub half_in : Layout → List ℕ → Half
half_in layout octets = half_by layout (slice_index octets 15)

-- the selector that says this half
abbrev pub selector_of : Half → ℕ
selector_of half.First = 0
selector_of half.Second = 1

-- the half that it isn't
abbrev pub other_half : Half → Half
other_half half.First = half.Second
other_half half.Second = half.First

-- the place of the first gate of a half
abbrev pub half_gate : Layout → ℕ → Half → ℕ
half_gate layout.Growing blocks chosen = 16
half_gate layout.Blocks blocks chosen = 16 + 512 * blocks
half_gate layout.Halves blocks half.First = 16 + 512 * blocks
half_gate layout.Halves blocks half.Second = 16 + 512 * blocks + half_size blocks

-- where a half ends; where there is but one it has no end
abbrev pub half_end : Layout → ℕ → Half → Option ℕ
half_end layout.Growing blocks chosen = None
half_end layout.Blocks blocks chosen = None
half_end layout.Halves blocks chosen = Some (half_gate layout.Halves blocks chosen + half_size blocks)

-- the octets before this place, or all of them
abbrev pub up_to : Option ℕ → List ℕ → List ℕ
up_to None octets = octets
up_to (Some end) octets = take end octets
