-- How the code keeps a table: the numbers of all runs in one list, each run's after the earlier ones', and a mark for
-- each block.
use Rattle.std.specs.Prelude.{◌≡◌, ◌↔◌, ℕ, ◌+◌, ◌-◌, ◌<◌, ◌≤◌, ◌==◌, Bool, false, true, List, [], ◌∷◌, length, map}
use Rattle.std.specs.Prelude.{take, drop, cond, count_by, slice_index_or, IsTrue}
use Rattle.file_store_blocks.specs.BlockTable.Table.{AreRuns, Run, times_of}
use Rattle.file_store_blocks.specs.declared.block_table.marks.RunMark.{RunMark}

-- the parts of a table, as the code keeps them
pub record Parts : Type 0 where
  pub marks : List RunMark
  pub numbers : List ℕ
  pub taken : List Bool
  pub lowest : ℕ
  pub rooms : ℕ
  pub limit : ℕ

-- the run of this mark
abbrev pub run_in : List ℕ → RunMark → Run
run_in numbers mark = record { blocks = take mark.count (drop mark.first numbers); room = mark.room }

-- the runs of these marks
abbrev pub runs_in : List ℕ → List RunMark → List Run
runs_in numbers marks = map (run_in numbers) marks

abbrev pub runs_of : Parts → List Run
runs_of parts = runs_in parts.numbers parts.marks

-- The places of the first run begin at `from`, those of each other one after the one before it, and those of the last
-- end at `end`. No run has more blocks than places.
abbrev pub AreInLine : ℕ → List RunMark → ℕ → Type 0
AreInLine from [] end = from ≡ end
AreInLine from (mark ∷ marks) end =
    (mark.first ≡ from) × (mark.count ≤ mark.room) × AreInLine (from + mark.room) marks end

-- the run's places begin this number of places earlier
abbrev pub earlier : ℕ → RunMark → RunMark
earlier places mark = record { first = mark.first - places; count = mark.count; room = mark.room }

-- exactly the blocks that a run has are marked
abbrev pub AreMarked : List Run → List Bool → Type 0
AreMarked runs taken = (block : ℕ) → IsTrue (slice_index_or taken block false) ↔ (1 ≤ times_of block runs)

-- the marks of blocks that these runs leave, and the hint
pub record AreShown (runs : List Run) (limit : ℕ) (taken : List Bool) (lowest : ℕ) : Type 0 where
  pub rules : AreRuns runs limit
  pub marked : AreMarked runs taken
  pub lower : (block : ℕ) → block < lowest → 1 ≤ times_of block runs

-- what is true of the parts of a table
pub record IsKept (parts : Parts) : Type 0 where
  pub line : AreInLine 0 parts.marks parts.rooms
  pub numbers_length : length parts.numbers ≡ parts.limit
  pub taken_length : length parts.taken ≡ parts.limit
  pub shown : AreShown (runs_of parts) parts.limit parts.taken parts.lowest

-- each block from this one on is marked
abbrev pub AllMarked : List Bool → ℕ → Type 0
AllMarked taken from = (block : ℕ) → from ≤ block → block < length taken → slice_index_or taken block false ≡ true

-- the first block from this one on that isn't marked
pub record IsFirstFree (taken : List Bool) (from first : ℕ) : Type 0 where
  pub low : from ≤ first
  pub there : first < length taken
  pub free : slice_index_or taken first false ≡ false
  pub passed : (block : ℕ) → from ≤ block → block < first → slice_index_or taken block false ≡ true

-- how often a block occurs in this list
abbrev pub times_among : ℕ → List ℕ → ℕ
times_among block blocks = count_by (λ b. b == block) blocks

-- these blocks aren't marked, and each other one is as before
pub record AreFreed (before now : List Bool) (blocks : List ℕ) : Type 0 where
  pub marks : length now ≡ length before
  pub each : (block : ℕ) → slice_index_or now block false
      ≡ cond (times_among block blocks == 0) (slice_index_or before block false) false
