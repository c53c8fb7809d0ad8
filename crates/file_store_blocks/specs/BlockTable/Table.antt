-- Which blocks of a store its files take: for each file a run of blocks.
use Rattle.std.specs.Prelude.{◌≡◌, ℕ, ◌-◌, ◌<◌, ◌≤◌, ◌==◌, List, [], ◌∷◌, ◌++◌, length, count_by, sum_by}
use Rattle.std.specs.Prelude.{slice_index_or, slice_set}
use Rattle.std.specs.List.{All, remove}

-- the blocks that a file's octets are in, in their order, and how many it may have
pub record Run : Type 0 where
  pub blocks : List ℕ
  pub room : ℕ

-- the runs, how many blocks there are, and how many runs there may be
pub record Table : Type 0 where
  pub runs : List Run
  pub limit : ℕ
  pub most : ℕ

-- a run that was just begun
abbrev pub new_run : ℕ → Run
new_run room = record { blocks = []; room = room }

-- no run yet
abbrev pub new_table : ℕ → ℕ → Table
new_table limit most = record { runs = []; limit = limit; most = most }

-- the run at this place; one that may have no block if there is none
abbrev pub run_at : Table → ℕ → Run
run_at table run = slice_index_or table.runs run (new_run 0)

-- how many blocks these runs may have together
abbrev pub rooms_of : List Run → ℕ
rooms_of runs = sum_by (λ r. r.room) runs

-- how many blocks a further run may have at most
abbrev pub left_in : Table → ℕ
left_in table = table.limit - rooms_of table.runs

-- how often a block occurs in a run
abbrev pub times_in : ℕ → Run → ℕ
times_in block run = count_by (λ b. b == block) run.blocks

-- how often it occurs in these runs together
abbrev pub times_of : ℕ → List Run → ℕ
times_of block runs = sum_by (times_in block) runs

-- a run has the block
abbrev pub IsTaken : Table → ℕ → Type 0
IsTaken table block = 1 ≤ times_of block table.runs

-- there is such a block, and no run has it
pub record IsFree (table : Table) (block : ℕ) : Type 0 where
  pub below : block < table.limit
  pub free : times_of block table.runs ≡ 0

-- no run has this block, and some run has each one below it
pub record IsLowestFree (table : Table) (block : ℕ) : Type 0 where
  pub here : IsFree table block
  pub lower : (other : ℕ) → other < block → IsTaken table other

-- this run is there, and may have one more block
pub record HasRoom (table : Table) (run : ℕ) : Type 0 where
  pub there : run < length table.runs
  pub room : length (run_at table run).blocks < (run_at table run).room

-- a run has no more blocks than it may, each one of those that there are
pub record IsRun (limit : ℕ) (run : Run) : Type 0 where
  pub fits : length run.blocks ≤ run.room
  pub below : All (λ b. b < limit) run.blocks

-- each run is one; they may have no more blocks together than there are; and no block occurs twice, be it in one run or
-- in two
pub record AreRuns (runs : List Run) (limit : ℕ) : Type 0 where
  pub each : All (IsRun limit) runs
  pub rooms : rooms_of runs ≤ limit
  pub once : (block : ℕ) → times_of block runs ≤ 1
  pub some : 1 ≤ limit
  pub most : limit ≤ 65536

-- what is true of each table
abbrev pub IsTable : Table → Type 0
IsTable table = AreRuns table.runs table.limit

-- this run with one more block after its others
abbrev pub with_block : Run → ℕ → Run
with_block run block = record { blocks = run.blocks ++ block ∷ []; room = run.room }

-- a run without blocks, which may have this number of them, came after the others
abbrev pub after_beginning : Table → ℕ → Table
after_beginning table room = record table { runs = table.runs ++ new_run room ∷ [] }

-- this run has this block after its others
abbrev pub after_taking : Table → ℕ → ℕ → Table
after_taking table run block =
    record table { runs = slice_set table.runs run (with_block (run_at table run) block) }

-- this run is gone, and the later ones moved up
abbrev pub without : Table → ℕ → Table
without table run = record table { runs = remove table.runs run }
