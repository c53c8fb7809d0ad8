-- Laws of every table.
use Rattle.std.specs.Prelude.{◌≡◌, ◌↔◌, ℕ, ◌≤◌, ◌<◌, length, slice_index}
use Rattle.file_store_blocks.specs.BlockTable.Table.{HasRoom, IsFree, IsTable, IsTaken, Table, after_beginning}
use Rattle.file_store_blocks.specs.BlockTable.Table.{after_taking, left_in}
use Rattle.file_store_blocks.specs.BlockTable.Table.{new_table, run_at, without}

-- the block at this place of this run, if both are there
pub record StandsAt (table : Table) (run at block : ℕ) : Type 0 where
  pub there : run < length table.runs
  pub place : at < length (run_at table run).blocks
  pub block_is : slice_index (run_at table run).blocks at ≡ block

-- it is in some run
abbrev pub Stands : Table → ℕ → Type 0
Stands table block = (run : ℕ) × ((at : ℕ) × StandsAt table run at block)

-- A block is taken exactly when it is in a run, and it is at one place of one run.
abbrev pub PlacesLaw : Type 0
PlacesLaw =
    ((table : Table) (block : ℕ) → IsTaken table block ↔ Stands table block)
    × ((table : Table) (block run at other_run other_at : ℕ) → IsTable table → StandsAt table run at block
    → StandsAt table other_run other_at block → (run ≡ other_run) × (at ≡ other_at))

-- A table without runs keeps the rules of a table, and so does each call that changes one.
abbrev pub RulesLaw : Type 0
RulesLaw =
    ((limit most : ℕ) → 1 ≤ limit → limit ≤ 65536 → IsTable (new_table limit most))
    × ((table : Table) (room : ℕ) → IsTable table → room ≤ left_in table → IsTable (after_beginning table room))
    × ((table : Table) (run block : ℕ) → IsTable table → HasRoom table run → IsFree table block
    → IsTable (after_taking table run block))
    × ((table : Table) (run : ℕ) → IsTable table → run < length table.runs → IsTable (without table run))
