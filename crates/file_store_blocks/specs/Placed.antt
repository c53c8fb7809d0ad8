-- What a store of files is when the octets of its files are in blocks of a disk: of each entry, in which blocks.
use Rattle.std.specs.Prelude.{ℕ, ◌≤◌, ◌==◌, List, [], Bool, if◌then◌else◌, find, map, sum_by}
use Rattle.std.specs.Prelude.{Option, None, is_some}
use Rattle.file_store_blocks.specs.BlockTable.Table.{Run, times_in, times_of}
use Rattle.file_store_model.specs.Store.{blocks_for}
use Rattle.px_base.specs.CallSign.{CallSign}

-- when a file was sealed, the sum that its header has with its stamp, and the header's length in octets
pub record Seal : Type 0 where
  pub moment : ℕ
  pub sum : ℕ
  pub header : ℕ

-- a file: its number, whose it is, its length in octets, the moment in which it was begun; how many octets are held, in
-- which blocks, in order; and its seal, if it has one
pub record Placed : Type 0 where
  pub number : ℕ
  pub caller : CallSign
  pub length : ℕ
  pub begun : ℕ
  pub held : ℕ
  pub blocks : List ℕ
  pub seal : Option Seal

-- the entries in rising number, the number that the next one gets, and how many blocks of 512 octets there are
pub record PlacedStore : Type 0 where
  pub entries : List Placed
  pub next : ℕ
  pub blocks : ℕ

-- a file that was just begun
abbrev pub new_placed : ℕ → CallSign → ℕ → ℕ → Placed
new_placed number caller file_length moment =
    record {
      number = number;
      caller = caller;
      length = file_length;
      begun = moment;
      held = 0;
      blocks = [];
      seal = None;
    }

-- a store by its parts
abbrev pub placed_from : List Placed → ℕ → ℕ → PlacedStore
placed_from entries next blocks = record { entries = entries; next = next; blocks = blocks }

-- no entry yet, and the first number is 1
abbrev pub no_entries : ℕ → PlacedStore
no_entries blocks = placed_from [] 1 blocks

-- the store with this number for the next file
abbrev pub with_next : ℕ → PlacedStore → PlacedStore
with_next number store = record store { next = number }

-- whether the file has this number
abbrev pub has_number : ℕ → Placed → Bool
has_number number file = file.number == number

-- the file of this number
abbrev pub placed_of : PlacedStore → ℕ → Option Placed
placed_of store number = find (has_number number) store.entries

-- the blocks of a file as a run: it may have as many as its whole length takes
abbrev pub run_of : Placed → Run
run_of file = record { blocks = file.blocks; room = blocks_for file.length }

-- those of all files
abbrev pub runs_of : List Placed → List Run
runs_of files = map run_of files

-- some file has octets in this block
abbrev pub Uses : PlacedStore → ℕ → Type 0
Uses store block = 1 ≤ times_of block (runs_of store.entries)

-- whether the file is sealed
abbrev pub is_sealed : Placed → Bool
is_sealed file = is_some file.seal

-- how often the block occurs in a file that is sealed
abbrev pub times_sealed : ℕ → Placed → ℕ
times_sealed block file = if is_sealed file then times_in block (run_of file) else 0

-- some sealed file has octets in this block, by which it could be sealed
abbrev pub Decides : PlacedStore → ℕ → Type 0
Decides store block = 1 ≤ sum_by (times_sealed block) store.entries
