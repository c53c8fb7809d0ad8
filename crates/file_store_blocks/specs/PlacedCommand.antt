-- The commands that change which files there are and in which blocks they are, with the condition of each and what it
-- does.
use Rattle.std.specs.Prelude.{ℕ, ◌+◌, ◌==◌, [], ◌∷◌, ◌++◌, map, filter, take, Bool, not, ◌&&◌, ◌||◌}
use Rattle.std.specs.Prelude.{false, nat_le, nat_lt, if◌then◌else◌, option_map, unwrap_or, is_none, Some}
use Rattle.file_store_blocks.specs.Placed.{Placed, PlacedStore, Seal, has_number, is_sealed, new_placed, placed_of}
use Rattle.file_store_blocks.specs.Placed.{runs_of}
use Rattle.file_store_blocks.specs.Seen.{header_in, octets_in, seen, sum_with, whole_block}
use Rattle.file_store_blocks.specs.BlockTable.Table.{times_of}
use Rattle.file_store_model.specs.Command as file
use Rattle.file_store_model.specs.Command.{can_begin}
use Rattle.file_journal.specs.Layout.{Blocks}
use Rattle.pfh_items.specs.Faults.{fault_code}
use Rattle.px_base.specs.CallSign.{CallSign}

pub data PlacedCommand : Type 0 where
  -- a file of this number, caller, length and moment is begun
  begin : ℕ → CallSign → ℕ → ℕ → PlacedCommand
  -- further octets of the file of this number are held, from the beginning of this block: number, block, how many
  -- octets
  grow : ℕ → ℕ → ℕ → PlacedCommand
  -- the file is whole, and is kept with its stamp of this moment, with which its header has this sum
  seal : ℕ → ℕ → ℕ → PlacedCommand
  -- the file is given up
  drop_entry : ℕ → PlacedCommand

-- whether the file of this number is there and passes the test
abbrev pub passes_at : PlacedStore → ℕ → (Placed → Bool) → Bool
passes_at store number test = unwrap_or (option_map test (placed_of store number)) false

-- whether the file is under way
abbrev pub is_partial : Placed → Bool
is_partial file = not (is_sealed file)

-- whether the file is under way and has room for this number of further octets, which fill a block or are all that it
-- lacks
abbrev pub can_grow : Placed → ℕ → Bool
can_grow file used =
    is_partial file && nat_le (file.held + used) file.length && ((used == 512) || (file.held + used == file.length))

-- whether the block is there and no file has it
abbrev pub is_free : PlacedStore → ℕ → Bool
is_free store block = nat_lt block store.blocks && (times_of block (runs_of store.entries) == 0)

-- whether the file is under way, and all of its octets are held
abbrev pub is_whole : Placed → Bool
is_whole file = is_partial file && (file.held == file.length)

-- whether the file is under way, all of its octets are held, they break no rule of headers, and the stamped header has
-- this sum
abbrev pub can_seal : Blocks → Placed → ℕ → ℕ → Bool
can_seal held file moment sum =
    is_whole file && is_none (fault_code (octets_in held file)) && (sum == sum_with moment file (octets_in held file))

-- whether the condition of the command holds, with what the blocks hold
abbrev pub is_allowed : Blocks → PlacedStore → PlacedCommand → Bool
is_allowed held store (begin number caller file_length moment) =
    (number == store.next) && can_begin (seen held store) file_length
is_allowed held store (grow number block used) =
    nat_le 1 used && nat_le used 512 && is_free store block && passes_at store number (λ f. can_grow f used)
is_allowed held store (seal number moment sum) = passes_at store number (λ f. can_seal held f moment sum)
is_allowed held store (drop_entry number) = passes_at store number is_partial

-- the file with this number of further octets, in this block
abbrev pub grown : ℕ → ℕ → Placed → Placed
grown block used file = record file { held = file.held + used; blocks = file.blocks ++ block ∷ [] }

-- a seal by its parts: the moment, the sum, and the header's length
abbrev pub seal_with : ℕ → ℕ → ℕ → Seal
seal_with moment sum header = record { moment = moment; sum = sum; header = header }

-- the length of the header of the file of this number; 0 if there is none
abbrev pub header_at : Blocks → PlacedStore → ℕ → ℕ
header_at held store number = unwrap_or (option_map (header_in held) (placed_of store number)) 0

-- the file with its seal
abbrev pub sealed : Seal → Placed → Placed
sealed mark file = record file { seal = Some mark }

-- a file of this number changed so, and any other as it is
abbrev pub changed : ℕ → (Placed → Placed) → Placed → Placed
changed number change file = if has_number number file then change file else file

-- the file of this number changed so, and no other
abbrev pub with_changed : PlacedStore → ℕ → (Placed → Placed) → PlacedStore
with_changed store number change = record store { entries = map (changed number change) store.entries }

-- the store with one more file, which was just begun
abbrev pub with_new : PlacedStore → Placed → PlacedStore
with_new store file = record store { entries = store.entries ++ file ∷ []; next = file.number + 1 }

-- the store in which this many further octets of the file of this number are held, in this block
abbrev pub with_grown : PlacedStore → ℕ → ℕ → ℕ → PlacedStore
with_grown store number block used = with_changed store number (grown block used)

-- the store in which the file of this number has this seal
abbrev pub with_sealed : PlacedStore → ℕ → Seal → PlacedStore
with_sealed store number mark = with_changed store number (sealed mark)

-- the store without the file of this number
abbrev pub without_file : PlacedStore → ℕ → PlacedStore
without_file store number = record store { entries = filter (λ f. not (has_number number f)) store.entries }

-- the store after a command whose condition holds, with what the blocks hold
abbrev pub after : Blocks → PlacedStore → PlacedCommand → PlacedStore
after held store (begin number caller file_length moment) =
    with_new store (new_placed number caller file_length moment)
after held store (grow number block used) = with_grown store number block used
after held store (seal number moment sum) =
    with_sealed store number (seal_with moment sum (header_at held store number))
after held store (drop_entry number) = without_file store number

-- what the command is of the store of files, with what the blocks hold
abbrev pub seen_command : Blocks → PlacedCommand → file.Command
seen_command held (begin number caller file_length moment) = file.begin number caller file_length moment
seen_command held (grow number block used) = file.grow number (take used (whole_block held block))
seen_command held (seal number moment sum) = file.seal number moment
seen_command held (drop_entry number) = file.drop_entry number
