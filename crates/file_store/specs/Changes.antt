-- The code's changes of the entries as commands of the store.
use Rattle.std.specs.Prelude.{◌≡◌, ℕ, List, [], Option, None, Some, IfSome, ⊤}
use Rattle.file_store_blocks.specs.Checking.{IsSealable}
use Rattle.file_store_blocks.specs.IsPlaced.{IsPlaced}
use Rattle.file_store_blocks.specs.Placed.{PlacedStore, new_placed, placed_of}
use Rattle.file_store_blocks.specs.PlacedCommand as placed
use Rattle.file_store_blocks.specs.PlacedCommand.{PlacedCommand, is_partial, seal_with, with_grown, with_new}
use Rattle.file_store_blocks.specs.PlacedCommand.{with_sealed}
use Rattle.file_store_blocks.specs.PlacedCommand.{without_file}
use Rattle.file_store_blocks.specs.PlacedFiles.{Becomes, EntriesState, IsLowest, PlacedFiles, Waits, octets_or_none}
use Rattle.file_store_blocks.specs.PlacedFiles.{rest_of, store_of}
use Rattle.file_store_blocks.specs.Seen.{octets_in, seen, stamp_at}
use Rattle.file_store_blocks.specs.TestLaws.{Grows, Passes, TakesSeal}
use Rattle.file_store_model.specs.Command.{Command, MayBegin, begin, drop_entry, grow, seal}
use Rattle.file_journal.specs.Layout.{Blocks}
use Rattle.file_journal.specs.Steps.{PutBlock, Turn}
use Rattle.file_store.specs.declared.change.EntriesChange.{EntriesChange}
use Rattle.file_store.specs.declared.change.EntriesChange.TheVariants as change

-- the octets of this number that wait
abbrev pub waiting_in : PlacedFiles → ℕ → List ℕ
waiting_in files number = octets_or_none (rest_of files number)

-- the command that it is of these files
abbrev pub command_by : EntriesChange → PlacedFiles → Command
command_by (change.Begin caller file_length moment) files = begin files.next caller file_length moment
command_by (change.Hold number block count) files = grow number (waiting_in files number)
command_by (change.Seal number moment header) files = seal number moment
command_by (change.Drop number) files = drop_entry number

-- the same as a command of the placed files
abbrev pub placed_by : EntriesChange → PlacedFiles → PlacedCommand
placed_by (change.Begin caller file_length moment) files = placed.begin files.next caller file_length moment
placed_by (change.Hold number block count) files = placed.grow number block count
placed_by (change.Seal number moment header) files = placed.seal number moment header.sum
placed_by (change.Drop number) files = placed.drop_entry number

-- the entries after it
abbrev pub next_by : EntriesChange → PlacedFiles → PlacedStore
next_by (change.Begin caller file_length moment) files =
    with_new (store_of files) (new_placed files.next caller file_length moment)
next_by (change.Hold number block count) files = with_grown (store_of files) number block count
next_by (change.Seal number moment header) files =
    with_sealed (store_of files) number (seal_with moment header.sum header.len)
next_by (change.Drop number) files = without_file (store_of files) number

-- what it puts in a block before its record
abbrev pub puts_by : EntriesChange → PlacedFiles → Option PutBlock
puts_by (change.Begin caller file_length moment) files = None
puts_by (change.Hold number block count) files =
    Some (record { number = block; octets = waiting_in files number })
puts_by (change.Seal number moment header) files = None
puts_by (change.Drop number) files = None

-- what the blocks have to hold for it: the octets of a file that is sealed keep the rules, and its header is the one
-- that was found
abbrev pub LetsBy : EntriesChange → PlacedFiles → Blocks → Type 0
LetsBy (change.Begin caller file_length moment) files held = ⊤
LetsBy (change.Hold number block count) files held = ⊤
LetsBy (change.Seal number moment header) files held =
    IfSome (placed_of (store_of files) number)
    (λ f. IsSealable (stamp_at moment f) (octets_in held f) header.sum header.len)
LetsBy (change.Drop number) files held = ⊤

-- the same as a change of a kept state
abbrev pub turn_by : EntriesChange → PlacedFiles → Turn PlacedStore Command
turn_by change files =
    record {
      command = command_by change files;
      next = next_by change files;
      puts = puts_by change files;
      lets = LetsBy change files;
    }

-- the number of the file that it changes
abbrev pub number_by : EntriesChange → PlacedFiles → ℕ
number_by (change.Begin caller file_length moment) files = files.next
number_by (change.Hold number block count) files = number
number_by (change.Seal number moment header) files = number
number_by (change.Drop number) files = number

-- what waits of that file then, if an upload of it is out
abbrev pub rest_by : EntriesChange → PlacedFiles → Option (List ℕ)
rest_by (change.Begin caller file_length moment) files = None
rest_by (change.Hold number block count) files = Some []
rest_by (change.Seal number moment header) files = None
rest_by (change.Drop number) files = None

-- what it makes of these files
abbrev pub MakesOf : EntriesChange → PlacedFiles → PlacedFiles → Type 0
MakesOf change files files_now =
    Becomes files files_now (next_by change files) (number_by change files) (rest_by change files)

-- its condition, except for what the blocks hold, and what else it needs is there
abbrev pub HasFor : EntriesChange → EntriesState → Type 0
HasFor (change.Begin caller file_length moment) entries =
    (held : Blocks) → MayBegin (seen held (store_of entries.files)) file_length
HasFor (change.Hold number block count) entries =
    Waits entries.files number count × Grows (store_of entries.files) number block count
    × IsLowest (store_of entries.files) block
HasFor (change.Seal number moment header) entries =
    TakesSeal (store_of entries.files) number header.len × (rest_of entries.files number ≡ None)
HasFor (change.Drop number) entries = Passes (store_of entries.files) number is_partial

-- the entries keep their rules, and it may be made of them
pub record MayMake (change : EntriesChange) (entries : EntriesState) : Type 0 where
  pub rules : IsPlaced (store_of entries.files)
  pub has : HasFor change entries
