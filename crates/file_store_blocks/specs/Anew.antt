-- The records that rebuild a store of placed files.
use Rattle.std.specs.Prelude.{ℕ, zero, suc, ◌-◌, min, List, [], ◌∷◌, ◌++◌, map, drop, slice_get, Option, None, Some}
use Rattle.std.specs.Prelude.{IfSome}
use Rattle.std.specs.List.{flat_map}
use Rattle.std.specs.Option.{option_and_then}
use Rattle.file_store_blocks.specs.Placed.{Placed, PlacedStore, Seal}
use Rattle.file_store_blocks.specs.PlacedCommand.{PlacedCommand, begin, grow, seal}
use Rattle.file_store_blocks.specs.PlacedRecords.{record_of_placed, record_of_recorded}
use Rattle.file_store_blocks.specs.ReadStore.{next_is}
use Rattle.file_journal.specs.Records.{Record}
use Rattle.file_journal.specs.declared.ledger.RecordPlace.{RecordPlace}

-- one Grow for each of these blocks, in which this number of octets of the file of this number are: 512 in each except
-- the last
abbrev pub grows_in : ℕ → ℕ → List ℕ → List PlacedCommand
grows_in number held [] = []
grows_in number held (block ∷ blocks) = grow number block (min 512 held) ∷ grows_in number (held - 512) blocks

-- the Seal of the file of this number, if it has a seal
abbrev pub seals_in : ℕ → Option Seal → List PlacedCommand
seals_in number None = []
seals_in number (Some mark) = seal number mark.moment mark.sum ∷ []

-- the commands that rebuild a file
abbrev pub commands_of : Placed → List PlacedCommand
commands_of file =
    begin file.number file.caller file.length file.begun
    ∷ (grows_in file.number file.held file.blocks ++ seals_in file.number file.seal)

-- those of these files
abbrev pub commands_in : List Placed → List PlacedCommand
commands_in files = flat_map commands_of files

-- the records of these commands
abbrev pub written : List PlacedCommand → List Record
written commands = map record_of_placed commands

-- The records that rebuild a store: which number is next, and then the commands of each file, in rising number.
abbrev pub anew_records : PlacedStore → List Record
anew_records store = record_of_recorded (next_is store.next) ∷ written (commands_in store.entries)

-- the records that rebuild these files, from this one of the first file on
abbrev pub left_in : List Placed → ℕ → List Record
left_in [] part = []
left_in (file ∷ files) part = written (drop part (commands_of file) ++ commands_in files)

-- those from a place on: the first entry is the next number, and the others are the files
abbrev pub left_from : PlacedStore → ℕ → ℕ → List Record
left_from store zero part = anew_records store
left_from store (suc entry) part = left_in (drop entry store.entries) part

abbrev pub left_at : PlacedStore → RecordPlace → List Record
left_at store place = left_from store place.entry place.part

-- the command of this number among those that rebuild the file at this place, if there is one
abbrev pub command_in : PlacedStore → ℕ → ℕ → Option PlacedCommand
command_in store at part = option_and_then (λ f. slice_get (commands_of f) part) (slice_get store.entries at)

-- this is true of the file at this place
abbrev pub IsAt : PlacedStore → ℕ → (Placed → Type 0) → Type 0
IsAt store at says = IfSome (slice_get store.entries at) says
