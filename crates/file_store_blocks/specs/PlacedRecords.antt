-- The commands as records of a store's journal. All numbers have least significant octets first.
use Rattle.std.specs.Prelude.{◌≡◌, ℕ, ◌+◌, ◌^◌, ◌<◌, ◌==◌, List, [], ◌∷◌, ◌++◌, length, take, drop, if◌then◌else◌}
use Rattle.std.specs.Prelude.{Option, None, Some}
use Rattle.std.specs.Option.{option_and_then, option_map}
use Rattle.file_store_blocks.specs.Placed.{PlacedStore}
use Rattle.file_store_blocks.specs.PlacedCommand.{PlacedCommand, after, begin, drop_entry, grow, is_allowed, seal}
use Rattle.file_store_blocks.specs.ReadStore.{ReadStore, Recorded, after_recorded, change, is_recordable, next_is}
use Rattle.file_store_model.specs.Command as file
use Rattle.file_store_model.specs.Command.{Command}
use Rattle.file_journal.specs.Form.{record_calls}
use Rattle.file_journal.specs.Layout.{Blocks}
use Rattle.file_journal.specs.Records.{Record, record_of}
use Rattle.file_journal.specs.Steps.{PutBlock, block_calls}
use Rattle.px_base.specs.CallOctets.{call_in, call_octets}
use Rattle.px_base.specs.CallSign.{CallSign, IsCall}
use Rattle.px_base.specs.Numbers.{le16, le16_octets, le32, le32_octets}

-- Begin, kind 1: number, the call's six characters and its SSID, length, moment.
abbrev pub begin_content : ℕ → CallSign → ℕ → ℕ → List ℕ
begin_content number caller file_length moment =
    le32_octets number ++ call_octets caller ++ le32_octets file_length ++ le32_octets moment

-- The record of a command. Grow, kind 2: number, block, both of four octets, and how many octets are used, of two.
-- Seal, kind 3: number, moment, both of four, and the sum, of two. Drop, kind 4: number, of four.
abbrev pub record_of_placed : PlacedCommand → Record
record_of_placed (begin number caller file_length moment) =
    record_of 1 (begin_content number caller file_length moment)
record_of_placed (grow number block used) =
    record_of 2 (le32_octets number ++ le32_octets block ++ le16_octets used)
record_of_placed (seal number moment sum) =
    record_of 3 (le32_octets number ++ le32_octets moment ++ le16_octets sum)
record_of_placed (drop_entry number) = record_of 4 (le32_octets number)

-- The record that says it. Next, kind 5: the number, of four octets.
abbrev pub record_of_recorded : Recorded → Record
record_of_recorded (next_is number) = record_of 5 (le32_octets number)
record_of_recorded (change command) = record_of_placed command

-- the number fits four octets
abbrev pub IsNumber : ℕ → Type 0
IsNumber number = number < 2 ^ 32

-- the number fits two octets
abbrev pub IsShort : ℕ → Type 0
IsShort number = number < 2 ^ 16

-- the command can be written: its numbers fit their octets, and its caller is a call
abbrev pub IsWritable : PlacedCommand → Type 0
IsWritable (begin number caller file_length moment) =
    IsNumber number × IsCall caller × IsNumber file_length × IsNumber moment
IsWritable (grow number block used) = IsNumber number × IsNumber block × IsShort used
IsWritable (seal number moment sum) = IsNumber number × IsNumber moment × IsShort sum
IsWritable (drop_entry number) = IsNumber number

-- the same of what a record says
abbrev pub CanRecord : Recorded → Type 0
CanRecord (next_is number) = IsNumber number
CanRecord (change command) = IsWritable command

-- the record is this command's
abbrev pub Writes : Record → PlacedCommand → Type 0
Writes entry command = IsWritable command × (entry ≡ record_of_placed command)

-- the record says this
abbrev pub Says : Record → Recorded → Type 0
Says entry recorded = CanRecord recorded × (entry ≡ record_of_recorded recorded)

-- The same, computed from the record.

-- Begin of this content, whose call is this one, if it is one
abbrev pub begin_by : List ℕ → Option CallSign → Option PlacedCommand
begin_by content call =
    option_map (λ caller. begin (le32 content 0) caller (le32 content 11) (le32 content 15)) call

-- the command of a record of kind 1, if the content has 19 octets and its call is one
abbrev pub begin_in : List ℕ → Option PlacedCommand
begin_in content = if length content == 19 then begin_by content (call_in (take 7 (drop 4 content))) else None

-- that of a record of kind 2 or 3, if it has ten octets
abbrev pub grow_in : List ℕ → Option PlacedCommand
grow_in content =
    if length content == 10 then Some (grow (le32 content 0) (le32 content 4) (le16 content 8)) else None

abbrev pub seal_in : List ℕ → Option PlacedCommand
seal_in content =
    if length content == 10 then Some (seal (le32 content 0) (le32 content 4) (le16 content 8)) else None

-- that of a record of kind 4, if it has four
abbrev pub drop_in : List ℕ → Option PlacedCommand
drop_in content = if length content == 4 then Some (drop_entry (le32 content 0)) else None

-- the command that the record is, if it is one
unfoldable pub placed_in : Record → Option PlacedCommand
placed_in entry =
    if entry.kind == 1 then begin_in entry.content
    else if entry.kind == 2 then grow_in entry.content
    else if entry.kind == 3 then seal_in entry.content
    else if entry.kind == 4 then drop_in entry.content
    else None

-- the store after the command, if its condition holds with what the blocks hold
abbrev pub placed_after : Blocks → PlacedStore → PlacedCommand → Option PlacedStore
placed_after held store command = if is_allowed held store command then Some (after held store command) else None

-- which number is next by a record of kind 5, if it has four octets
abbrev pub next_in : List ℕ → Option Recorded
next_in content = if length content == 4 then Some (next_is (le32 content 0)) else None

-- what the record says, if it is a store's
unfoldable pub recorded_in : Record → Option Recorded
recorded_in entry = if entry.kind == 5 then next_in entry.content else option_map change (placed_in entry)

-- the store after what a record says, if it allows that with what the blocks hold
abbrev pub read_after : Blocks → ReadStore → Recorded → Option ReadStore
read_after held read recorded =
    if is_recordable held read recorded then Some (after_recorded held read recorded) else None

-- the store after the record, if it is a store's, and is allowed
abbrev pub read_step : Blocks → ReadStore → Record → Option ReadStore
read_step held read entry = option_and_then (read_after held read) (recorded_in entry)

-- the magic of a store of files in blocks, with two halves of records: `PXSTORE1`
abbrev pub placed_magic : List ℕ
placed_magic = 80 ∷ 88 ∷ 83 ∷ 84 ∷ 79 ∷ 82 ∷ 69 ∷ 49 ∷ []

-- these octets put in a block, whichever it is
abbrev pub put_somewhere : List ℕ → Option PutBlock
put_somewhere octets = Some (record { number = 0; octets = octets })

-- how many calls of the disk a command takes: those of its record, and if octets are put in a block before it, those of
-- that block
abbrev pub calls_for : Command → ℕ
calls_for (file.begin number caller file_length moment) = record_calls
calls_for (file.grow number octets) = block_calls (put_somewhere octets) + record_calls
calls_for (file.seal number moment) = record_calls
calls_for (file.drop_entry number) = record_calls

-- how many octets the record of a command has, with its gate
abbrev pub octets_for : Command → ℕ
octets_for (file.begin number caller file_length moment) = 23
octets_for (file.grow number octets) = 14
octets_for (file.seal number moment) = 14
octets_for (file.drop_entry number) = 8
