-- The commands of a client's notes as records of their journal. All numbers have four octets, least significant first.
use Rattle.std.specs.Prelude.{◌≡◌, ℕ, ◌+◌, ◌^◌, ◌<◌, ◌≤◌, ◌==◌, List, [], ◌∷◌, ◌++◌, length, take, drop, slice_index, Bool, ◌&&◌, nat_le, nat_lt, if◌then◌else◌, Option, None, Some, IsTrue}
use Rattle.std.specs.Option.{option_and_then, option_map}
use Rattle.px_base.specs.CallSign.{CallSign, IsCall}
use Rattle.px_base.specs.Numbers.{le32, le32_octets}
use Rattle.px_base.specs.Octets.{IsOctets}
use Rattle.px_base.specs.CallOctets.{call_in, call_octets}
use Rattle.file_journal.specs.Form.{Form, record_calls}
use Rattle.file_journal.specs.declared.layout.Layout.TheVariants as layout
use Rattle.file_journal.specs.Records.{Record, record_of}
use Rattle.file_journal.specs.Steps.{Steps, growing_steps}
use Rattle.file_journal.specs.Walk.{stands_for}
use Rattle.client_notes.specs.Command.{NotesCommand, acked, after, forgot, got, is_allowed, numbered, refused, start}
use Rattle.client_notes.specs.Notes.{Lists, no_notes}

-- Start, kind 1: task, the server's call, the own call, length, digest of 32 octets, the name's length in one octet, the
-- name.
abbrev pub start_content : ℕ → CallSign → CallSign → List ℕ → ℕ → List ℕ → List ℕ
start_content task server caller name file_length digest =
    le32_octets task ++ call_octets server ++ call_octets caller ++ le32_octets file_length ++ digest
    ++ (length name ∷ []) ++ name

-- The record of a command. Numbered, kind 2: task, number. Acked, kind 3: task. Refused, kind 4: task, code in one octet.
-- Got, kind 5: the server's call, number, 1 to 512 octets. Forgot, kind 6: the server's call, number.
abbrev pub record_of_command : NotesCommand → Record
record_of_command (start task server caller name file_length digest) =
    record_of 1 (start_content task server caller name file_length digest)
record_of_command (numbered task number) = record_of 2 (le32_octets task ++ le32_octets number)
record_of_command (acked task) = record_of 3 (le32_octets task)
record_of_command (refused task code) = record_of 4 (le32_octets task ++ code ∷ [])
record_of_command (got server number octets) = record_of 5 (call_octets server ++ le32_octets number ++ octets)
record_of_command (forgot server number) = record_of 6 (call_octets server ++ le32_octets number)

-- the number fits four octets
abbrev pub IsNumber : ℕ → Type 0
IsNumber number = number < 2 ^ 32

-- octets, from so many to so many
abbrev pub AreFew : ℕ → ℕ → List ℕ → Type 0
AreFew least most octets = IsOctets octets × (least ≤ length octets) × (length octets ≤ most)

-- The command can be written: its numbers fit four octets and its code one, its calls are calls, its digest has 32 octets
-- and its name 1 to 64, and it brings 1 to 512 octets, where it brings any.
abbrev pub IsWritable : NotesCommand → Type 0
IsWritable (start task server caller name file_length digest) =
    IsNumber task × IsCall server × IsCall caller × AreFew 1 64 name × IsNumber file_length × AreFew 32 32 digest
IsWritable (numbered task number) = IsNumber task × IsNumber number
IsWritable (acked task) = IsNumber task
IsWritable (refused task code) = IsNumber task × (code < 256)
IsWritable (got server number octets) = IsCall server × IsNumber number × AreFew 1 512 octets
IsWritable (forgot server number) = IsCall server × IsNumber number

-- the record is this command's
abbrev pub Writes : Record → NotesCommand → Type 0
Writes entry command = IsWritable command × (entry ≡ record_of_command command)

-- The same, computed from the record.

-- whether a content has the length of a Start, with a name of 1 to 64 octets
abbrev pub is_start_len : List ℕ → Bool
is_start_len content =
    nat_lt 55 (length content) && nat_le (slice_index content 54) 64 && (length content == 55 + slice_index content 54)

-- Start of this content, whose calls are these, if they are calls
abbrev pub start_by : List ℕ → Option CallSign → Option CallSign → Option NotesCommand
start_by content None caller = None
start_by content (Some server) caller =
    option_map (λ own. start (le32 content 0) server own (drop 55 content) (le32 content 18) (take 32 (drop 22 content)))
    caller

-- the command of a record of kind 1 to 6, where the content has the kind's length and its calls are calls
abbrev pub start_in : List ℕ → Option NotesCommand
start_in content =
    if is_start_len content
    then start_by content (call_in (take 7 (drop 4 content))) (call_in (take 7 (drop 11 content)))
    else None

abbrev pub numbered_in : List ℕ → Option NotesCommand
numbered_in content = if length content == 8 then Some (numbered (le32 content 0) (le32 content 4)) else None

abbrev pub acked_in : List ℕ → Option NotesCommand
acked_in content = if length content == 4 then Some (acked (le32 content 0)) else None

abbrev pub refused_in : List ℕ → Option NotesCommand
refused_in content =
    if length content == 5 then Some (refused (le32 content 0) (slice_index content 4)) else None

-- whether a content so long has a call, a number and 1 to 512 octets
abbrev pub is_got_content_len : ℕ → Bool
is_got_content_len len = nat_lt 11 len && nat_le len 523

-- Got, or Forgot, of this content, whose call is this one, if it is one
abbrev pub got_by : List ℕ → Option CallSign → Option NotesCommand
got_by content call = option_map (λ server. got server (le32 content 7) (drop 11 content)) call

abbrev pub forgot_by : List ℕ → Option CallSign → Option NotesCommand
forgot_by content call = option_map (λ server. forgot server (le32 content 7)) call

abbrev pub got_in : List ℕ → Option NotesCommand
got_in content = if is_got_content_len (length content) then got_by content (call_in (take 7 content)) else None

abbrev pub forgot_in : List ℕ → Option NotesCommand
forgot_in content = if length content == 11 then forgot_by content (call_in (take 7 content)) else None

-- the command that the record is, if it is one
unfoldable pub command_of : Record → Option NotesCommand
command_of entry =
    if entry.kind == 1 then start_in entry.content
    else if entry.kind == 2 then numbered_in entry.content
    else if entry.kind == 3 then acked_in entry.content
    else if entry.kind == 4 then refused_in entry.content
    else if entry.kind == 5 then got_in entry.content
    else if entry.kind == 6 then forgot_in entry.content
    else None

-- the notes after the command, where its condition holds
abbrev pub notes_after : Lists → NotesCommand → Option Lists
notes_after lists command = if is_allowed lists command then Some (after lists command) else None

-- the notes after the command that the record is, where it is one whose condition holds
abbrev pub notes_step : Lists → Record → Option Lists
notes_step lists entry = option_and_then (notes_after lists) (command_of entry)

-- the magic of a client's notes: `PXNOTES1`
abbrev pub notes_magic : List ℕ
notes_magic = 80 ∷ 88 ∷ 78 ∷ 79 ∷ 84 ∷ 69 ∷ 83 ∷ 49 ∷ []

-- the notes before the first record, whatever the block number is
abbrev pub fresh_notes : ℕ → Lists
fresh_notes blocks = no_notes

-- what records make of notes
abbrev pub notes_steps : Steps Lists Lists
notes_steps = growing_steps fresh_notes (λ lists. 1) notes_step

-- how many octets the record of a command has, with its gate
abbrev pub octets_for : NotesCommand → ℕ
octets_for command = 4 + length (record_of_command command).content

-- the notes that a journal of these commands keeps, whatever its block number is
abbrev pub notes_form : Form Lists NotesCommand
notes_form =
    record {
      magic = notes_magic;
      layout = layout.Growing;
      number = λ lists. 1;
      standing = λ blocks octets. stands_for fresh_notes notes_step notes_magic layout.Growing blocks octets;
      allowed = λ lists command. IsTrue (is_allowed lists command);
      after = after;
      calls = λ command. record_calls;
      octets = octets_for;
    }
