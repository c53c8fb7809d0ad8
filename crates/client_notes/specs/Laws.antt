-- Laws of a client's notes.
use Rattle.std.specs.Prelude.{◌≡◌, ◌↔◌, ℕ, List, [], ◌++◌, map, Option, Some, IsTrue}
use Rattle.std.specs.List.{AllByRecursion}
use Rattle.px_base.specs.CallSign.{CallSign}
use Rattle.px_base.specs.Octets.{IsOctets}
use Rattle.disk_model.specs.Moments.{ChangesNothing}
use Rattle.disk_model.specs.declared.disk.Disk.{Ghosts}
use Rattle.file_journal.specs.Commands as kept
use Rattle.file_journal.specs.Journal.{journal_of, store}
use Rattle.file_journal.specs.Records.{IsRecord, Record, whole}
use Rattle.file_journal.specs.declared.layout.Layout.TheVariants as layout
use Rattle.client_notes.specs.Answers.{noted_at}
use Rattle.client_notes.specs.Command.{NotesCommand, after, forgot, got, is_allowed}
use Rattle.client_notes.specs.Notes.{Lists, got_of, no_notes}
use Rattle.client_notes.specs.Records.{IsWritable, Writes, command_of, notes_magic, record_of_command}
use Rattle.client_notes.specs.State.{NotesState, StandsFor, StandsOn}
use Rattle.client_notes.specs.declared.answers.Noted.TheVariants as noted

-- A record of at most 600 octets is read as a command exactly where it is that command's record; and each command that
-- can be written has such a record.
abbrev pub RecordsLaw : Type 0
RecordsLaw =
    ((entry : Record) (command : NotesCommand) → IsRecord entry
    → (command_of entry ≡ Some command) ↔ Writes entry command)
    × ((command : NotesCommand) → IsWritable command → IsRecord (record_of_command command))

-- the notes after these commands, one after another
abbrev pub after_all : Lists → List NotesCommand → Lists
after_all lists commands = kept.after_all after lists commands

-- the condition of each command holds when its turn comes
abbrev pub AreAllowed : Lists → List NotesCommand → Type 0
AreAllowed lists commands = kept.AreAllowed (λ now command. IsTrue (is_allowed now command)) after lists commands

-- The octets are a journal, with a block number or none yet, and its records are these commands, each of which the notes
-- before it allow, from no notes on; and these are the notes after them.
pub record IsNotesAfter (octets : List ℕ) (lists : Lists) (commands : List NotesCommand) : Type 0 where
  pub number : Option ℕ
  pub records : journal_of notes_magic layout.Growing octets ≡ store number (whole (map record_of_command commands))
  pub writable : AllByRecursion IsWritable commands
  pub allowed : AreAllowed no_notes commands
  pub after : lists ≡ after_all no_notes commands

-- octets stand for notes exactly where they are the records of commands that make them
abbrev pub StandingLaw : Type 0
StandingLaw =
    (octets : List ℕ) (lists : Lists) → IsOctets octets
    → StandsFor octets lists ↔ ((commands : List NotesCommand) × IsNotesAfter octets lists commands)

-- What was acknowledged stays so, with its number, whatever commands come behind that, each of which is allowed in its
-- turn.
abbrev pub AckedLaw : Type 0
AckedLaw =
    (lists : Lists) (commands : List NotesCommand) (task number : ℕ) → AreAllowed lists commands
    → noted_at lists task ≡ Some (noted.Acked task number)
    → noted_at (after_all lists commands) task ≡ Some (noted.Acked task number)

-- the octets got of a file are those got before, and these behind them
abbrev pub GotLaw : Type 0
GotLaw =
    (lists : Lists) (server : CallSign) (number : ℕ) (octets : List ℕ)
    → got_of (after lists (got server number octets)) server number ≡ got_of lists server number ++ octets

-- and none are once it was given up
abbrev pub ForgotLaw : Type 0
ForgotLaw =
    (lists : Lists) (server : CallSign) (number : ℕ)
    → got_of (after lists (forgot server number)) server number ≡ []

-- Notes that stand on a disk stand on it still where nothing but the arming changed, or counts of faults.
abbrev pub ArmedLaw : {D : Type 0} → Ghosts D → Type 0
ArmedLaw {D} g =
    (self : NotesState) (old new : D) → ChangesNothing g.content g.images g.moment g.images_since old new
    → StandsOn g self old → StandsOn g self new
