-- The lists of the notes, with what is being noted: it is in memory before its record is on the disk.
use Rattle.std.specs.Prelude.{◌≡◌, ◌-◌, take, Bool, true, false, None, ⊤}
use Rattle.file_journal.specs.Steps.{Turn}
use Rattle.client_notes.specs.Applied.{IsPlaceOf, taken_back}
use Rattle.client_notes.specs.Command.{NotesCommand, acked, after, forgot, got, numbered, refused, start}
use Rattle.client_notes.specs.Notes.{Lists, task_count}
use Rattle.client_notes.specs.declared.noted_lists.Coming.{Coming}
use Rattle.client_notes.specs.declared.noted_lists.Coming.TheVariants as coming
use Rattle.client_notes.specs.declared.noted_lists.NotedLists.{NotedLists}

-- the lists without what came last
abbrev pub without : Coming → Lists → Lists
without coming.Nothing lists = lists
without coming.Task lists = record lists { tasks = take (task_count lists - 1) lists.tasks }
without (coming.Octets behind) lists = record lists { got = taken_back behind lists.got }

-- what came last stands in them
abbrev pub StandsIn : Coming → Lists → Type 0
StandsIn coming.Nothing lists = ⊤
StandsIn coming.Task lists = ⊤
StandsIn (coming.Octets behind) lists = IsPlaceOf behind lists.got

-- the lists that are noted
abbrev pub lists_of : NotedLists → Lists
lists_of noted = without noted.coming noted.lists

-- The lists that are noted are as they were, and in memory stand these.
pub record IsBrought (old new : NotedLists) (now : Lists) : Type 0 where
  pub noted : lists_of new ≡ old.lists
  pub lists : new.lists ≡ now
  pub stands : StandsIn new.coming new.lists

-- what one command does to the lists that are noted
abbrev pub turn_of : Lists → NotesCommand → Turn Lists NotesCommand
turn_of lists command = record { command = command; next = after lists command; puts = None; lets = λ held. ⊤ }

-- whether a command takes no memory
abbrev pub takes_none : NotesCommand → Bool
takes_none (start task server caller name file_length digest) = false
takes_none (numbered task number) = true
takes_none (acked task) = true
takes_none (refused task code) = true
takes_none (got server number octets) = false
takes_none (forgot server number) = true
