-- The commands that change a client's notes, with the condition of each and what it does.
use Rattle.std.specs.Prelude.{ℕ, ◌+◌, ◌-◌, ◌==◌, List, [], ◌∷◌, ◌++◌, length, filter, slice_get, slice_set, Bool, not, true, false, ◌&&◌, nat_le, nat_lt, Option, None, Some}
use Rattle.std.specs.List.{position}
use Rattle.px_base.specs.CallSign.{CallSign}
use Rattle.client_notes.specs.Limits.{longest_file, longest_name, most_got, most_tasks}
use Rattle.client_notes.specs.declared.progress.Progress.{Progress}
use Rattle.client_notes.specs.declared.progress.Progress.TheVariants as progress
use Rattle.client_notes.specs.Notes.{GotFile, Lists, Task, got_of, is_file_of, task_count, task_of}

pub data NotesCommand : Type 0 where
  -- a task of this number, server, caller, name, length and digest is begun
  start : ℕ → CallSign → CallSign → List ℕ → ℕ → List ℕ → NotesCommand
  -- the task's file has this number on the server
  numbered : ℕ → ℕ → NotesCommand
  -- the task's file was acknowledged
  acked : ℕ → NotesCommand
  -- the task's file was refused, with this code
  refused : ℕ → ℕ → NotesCommand
  -- these octets of the file of this server and number were got
  got : CallSign → ℕ → List ℕ → NotesCommand
  -- what was got of it is given up
  forgot : CallSign → ℕ → NotesCommand

-- whether a task is unfinished
abbrev pub is_going : Progress → Bool
is_going progress.Going = true
is_going progress.Acked = false
is_going (progress.Refused code) = false

-- whether it is unfinished and has no number
abbrev pub is_unnumbered : Task → Bool
is_unnumbered task = is_going task.progress && (task.number == 0)

-- whether it is unfinished and has a number
abbrev pub is_numbered : Task → Bool
is_numbered task = is_going task.progress && nat_lt 0 task.number

-- whether there is a task, and it passes the test
abbrev pub passes : (Task → Bool) → Option Task → Bool
passes test None = false
passes test (Some task) = test task

-- whether a name has 1 to 64 octets
abbrev pub is_name : List ℕ → Bool
is_name name = nat_le 1 (length name) && nat_le (length name) longest_name

-- whether so many octets may be got at once
abbrev pub is_got_len : ℕ → Bool
is_got_len len = nat_le 1 len && nat_le len most_got

-- whether the condition of the command holds for the notes
abbrev pub is_allowed : Lists → NotesCommand → Bool
is_allowed lists (start task server caller name file_length digest) =
    (task == task_count lists + 1) && nat_le task most_tasks && is_name name
is_allowed lists (numbered task number) = passes is_unnumbered (task_of lists task) && nat_lt 0 number
is_allowed lists (acked task) = passes is_numbered (task_of lists task)
is_allowed lists (refused task code) = passes (λ t. is_going t.progress) (task_of lists task)
is_allowed lists (got server number octets) =
    nat_lt 0 number && is_got_len (length octets)
    && nat_le (length (got_of lists server number) + length octets) longest_file
is_allowed lists (forgot server number) = true

-- the list with the element at this place changed so, where there is one
abbrev pub set_some : {X : Type 0} → (X → X) → List X → ℕ → Option X → List X
set_some change items place None = items
set_some change items place (Some x) = slice_set items place (change x)

abbrev pub changed_at : {X : Type 0} → ℕ → (X → X) → List X → List X
changed_at place change items = set_some change items place (slice_get items place)

-- the task of this number changed so, and no other
abbrev pub with_task : Lists → ℕ → (Task → Task) → Lists
with_task lists task change = record lists { tasks = changed_at (task - 1) change lists.tasks }

-- a task that was just begun
abbrev pub new_task : CallSign → CallSign → List ℕ → ℕ → List ℕ → Task
new_task server caller name file_length digest =
    record {
      server = server;
      caller = caller;
      name = name;
      length = file_length;
      digest = digest;
      number = 0;
      progress = progress.Going;
    }

-- a got file with these octets
abbrev pub got_file : CallSign → ℕ → List ℕ → GotFile
got_file server number octets = record { server = server; number = number; octets = octets }

-- the file with these octets behind its others
abbrev pub with_octets : List ℕ → GotFile → GotFile
with_octets octets file = record file { octets = file.octets ++ octets }

-- these octets behind those of the file at this place, or a new file of them
abbrev pub with_got_at : CallSign → ℕ → List ℕ → List GotFile → Option ℕ → List GotFile
with_got_at server number octets files None = files ++ got_file server number octets ∷ []
with_got_at server number octets files (Some place) = changed_at place (with_octets octets) files

-- these octets behind those of the file of this server and number, or a new file of them
abbrev pub with_got : CallSign → ℕ → List ℕ → List GotFile → List GotFile
with_got server number octets files = with_got_at server number octets files (position (is_file_of server number) files)

-- the files but the one of this server and number
abbrev pub without_got : CallSign → ℕ → List GotFile → List GotFile
without_got server number files = filter (λ f. not (is_file_of server number f)) files

-- the notes after a command whose condition holds
abbrev pub after : Lists → NotesCommand → Lists
after lists (start task server caller name file_length digest) =
    record lists { tasks = lists.tasks ++ new_task server caller name file_length digest ∷ [] }
after lists (numbered task number) = with_task lists task (λ t. record t { number = number })
after lists (acked task) = with_task lists task (λ t. record t { progress = progress.Acked })
after lists (refused task code) = with_task lists task (λ t. record t { progress = progress.Refused code })
after lists (got server number octets) = record lists { got = with_got server number octets lists.got }
after lists (forgot server number) = record lists { got = without_got server number lists.got }
