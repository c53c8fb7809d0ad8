-- The notes of a client: the tasks by which it sends files, and the files that it has got.
use Rattle.std.specs.Prelude.{ℕ, ◌-◌, ◌==◌, List, [], length, Bool, ◌&&◌, find, reverse, slice_get, if◌then◌else◌, Option, None, Some}
use Rattle.std.specs.List.{position}
use Rattle.std.specs.Option.{option_map}
use Rattle.std.specs.Str.{bytes_eq}
use Rattle.px_base.specs.CallSign.{CallSign}
use Rattle.client_notes.specs.declared.got_file.Got.{Got}
use Rattle.client_notes.specs.declared.progress.Progress.{Progress}

-- A task: a file of this name, length and digest goes to this server by this caller. The number is the one that the
-- server gave it, or 0 as long as none is known.
pub record Task : Type 0 where
  pub server : CallSign
  pub caller : CallSign
  pub name : List ℕ
  pub length : ℕ
  pub digest : List ℕ
  pub number : ℕ
  pub progress : Progress

-- the octets got of the file of this number of this server
pub record GotFile : Type 0 where
  pub server : CallSign
  pub number : ℕ
  pub octets : List ℕ

-- The tasks, numbered from 1 by their place, and the files of which octets were got.
pub record Lists : Type 0 where
  pub tasks : List Task
  pub got : List GotFile

-- nothing is noted yet
abbrev pub no_notes : Lists
no_notes = record { tasks = []; got = [] }

-- the same call
abbrev pub is_same_call : CallSign → CallSign → Bool
is_same_call one other = bytes_eq one.chars other.chars && (one.ssid == other.ssid)

-- the task is of this server, caller and name
abbrev pub is_task_for : CallSign → CallSign → List ℕ → Task → Bool
is_task_for server caller name task =
    is_same_call task.server server && is_same_call task.caller caller && bytes_eq task.name name

-- the task's file has this length and digest
abbrev pub is_of_file : ℕ → List ℕ → Task → Bool
is_of_file file_length digest task = (task.length == file_length) && bytes_eq task.digest digest

-- the file is the one of this number of this server
abbrev pub is_file_of : CallSign → ℕ → GotFile → Bool
is_file_of server number file = is_same_call file.server server && (file.number == number)

-- the task of this number
abbrev pub task_of : Lists → ℕ → Option Task
task_of lists task = if task == 0 then None else slice_get lists.tasks (task - 1)

-- how many tasks there are
abbrev pub task_count : Lists → ℕ
task_count lists = length lists.tasks

-- the place of the last task of this server, caller and name, counted from the end
abbrev pub place_from_end : Lists → CallSign → CallSign → List ℕ → Option ℕ
place_from_end lists server caller name = position (is_task_for server caller name) (reverse lists.tasks)

-- the number of the last task of this server, caller and name
abbrev pub last_task : Lists → CallSign → CallSign → List ℕ → Option ℕ
last_task lists server caller name =
    option_map (λ place. task_count lists - place) (place_from_end lists server caller name)

-- the octets of a got file, if there is one
abbrev pub octets_or_none : Option GotFile → List ℕ
octets_or_none None = []
octets_or_none (Some file) = file.octets

-- the octets got of the file of this number of this server
abbrev pub got_of : Lists → CallSign → ℕ → List ℕ
got_of lists server number = octets_or_none (find (is_file_of server number) lists.got)

-- what is told of a got file
abbrev pub told_got : GotFile → Got
told_got file = record { server = file.server; number = file.number; length = length file.octets }

-- the got file at this place, in the order of first octets, in which the files stand
abbrev pub got_file_at : Lists → ℕ → Option Got
got_file_at lists place = option_map told_got (slice_get lists.got place)
