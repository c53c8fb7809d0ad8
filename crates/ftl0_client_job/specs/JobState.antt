-- A job that was just made, and what a job needs of the notes to take a packet.
use Rattle.std.specs.Prelude.{◌≡◌, ℕ, ◌+◌, ◌≤◌, List, length, true, Option, None, Some, ⊤}
use Rattle.px_base.specs.CallSign.{CallSign}
use Rattle.disk_model.specs.declared.disk.Disk.{Ghosts}
use Rattle.pfh_items.specs.Faults.{fault_code}
use Rattle.client_notes.specs.Limits.{longest_file}
use Rattle.client_notes.specs.declared.progress.Progress.TheVariants as progress
use Rattle.client_notes.specs.Notes.{Lists, Task, got_of, is_same_call, task_of}
use Rattle.client_notes.specs.State.{IsReady, NotesState}
use Rattle.ftl0_client_job.specs.declared.ending.Ending.{Ending}
use Rattle.ftl0_client_job.specs.declared.phases.DownloadPhase.{DownloadPhase}
use Rattle.ftl0_client_job.specs.declared.phases.DownloadPhase.TheVariants as fetch
use Rattle.ftl0_client_job.specs.declared.phases.UploadPhase.{UploadPhase}
use Rattle.ftl0_client_job.specs.declared.phases.UploadPhase.TheVariants as phase
use Rattle.ftl0_client_job.specs.Directory.{new_directory}
use Rattle.ftl0_client_job.specs.Download.{Download, new_download}
use Rattle.ftl0_client_job.specs.declared.work.Work.{Work}
use Rattle.ftl0_client_job.specs.declared.work.Work.TheVariants as work
use Rattle.ftl0_client_job.specs.Table.{JobState}
use Rattle.ftl0_client_job.specs.Upload.{Upload, new_upload}

-- nothing of what is to be done was done yet
abbrev pub IsNotBegun : Work → Type 0
IsNotBegun (work.Upload at) = at ≡ new_upload at.task at.known at.file
IsNotBegun (work.Directory at) = at ≡ new_directory at.tokens
IsNotBegun (work.Download at) = at ≡ new_download at.server at.number

-- the job was just made: it has no outcome, and nothing of it was done
abbrev pub IsNew : JobState → Type 0
IsNew job = (job.ending ≡ None) × IsNotBegun job.work

-- the number that an upload's file is known to have, or 0
abbrev pub number_in : UploadPhase → ℕ → ℕ
number_in phase.Login known = known
number_in phase.Go known = known
number_in (phase.Sending number place) known = number
number_in (phase.Ack number) known = number

-- The notes have the upload's task. It is unfinished, and has the number that the upload knows and the length of its
-- file.
pub record HasTask (lists : Lists) (at : Upload) : Type 0 where
  pub entry : Task
  pub is_entry : task_of lists at.task ≡ Some entry
  pub going : entry.progress ≡ progress.Going
  pub number : entry.number ≡ number_in at.phase at.known
  pub file_length : entry.length ≡ length at.file

-- The notes have this task. It is of this server and caller, and its file has this digest.
pub record IsTaskOf (lists : Lists) (server caller : CallSign) (digest : List ℕ) (task : ℕ) : Type 0 where
  pub entry : Task
  pub is_entry : task_of lists task ≡ Some entry
  pub of_server : is_same_call entry.server server ≡ true
  pub of_caller : is_same_call entry.caller caller ≡ true
  pub of_file : entry.digest ≡ digest

-- What an upload needs to take a packet: the notes are ready, and have its task.
pub record MayUpload {D : Type 0} (g : Ghosts D) (notes : NotesState) (disk : D) (at : Upload) : Type 0 where
  pub ready : IsReady g notes disk
  pub task : HasTask notes.lists at

-- The same of an upload that waits for UL_GO_RESP.
pub record MayGo {D : Type 0} (g : Ghosts D) (notes : NotesState) (disk : D) (at : Upload) : Type 0 where
  pub ready : IsReady g notes disk
  pub task : HasTask notes.lists at
  pub go : at.phase ≡ phase.Go

-- once all octets of a file came, it has no fault
abbrev pub IsCheckedIn : DownloadPhase → List ℕ → Type 0
IsCheckedIn fetch.Login held = ⊤
IsCheckedIn fetch.Fetching held = ⊤
IsCheckedIn fetch.Done held = fault_code held ≡ None

-- the octets got of a file, and these after them, are no more than a file may have
abbrev pub FitsBehind : Lists → CallSign → ℕ → List ℕ → Type 0
FitsBehind lists server number octets = length (got_of lists server number) + length octets ≤ longest_file

-- The octets that were got and noted, and those not noted yet, are no more than a file may have; once all came, the file
-- has no fault.
pub record HasGot (lists : Lists) (at : Download) : Type 0 where
  pub fits : FitsBehind lists at.server at.number at.rest
  pub checked : IsCheckedIn at.phase (got_of lists at.server at.number)

-- What a download needs to take a packet: the notes are ready, and have what it got.
pub record MayDownload {D : Type 0} (g : Ghosts D) (notes : NotesState) (disk : D) (at : Download) : Type 0 where
  pub ready : IsReady g notes disk
  pub got : HasGot notes.lists at

-- the notes go with what is done
abbrev pub GoWith : Lists → Work → Type 0
GoWith lists (work.Upload at) = HasTask lists at
GoWith lists (work.Directory at) = ⊤
GoWith lists (work.Download at) = HasGot lists at

-- What any work needs to take a packet: the notes are ready, and go with it.
pub record MayWork {D : Type 0} (g : Ghosts D) (notes : NotesState) (disk : D) (doing : Work) : Type 0 where
  pub ready : IsReady g notes disk
  pub go_with : GoWith notes.lists doing

-- as long as there is no outcome
abbrev pub GoBy : Option Ending → Lists → Work → Type 0
GoBy None lists doing = GoWith lists doing
GoBy (Some ending) lists done = ⊤

abbrev pub NotesGoWith : Lists → JobState → Type 0
NotesGoWith lists job = GoBy job.ending lists job.work

-- What a job needs to take a packet: the notes are ready, and go with the job.
pub record MayTake {D : Type 0} (g : Ghosts D) (notes : NotesState) (disk : D) (job : JobState) : Type 0 where
  pub ready : IsReady g notes disk
  pub notes_are : NotesGoWith notes.lists job
