-- What the outcomes of a job promise, and what stays true of it while packets come.
use Rattle.std.specs.Prelude.{◌≡◌, ℕ, List, [], true, Option, None, Some, ⊤}
use Rattle.px_base.specs.CallSign.{CallSign}
use Rattle.pfh_items.specs.Faults.{fault_code}
use Rattle.client_notes.specs.Answers.{noted_at}
use Rattle.client_notes.specs.declared.answers.Noted.TheVariants as noted
use Rattle.client_notes.specs.Notes.{Lists, got_of}
use Rattle.ftl0_client_job.specs.declared.ending.Ending.{Ending}
use Rattle.ftl0_client_job.specs.declared.ending.Outcome.{Outcome}
use Rattle.ftl0_client_job.specs.declared.ending.Outcome.TheVariants as outcome
use Rattle.ftl0_client_job.specs.declared.phases.DirectoryPhase.{DirectoryPhase}
use Rattle.ftl0_client_job.specs.declared.phases.DirectoryPhase.TheVariants as phase
use Rattle.ftl0_client_job.specs.declared.work.Work.{Work}
use Rattle.ftl0_client_job.specs.declared.work.Work.TheVariants as work
use Rattle.ftl0_client_job.specs.JobState.{NotesGoWith}
use Rattle.ftl0_client_job.specs.Short.{are_short_headers}
use Rattle.ftl0_client_job.specs.Table.{JobState, listing_of}

-- what is done is of the same task and file, the same tokens, or the same file of the same server
abbrev pub IsOfSame : Work → Work → Type 0
IsOfSame (work.Upload asked) (work.Upload at) = (at.task ≡ asked.task) × (at.file ≡ asked.file)
IsOfSame (work.Upload asked) (work.Directory at) = ⊥
IsOfSame (work.Upload asked) (work.Download at) = ⊥
IsOfSame (work.Directory asked) (work.Upload at) = ⊥
IsOfSame (work.Directory asked) (work.Directory at) = at.tokens ≡ asked.tokens
IsOfSame (work.Directory asked) (work.Download at) = ⊥
IsOfSame (work.Download asked) (work.Upload at) = ⊥
IsOfSame (work.Download asked) (work.Directory at) = ⊥
IsOfSame (work.Download asked) (work.Download at) = (at.server ≡ asked.server) × (at.number ≡ asked.number)

-- The upload of a task's file that was acknowledged has that noted, with the file's number. It fetches and lists
-- nothing.
abbrev pub UploadPromises : Lists → ℕ → Outcome → Type 0
UploadPromises lists task (outcome.Acked number) = noted_at lists task ≡ Some (noted.Acked task number)
UploadPromises lists task (outcome.Refused code) = ⊤
UploadPromises lists task (outcome.BadFile code) = ⊥
UploadPromises lists task (outcome.Fetched number) = ⊥
UploadPromises lists task outcome.Listed = ⊥
UploadPromises lists task (outcome.LinkDown why) = ⊥
UploadPromises lists task (outcome.Strange kind) = ⊤

-- A list that came whole is short headers, one after another. It sends and fetches nothing.
abbrev pub ListPromises : List ℕ → Outcome → Type 0
ListPromises listing (outcome.Acked number) = ⊥
ListPromises listing (outcome.Refused code) = ⊤
ListPromises listing (outcome.BadFile code) = ⊥
ListPromises listing (outcome.Fetched number) = ⊥
ListPromises listing outcome.Listed = are_short_headers listing ≡ true
ListPromises listing (outcome.LinkDown why) = ⊥
ListPromises listing (outcome.Strange kind) = ⊤

-- The download of a server's file that was fetched is of the file of that number, whose octets are noted, and have no
-- fault. Of one that had a fault nothing is noted. It sends and lists nothing.
abbrev pub DownloadPromises : Lists → CallSign → ℕ → Outcome → Type 0
DownloadPromises lists server asked (outcome.Acked number) = ⊥
DownloadPromises lists server asked (outcome.Refused code) = ⊤
DownloadPromises lists server asked (outcome.BadFile code) = got_of lists server asked ≡ []
DownloadPromises lists server asked (outcome.Fetched number) =
    (number ≡ asked) × (fault_code (got_of lists server asked) ≡ None)
DownloadPromises lists server asked outcome.Listed = ⊥
DownloadPromises lists server asked (outcome.LinkDown why) = ⊥
DownloadPromises lists server asked (outcome.Strange kind) = ⊤

-- What an outcome of this work promises, by the notes and the list that came. No work ends with another's outcome, and
-- none with that of a link.
abbrev pub WorkPromises : Lists → Work → List ℕ → Outcome → Type 0
WorkPromises lists (work.Upload at) listing reached = UploadPromises lists at.task reached
WorkPromises lists (work.Directory at) listing reached = ListPromises listing reached
WorkPromises lists (work.Download at) listing reached = DownloadPromises lists at.server at.number reached

-- the same of how the job ended, if it has
abbrev pub EndPromises : Lists → Work → List ℕ → Option Ending → Type 0
EndPromises lists asked listing None = ⊤
EndPromises lists asked listing (Some ending) = WorkPromises lists asked listing ending.outcome

-- before headers come a list has no octets
abbrev pub IsEmptyBefore : DirectoryPhase → List ℕ → Type 0
IsEmptyBefore phase.Login listing = listing ≡ []
IsEmptyBefore phase.Selecting listing = listing ≡ []
IsEmptyBefore phase.Listing listing = ⊤

-- the list has no octets before headers come
abbrev pub IsFilled : Work → Type 0
IsFilled (work.Upload at) = ⊤
IsFilled (work.Directory at) = IsEmptyBefore at.phase at.listing
IsFilled (work.Download at) = ⊤

-- What is true of a job of which this work was asked, over these notes, after each packet.
pub record JobStands (asked : Work) (lists : Lists) (job : JobState) : Type 0 where
  pub same : IsOfSame asked job.work
  pub go_with : NotesGoWith lists job
  pub filled : IsFilled job.work
  pub promises : EndPromises lists asked (listing_of job.work) job.ending
