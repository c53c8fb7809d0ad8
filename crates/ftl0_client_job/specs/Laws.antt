-- Laws of a job's table: what the notes need to go with it, and what its outcomes promise.
use Rattle.std.specs.Prelude.{◌≡◌, ◌⊎◌, ℕ, ◌<◌, ◌≤◌, List, [], ◌∷◌, ◌++◌, length, take, drop, true, Option, None, Some, Result, Ok, IsErr, IsTrue, ⊤}
use Rattle.disk_model.specs.declared.disk.Disk.{Ghosts}
use Rattle.std.specs.Option.{option_map}
use Rattle.px_base.specs.CallSign.{CallSign}
use Rattle.ftl0_packets.specs.Layout.{Item, PacketValue, data_part, download_cmd, login_resp, ul_go_resp}
use Rattle.pfh_items.specs.Faults.{fault_code}
use Rattle.client_notes.specs.Answers.{StartsBy, answer_of, fresh_task, noted_at, start_reaches}
use Rattle.client_notes.specs.Command.{NotesCommand, acked}
use Rattle.client_notes.specs.declared.answers.Begun.{Begun}
use Rattle.client_notes.specs.declared.answers.Begun.TheVariants as begun
use Rattle.client_notes.specs.declared.answers.Noted.TheVariants as noted
use Rattle.client_notes.specs.declared.refusals.NotesRefusal.{NotesRefusal}
use Rattle.client_notes.specs.Laws.{AreAllowed, after_all}
use Rattle.client_notes.specs.Notes.{Lists, got_of}
use Rattle.client_notes.specs.OnDisk.{Does, Untouched}
use Rattle.client_notes.specs.Several.{MakesBetween}
use Rattle.client_notes.specs.State.{NotesState, StandsFor}
use Rattle.ftl0_client_job.specs.declared.ending.Outcome.{Outcome}
use Rattle.ftl0_client_job.specs.declared.ending.Outcome.TheVariants as outcome
use Rattle.ftl0_client_job.specs.declared.phases.DownloadPhase.TheVariants as fetch
use Rattle.ftl0_client_job.specs.declared.phases.UploadPhase.TheVariants as phase
use Rattle.ftl0_client_job.specs.declared.work.Work.{Work}
use Rattle.ftl0_client_job.specs.Directory.{Directory, directory_row}
use Rattle.ftl0_client_job.specs.Download.{Download, download_row}
use Rattle.ftl0_client_job.specs.Due.{DuePacket, most_data, next_due, place_after, upload_due}
use Rattle.ftl0_client_job.specs.JobState.{HasGot, HasTask, IsNew, IsTaskOf, NotesGoWith}
use Rattle.ftl0_client_job.specs.Promises.{IsEmptyBefore, JobStands}
use Rattle.ftl0_client_job.specs.Row.{Row, goes_on}
use Rattle.ftl0_client_job.specs.Short.{IsShortText, are_short_headers, is_short_header}
use Rattle.ftl0_client_job.specs.Table.{JobState, job_after, job_row}
use Rattle.ftl0_client_job.specs.Upload.{Upload, in_phase, new_upload, upload_row}

-- The notes that go with a job before a packet go with it after the packet's row.
abbrev pub StaysLaw : Type 0
StaysLaw =
    (lists : Lists) (job : JobState) (item : Item) → NotesGoWith lists job
    → NotesGoWith (after_all lists (job_row lists job item).commands) (job_after (job_row lists job item))

-- the notes have the task that a start of them gave for this file, as the file's upload needs it
abbrev pub IsStarted : Lists → List ℕ → Begun → Type 0
IsStarted lists file (begun.Fresh task) = HasTask lists (new_upload task 0 file)
IsStarted lists file (begun.Going task number) = HasTask lists (new_upload task number file)
IsStarted lists file (begun.Already number) = ⊤

-- the answer of a start that gave this
abbrev pub started : Begun → Result Begun NotesRefusal
started given = Ok given

-- A fresh task that a start of the notes gave is one that a new upload of its file needs; and a task that it found under
-- way is one that the upload needs by which the file is continued.
abbrev pub StartedLaw : {D : Type 0} → Ghosts D → Type 0
StartedLaw {D} g =
    (old new : NotesState) (disk disk_now : D) (server caller : CallSign) (name file digest : List ℕ) (given : Begun)
    → StartsBy old (answer_of old.lists server caller name (length file) digest) (started given)
    → IsTrue (start_reaches (started given)) ⊎ Untouched old new disk disk_now
    → (IsTrue (start_reaches (started given)) → Does g (IsErr (started given)) old new disk disk_now
    (fresh_task old.lists server caller name (length file) digest))
    → IsStarted new.lists file given

-- the task that a start of the notes gave is of this server and caller, and its file has this digest
abbrev pub IsOwned : Lists → CallSign → CallSign → List ℕ → Begun → Type 0
IsOwned lists server caller digest (begun.Fresh task) = IsTaskOf lists server caller digest task
IsOwned lists server caller digest (begun.Going task number) = IsTaskOf lists server caller digest task
IsOwned lists server caller digest (begun.Already number) = ⊤

-- A fresh task that a start of the notes gave, and a task that it found under way, are of the server, the caller and
-- the digest that were given.
abbrev pub OwnedLaw : {D : Type 0} → Ghosts D → Type 0
OwnedLaw {D} g =
    (old new : NotesState) (disk disk_now : D) (server caller : CallSign) (name digest : List ℕ) (file_length : ℕ)
    (given : Begun) → StartsBy old (answer_of old.lists server caller name file_length digest) (started given)
    → IsTrue (start_reaches (started given)) ⊎ Untouched old new disk disk_now
    → (IsTrue (start_reaches (started given)) → Does g (IsErr (started given)) old new disk disk_now
    (fresh_task old.lists server caller name file_length digest))
    → IsOwned new.lists server caller digest given

-- how a row ends the job, if it does
abbrev pub reached : {S : Type 0} → Row S → Option Outcome
reached row = option_map (λ ending. ending.outcome) row.ending

-- the image stands for notes by which the task was acknowledged with this number
abbrev pub IsAckedIn : ℕ → ℕ → List ℕ → Type 0
IsAckedIn task number image =
    (now : Lists) × StandsFor image now × (noted_at now task ≡ Some (noted.Acked task number))

-- The row notes that the task was acknowledged, and nothing else. In each image that stands for the notes after at
-- least that command, whatever commands come after it, it was, with this number.
pub record Acknowledges {S : Type 0} (lists : Lists) (task number : ℕ) (row : Row S) : Type 0 where
  pub commands : row.commands ≡ acked task ∷ []
  pub stands :
      (others : List NotesCommand) (least most : ℕ) (image : List ℕ) → AreAllowed lists (row.commands ++ others)
      → 1 ≤ least → MakesBetween least most lists (row.commands ++ others) image → IsAckedIn task number image

-- An upload whose outcome is that its file was acknowledged noted that.
abbrev pub AcknowledgedLaw : Type 0
AcknowledgedLaw =
    (lists : Lists) (at : Upload) (packet : PacketValue) (number : ℕ) → HasTask lists at
    → reached (upload_row at packet) ≡ Some (outcome.Acked number)
    → Acknowledges lists at.task number (upload_row at packet)

-- A file that is continued is sent from the offset that UL_GO_RESP gave: the state is Sending from there, and, if
-- octets are left, the first that is due is DATA of the octets from there on.
abbrev pub ContinuedLaw : Type 0
ContinuedLaw =
    (at : Upload) (number offset : ℕ) → at.phase ≡ phase.Go → at.known ≡ number → 1 ≤ number → offset < length at.file
    → (upload_row at (ul_go_resp number offset) ≡ goes_on (in_phase at (phase.Sending number offset)) [] [])
    × (upload_due (in_phase at (phase.Sending number offset))
    ≡ Some (record {
      packet = data_part (take most_data (drop offset at.file));
      state = in_phase at (phase.Sending number (place_after at offset));
    }))

-- A download continues after the octets that were got: DOWNLOAD_CMD asks for the octets from there on.
abbrev pub ResumedLaw : Type 0
ResumedLaw =
    (held : List ℕ) (at : Download) (moment flags : ℕ) → at.phase ≡ fetch.Login
    → (download_row held at (login_resp moment flags)).replies ≡ download_cmd at.number (length held) 0 ∷ []

-- While a file's octets come, those noted and those not noted yet are those before, and these after them.
abbrev pub FetchingLaw : Type 0
FetchingLaw =
    (lists : Lists) (at : Download) (octets : List ℕ) (row : Row Download) → at.phase ≡ fetch.Fetching
    → download_row (got_of lists at.server at.number) at (data_part octets) ≡ row → row.ending ≡ None
    → got_of (after_all lists row.commands) at.server at.number ++ row.state.rest
    ≡ got_of lists at.server at.number ++ (at.rest ++ octets)

-- A download whose outcome is that its file was fetched has that file noted whole, and without fault.
abbrev pub FetchedLaw : Type 0
FetchedLaw =
    (lists : Lists) (at : Download) (packet : PacketValue) (number : ℕ) → HasGot lists at
    → reached (download_row (got_of lists at.server at.number) at packet) ≡ Some (outcome.Fetched number)
    → (number ≡ at.number) × (fault_code (got_of lists at.server at.number) ≡ None)
    × ((download_row (got_of lists at.server at.number) at packet).commands ≡ [])

-- A list has no octets before headers come, and its outcome is that it is whole only if its octets are whole short
-- headers, one after another.
abbrev pub ListedLaw : Type 0
ListedLaw =
    (at : Directory) (packet : PacketValue) → IsEmptyBefore at.phase at.listing
    → IsEmptyBefore (directory_row at packet).state.phase (directory_row at packet).state.listing
    × (reached (directory_row at packet) ≡ Some outcome.Listed
    → are_short_headers (directory_row at packet).state.listing ≡ true)

-- What is true of a job that was just made, over notes that go with it.
abbrev pub BegunLaw : Type 0
BegunLaw = (lists : Lists) (job : JobState) → IsNew job → NotesGoWith lists job → JobStands job.work lists job

-- What is true of a job before a packet is true of it after the packet's row: in whatever it ends, it ends so of what
-- was asked, and keeps what that promises.
abbrev pub PromisesLaw : Type 0
PromisesLaw =
    (asked : Work) (lists : Lists) (job : JobState) (item : Item) → JobStands asked lists job
    → JobStands asked (after_all lists (job_row lists job item).commands) (job_after (job_row lists job item))

-- What is true of a job is true of it once what was due was sent.
abbrev pub DueLaw : Type 0
DueLaw =
    (asked : Work) (lists : Lists) (job : JobState) (due : DuePacket JobState) → JobStands asked lists job
    → next_due job ≡ Some due → JobStands asked lists due.state

-- Octets are a short header exactly if they are the header with an item of each mandatory rule, in order.
abbrev pub ShortLaw : Type 0
ShortLaw =
    (octets : List ℕ) → (is_short_header octets ≡ true → IsShortText octets)
    × (IsShortText octets → is_short_header octets ≡ true)
