-- What holds between one client's tasks, the files that it got, its attempts, and the server's store.
use Rattle.std.specs.Prelude.{◌≡◌, ◌≢◌, ℕ, ◌+◌, ◌<◌, ◌≤◌, List, [], ◌++◌, length, take, true, None, Some, ⊤}
use Rattle.std.specs.Prelude.{Option, IfSome}
use Rattle.px_base.specs.CallSign.{CallSign}
use Rattle.px_base.specs.Octets.{IsFront}
use Rattle.ftl0_packets.specs.Layout.{download_cmd, ul_go_resp}
use Rattle.pfh_items.specs.Faults.{fault_code}
use Rattle.file_store.specs.Info.{IsCompleteIn}
use Rattle.file_store.specs.Store.{Entry, Store, entry_of, partial}
use Rattle.ftl0_session.specs.Downloads.Table.{file_of}
use Rattle.ftl0_session.specs.Table.{receiving}
use Rattle.client_notes.specs.Notes.{Task, got_of, task_of}
use Rattle.ftl0_client_job.specs.declared.ending.Ending.{Ending}
use Rattle.ftl0_client_job.specs.declared.ending.Outcome.TheVariants as reached
use Rattle.ftl0_client_job.specs.declared.phases.DownloadPhase.{DownloadPhase}
use Rattle.ftl0_client_job.specs.declared.phases.DownloadPhase.TheVariants as fetch
use Rattle.ftl0_client_job.specs.declared.work.Work.{Work}
use Rattle.ftl0_client_job.specs.declared.work.Work.TheVariants as work
use Rattle.ftl0_client_job.specs.Download.{Download}
use Rattle.ftl0_client_job.specs.JobState.{IsCheckedIn}
use Rattle.ftl0_client.specs.Attempt.Attempted.{outcome_of}
use Rattle.ftl0_client.specs.Entries as job
use Rattle.air_world.specs.Attempts.Attempt.{Attempt}
use Rattle.air_world.specs.Files.Dialogue.{IsDueNow, Says, Serves}
use Rattle.air_world.specs.Files.Kept.{HoldsAck, HoldsTo, IsFileAt, IsTaskKept, WhereStands}
use Rattle.air_world.specs.Attempts.Lists.{Has, OneIs}
use Rattle.air_world.specs.Attempts.Party.{Asked, EachAttempt, EachSide, IsFileOf, Party, newest}
use Rattle.air_world.specs.Attempts.Said.{AsksUpload, Grants, Offers, SaysComplete, Took, octets_come, octets_said}
use Rattle.air_world.specs.Attempts.Said.{octets_taken, said_behind_client, said_behind_server}
use Rattle.air_world.specs.Attempts.Sides.{ServerSide, said_by_client}
use Rattle.air_world.specs.Files.UploadDialogue.{GoesOnWith}

-- the task has this number on the server
pub record HasNumber (party : Party) (task number : ℕ) : Type 0 where
  pub entry : Task
  pub is_entry : task_of party.client.lists task ≡ Some entry
  pub number_is : entry.number ≡ number
  pub some : 1 ≤ number

-- a session of an attempt to send the task's file for the first time gave it this number
abbrev pub IsGranted : ℕ → ℕ → Attempt → Type 0
IsGranted task number a =
    (file : List ℕ) × (side : ServerSide) × AsksUpload a task 0 file × (a.server ≡ Some side)
    × Grants side number (length file)

-- A task's number comes from the answer to a new upload of it. It is below the next one, and the entry of that number,
-- if it is there, is on the way to the task's file, or is it.
pub record IsNumbered (store : Store) (party : Party) (task number : ℕ) (file : List ℕ) : Type 0 where
  pub below : number < store.next
  pub stands : IsFileAt store number file party.client.me
  pub granted : OneIs (IsGranted task number) party.attempts

-- the entry is of this caller and length, and nothing is held yet
pub record IsBegun (caller : CallSign) (file_length : ℕ) (entry : Entry) : Type 0 where
  pub caller_is : entry.caller ≡ caller
  pub length_is : entry.length ≡ file_length
  pub nothing : entry.holding ≡ partial []

-- A number that a session gave to a new upload: the attempt is one to send a task's file of that length for the first
-- time. As long as the task hasn't the number nothing is held of its entry.
pub record IsGrantKept (store : Store) (party : Party) (a : Attempt) (number file_length : ℕ) : Type 0 where
  pub some : 1 ≤ number
  pub below : number < store.next
  pub task : ℕ
  pub file : List ℕ
  pub asks : AsksUpload a task 0 file
  pub length_is : file_length ≡ length file
  pub begun : ¬ HasNumber party task number → WhereStands store number (IsBegun party.client.me file_length)

-- The file that a session receives: the entry is the caller's and under way. What is held and what waits is a prefix of
-- the job's file, as many octets as the offset that was offered and the DATA that came since. What the client has said
-- after them goes on with the file.
pub record Receives (store : Store) (party : Party) (a : Attempt) (side : ServerSide) (number : ℕ) (rest : List ℕ)
    : Type 0 where
  pub task : ℕ
  pub known : ℕ
  pub file : List ℕ
  pub asks : AsksUpload a task known file
  pub entry : Entry
  pub is_entry : entry_of store number ≡ Some entry
  pub held : List ℕ
  pub holds : entry.holding ≡ partial held
  pub caller_is : entry.caller ≡ party.client.me
  pub length_is : entry.length ≡ length file
  pub few : length rest < 512
  pub offset : ℕ
  pub offers : Offers side number offset
  pub came : held ++ rest ≡ take (offset + octets_come side) file
  pub within : offset + octets_come side ≤ length file
  pub goes_on : GoesOnWith file (offset + octets_come side) (said_behind_server side a.client)

-- a job that took the number of a new upload has noted it
abbrev pub NotesGrant : Party → Attempt → Type 0
NotesGrant party a =
    (task number : ℕ) (file : List ℕ) → AsksUpload a task 0 file → Took a.client (ul_go_resp number 0)
    → HasNumber party task number

-- a job that goes on with a number goes on with its task's
abbrev pub GoesOnWithTask : Party → Attempt → Type 0
GoesOnWithTask party a =
    (task known : ℕ) (file : List ℕ) → AsksUpload a task known file → 1 ≤ known → HasNumber party task known

-- the octets are the first of the complete file of this number
abbrev pub AreFirstOf : Store → ℕ → List ℕ → Type 0
AreFirstOf store number octets = (file : List ℕ) × (file_of store number ≡ Some file) × IsFront octets file

-- the same, if there are any
abbrev pub AreFirstIfAny : Store → ℕ → List ℕ → Type 0
AreFirstIfAny store number octets = octets ≢ [] → AreFirstOf store number octets

-- the octets that the client has got of a file and noted
abbrev pub got : Party → ℕ → List ℕ
got party number = got_of party.client.lists party.client.server number

-- the octets of the DATA that the attempt's session has said and the client hasn't taken yet
abbrev pub coming_by : Attempt → Option ServerSide → List ℕ
coming_by a None = []
coming_by a (Some side) = octets_said (said_behind_client a.client side)

-- While the octets of a file come, before the outcome, those that the client has got, those that it hasn't noted yet
-- and those that come are the first of the file. They are as many as the offset that it asked from, and the DATA that
-- it took.
pub record Fetches (store : Store) (party : Party) (a : Attempt) (at : Download) : Type 0 where
  pub first : AreFirstIfAny store at.number (got party at.number ++ (at.rest ++ coming_by a a.server))
  pub offset : ℕ
  pub asked : Has (said_by_client a.client) (download_cmd at.number offset 0)
  pub counted :
      length (got party at.number ++ at.rest) ≡ offset + length (octets_taken (job.items_in a.client.entries))

-- how far a download has come: only while octets come are there any that aren't noted, and a file that came whole has
-- no fault
abbrev pub FetchesIn : DownloadPhase → Store → Party → Attempt → Download → Type 0
FetchesIn fetch.Login store party a at = at.rest ≡ []
FetchesIn fetch.Fetching store party a at = Fetches store party a at
FetchesIn fetch.Done store party a at = (at.rest ≡ []) × (fault_code (got party at.number) ≡ None)

-- the same by the outcome, after which it is only about a file that came whole
abbrev pub FetchesBy : Option Ending → Work → Store → Party → Attempt → Type 0
FetchesBy None (work.Download at) store party a = FetchesIn at.phase store party a at
FetchesBy (Some ending) (work.Download at) store party a = IsCheckedIn at.phase (got party at.number)
FetchesBy ending doing store party a = ⊤

-- the client's link is that of its current attempt, and its job fetches so
abbrev pub IsFetching : Store → Party → Attempt → Type 0
IsFetching store party a =
    party.client.attempt ≡ Some a.client.attempted
    → FetchesBy a.client.attempted.job.ending a.client.attempted.job.work store party a

-- a file that was fetched has no fault
abbrev pub HasFetched : Party → Attempt → Type 0
HasFetched party a =
    (number : ℕ) → outcome_of a.client.attempted ≡ Some (reached.Fetched number)
    → fault_code (got party number) ≡ None

-- No download was asked from beyond the end of what the client has got: nothing that was got is given up.
abbrev pub AskedWithin : Party → Attempt → Type 0
AskedWithin party a =
    (number offset : ℕ) → Has (said_by_client a.client) (download_cmd number offset 0)
    → offset ≤ length (got party number)

-- the fact of a session that offered: the number is below the next one, and if its entry is there it holds that much
abbrev pub IsOfferKept : Store → ℕ → ℕ → Type 0
IsOfferKept store number offset = (number < store.next) × WhereStands store number (HoldsTo offset)

-- Of tasks: what their numbers name, and what was acknowledged is kept.
pub record HasTaskFacts (store : Store) (files : List Asked) (party : Party) : Type 0 where
  pub numbered :
      (task number : ℕ) (file : List ℕ) → HasNumber party task number → IsFileOf files party task file
      → IsNumbered store party task number file
  pub acknowledged :
      (task number : ℕ) → HoldsAck party task number → IsTaskKept files store party task number
  pub noted : EachAttempt party (NotesGrant party)
  pub goes_on : EachAttempt party (GoesOnWithTask party)

-- Of sessions: what they gave numbers to, said to be complete, offered, and receive.
pub record HasSessionFacts (store : Store) (party : Party) : Type 0 where
  pub granted :
      EachSide party
      (λ a side. (number file_length : ℕ) → Grants side number file_length
      → IsGrantKept store party a number file_length)
  pub complete : EachSide party (λ _ side. (number : ℕ) → SaysComplete side number → IsCompleteIn store number)
  pub offered :
      EachSide party (λ _ side. (number offset : ℕ) → Offers side number offset → IsOfferKept store number offset)
  pub receives :
      EachSide party
      (λ a side. (number : ℕ) (rest : List ℕ) → side.is_up ≡ true → side.connected.state ≡ receiving number rest
      → Receives store party a side number rest)
  pub due : EachSide party (λ _ side. side.is_up ≡ true → IsDueNow store side)
  pub serves : EachSide party (λ a side. Serves store a.client.asked side)
  pub says : EachAttempt party (λ a. Says a.client.asked a.client)

-- Of files that were got: each is a prefix of a complete one; what comes still goes on with it.
pub record HasGotFacts (store : Store) (party : Party) : Type 0 where
  pub got_front : (number : ℕ) → AreFirstIfAny store number (got party number)
  pub fetching : IfSome (newest party) (IsFetching store party)
  pub fetched : EachAttempt party (HasFetched party)
  pub asked_within : EachAttempt party (AskedWithin party)

-- what is true of a client in a store
pub record HasFacts (store : Store) (files : List Asked) (party : Party) : Type 0 where
  pub tasks : HasTaskFacts store files party
  pub sessions : HasSessionFacts store party
  pub files_got : HasGotFacts store party
