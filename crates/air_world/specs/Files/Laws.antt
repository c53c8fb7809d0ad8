-- Laws of what one client's tasks, attempts and files that it got have of the store: what each thing that a session or
-- a job does keeps of it, between its commands too.
use Rattle.std.specs.Prelude.{◌≡◌, ◌≢◌, ◌⊎◌, ℕ, ◌<◌, ◌≤◌, List, [], ◌∷◌, ◌++◌, length, Bool, true, Option, None, Some}
use Rattle.std.specs.Prelude.{slice_get, ⊤}
use Rattle.std.specs.List.{AllByRecursion}
use Rattle.px_base.specs.CallSign.{CallSign, IsCall}
use Rattle.ax25_link.specs.Window.{Window}
use Rattle.ftl0_packets.specs.Layout.{Fits}
use Rattle.file_store_model.specs.Follows.{FollowsBy}
use Rattle.file_store.specs.Command.{AreAllowed, DropsNothing, after, drop_entry}
use Rattle.file_store.specs.OnDisk.{after_first}
use Rattle.file_store.specs.Store.{Entry, Store, empty_store, entry_of, partial}
use Rattle.ftl0_session.specs.Downloads.Needs.{AreComplete}
use Rattle.ftl0_session.specs.Run.{Session}
use Rattle.ftl0_session.specs.Table.{State, command, receiving}
use Rattle.ftl0_server.specs.Connection.Connected.{caller_of}
use Rattle.ftl0_server.specs.Entries as session
use Rattle.ftl0_server.specs.Entries.{SessionEntry}
use Rattle.client_notes.specs.Answers.{fresh_task}
use Rattle.client_notes.specs.Laws.{after_all}
use Rattle.client_notes.specs.Limits.{most_tasks}
use Rattle.client_notes.specs.Notes.{Lists}
use Rattle.client_notes.specs.Several as notes
use Rattle.ftl0_client_job.specs.Directory.{Directory}
use Rattle.ftl0_client_job.specs.Download.{Download}
use Rattle.ftl0_client_job.specs.JobState.{IsNotBegun}
use Rattle.ftl0_client_job.specs.Table.{JobState, new_job}
use Rattle.ftl0_client_job.specs.Upload.{Upload}
use Rattle.ftl0_client_job.specs.declared.work.Work.{Work}
use Rattle.ftl0_client_job.specs.declared.work.Work.TheVariants as work
use Rattle.sha2.specs.Sha256.{sha256}
use Rattle.ftl0_client.specs.Attempt.Attempted.{Attempted}
use Rattle.ftl0_client.specs.Client.{new_client}
use Rattle.ftl0_client.specs.Entries as job
use Rattle.ftl0_client.specs.Entries.{JobEntry}
use Rattle.air_world.specs.Attempts.Attempt.{Attempt}
use Rattle.air_world.specs.Attempts.Laws.{ClientTookFront, ServerTookFront}
use Rattle.air_world.specs.Attempts.Party.{AreOver, Asked, EachAttempt, EachSide, Party, all_over, first_party, newest}
use Rattle.air_world.specs.Attempts.Party.{sessions_over}
use Rattle.air_world.specs.Attempts.Said.{Grants}
use Rattle.air_world.specs.Attempts.Sides.{IsGreeting, JobReaches, ServerSide, said_by_client}
use Rattle.air_world.specs.Files.Facts.{GoesOnWithTask, HasFacts}
use Rattle.air_world.specs.Files.SoundStore.{IsSoundStore}
use Rattle.air_world.specs.Files.Tasks.{AreTasks, IsWork, StandsBy}
use Rattle.air_world.specs.Files.Uploads.{IsGoodFile}

-- What is true of a client besides its facts: its call; the files of all uploads; its tasks, and the works of its
-- attempts.
pub record Stands (files : List Asked) (c : ℕ) (party : Party) : Type 0 where
  pub call : IsCall party.client.me
  pub good : AllByRecursion (λ asked. IsGoodFile asked.file) files
  pub tasks : AreTasks files c party
  pub works : EachAttempt party (λ a. IsWork files party a.client.asked)

-- ---- what a session does

-- The attempt with its session gone on by these entries: it is in this state, and up or over.
abbrev pub session_gone : List SessionEntry → State → Bool → Attempt → ServerSide → Attempt
session_gone entries state up a side =
    record a {
      server =
          Some
          (record side {
            connected = record side.connected { state = state };
            entries = side.entries ++ entries;
            is_up = up;
          });
    }

-- the client with its current attempt made into this
abbrev pub with_attempt : Party → Attempt → List Attempt → Party
with_attempt party a older = record party { attempts = a ∷ older }

-- a session of the client's attempt at this place gave the number to a new upload
pub record GrantedAt (party : Party) (at number : ℕ) : Type 0 where
  pub attempt : Attempt
  pub is_attempt : slice_get party.attempts at ≡ Some attempt
  pub side : ServerSide
  pub is_side : attempt.server ≡ Some side
  pub file_length : ℕ
  pub grants : Grants side number file_length

-- no number was given twice by the client's sessions
abbrev pub GrantsOnce : Party → Type 0
GrantsOnce party = (at that number : ℕ) → GrantedAt party at number → GrantedAt party that number → at ≡ that

-- A session of the client's current attempt, which is up, over this store and these lists. It began with LOGIN_RESP,
-- the client took the first of the packets that it said, and older sessions are over.
pub record IsServed (files : List Asked) (c : ℕ) (party : Party) (now : Session) : Type 0 where
  pub stands : Stands files c party
  pub attempt : Attempt
  pub older : List Attempt
  pub attempts_are : party.attempts ≡ attempt ∷ older
  pub side : ServerSide
  pub is_side : attempt.server ≡ Some side
  pub is_up : side.is_up ≡ true
  pub caller_is : caller_of side.connected ≡ party.client.me
  pub state_is : now.state ≡ side.connected.state
  pub none_lost : AllByRecursion session.IsNotLost side.entries
  pub greets : IsGreeting side.greeting
  pub begun : IsNotBegun attempt.client.asked
  pub heard : ClientTookFront attempt side
  pub older_over : AreOver older
  pub once : GrantsOnce party
  pub store : IsSoundStore now.store
  pub lists : AreComplete now.store now.lists
  pub facts : HasFacts now.store files party

-- These entries of a session, from one to another, took the first of the packets that its client said. If none of them
-- was lost the session may be up after them.
pub record SessionGoes (party : Party) (moment : ℕ) (before now : Session) (entries : List SessionEntry) (up : Bool)
    (a : Attempt) (side : ServerSide) : Type 0 where
  pub goes : session.GoesBy party.client.me moment before entries now
  pub none_lost : up ≡ true → AllByRecursion session.IsNotLost entries
  pub front : ServerTookFront a (record side { entries = side.entries ++ entries })
  pub client_fits : AllByRecursion Fits (said_by_client a.client)

-- The numbers that the entries give to new uploads were not given before.
abbrev pub AreNewGrants : ℕ → ServerSide → List SessionEntry → Type 0
AreNewGrants next side entries =
    (number file_length : ℕ) → Grants (record side { entries = side.entries ++ entries }) number file_length
    → Grants side number file_length ⊎ (next ≤ number)

-- What a power cut leaves of the client if it comes after some of the commands of its session's entries: the facts are
-- true in the store then, with the sessions over and as they were before, and the store is such.
pub record LeftIn (files : List Asked) (party : Party) (before now : Store) : Type 0 where
  pub facts : HasFacts now files (sessions_over party)
  pub store : IsSoundStore now
  pub follows : FollowsBy party.client.me before now

-- What entries of a session, from one to another, leave of the client: the facts are true after them, and so they are
-- if a power cut comes after the first of their commands. Each command is allowed in its turn, and none gives a file
-- up: one that came whole has no fault.
pub record SessionKeeps (files : List Asked) (party done : Party) (before now : Session) (entries : List SessionEntry)
    (side : ServerSide) : Type 0 where
  pub facts : HasFacts now.store files done
  pub store : IsSoundStore now.store
  pub lists : AreComplete now.store now.lists
  pub follows : FollowsBy party.client.me before.store now.store
  pub allowed : AreAllowed before.store (session.commands_in entries)
  pub drops : DropsNothing (session.commands_in entries)
  pub during :
      (count : ℕ)
      → LeftIn files party before.store (after_first count before.store (session.commands_in entries))
  pub grants : AreNewGrants before.store.next side entries
  pub fits : AllByRecursion Fits (session.said_in entries)

-- So entries do of a session of an attempt at a work of this kind.
abbrev pub SessionLawOf : (Work → Type 0) → (List SessionEntry → Type 0) → Type 0
SessionLawOf IsKind AreSuch =
    (files : List Asked) (c : ℕ) (party : Party) (moment : ℕ) (before now : Session) (entries : List SessionEntry)
    (up : Bool) (served : IsServed files c party before) → IsKind served.attempt.client.asked → AreSuch entries
    → SessionGoes party moment before now entries up served.attempt served.side
    → SessionKeeps files party
    (with_attempt party (session_gone entries now.state up served.attempt served.side) served.older) before now
    entries served.side

-- one entry
abbrev pub IsOne : {X : Type 0} → List X → Type 0
IsOne {X} list = (x : X) × (list ≡ x ∷ [])

-- any entries, of whatever work
abbrev pub SessionLaw : Type 0
SessionLaw = SessionLawOf (λ asked. ⊤) (λ entries. ⊤)

-- one entry, by the work
abbrev pub IsUploadOf : Work → Type 0
IsUploadOf asked = (at : Upload) × (asked ≡ work.Upload at)

abbrev pub IsDirectoryOf : Work → Type 0
IsDirectoryOf asked = (at : Directory) × (asked ≡ work.Directory at)

abbrev pub IsDownloadOf : Work → Type 0
IsDownloadOf asked = (at : Download) × (asked ≡ work.Download at)

-- ---- what a job does

-- the attempt with its job gone on by these entries
abbrev pub job_gone : List JobEntry → Attempted → Attempt → Attempt
job_gone entries now a =
    record a { client = record a.client { attempted = now; entries = a.client.entries ++ entries } }

-- A client whose link is that of its current attempt, over this store. Its job came from what was asked by what it took
-- and queued.
pub record IsWorking (store : Store) (files : List Asked) (c : ℕ) (party : Party) : Type 0 where
  pub stands : Stands files c party
  pub attempt : Attempt
  pub older : List Attempt
  pub attempts_are : party.attempts ≡ attempt ∷ older
  pub link : party.client.attempt ≡ Some attempt.client.attempted
  pub job : StandsBy party (Some attempt)
  pub begun : IsNotBegun attempt.client.asked
  pub reached : JobReaches (new_job attempt.client.asked) attempt.client.entries attempt.client.attempted.job
  pub sound : IsSoundStore store
  pub facts : HasFacts store files party

-- What a session said, from LOGIN_RESP on, came in order, also by these entries of the job; and so it was before with
-- what the client said.
pub record TookFront (a : Attempt) (entries : List JobEntry) (side : ServerSide) : Type 0 where
  pub is_side : a.server ≡ Some side
  pub greets : IsGreeting side.greeting
  pub client :
      ClientTookFront (record a { client = record a.client { entries = a.client.entries ++ entries } }) side
  pub server : ServerTookFront a side

-- what a session said, if there is one, came so; without one nothing came
abbrev pub JobTookFront : Attempt → List JobEntry → Type 0
JobTookFront a [] = ⊤
JobTookFront a (entry ∷ entries) = (side : ServerSide) × TookFront a (entry ∷ entries) side

-- the client with its link and job gone on, and these notes
abbrev pub with_job : Party → Lists → Attempted → Attempt → List Attempt → Party
with_job party lists now a older =
    record party {
      client = record party.client { lists = lists; attempt = Some now };
      attempts = a ∷ older;
    }

-- the client that starts again from these notes, without a link
abbrev pub started_with : Party → Lists → Party
started_with party lists =
    record party { client = new_client party.client.me party.client.server party.client.window lists }

-- These entries of a job, from its client's notes to others, took the first of the packets that its session said.
pub record JobGoes (party : Party) (entries : List JobEntry) (lists_now : Lists) (now : Attempted) (a : Attempt)
    : Type 0 where
  pub goes : job.GoesBy party.client.lists a.client.attempted.job entries lists_now now.job
  pub front : JobTookFront a entries

-- What entries of a job leave of the client: the facts are true after them, and so they are if the client starts again
-- from its notes after the first of their commands, with the attempt as it was before.
pub record JobKeeps (store : Store) (files : List Asked) (party done : Party) (entries : List JobEntry) : Type 0 where
  pub facts : HasFacts store files done
  pub during :
      (count : ℕ)
      → HasFacts store files
      (started_with party (notes.after_first count party.client.lists (job.commands_in entries)))

-- So entries do of a job at a work of this kind, with whatever end of the link after them.
abbrev pub JobLawOf : (Work → Type 0) → (List JobEntry → Type 0) → Type 0
JobLawOf IsKind AreSuch =
    (store : Store) (files : List Asked) (c : ℕ) (party : Party) (entries : List JobEntry) (lists_now : Lists)
    (now : Attempted) (works : IsWorking store files c party) → IsKind works.attempt.client.asked → AreSuch entries
    → JobGoes party entries lists_now now works.attempt
    → JobKeeps store files party
    (with_job party lists_now now (job_gone entries now works.attempt) works.older) entries

abbrev pub JobLaw : Type 0
JobLaw = JobLawOf (λ asked. ⊤) (λ entries. ⊤)

-- Entries of a job leave the client's tasks as tasks of its uploads, also if it starts again from its notes after the
-- first of their commands.
abbrev pub JobTasksLaw : Type 0
JobTasksLaw =
    (files : List Asked) (c : ℕ) (party : Party) (entries : List JobEntry) (lists_now : Lists) (before now : JobState)
    → AreTasks files c party → job.GoesBy party.client.lists before entries lists_now now
    → (count : ℕ)
    → AreTasks files c (started_with party (notes.after_first count party.client.lists (job.commands_in entries)))

-- ---- what others do, and what goes

-- the session is such as that one was, or is over
pub record LooksLikeSession (old new : ServerSide) : Type 0 where
  pub greeting : new.greeting ≡ old.greeting
  pub entries : new.entries ≡ old.entries
  pub state : new.connected.state ≡ old.connected.state
  pub up : new.is_up ≡ true → old.is_up ≡ true

abbrev pub LooksServed : Option ServerSide → Option ServerSide → Type 0
LooksServed None None = ⊤
LooksServed None (Some new) = ⊥
LooksServed (Some old) None = ⊥
LooksServed (Some old) (Some new) = LooksLikeSession old new

-- the attempt is such as that one was, except for the ends of its links and what was sent
pub record LooksLike (old new : Attempt) : Type 0 where
  pub asked : new.client.asked ≡ old.client.asked
  pub entries : new.client.entries ≡ old.client.entries
  pub job : new.client.attempted.job ≡ old.client.attempted.job
  pub served : LooksServed old.server new.server

abbrev pub LookLike : List Attempt → List Attempt → Type 0
LookLike [] [] = ⊤
LookLike [] (a ∷ those) = ⊥
LookLike (a ∷ older) [] = ⊥
LookLike (a ∷ older) (b ∷ those) = LooksLike a b × LookLike older those

-- The client is such as that one was. Its link is gone, or is that of the current attempt still.
pub record IsSameParty (old new : Party) : Type 0 where
  pub me : new.client.me ≡ old.client.me
  pub server : new.client.server ≡ old.client.server
  pub lists : new.client.lists ≡ old.client.lists
  pub uploads : new.uploads ≡ old.uploads
  pub attempts : LookLike old.attempts new.attempts
  pub link :
      (a b : Attempt) → newest old ≡ Some a → newest new ≡ Some b → new.client.attempt ≡ Some b.client.attempted
      → old.client.attempt ≡ Some a.client.attempted

-- What is true of a client is true still of one that is such as that one was; in a store that another caller's commands
-- made; if its sessions are over; if it starts again from its notes; and without an entry under way that no session
-- receives.
pub record StayLaw : Type 0 where
  pub same :
      (store : Store) (files : List Asked) (old new : Party) → IsSameParty old new → HasFacts store files old
      → HasFacts store files new
  pub other :
      (files : List Asked) (c : ℕ) (party : Party) (caller : CallSign) (before now : Store)
      → Stands files c party → IsCall caller → party.client.me ≢ caller → IsSoundStore before
      → FollowsBy caller before now → HasFacts before files party → HasFacts now files party
  pub over :
      (store : Store) (files : List Asked) (party : Party) → HasFacts store files party
      → HasFacts store files (sessions_over party)
  pub started :
      (store : Store) (files : List Asked) (party : Party) → HasFacts store files party
      → HasFacts store files (started_with party party.client.lists)
  pub removed :
      (store : Store) (files : List Asked) (party : Party) (number : ℕ) (entry : Entry) (held : List ℕ)
      → IsSoundStore store → entry_of store number ≡ Some entry → entry.holding ≡ partial held
      → EachSide party
      (λ _ side. (rest : List ℕ) → side.is_up ≡ true → side.connected.state ≢ receiving number rest)
      → HasFacts store files party → HasFacts (after store (drop_entry number)) files party

-- ---- what begins

-- the attempt begins: its job was just made, and no session answered
pub record IsBeginning (a : Attempt) : Type 0 where
  pub asked : IsNotBegun a.client.asked
  pub job : a.client.attempted.job ≡ new_job a.client.asked
  pub entries : a.client.entries ≡ []
  pub unserved : a.server ≡ None

-- the session begins: it waits for a command, and has done nothing
pub record IsGreeted (side : ServerSide) : Type 0 where
  pub greets : IsGreeting side.greeting
  pub entries : side.entries ≡ []
  pub state : side.connected.state ≡ command

-- The facts of a client of which nothing was asked; after an attempt begins; after a session does; with a further
-- upload, of whichever client; and with its task.
pub record BeginLaw : Type 0 where
  pub first : (server me : CallSign) (w : Window) (limit : ℕ)
      → HasFacts (empty_store limit) [] (first_party server w me)
  pub called :
      (store : Store) (files : List Asked) (party : Party) (a : Attempt) → HasFacts store files party → IsBeginning a
      → GoesOnWithTask party a
      → HasFacts store files
      (record party {
        client = record party.client { attempt = Some a.client.attempted };
        attempts = a ∷ party.attempts;
      })
  pub opened :
      (store : Store) (files : List Asked) (party : Party) (a : Attempt) (older : List Attempt) (side : ServerSide)
      → HasFacts store files party → party.attempts ≡ a ∷ older → a.server ≡ None → a.client.entries ≡ []
      → IsGreeted side
      → HasFacts store files
      (with_attempt party (record a { server = Some side }) (all_over older))
  pub longer :
      (store : Store) (files : List Asked) (c : ℕ) (party : Party) (asked : List Asked) → Stands files c party
      → HasFacts store files party → HasFacts store (files ++ asked) party
  pub begun :
      (store : Store) (files : List Asked) (c : ℕ) (party : Party) (it : Asked) → Stands files c party
      → length party.client.lists.tasks < most_tasks → HasFacts store files party
      → HasFacts store (files ++ it ∷ [])
      (record party {
        client =
            record party.client {
              lists =
                  after_all party.client.lists
                  (fresh_task party.client.lists party.client.server party.client.me it.name (length it.file)
                  (sha256 it.file) ∷ []);
            };
        uploads = party.uploads ++ length files ∷ [];
      })
