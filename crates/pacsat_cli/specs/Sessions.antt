-- What a run of the program did for a session, by its words, by what was heard, and by its disk.
use Rattle.std.specs.Prelude.{◌≡◌, ◌⊎◌, ◌↔◌, ℕ, ◌≤◌, ◌++◌, List, [], ◌∷◌, length, Bool, true, false, Option, Some, IfSome, IsTrue, Result, IsErrOf, ⊤}
use Rattle.std.specs.List.{AllByRecursion}
use Rattle.px_base.specs.Moments.{MomentsOf}
use Rattle.px_base.specs.Outside.{Gains, Rose}
use Rattle.px_base.specs.Polling.{EndsWith, HasEnd, HearsAll, IsOpen}
use Rattle.px_base.specs.declared.air.Air.{Ghosts as AirGhosts}
use Rattle.px_base.specs.declared.air.Turn.{Turn}
use Rattle.px_base.specs.declared.air.Turn.TheVariants as turn
use Rattle.disk_model.specs.Calls.{new_state}
use Rattle.disk_model.specs.Memory.{read_faults, state}
use Rattle.disk_model.specs.declared.memory_disk.MemoryDisk.{MemoryDisk}
use Rattle.uploader.specs.State.{standing_of as notes_standing}
use Rattle.file_store.specs.Walk.{Stands, damaged_at, no_store}
use Rattle.file_store.specs.Store.{empty_store}
use Rattle.file_store.specs.State.{standing_of}
use Rattle.file_store.specs.Working.{CountsSome}
use Rattle.server_node.specs.OnDisk.{NodeRuns}
use Rattle.turn_loop.specs.Lent.{Lent, Seen}
use Rattle.turn_loop.specs.Turns.{IsUnsaid}
use Rattle.server_node.specs.Served.{Run}
use Rattle.server_node.specs.Sessions.SessionRan.{SessionEnds, SessionRan}
use Rattle.server_node.specs.Stops.{HasAirCause, RefusesSession}
use Rattle.turn_loop.specs.declared.stop.NodeStop.{NodeStop}
use Rattle.turn_loop.specs.declared.stop.NodeStop.TheVariants as stop
use Rattle.server_node.specs.declared.terms.Served.{Served}
use Rattle.server_node.specs.declared.terms.SessionTerms.{SessionTerms}
use Rattle.command_words.specs.declared.disk.DiskWord.{DiskWord}
use Rattle.command_words.specs.declared.disk.DiskWord.TheVariants.{Fresh, Named}
use Rattle.command_words.specs.declared.request.SessionRequest.{SessionRequest}
use Rattle.command_words.specs.declared.serve.ServeRequest.{ServeRequest}
use Rattle.command_words.specs.Laws.{AsksServe, AsksSession}
use Rattle.command_words.specs.Words.{AsksClient, AsksSend, IsServe, IsSession}
use Rattle.pacsat_cli.specs.declared.status.BadStore.{BadStore as BadStoreWhy}
use Rattle.pacsat_cli.specs.declared.status.BadStore.TheVariants.{NotAStore, Damaged}
use Rattle.pacsat_cli.specs.declared.status.RefusedBy.TheVariants.{Fault}
use Rattle.pacsat_cli.specs.declared.status.Status.{Status}
use Rattle.pacsat_cli.specs.declared.status.Status.TheVariants.{AirRead, AirWrite, BadStore, Disk, Done, LinkDown, NoSuch, Out, OutOfMemory, Refused, Shelf, Spent, Strange, TooLong}
use Rattle.pacsat_cli.specs.Run.{IsUnless}
use Rattle.pacsat_cli.specs.Stops.{status_in_memory, status_of}

-- the words ask for a session at a given moment
abbrev pub AsksMoment : List (List ℕ) → Type 0
AsksMoment words = (asked : SessionRequest) × IsSession words asked × ((moment : ℕ) × (asked.moment ≡ Some moment))

-- the words ask for a session over the disk that DISK names, or for a service, which is over it
abbrev pub AsksStore : List (List ℕ) → Type 0
AsksStore words = ((asked : SessionRequest) × IsSession words asked × (asked.disk ≡ Named)) ⊎ AsksServe words

-- the words ask for one of these, or for a client's command, whose notes lie on that disk
abbrev pub AsksDisk : List (List ℕ) → Type 0
AsksDisk words = AsksStore words ⊎ AsksClient words

-- the words ask for a session or a service
abbrev pub AsksNode : List (List ℕ) → Type 0
AsksNode words = AsksSession words ⊎ AsksServe words

-- the words ask for a session over a fresh disk in memory
abbrev pub AsksFresh : List (List ℕ) → Type 0
AsksFresh words = (asked : SessionRequest) × IsSession words asked × (asked.disk ≡ Fresh)

-- what a run serves a session with
abbrev pub run_terms : SessionRequest → SessionTerms
run_terms asked =
    record { caller = asked.caller; moment = asked.moment; limits = record { blocks = asked.blocks }; polls = asked.polls }

-- A session of these terms was served over this disk, or the recovery of its store was refused: what was said to what was
-- heard, what stands on the disk at each moment, how long it may have become, and why it ended, as the status says.
pub record OverDisk {A C D : Type 0} (seen : Seen D A C) (old new : Lent D A C) (terms : SessionTerms) (status : Status) :
    Type 0 where
  pub ended : Result Served NodeStop
  pub refuses : RefusesSession terms.limits.blocks (seen.disk.content old.disk) ended
  pub ends : SessionEnds seen old new terms ended
  pub counts : HasAirCause seen.air.read_faults seen.air.write_faults old.air new.air ended
  pub runs : NodeRuns seen.disk (IsErrOf ended stop.Disk) old.disk new.disk
  pub status_is : status ≡ status_of ended

-- A session of these terms was served over a fresh disk in memory, none of whose calls is listed to fail, and so from the
-- empty store on. A write or a sync of such a disk that fails is want of memory, and no more reads that failed are told than
-- the count of failed reads rose by.
pub record InMemory {A C : Type 0} (air : AirGhosts A) (given : C → Option (List ℕ)) (before now : A) (clock clock_now : C)
    (terms : SessionTerms) (status : Status) : Type 0 where
  pub ended : Result Served NodeStop
  pub run : Run
  pub turns_heard : HearsAll (air.heard before) (air.heard now) run.turns
  pub moments_given : MomentsOf terms.moment (given clock) (given clock_now) run.moments
  pub text_said : Gains (air.said before) (air.said now) run.all.text
  pub is_unsaid : IsUnsaid run.unsaid (air.write_faults before) (air.write_faults now)
  pub ran : SessionRan ⊤ terms (empty_store terms.limits.blocks) run ended
  pub fresh : MemoryDisk
  pub is_fresh : state fresh ≡ new_state [] []
  pub used : MemoryDisk
  pub reads : CountsSome (read_faults fresh) (read_faults used) run.all.missed
  pub counts : HasAirCause air.read_faults air.write_faults before now ended
  pub status_is : status ≡ status_in_memory (status_of ended)

-- there was no memory, and neither air nor clock was touched
abbrev pub IsUntouched : {A C : Type 0} → A → A → C → C → Status → Type 0
IsUntouched before now clock clock_now status = (status ≡ OutOfMemory) × (now ≡ before) × (clock_now ≡ clock)

-- A session was served over a fresh disk in memory, or there was no memory before LOGIN_RESP.
abbrev pub OverMemory :
    {A C : Type 0} → AirGhosts A → (C → Option (List ℕ)) → A → A → C → C → SessionTerms → Status → Type 0
OverMemory air given before now clock clock_now terms status =
    IsUntouched before now clock clock_now status ⊎ InMemory air given before now clock clock_now terms status

-- the session was served over the disk that the word DISK names, and where it names none, this disk was left alone
abbrev pub OverNamed :
    {A C D : Type 0} → DiskWord → Seen D A C → Lent D A C → Lent D A C → SessionTerms → Status → Type 0
OverNamed Named seen old new terms status = OverDisk seen old new terms status
OverNamed Fresh seen old new terms status =
    (new.disk ≡ old.disk) × OverMemory seen.air seen.given old.air new.air old.clock new.clock terms status

-- Where the words ask for a session, it is served so; or there was no memory to read the words, and nothing was touched.
abbrev pub RunsSession : {A C D : Type 0} → List (List ℕ) → Seen D A C → Lent D A C → Lent D A C → Status → Type 0
RunsSession words seen old new status =
    (asked : SessionRequest) → IsSession words asked
    → (IsUntouched old.air new.air old.clock new.clock status × (new.disk ≡ old.disk))
    ⊎ OverNamed asked.disk seen old new (run_terms asked) status

-- Whether a client's command with this status may have come to its outcome. What the air does after that changes no status.
abbrev pub may_have_outcome : Status → Bool
may_have_outcome Done = true
may_have_outcome (Refused by) = true
may_have_outcome Out = true
may_have_outcome Shelf = true
may_have_outcome LinkDown = true
may_have_outcome (Strange kind) = true
may_have_outcome status = false

-- The words ask for a client's command, which with this status may have come to its outcome: then a poll or a put may have
-- failed behind that.
abbrev pub MayPassOver : List (List ℕ) → Status → Type 0
MayPassOver words status = AsksClient words × IsTrue (may_have_outcome status)

-- The disk's counts of faults by the status; neither falls. Disk comes only in a session or a service over the disk that
-- DISK names, or in a client's command, and where the count of failed writes and syncs rose; or, in the recovery, before
-- anything was heard or said, where that of failed reads did. Where it doesn't come, the count of failed writes and syncs is
-- as it was. That of failed reads is, but in a session or a service over that disk, where a read that failed is told by
-- code 3.
pub record HasDiskCause {A D : Type 0} (words : List (List ℕ)) (reads writes : D → ℕ) (disk disk_now : D) (before now : A)
    (status : Status) : Type 0 where
  pub asked : status ≡ Disk → AsksDisk words
  pub rose :
      status ≡ Disk
      → Rose (writes disk) (writes disk_now) ⊎ (Rose (reads disk) (reads disk_now) × (now ≡ before))
  pub same : (status ≡ Disk → ⊥) → writes disk_now ≡ writes disk
  pub same_reads : (status ≡ Disk → ⊥) → (AsksStore words → ⊥) → reads disk_now ≡ reads disk
  pub no_less : (reads disk ≤ reads disk_now) × (writes disk ≤ writes disk_now)

-- The air's count of failed polls by the status. In a client's command that came to its outcome a poll may have failed
-- behind that.
pub record HasReadCause (words : List (List ℕ)) (before now : ℕ) (status : Status) : Type 0 where
  pub rose : status ≡ AirRead → Rose before now
  pub same : (status ≡ AirRead → ⊥) → (MayPassOver words status → ⊥) → now ≡ before

-- The air's count of failed puts by the status. After a fault of the disk a node that serves has one reply more to say, and
-- that may have failed too; over a disk in memory such a fault is want of memory. In a client's command that came to its
-- outcome a put may have failed behind that.
pub record HasWriteCause (words : List (List ℕ)) (before now : ℕ) (status : Status) : Type 0 where
  pub rose : status ≡ AirWrite → Rose before now
  pub same :
      (status ≡ AirWrite → ⊥) → (status ≡ Disk → AsksStore words → ⊥) → (status ≡ OutOfMemory → AsksFresh words → ⊥)
      → (MayPassOver words status → ⊥) → now ≡ before

-- each refusal of a disk's content comes exactly where the content stands for nothing, with what it stands for
pub record RefusesExactly {T : Type 0} (standing : Stands T) (status : Status) : Type 0 where
  pub not_a_store : (found : List ℕ) → (status ≡ BadStore (NotAStore found)) ↔ (standing ≡ no_store found)
  pub damaged : (at : ℕ) → (status ≡ BadStore (Damaged at)) ↔ (standing ≡ damaged_at at)

-- whether `send` ends so by the file, and not by its notes: before they are recovered
abbrev pub is_of_file : Status → Bool
is_of_file (Refused (Fault code)) = true
is_of_file NoSuch = true
is_of_file Shelf = true
is_of_file TooLong = true
is_of_file status = false

-- The content of the disk is refused only in a session or a service over the disk that DISK names, or in a client's
-- command. But for a fault of the disk and want of memory, and where the content is told, it is refused exactly where it
-- stands for no store, or for no notes; in `send` only where the file itself didn't end it before.
pub record HasStoreCause (words : List (List ℕ)) (content : Option (List ℕ)) (status : Status) : Type 0 where
  pub asked : (why : BadStoreWhy) → status ≡ BadStore why → AsksDisk words
  pub exact :
      (asked : SessionRequest) → IsSession words asked → asked.disk ≡ Named → (status ≡ Disk → ⊥)
      → (status ≡ OutOfMemory → ⊥) → IfSome content (λ octets. RefusesExactly (standing_of asked.blocks octets) status)
  pub exact_served :
      (asked : ServeRequest) → IsServe words asked → (status ≡ Disk → ⊥) → (status ≡ OutOfMemory → ⊥)
      → IfSome content (λ octets. RefusesExactly (standing_of asked.blocks octets) status)
  pub exact_notes :
      AsksClient words → (status ≡ Disk → ⊥) → (status ≡ OutOfMemory → ⊥)
      → (AsksSend words → IsTrue (is_of_file status) → ⊥)
      → IfSome content (λ octets. RefusesExactly (notes_standing octets) status)

-- A session or a service that is done read the end of the air behind turns that left it open, and no count of the air rose, nor that of the disk's failed
-- writes and syncs. That of failed reads may have: each was told by code 3.
pub record IsDoneAtEnd {A D : Type 0} (air : AirGhosts A) (reads writes : D → ℕ) (before now : A) (disk disk_now : D) :
    Type 0 where
  pub end : (turns : List Turn) × HearsAll (air.heard before) (air.heard now) turns × EndsWith turns turn.End
  pub air_reads : air.read_faults now ≡ air.read_faults before
  pub air_writes : air.write_faults now ≡ air.write_faults before
  pub disk_reads : reads disk ≤ reads disk_now
  pub disk_writes : writes disk_now ≡ writes disk

-- The words ask for a session, and what is told of the air, before and now, gives the turns of the run.
pub record SessionHeard {A : Type 0} (words : List (List ℕ)) (heard : A → Option (List Turn)) (before now : A) : Type 0 where
  pub asked : SessionRequest
  pub asks : IsSession words asked
  pub earlier : List Turn
  pub turns : List Turn
  pub told_before : heard before ≡ Some earlier
  pub told_now : heard now ≡ Some (earlier ++ turns)

-- Where the turns of a session are told, this holds of the disk that it is over, of how many polls it may make, and of
-- the turns.
abbrev pub WhereHeard :
    {A : Type 0} → List (List ℕ) → (A → Option (List Turn)) → A → A → (DiskWord → ℕ → List Turn → Type 0) → Type 0
WhereHeard words heard before now P =
    (told : SessionHeard words heard before now) → P told.asked.disk told.asked.polls told.turns

-- where the end of the air was heard, the run is done
abbrev pub IsDoneBy : Status → DiskWord → ℕ → List Turn → Type 0
IsDoneBy status which polls turns = HasEnd turns → status ≡ Done

-- a fault of this disk at a write or a sync, which of one in memory is want of memory
abbrev pub disk_fault : DiskWord → Status
disk_fault Named = Disk
disk_fault Fresh = OutOfMemory

-- where all polls were made, and none was the end or failed, the run is spent, but for a fault of saying or of the disk
abbrev pub IsSpentBy : Status → DiskWord → ℕ → List Turn → Type 0
IsSpentBy status which polls turns =
    length turns ≡ polls → AllByRecursion IsOpen turns → IsUnless status Spent (AirWrite ∷ disk_fault which ∷ [])
