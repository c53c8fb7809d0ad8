-- What is true of each world between events, part by part, as a reader wants to know it.
use Rattle.std.specs.Prelude.{◌≡◌, ℕ, ◌<◌, ◌≤◌, List, ◌++◌, length, true, None, Some}
use Rattle.std.specs.Prelude.{IfSome}
use Rattle.px_base.specs.Octets.{IsFront}
use Rattle.ax25_link.specs.Linked.{NumbersFit, OctetsFit}
use Rattle.ax25_link.specs.Sending.{IsQuiet}
use Rattle.pfh_items.specs.Faults.{fault_code}
use Rattle.file_store.specs.Info.{IsCompleteIn}
use Rattle.file_store.specs.Store.{Entry, entry_of, partial}
use Rattle.ftl0_session.specs.Downloads.Needs.{AreComplete}
use Rattle.ftl0_session.specs.Table.{receiving}
use Rattle.ftl0_client.specs.Outcome.TheVariants as outcome
use Rattle.ftl0_client.specs.Outcomes.{outcome_by}
use Rattle.air_world.specs.Attempts.Attempt.{Attempt, client_station, server_station}
use Rattle.air_world.specs.Files.Facts.{AreFirstIfAny, HasNumber, IsBegun, IsFetching, IsOfferKept, got}
use Rattle.air_world.specs.Offered.{Offered}
use Rattle.air_world.specs.Files.SoundStore.{IsSoundStore}
use Rattle.air_world.specs.Attempts.Party.{IsLinkOf}
use Rattle.air_world.specs.Files.Kept.{HoldsAck, IsTaskAt, IsTaskKept, WhereStands}
use Rattle.air_world.specs.Attempts.Party.{EachAttempt, EachSide, IsFileOf, Party, newest}
use Rattle.air_world.specs.Attempts.Said.{AsksUpload, Grants, SaysComplete, said_behind_server}
use Rattle.air_world.specs.Attempts.Sides.{IsJob, IsSession, ServerSide}
use Rattle.air_world.specs.Sound.{AreGrantedOnce, ArePlaces}
use Rattle.air_world.specs.Files.UploadDialogue.{GoesOnWith}
use Rattle.air_world.specs.World.{PartyAt, World}

-- so it is of each client
abbrev pub EachParty : World → (Party → Type 0) → Type 0
EachParty world P = (c : ℕ) (party : Party) → PartyAt world c party → P party

-- so it is of the two sides of a client's current attempt, once both were made
abbrev pub OfCurrent : Party → (Attempt → ServerSide → Type 0) → Type 0
OfCurrent party P = IfSome (newest party) (λ a. IfSome a.server (P a))

-- No two tasks have one number. A task that has a number has a file; the number is below the next one, and its entry,
-- if it is there, is on the way to the file, or is it.
pub record AreNumbered (world : World) : Type 0 where
  pub distinct :
      (c task other that number : ℕ) (party others : Party) → PartyAt world c party → PartyAt world other others
      → HasNumber party task number → HasNumber others that number → (c ≡ other) × (task ≡ that)
  pub below :
      EachParty world (λ party. (task number : ℕ) → HasNumber party task number → number < world.server.store.next)
  pub stands :
      EachParty world
      (λ party. (task number : ℕ) → HasNumber party task number
      → IsTaskAt world.files world.server.store party task number)

-- An acknowledged task has a number, and its file is kept.
pub record AreAcknowledged (world : World) : Type 0 where
  pub numbered : EachParty world (λ party. (task number : ℕ) → HoldsAck party task number → HasNumber party task number)
  pub kept :
      EachParty world
      (λ party. (task number : ℕ) → HoldsAck party task number
      → IsTaskKept world.files world.server.store party task number)

-- The numbers of the two ends of a current attempt fit one another and their transmissions. Neither end has anything to
-- send, so no reply is owed for what was accepted.
pub record DoNumbersFit (a : Attempt) (side : ServerSide) : Type 0 where
  pub of_client : NumbersFit a.window (client_station a) (server_station a side)
  pub of_server : NumbersFit a.window (server_station a side) (client_station a)
  pub client_quiet : IsQuiet a.window a.client.attempted.end
  pub server_quiet : IsQuiet a.window side.connected.end

-- The octets of two ends do, also of an older attempt's: what each accepted are the first pieces that the other one
-- sent.
abbrev pub DoOctetsFit : Attempt → ServerSide → Type 0
DoOctetsFit a side =
    OctetsFit a.client.attempted.end side.connected.end × OctetsFit side.connected.end a.client.attempted.end

-- If a session receives a file and its client has a task with that number, what is held and what waits are the first
-- octets of the task's file, and what the client has said after them goes on with it.
pub record ReceivesFile
    (world : World) (party : Party) (a : Attempt) (side : ServerSide) (task number : ℕ) (rest : List ℕ)
    : Type 0 where
  pub file : List ℕ
  pub is_file : IsFileOf world.files party task file
  pub entry : Entry
  pub is_entry : entry_of world.server.store number ≡ Some entry
  pub held : List ℕ
  pub holds : entry.holding ≡ partial held
  pub front : IsFront (held ++ rest) file
  pub goes_on : GoesOnWith file (length (held ++ rest)) (said_behind_server side a.client)

-- Each session and each job, also one that is gone, is in the state to which its packets lead, and has said what they
-- ask for.
pub record AreInState (world : World) : Type 0 where
  pub sessions : EachParty world (λ party. EachSide party (λ _ side. IsSession side))
  pub jobs : EachParty world (λ party. EachAttempt party (λ a. IsJob a.client))
  pub receives :
      EachParty world
      (λ party. EachSide party
      (λ a side. (task number : ℕ) (rest : List ℕ) → side.is_up ≡ true
      → side.connected.state ≡ receiving number rest → HasNumber party task number
      → ReceivesFile world party a side task number rest))

-- The number isn't noted: no task has it, and the entry, if it is there, is the client's, of the upload's length, and
-- holds nothing.
pub record IsUnnoted (world : World) (party : Party) (number file_length : ℕ) : Type 0 where
  pub no_task : EachParty world (λ other. (task : ℕ) → ¬ HasNumber other task number)
  pub begun : WhereStands world.server.store number (IsBegun party.client.me file_length)

-- An answer to a new upload of this length names a number that is below the next one. Its attempt is one to send a
-- task's file, of that length, for the first time. As long as the task hasn't the number, it isn't noted.
pub record IsGiven (world : World) (party : Party) (a : Attempt) (number file_length : ℕ) : Type 0 where
  pub some : 1 ≤ number
  pub below : number < world.server.store.next
  pub task : ℕ
  pub file : List ℕ
  pub asks : AsksUpload a task 0 file
  pub is_file : IsFileOf world.files party task file
  pub length_is : file_length ≡ length file
  pub unnoted : ¬ HasNumber party task number → IsUnnoted world party number file_length

-- So is each such answer, and no two answers to new uploads name one number.
pub record AreGranted (world : World) : Type 0 where
  pub given :
      EachParty world
      (λ party. EachSide party
      (λ a side. (number file_length : ℕ) → Grants side number file_length
      → IsGiven world party a number file_length))
  pub once : AreGrantedOnce world

-- what a session said to be complete is
abbrev pub AreToldComplete : World → Type 0
AreToldComplete world =
    EachParty world
    (λ party. EachSide party
    (λ _ side. (number : ℕ) → SaysComplete side number → IsCompleteIn world.server.store number))

-- an offered number is below the next one, and if its entry is there it holds at least the offset
abbrev pub AreOffered : World → Type 0
AreOffered world = (number offset : ℕ) → Offered world number offset → IsOfferKept world.server.store number offset

-- What a client has got of a file are the first octets of a complete one; while octets come these go on with them,
-- and as many were got and wait as the offset that it asked from and the DATA that it took. A file that was fetched
-- has no fault.
pub record AreGot (world : World) : Type 0 where
  pub fronts : EachParty world (λ party. (number : ℕ) → AreFirstIfAny world.server.store number (got party number))
  pub fetching : EachParty world (λ party. IfSome (newest party) (IsFetching world.server.store party))
  pub fetched :
      EachParty world
      (λ party. (number : ℕ) → outcome_by party.client.attempt ≡ Some (outcome.Fetched number)
      → fault_code (got party number) ≡ None)

-- All parts. What they say of sides of attempts they say of the server's sessions and of the clients' jobs: these are
-- sides of attempts.
pub record HasParts (world : World) : Type 0 where
  pub places : ArePlaces world
  pub links : EachParty world (λ party. IsLinkOf (newest party) party.client.attempt)
  pub store : IsSoundStore world.server.store
  pub numbered : AreNumbered world
  pub acknowledged : AreAcknowledged world
  pub numbers : EachParty world (λ party. OfCurrent party DoNumbersFit)
  pub octets : EachParty world (λ party. EachSide party DoOctetsFit)
  pub states : AreInState world
  pub granted : AreGranted world
  pub complete : AreToldComplete world
  pub offered : AreOffered world
  pub files_got : AreGot world
  pub lists : AreComplete world.server.store world.server.lists
