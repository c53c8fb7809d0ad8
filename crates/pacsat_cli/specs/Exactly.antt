-- Which status a client's command ends with, where it is told what its shelf and its disk had, and what its air and its
-- clock gave: each status but those of a fault and of want of memory comes exactly where its cause is there.
use Rattle.std.specs.Prelude.{◌≡◌, ◌↔◌, ℕ, List, [], ◌∷◌, length, Contains, Option, None, Some, IfSome, Ok, Err, ⊤}
use Rattle.std.specs.List.{AllByRecursion}
use Rattle.px_base.specs.Polling.{EndsWith, IsOpen}
use Rattle.px_base.specs.Shelves.{Holding, content_of}
use Rattle.px_base.specs.declared.air.Turn.{Turn}
use Rattle.px_base.specs.declared.air.Turn.TheVariants as turn
use Rattle.px_base.specs.declared.shelf.Shelf.{Ghosts as ShelfGhosts}
use Rattle.disk_model.specs.declared.disk.Disk.{Ghosts}
use Rattle.file_store.specs.Walk.{state}
use Rattle.turn_loop.specs.Lent.{Lent, Seen}
use Rattle.uploader.specs.Answers.{IsFull}
use Rattle.uploader.specs.Command.{NotesCommand}
use Rattle.uploader.specs.Notes.{Lists}
use Rattle.uploader.specs.State.{standing_of as notes_standing}
use Rattle.uploader.specs.Begun.TheVariants as begun
use Rattle.uploader.specs.NotesRefusal.TheVariants as refusal
use Rattle.ftl0_client.specs.Outcome.{Outcome}
use Rattle.ftl0_client.specs.Outcome.TheVariants as outcome
use Rattle.uploader.specs.declared.sum.FileSum.{FileSum}
use Rattle.uploader.specs.declared.terms.ClientTerms.{ClientTerms}
use Rattle.uploader.specs.Carried.{asked_of}
use Rattle.uploader.specs.Fetching.{download_of, file_asked}
use Rattle.uploader.specs.Led.{IsLedTo}
use Rattle.uploader.specs.Listing.{directory_of}
use Rattle.uploader.specs.Loading.{IsBad, IsLong, IsSendable, sum_of}
use Rattle.uploader.specs.Sending.{IsTaskFor, last_answer, upload_of}
use Rattle.command_words.specs.declared.terms.ClientTerms.{ClientTerms as AskedTerms}
use Rattle.command_words.specs.Words.{IsFetch, IsList, IsSend}
use Rattle.pacsat_cli.specs.declared.status.RefusedBy.TheVariants.{Fault, Server}
use Rattle.pacsat_cli.specs.declared.status.Status.{Status}
use Rattle.pacsat_cli.specs.declared.status.Status.TheVariants.{AirRead, AirWrite, Disk, Done, FileChanged, LinkDown, NoSuch, NotesFull, Out, OutOfMemory, Refused, Shelf, Spent, Strange, TooLong}
use Rattle.pacsat_cli.specs.Clients.{client_terms}

-- The status is none of a put that failed, of a fault of the disk, of the output or of the shelf, and of want of memory. That
-- of a fault comes only where its count rose: before an outcome, or, of output and shelf, behind it too. Want of memory has
-- no cause.
abbrev pub IsNoFault : Status → Type 0
IsNoFault status = ¬ Contains (AirWrite ∷ Disk ∷ Out ∷ Shelf ∷ OutOfMemory ∷ []) status

-- where it is none of them it is each other one exactly where that one's cause is there
abbrev pub ComesExactly : (Status → Type 0) → Status → Type 0
ComesExactly Cause status = IsNoFault status → (other : Status) → (status ≡ other) ↔ Cause other

-- ---- the causes of a command that came to its job

-- what a command asks for: a file is acknowledged, or fetched, or the list came
abbrev pub IsWanted : Option Outcome → Type 0
IsWanted (Some (outcome.Acked number)) = ⊤
IsWanted (Some (outcome.Fetched number)) = ⊤
IsWanted (Some outcome.Listed) = ⊤
IsWanted reached = ⊥

-- The client's link closed before an outcome, or the end of the air was read before one.
abbrev pub IsLinkDown : List Turn → Option Outcome → Type 0
IsLinkDown turns (Some (outcome.LinkDown why)) = ⊤
IsLinkDown turns None = EndsWith turns turn.End
IsLinkDown turns reached = ⊥

-- The cause of each status, by these turns, of which there are at most so many, and by what the definition makes of the job
-- over them. The last one, where nothing became of it: a poll failed; or all polls were made, and none was the end or
-- failed. What has no line here doesn't come.
abbrev pub IsCause : ℕ → List Turn → Option Outcome → Status → Type 0
IsCause polls turns reached Done = IsWanted reached
IsCause polls turns reached (Refused (Server code)) = reached ≡ Some (outcome.Refused code)
IsCause polls turns reached (Refused (Fault code)) = reached ≡ Some (outcome.BadFile code)
IsCause polls turns reached (Strange kind) = reached ≡ Some (outcome.Strange kind)
IsCause polls turns reached LinkDown = IsLinkDown turns reached
IsCause polls turns reached AirRead = (reached ≡ None) × EndsWith turns turn.Fail
IsCause polls turns reached Spent =
    (reached ≡ None) × (length turns ≡ polls) × AllByRecursion IsOpen turns
IsCause polls turns reached status = ⊥

-- ---- what is told

-- What is told of the disk: its content, which stands for these notes.
pub record NotesTold {D : Type 0} (g : Ghosts D) (disk : D) (start : Lists) : Type 0 where
  pub content : List ℕ
  pub told : g.content disk ≡ Some content
  pub stands : notes_standing content ≡ state start

-- The words ask for a file to be sent. The shelf tells that it has this one under the name, which may be sent, and the disk
-- the notes.
pub record SendTold {A C D S : Type 0} (words : List (List ℕ)) (g : Ghosts D) (s : ShelfGhosts S) (old : Lent D A C)
    (shelf : S) : Type 0 where
  pub asked : AskedTerms
  pub name : List ℕ
  pub asks : IsSend words asked name
  pub holding : Holding
  pub held : s.held shelf ≡ Some holding
  pub file : List ℕ
  pub there : content_of holding name ≡ Some file
  pub sendable : IsSendable file
  pub start : Lists
  pub notes : NotesTold g old.disk start

-- The notes have a task by which it is uploaded, a fresh one or the last one, and what is told of air and clock leads a
-- client that is asked for this upload, by the definition, to this outcome.
pub record UploadLed {A C D S : Type 0} (words : List (List ℕ)) (see : Seen D A C) (s : ShelfGhosts S)
    (old new : Lent D A C) (shelf : S) (of : SendTold words see.disk s old shelf) : Type 0 where
  pub task : ℕ
  pub number : ℕ
  pub first : List NotesCommand
  pub task_for : IsTaskFor (client_terms of.asked) of.start of.name (sum_of of.file) task number first
  pub turns : List Turn
  pub reached : Option Outcome
  pub led :
      IsLedTo see old new (asked_of (client_terms of.asked) of.start first (upload_of task number of.file)) turns
      reached

-- The words ask for a file to be fetched, the disk tells the notes, and air and clock what leads a client that is asked for
-- this download to this outcome.
pub record FetchLed {A C D : Type 0} (words : List (List ℕ)) (see : Seen D A C) (old new : Lent D A C) : Type 0 where
  pub asked : AskedTerms
  pub number : ℕ
  pub name : List ℕ
  pub asks : IsFetch words asked number name
  pub start : Lists
  pub notes : NotesTold see.disk old.disk start
  pub turns : List Turn
  pub reached : Option Outcome
  pub led :
      IsLedTo see old new
      (asked_of (client_terms asked) start [] (download_of (file_asked (client_terms asked) number name))) turns reached

-- The same of a list.
pub record ListLed {A C D : Type 0} (words : List (List ℕ)) (see : Seen D A C) (old new : Lent D A C) : Type 0 where
  pub asked : AskedTerms
  pub tokens : List ℕ
  pub asks : IsList words asked tokens
  pub start : Lists
  pub notes : NotesTold see.disk old.disk start
  pub turns : List Turn
  pub reached : Option Outcome
  pub led :
      IsLedTo see old new (asked_of (client_terms asked) start [] (directory_of tokens)) turns reached

-- ---- what comes

-- By what the shelf has under the name: it isn't there, is too long, or has that first fault; each exactly there.
pub record FileRefusedExactly (content : Option (List ℕ)) (status : Status) : Type 0 where
  pub no_such : (status ≡ NoSuch) ↔ (content ≡ None)
  pub too_long : (status ≡ TooLong) ↔ IsLong content
  pub bad_file : (code : ℕ) → (status ≡ Refused (Fault code)) ↔ IsBad content code

-- but for a fault of the shelf and want of memory, and where it is told what the shelf holds
abbrev pub SendRefuses : {S : Type 0} → List (List ℕ) → ShelfGhosts S → S → Status → Type 0
SendRefuses words s shelf status =
    (asked : AskedTerms) (name : List ℕ) → IsSend words asked name → ¬ (status ≡ Shelf) → ¬ (status ≡ OutOfMemory)
    → IfSome (s.held shelf) (λ holding. FileRefusedExactly (content_of holding name) status)

-- By the last task of the name: the file isn't the one of a task that is unfinished, with both as they are; a fresh task is
-- wanted, and 65,536 stand; each exactly there. Where the file was acknowledged before, the command is done.
pub record StartsExactly (terms : ClientTerms) (start : Lists) (name : List ℕ) (sum : FileSum) (status : Status)
    : Type 0 where
  pub changed :
      (kept given : FileSum)
      → (status ≡ FileChanged kept given)
      ↔ ((given ≡ sum) × (last_answer terms start name sum ≡ Err (refusal.Changed kept.length kept.digest)))
  pub full : (status ≡ NotesFull) ↔ ((last_answer terms start name sum ≡ Ok None) × IsFull start)
  pub already : (number : ℕ) → last_answer terms start name sum ≡ Ok (Some (begun.Already number)) → status ≡ Done

abbrev pub SendStarts :
    {A C D S : Type 0} → List (List ℕ) → Ghosts D → ShelfGhosts S → Lent D A C → S → Status → Type 0
SendStarts words g s old shelf status =
    (of : SendTold words g s old shelf) → IsNoFault status
    → StartsExactly (client_terms of.asked) of.start of.name (sum_of of.file) status

abbrev pub SendEndsExactly :
    {A C D S : Type 0} → List (List ℕ) → Seen D A C → ShelfGhosts S → Lent D A C → Lent D A C → S → Status → Type 0
SendEndsExactly words see s old new shelf status =
    (of : SendTold words see.disk s old shelf) (led : UploadLed words see s old new shelf of)
    → ComesExactly (IsCause of.asked.polls led.turns led.reached) status

abbrev pub FetchEndsExactly : {A C D : Type 0} → List (List ℕ) → Seen D A C → Lent D A C → Lent D A C → Status → Type 0
FetchEndsExactly words see old new status =
    (led : FetchLed words see old new) → ComesExactly (IsCause led.asked.polls led.turns led.reached) status

abbrev pub ListEndsExactly : {A C D : Type 0} → List (List ℕ) → Seen D A C → Lent D A C → Lent D A C → Status → Type 0
ListEndsExactly words see old new status =
    (led : ListLed words see old new) → ComesExactly (IsCause led.asked.polls led.turns led.reached) status
