-- What a call does to a state that is kept in a journal, and to its disk, at every moment of it.
use Rattle.std.specs.Prelude.{◌≡◌, ℕ, ◌+◌, ◌<◌, ◌≤◌, List, [], length, take, slice_get, false, true, Some, IfSome}
use Rattle.std.specs.Prelude.{⊤}
use Rattle.disk_model.specs.declared.disk.Disk.{Ghosts}
use Rattle.file_journal.specs.Bounds.{StaysInHalves}
use Rattle.disk_model.specs.Runs.{EachImage, Leaves, Puts}
use Rattle.file_journal.specs.Commands.{AreAllowed, MakesBetween, MakesFirst, StayDone, after_all, after_first}
use Rattle.file_journal.specs.Commands.{done_at, octets_of}
use Rattle.file_journal.specs.Form.{Form}
use Rattle.file_journal.specs.Layout.{Blocks, blocks_on, rewriting_calls}
use Rattle.file_journal.specs.Position.{HasRoom, IsSameJournal, MovesOn, Position}
use Rattle.file_journal.specs.Steps.{Holds, Knows, Steps}
use Rattle.file_journal.specs.Walk.{KeepsStanding, state}
use Rattle.file_journal.specs.declared.kept.Kept.{Kept}

-- A state, the journal of its records, and the disk on which that stands: what a call is lent, and what it leaves.
pub record KeptOn (D S : Type 0) : Type 0 where
  pub now : S
  pub journal : Position
  pub disk : D

-- these three
abbrev pub kept_on : {D S : Type 0} → S → Position → D → KeptOn D S
kept_on now journal disk = record { now = now; journal = journal; disk = disk }

-- what a kept state and its disk are, by what a ledger holds of a state, and what that is seen as
abbrev pub kept_at : {D L K V : Type 0} → Ghosts D → (Blocks → K → V) → (L → K) → Kept L → D → KeptOn D V
kept_at g seen held kept disk =
    kept_on (seen (blocks_on (g.content disk)) (held kept.ledger)) kept.journal disk

-- The journal keeps the state on the disk: it has failed, or the content, where it is told, stands for the state, and
-- a crash leaves nothing else.
abbrev pub IsKept : {D S C : Type 0} → Ghosts D → Form S C → KeptOn D S → Type 0
IsKept g form at =
    KeepsStanding g at.journal (λ octets. form.standing at.journal.blocks octets ≡ state at.now) at.disk

-- A journal of this form's magic and layout holds this of the state that records made on the disk.
pub record StandsAt {D S K V C : Type 0} (g : Ghosts D) (form : Form V C) (steps : Steps S K) (journal : Position)
    (now : K) (disk : D) : Type 0 where
  pub magic_is : journal.magic ≡ form.magic
  pub layout_is : journal.layout ≡ form.layout
  pub holds : Holds g steps journal now disk

-- It hasn't failed, and the change of the state may be made.
pub record MayTurn {D S K V C : Type 0} (g : Ghosts D) (form : Form V C) (steps : Steps S K) (journal : Position)
    (now : K) (disk : D) (allowed : Type 0) : Type 0 where
  pub stands_at : StandsAt g form steps journal now disk
  pub healthy : journal.failed ≡ false
  pub may : allowed

-- The disk failed in one of the commands: the state, where it is known, is the one after those before it. Each image
-- has these, and that one or not; and those before it stay. They were done in time, and the one in which it failed
-- would have been: the first so many at the moment that `time` has of that number. The journal has failed.
pub record IsCut {D S C : Type 0} (g : Ghosts D) (form : Form S C) (time : ℕ → ℕ) (commands : List C)
    (old new : KeptOn D S) : Type 0 where
  pub count : ℕ
  pub fewer : count < length commands
  pub state : Knows form (g.content old.disk) → new.now ≡ after_first form count old.now commands
  pub failed : new.journal.failed ≡ true
  pub images : EachImage g new.disk (MakesBetween form count (count + 1) old.now commands)
  pub stay : IfSome (g.content old.disk) (λ _. StayDone g form time count old.now commands new.disk)
  pub calls : IfSome (g.content old.disk) (λ _. time count ≤ g.moment new.disk)
  pub at_most : IfSome (g.content old.disk) (λ _. g.moment new.disk ≤ time (count + 1))

-- How the calls of the disk go: what they leave of it where no command is done, which writes and syncs there are, and
-- which reads.
pub record Course (D : Type 0) : Type 1 where
  pub idle : D → D → Type 0
  pub puts : D → D → Type 0
  pub reads : D → D → Type 0

-- the journal, whose layout is the one of the form, has room for the records of these commands
abbrev pub HasRoomFor : {S C : Type 0} → Form S C → Position → List C → Type 0
HasRoomFor form journal commands = HasRoom (record journal { layout = form.layout }) (octets_of form commands)

-- When commands are done that come one behind another from this moment on: each takes the calls of the disk that its
-- form says, and those of a rewriting at most beside them; and the first so many take no others where the journal has
-- room for their records.
pub record Paces {S C : Type 0} (form : Form S C) (journal : Position) (start : ℕ) (commands : List C) (time : ℕ → ℕ)
    : Type 0 where
  pub starts : time 0 ≡ start
  pub rises :
      (count : ℕ) (command : C) → slice_get commands count ≡ Some command
      → time count + form.calls command ≤ time (count + 1)
  pub most :
      (count : ℕ) (command : C) → slice_get commands count ≡ Some command
      → time (count + 1) ≤ time count + form.calls command + rewriting_calls journal.blocks
  pub exact :
      (count : ℕ) → count ≤ length commands → HasRoomFor form journal (take count commands)
      → time count ≡ done_at form start commands count

-- A state whose journal hadn't failed did these commands, or the disk failed in one of them; what the state is is known
-- where it stands in no block, or where the disk tells. A crash since the start leaves the state after the first of
-- them, for some number of them, and no fewer than were done when it came: the first so many are done at the moment
-- that `time` has of that number. The commands come one behind another, and each takes its calls of the disk. The
-- journal keeps the state; but for its place, its half, and whether it failed, it is as it was. Where there was room
-- for all of their records, it goes on behind them in its half. In two halves nothing is written behind the store.
pub record DoesInTurn {D S C : Type 0} (g : Ghosts D) (form : Form S C) (course : Course D) (failed : Type 0)
    (commands : List C) (old new : KeptOn D S) : Type 0 where
  pub time : ℕ → ℕ
  pub paces : Paces form old.journal (g.moment old.disk) commands time
  pub healthy : old.journal.failed ≡ false
  pub stands_on : IsKept g form new
  pub allowed : Knows form (g.content old.disk) → AreAllowed form.allowed form.after old.now commands
  pub since : Leaves g old.disk new.disk (λ _. MakesFirst form old.now commands)
  pub stay :
      ¬ failed
      → IfSome (g.content old.disk) (λ _. StayDone g form time (length commands) old.now commands new.disk)
  pub calls : ¬ failed → IfSome (g.content old.disk) (λ _. g.moment new.disk ≡ time (length commands))
  pub at_most : g.moment new.disk ≤ time (length commands)
  pub none : commands ≡ [] → course.idle old.disk new.disk
  pub puts : course.puts old.disk new.disk
  pub reads : course.reads old.disk new.disk
  pub done :
      ¬ failed
      → (Knows form (g.content old.disk) → new.now ≡ after_all form.after old.now commands)
      × (new.journal.failed ≡ false)
  pub cut : failed → IsCut g form time commands old new
  pub journal : IsSameJournal old.journal new.journal
  pub moves :
      ¬ failed → HasRoomFor form old.journal commands
      → MovesOn (octets_of form commands) old.journal new.journal
  pub within : StaysInHalves g form.layout old.journal.blocks old.disk new.disk

-- writes and syncs alone, which failed or didn't
abbrev pub alone : {D : Type 0} → Ghosts D → Type 0 → Course D
alone g failed = record { idle = λ old new. new ≡ old; puts = Puts g failed; reads = λ old new. ⊤ }

-- It did these commands, and no other call of the disk.
abbrev pub Does : {D S C : Type 0} → Ghosts D → Form S C → Type 0 → List C → KeptOn D S → KeptOn D S → Type 0
Does g form failed commands old new = DoesInTurn g form (alone g failed) failed commands old new
