-- What stands on a disk from the recovery of a state on, through commands, to the end. A session says what stands
-- through them as `StandsThrough` at the form of its state. What it says of a recovery that gave a state is
-- `content` and `octets` of `IsRestored`, and of one that was refused with this fault `AnswersRecovery` of `Err` of
-- it. An upload says the same of its notes, with `CountsWrites` beside it, since no read comes behind their
-- recovery.
use Rattle.std.specs.Prelude.{◌≡◌, ℕ, ◌+◌, ◌<◌, ◌≤◌, List, ◌++◌, length, IfSome}
use Rattle.disk_model.specs.declared.disk.Disk.{Ghosts}
use Rattle.disk_model.specs.Runs.{CountsFault, EachImage, Leaves}
use Rattle.file_journal.specs.Commands.{AreAllowed, MakesBetween, MakesFirst, StayDone, after_all}
use Rattle.file_journal.specs.Form.{Form, StandsFor}
use Rattle.file_journal.specs.Kept.{HasRoomFor, Paces}
use Rattle.file_journal.specs.Position.{Position}
use Rattle.file_journal.specs.Recovery.{IsSyncedFirst}
use Rattle.file_journal.specs.Steps.{Knows}

-- No read of the disk failed behind the recovery: the count of failed reads is as it was before. That of failed writes
-- and syncs rose where the disk failed in a command, and nowhere else.
pub record CountsWrites {D : Type 0} (g : Ghosts D) (failed : Type 0) (disk disk_now : D) : Type 0 where
  pub reads : g.read_faults disk_now ≡ g.read_faults disk
  pub writes : CountsFault (g.write_faults disk) (g.write_faults disk_now) failed

-- The disk failed behind at least the first so many of these commands and before the end of the last one: each image
-- stands for the state after some number of them, or with one more. They were done in time, and the next one would
-- have been: the first so many at the moment that `time` has of that number. Since they are done, no crash leaves
-- fewer.
pub record IsInterrupted {D S C : Type 0} (g : Ghosts D) (form : Form S C) (start : S) (commands : List C)
    (least : ℕ) (time : ℕ → ℕ) (disk disk_now : D) : Type 0 where
  pub count : ℕ
  pub no_less : least ≤ count
  pub fewer : count < length commands
  pub images : EachImage g disk_now (MakesBetween form count (count + 1) start commands)
  pub stay : IfSome (g.content disk) (λ _. StayDone g form time count start commands disk_now)
  pub calls : IfSome (g.content disk) (λ _. time count ≤ g.moment disk_now)
  pub at_most : IfSome (g.content disk) (λ _. g.moment disk_now ≤ time (count + 1))

-- These commands were done to the state for which the disk's content stood, and those of the call in which the disk
-- failed, if it did, up to there. At every moment since the end of the first sync, which is the moment after the start,
-- each image stands for the state after the first of these commands, for some number of them; since the start, for
-- that, or for what a crash might have left before. They come one behind another from the moment `ready` on, at
-- which the recovery was done: the first so many are done at the moment that `time` has of that number. Each takes
-- the calls of the disk that its form says, and more only where the journal has no room for the records up to its own:
-- which journal that is, the crate above says. No other call is a write or a sync. Since the first so many are done, no
-- crash leaves fewer of them. At the end each image stands for the state after all of them, but where the disk failed.
pub record StandsThrough {D S C : Type 0} (g : Ghosts D) (form : Form S C) (failed : Type 0) (start : S)
    (done cut : List C) (disk disk_now : D) : Type 0 where
  pub allowed : Knows form (g.content disk) → AreAllowed form.allowed form.after start (done ++ cut)
  pub since_sync : IfSome (g.content disk) (λ _. IsSyncedFirst g disk disk_now (MakesFirst form start (done ++ cut)))
  pub since_start : Leaves g disk disk_now (λ _. MakesFirst form start (done ++ cut))
  pub ready : ℕ
  pub after_sync : IfSome (g.content disk) (λ _. g.moment disk + 1 ≤ ready)
  pub journal : Position
  pub time : ℕ → ℕ
  pub paces : Paces form journal ready (done ++ cut) time
  pub stay :
      ¬ failed
      → IfSome (g.content disk) (λ _. StayDone g form time (length (done ++ cut)) start (done ++ cut) disk_now)
  pub calls : ¬ failed → IfSome (g.content disk) (λ _. g.moment disk_now ≡ time (length (done ++ cut)))
  pub all_done : ¬ failed → EachImage g disk_now (StandsFor form (after_all form.after start (done ++ cut)))
  pub interrupted : failed → IsInterrupted g form start (done ++ cut) (length done) time disk disk_now

-- that journal had room for the records of all commands
abbrev pub HadRoom :
    {D S C : Type 0} {g : Ghosts D} {form : Form S C} {failed : Type 0} {start : S} {done cut : List C} {old new : D}
    → StandsThrough g form failed start done cut old new → Type 0
HadRoom {form = form} {done = done} {cut = cut} stands = HasRoomFor form stands.journal (done ++ cut)
