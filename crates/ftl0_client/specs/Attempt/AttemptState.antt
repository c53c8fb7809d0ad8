-- An attempt as contracts see it, which of the definitions' it stands for, and what its calls do.
use Rattle.std.specs.Prelude.{◌≡◌, ℕ, List, ◌∷◌, ◌++◌, Bool, false, not, ◌&&◌, Option, None}
use Rattle.std.specs.Prelude.{OnOk, Result, Ok, Err, IsErrOf, ⊤}
use Rattle.ax25_frames.specs.FrameText.{FrameValue}
use Rattle.disk_model.specs.declared.disk.Disk.{Ghosts}
use Rattle.ax25_link.specs.declared.state.Why.{Why}
use Rattle.ax25_link.specs.Kept.{IsFromPeer, Kept, SameStations, StandsFor, is_pending}
use Rattle.ax25_link.specs.Timer.{is_down}
use Rattle.ax25_link.specs.Window.{Window, window_of}
use Rattle.ftl0_packets.specs.Layout.{Item}
use Rattle.disk_model.specs.Runs.{Leaves, Puts}
use Rattle.client_notes.specs.Several.{DoesSeveral, MakesFirst}
use Rattle.client_notes.specs.State.{NotesState, StandsOn}
use Rattle.disk_model.specs.declared.halt.Halt.{Halt}
use Rattle.disk_model.specs.declared.halt.Halt.TheVariants as stop
use Rattle.ftl0_client_job.specs.JobState.{MayTake}
use Rattle.ftl0_client_job.specs.Noting.{HasNoted}
use Rattle.ftl0_client_job.specs.Table.{JobState}
use Rattle.ftl0_client_job.specs.Taking.{StopsAt, WithNotes, row_over, with_notes}
use Rattle.ftl0_client.specs.Attempt.Attempted.{Attempted}
use Rattle.ftl0_client.specs.Attempt.Hearing.{after_hearing, hearing, packets_heard}
use Rattle.ftl0_client.specs.Attempt.Taking.{Happened, taking}

-- the link, the octets that were accepted and of which no packet was taken yet, the job, and why the link went down
-- before an outcome
pub record AttemptState : Type 0 where
  pub link : Kept
  pub octets : List ℕ
  pub job : JobState
  pub down : Option Why

-- The attempt stands for this one.
pub record IsAttempt (w : Window) (attempt : AttemptState) (a : Attempted) : Type 0 where
  pub link : StandsFor w attempt.link a.end
  pub rest : attempt.octets ≡ a.rest
  pub job : attempt.job ≡ a.job
  pub down : attempt.down ≡ a.down

-- It stands for some attempt, with the window of its link.
abbrev pub IsSomeAttempt : AttemptState → Type 0
IsSomeAttempt attempt = (a : Attempted) × IsAttempt (window_of attempt.link.k) attempt a

-- Whatever attempt it stood for, it stands for what this makes of that now.
abbrev pub Becomes : AttemptState → AttemptState → (Window → Attempted → Attempted) → Type 0
Becomes before now made = (w : Window) (a : Attempted) → IsAttempt w before a → IsAttempt w now (made w a)

-- whether the attempt is over: the link is down, and nothing is to be sent
abbrev pub is_closed : Kept → Bool
is_closed link = is_down link.state && not (is_pending link)

-- A packet was to be taken by a job without an outcome. The disk failed in one of its row's commands; or there was no
-- memory for one of them, or none for the octets of a list, and the commands before are done. The job is as it was.
pub record StopsAtPacket {D : Type 0} (g : Ghosts D) (item : Item) (before now : WithNotes JobState D) (why : Halt) :
    Type 0 where
  pub no_outcome : before.state.ending ≡ None
  pub same : now.state ≡ before.state
  pub noted :
      HasNoted {T = ⊤} g before.notes now.notes before.disk now.disk (row_over before item).commands (Err why)
  pub memory : StopsAt {T = ⊤} before.state.work (Err why)

-- Of these packets of an event those before one were taken, from this attempt on, and their commands are done. At that
-- one it stopped, over the notes then.
pub record StopsAmong {D : Type 0} (g : Ghosts D) (a : Attempted) (items : List Item)
    (old new : WithNotes AttemptState D) (why : Halt) : Type 0 where
  pub before : List Item
  pub item : Item
  pub behind : List Item
  pub is_part : items ≡ before ++ item ∷ behind
  pub notes_then : NotesState
  pub disk_then : D
  pub done : DoesSeveral g ⊥ old.notes notes_then old.disk disk_then (taking old.notes.lists a before).noted
  pub stops :
      StopsAtPacket g item (with_notes (taking old.notes.lists a before).after.job notes_then disk_then)
      (with_notes new.state.job new.notes new.disk) why
  pub down : new.state.down ≡ a.down

-- What an event that makes this, by packets that are taken from this attempt on, does: all of it, and its commands are
-- done; or it stops at one of the packets.
abbrev pub HearsBy :
    {D : Type 0} → Ghosts D → Window → Happened → Attempted → List Item → WithNotes AttemptState D
    → WithNotes AttemptState D → Result ⊤ Halt → Type 0
HearsBy g w event a items before now (Ok done) =
    IsAttempt w now.state event.after × DoesSeveral g ⊥ before.notes now.notes before.disk now.disk event.noted
HearsBy g w event a items before now (Err why) = StopsAmong g a items before now why

-- This frame was heard by an attempt that stands for this one. Since it came each image stands for the notes after the
-- first of the commands that the event has if nothing stops it, for some number of them.
pub record Hears {D : Type 0} (g : Ghosts D) (w : Window) (a : Attempted) (frame : FrameValue)
    (before now : WithNotes AttemptState D) (result : Result ⊤ Halt) : Type 0 where
  pub by :
      HearsBy g w (hearing w before.notes.lists a frame) (after_hearing w a frame) (packets_heard w a frame) before now
      result
  pub since :
      Leaves g before.disk now.disk (λ _. MakesFirst before.notes.lists (hearing w before.notes.lists a frame).noted)

-- What a frame makes of an attempt before the end of the event, of whichever attempt it stands for; or it stopped at
-- one of the packets.
abbrev pub TakesFrame :
    {D : Type 0} → Ghosts D → FrameValue → WithNotes AttemptState D → WithNotes AttemptState D → Result ⊤ Halt → Type 0
TakesFrame g frame before now result =
    (w : Window) (a : Attempted) → IsAttempt w before.state a
    → HearsBy g w (taking before.notes.lists (after_hearing w a frame) (packets_heard w a frame))
    (after_hearing w a frame) (packets_heard w a frame) before now result

-- What the whole event is, of whichever attempt it stands for.
abbrev pub HearsFrame :
    {D : Type 0} → Ghosts D → FrameValue → WithNotes AttemptState D → WithNotes AttemptState D → Result ⊤ Halt → Type 0
HearsFrame g frame before now result =
    (w : Window) (a : Attempted) → IsAttempt w before.state a → Hears g w a frame before now result

-- What an attempt needs to hear a frame: it is the server's, nothing is pending, and the job may take a packet.
pub record MayHearFrame {D : Type 0} (g : Ghosts D) (attempt : AttemptState) (notes : NotesState) (disk : D)
    (frame : FrameValue) : Type 0 where
  pub frame_is : IsFromPeer attempt.link frame
  pub quiet : is_pending attempt.link ≡ false
  pub may : MayTake g notes disk attempt.job

-- what takes packets: a link and a job, over notes on a disk
pub record Working (D : Type 0) : Type 0 where
  pub link : Kept
  pub job : JobState
  pub notes : NotesState
  pub disk : D

abbrev pub working : {D : Type 0} → Kept → JobState → NotesState → D → Working D
working link job notes disk = record { link = link; job = job; notes = notes; disk = disk }

-- What an event leaves of them: what the next event needs, if nothing stopped it.
pub record LeavesFit {D T : Type 0} (g : Ghosts D) (before now : Working D) (result : Result T Halt) : Type 0 where
  pub may : OnOk result (MayTake g now.notes now.disk now.job)
  pub stands_on : StandsOn g now.notes now.disk
  pub stations : SameStations before.link now.link

-- what is claimed of the disk's counts
abbrev pub PutsBy : {D : Type 0} → Ghosts D → D → D → Result ⊤ Halt → Type 0
PutsBy g disk disk_now result = Puts g (IsErrOf result stop.Disk) disk disk_now
