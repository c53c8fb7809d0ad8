-- What a client's calls do.
use Rattle.std.specs.Prelude.{◌≡◌, ℕ, List, true, false, Bool, Option, None, Some, Result, Ok, Err, ⊤}
use Rattle.disk_model.specs.declared.disk.Disk.{Ghosts}
use Rattle.ax25_frames.specs.FrameText.{FrameText, FrameValue, canonical}
use Rattle.ax25_link.specs.Kept.{SameStations}
use Rattle.disk_model.specs.Runs.{Leaves}
use Rattle.client_notes.specs.Notes.{Lists}
use Rattle.client_notes.specs.Several.{DoesSeveral, MakesFirst}
use Rattle.disk_model.specs.declared.halt.Halt.{Halt}
use Rattle.ftl0_client_job.specs.Taking.{with_notes}
use Rattle.ftl0_client.specs.Attempt.Attempted.{Attempted}
use Rattle.ftl0_client.specs.Attempt.AttemptState.{AttemptState, StopsAmong}
use Rattle.ftl0_client.specs.Attempt.Hearing.{after_hearing, packets_heard}
use Rattle.ftl0_client.specs.Client.{Client, ClientSends, attempt_for, client_hearing, client_next}
use Rattle.ftl0_client.specs.ClientState.{ClientState, GoWithAttempt, IsClient}

-- whatever client it stood for, it stands for what this makes of that now
abbrev pub Becomes : ClientState → ClientState → (Client → Client) → Type 0
Becomes old new made = (client : Client) → IsClient old client → IsClient new (made client)

-- Its attempt, which is there, stopped at a packet of this frame.
pub record StopsBy {D : Type 0} (g : Ghosts D) (client : Client) (frame : FrameValue) (old new : ClientState)
    (disk disk_now : D) (why : Halt) : Type 0 where
  pub a : Attempted
  pub hears : attempt_for client frame ≡ Some a
  pub was : AttemptState
  pub is_was : old.attempt ≡ Some was
  pub attempt : AttemptState
  pub is_attempt : new.attempt ≡ Some attempt
  pub stops :
      StopsAmong g (after_hearing client.window a frame) (packets_heard client.window a frame)
      (with_notes was old.notes disk) (with_notes attempt new.notes disk_now) why

-- What a frame does: the client is what it makes of it, and its commands are done; or the attempt that hears it stopped
-- at one of its packets, because the disk failed or there was no memory.
abbrev pub HearsBy :
    {D : Type 0} → Ghosts D → Client → FrameValue → ClientState → ClientState → D → D → Result ⊤ Halt → Type 0
HearsBy g client frame old new disk disk_now (Ok done) =
    IsClient new (client_hearing client frame).after
    × DoesSeveral g ⊥ old.notes new.notes disk disk_now (client_hearing client frame).noted
HearsBy g client frame old new disk disk_now (Err why) = StopsBy g client frame old new disk disk_now why

-- This frame was heard by a client that stands for this one. Since it came each image stands for the notes after the
-- first of the commands that the event has if nothing stops it, for some number of them.
pub record Hears {D : Type 0} (g : Ghosts D) (client : Client) (frame : FrameValue) (old new : ClientState)
    (disk disk_now : D) (result : Result ⊤ Halt) : Type 0 where
  pub by : HearsBy g client frame old new disk disk_now result
  pub since : Leaves g disk disk_now (λ _. MakesFirst client.lists (client_hearing client frame).noted)

-- What is handed out if this is sent next: nothing, and nothing changes; or the octets of its frame instead of those
-- that the buffer held. The client then stands for the one that has sent it.
abbrev pub HandsOut : Option ClientSends → ClientState → ClientState → List ℕ → List ℕ → Bool → Type 0
HandsOut None old new before now answer = (answer ≡ false) × (new ≡ old) × (now ≡ before)
HandsOut (Some sends) old new before now answer =
    (answer ≡ true) × IsClient new sends.after × (now ≡ canonical sends.frame) × FrameText sends.frame now

-- the same of whichever client it was
abbrev pub HandsOutNext : ClientState → ClientState → List ℕ → List ℕ → Bool → Type 0
HandsOutNext old new before now answer =
    (client : Client) → IsClient old client → HandsOut (client_next client) old new before now answer

-- its call, its server's and the window stay
pub record SameClient (old new : ClientState) : Type 0 where
  pub me : new.me ≡ old.me
  pub server : new.server ≡ old.server
  pub k : new.k ≡ old.k

-- the job, and what is reported of it, are as they were
pub record SameJob (old new : AttemptState) : Type 0 where
  pub job : new.job ≡ old.job
  pub octets : new.octets ≡ old.octets
  pub down : new.down ≡ old.down
  pub state : new.link.state ≡ old.link.state
  pub stations : SameStations old.link new.link

-- the attempt is the same, but that a frame was given out
abbrev pub SameAttempt : Option AttemptState → Option AttemptState → Type 0
SameAttempt None None = ⊤
SameAttempt None (Some new) = ⊥
SameAttempt (Some old) None = ⊥
SameAttempt (Some old) (Some new) = SameJob old new

-- giving out a frame changes nothing but the link, and the DM that was to be sent
pub record SameButFrames (old new : ClientState) : Type 0 where
  pub same : SameClient old new
  pub notes : new.notes ≡ old.notes
  pub attempt : SameAttempt old.attempt new.attempt

-- the notes are as they were, and go with the job if they did
pub record KeepsNotes (old new : ClientState) : Type 0 where
  pub same : SameClient old new
  pub notes : new.notes ≡ old.notes
  pub go_with : (lists : Lists) → GoWithAttempt lists old.attempt → GoWithAttempt lists new.attempt

-- the notes are as they were, and go with the job that was asked
pub record HasAsked (old new : ClientState) : Type 0 where
  pub same : SameClient old new
  pub notes : new.notes ≡ old.notes
  pub go_with : GoWithAttempt new.notes.lists new.attempt
