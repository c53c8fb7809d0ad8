-- A step of a client by its attempt: which frames are sent, and what the client is then (AX.25 2.0, 2.4).
use Rattle.std.specs.Prelude.{◌≡◌, List, [], ◌∷◌, if◌then◌else◌, None, Some}
use Rattle.ax25_frames.specs.FrameText.{FrameValue}
use Rattle.ax25_link.specs.Calls.{Doing}
use Rattle.ax25_link.specs.Ends.{LinkEnd, call, calling_end}
use Rattle.ax25_link.specs.Frames.{frame_of_reply}
use Rattle.ax25_link.specs.LinkStep.{Coming, LinkStep, heard_of_coming}
use Rattle.ax25_link.specs.LinkStep as coming
use Rattle.ax25_link.specs.Refusals.{is_answered, refusal_frame}
use Rattle.client_notes.specs.Command.{NotesCommand}
use Rattle.ftl0_client_job.specs.Table.{JobState}
use Rattle.ftl0_client.specs.Attempt.Attempted.{Attempted, calling}
use Rattle.ftl0_client.specs.Attempt.Hearing.{hearing, ticking, with_end}
use Rattle.ftl0_client.specs.Attempt.Taking.{Happened, quietly}
use Rattle.ftl0_client.specs.Client.{Client, asks, attempt_for, heard_by, hears, ticks, with_attempt}
use Rattle.ftl0_client.specs.ClientStep.{ClientStep}

-- This arrives at the attempt's end of the link, and is a step of the link: the end had nothing to send, and after what
-- the job does then it is the one that the event makes. The frames are those that it sends until nothing is to be sent.
-- The event's commands are noted, and all else of the client is as it was.
pub record StepsBy (old : Client) (a : Attempted) (came : Coming) (happened : Happened) (noted : List NotesCommand)
    (frames : List FrameValue) (new : Client) : Type 0 where
  pub noted_is : noted ≡ happened.noted
  pub doings : List Doing
  pub last : LinkEnd
  pub link : LinkStep old.window a.end came (heard_of_coming old.window a.end came) doings frames last
  pub ends : link.end ≡ happened.after.end
  pub new_is : new ≡ (heard_by old (record happened { after = with_end happened.after last })).after

-- nothing is noted, these frames are sent, and this is the client then
pub record StepsQuietly (those : List FrameValue) (that : Client) (noted : List NotesCommand)
    (frames : List FrameValue) (new : Client) : Type 0 where
  pub noted_is : noted ≡ []
  pub frames_are : frames ≡ those
  pub new_is : new ≡ that

-- the SABM by which the client calls its server
abbrev pub sabm_of : Client → FrameValue
sabm_of client = frame_of_reply client.window (calling_end client.me client.server) call

-- the attempt that called for this job, and has sent that
abbrev pub called_for : Client → JobState → Attempted
called_for client job =
    with_end (calling client.me client.server job) (record (calling_end client.me client.server) { reply = None })

-- what is sent to a station with which there is no link: DM, if the frame is answered
abbrev pub answers_to : Client → FrameValue → List FrameValue
answers_to client frame =
    if is_answered frame then refusal_frame client.me (record { to = frame.src; poll = frame.poll }) ∷ [] else []

-- A step of a client. An asking sends one SABM, and nothing else. A frame that the attempt hears, and a tick, make of
-- it what they make of an attempt, by a step of its link, and the frames are what its end sends then. Any other frame
-- is answered by DM at most and leaves the client as it was, and so does a tick before anything was asked.
pub record StepLaw : Type 0 where
  pub asked :
      (old new : Client) (job : JobState) (noted : List NotesCommand) (frames : List FrameValue)
      → ClientStep old (asks job) noted frames new
      → StepsQuietly (sabm_of old ∷ []) (with_attempt old (called_for old job)) noted frames new
  pub heard :
      (old new : Client) (frame : FrameValue) (a : Attempted) (noted : List NotesCommand) (frames : List FrameValue)
      → ClientStep old (hears frame) noted frames new → attempt_for old frame ≡ Some a
      → StepsBy old a (coming.frame frame) (hearing old.window old.lists a frame) noted frames new
  pub passed :
      (old new : Client) (frame : FrameValue) (noted : List NotesCommand) (frames : List FrameValue)
      → ClientStep old (hears frame) noted frames new → attempt_for old frame ≡ None
      → StepsQuietly (answers_to old frame) old noted frames new
  pub ticked :
      (old new : Client) (a : Attempted) (noted : List NotesCommand) (frames : List FrameValue)
      → ClientStep old ticks noted frames new → old.attempt ≡ Some a
      → StepsBy old a coming.tick (quietly (ticking a)) noted frames new
  pub idle :
      (old new : Client) (noted : List NotesCommand) (frames : List FrameValue)
      → ClientStep old ticks noted frames new → old.attempt ≡ None → StepsQuietly [] old noted frames new
