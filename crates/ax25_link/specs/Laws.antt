-- Laws of a link's ends.
use Rattle.std.specs.Prelude.{◌≡◌, ℕ, List, [], Bool, false, Some, IsTrue, ◌∷◌, ⊤}
use Rattle.std.specs.List.{concat}
use Rattle.px_base.specs.CallSign.{CallSign}
use Rattle.px_base.specs.Octets.{IsFront}
use Rattle.ax25_frames.specs.FrameText.{FrameValue}
use Rattle.ax25_link.specs.Window.{Window, IsWindow}
use Rattle.ax25_link.specs.declared.state.LinkState.TheVariants.{Calling, Down}
use Rattle.ax25_link.specs.Ends.{LinkEnd, IsEnd, call, oldest, answering_end}
use Rattle.ax25_link.specs.Acknowledging.{Meaning, HasMeaning, meaning_of, is_bad}
use Rattle.ax25_link.specs.declared.state.Heard.{Heard}
use Rattle.ax25_link.specs.Rows.{entering, is_call}
use Rattle.ax25_link.specs.Calls.{Doing, DoesAll}
use Rattle.ax25_link.specs.Sending.{IsQuiet, Drains}
use Rattle.ax25_link.specs.LinkStep.{LinkStep, Coming, frame, tick}
use Rattle.ax25_link.specs.Air.{Transmission, IsAt, IsLawful, control_of, is_numbered, sending_all}
use Rattle.ax25_link.specs.Linked.{Station, AreLinked, IsOpened, ack_number}
use Rattle.ax25_link.specs.Acts.{Act, hear, MayAct, acting, facing, with_end}

-- Each N(R) has one meaning, which is the one computed.
abbrev pub OneMeaningLaw : Type 0
OneMeaningLaw =
    (w : Window) (end : LinkEnd) (nr : ℕ) → IsWindow w → IsEnd w end
    → HasMeaning w end nr (meaning_of w end nr)
    × ((meaning : Meaning) → HasMeaning w end nr meaning → meaning ≡ meaning_of w end nr)

-- Each end has nothing left to send after one list of frames.
abbrev pub DrainsLaw : Type 0
DrainsLaw =
    (w : Window) (end : LinkEnd) → IsWindow w → IsEnd w end
    → ((frames : List FrameValue) × (last : LinkEnd) × Drains w end frames last)
    × ((frames others : List FrameValue) (last another : LinkEnd) → Drains w end frames last → Drains w end others another
    → (frames ≡ others) × (last ≡ another))

-- no I or S frame is among the transmissions, and each SABM was delivered
pub record IsOpening (list : List Transmission) : Type 0 where
  pub none : (place : ℕ) (t : Transmission) → IsAt list place t → is_numbered (control_of t) ≡ false
  pub opened : IsOpened list

-- nothing was pushed, sent, acknowledged or accepted at this end
pub record IsUnused (end : LinkEnd) : Type 0 where
  pub pushed : end.pushed ≡ []
  pub queued : end.queued ≡ []
  pub sent : end.sent ≡ []
  pub acked : end.acked ≡ 0
  pub taken : end.taken ≡ []
  pub again : end.again ≡ 0
  pub reply : end.reply ≡ Some oldest → ⊥

-- When the SABM is answered, the two stations are linked: at the end that called nothing was sent or accepted yet, and
-- neither has sent an I or S frame.
abbrev pub OpeningLaw : Type 0
OpeningLaw =
    (w : Window) (caller : Station) (me peer : CallSign) (poll : Bool) (list : List Transmission)
    → IsWindow w → IsUnused caller.end → IsOpening caller.transmissions → IsOpening list
    → AreLinked w caller (record { end = answering_end me peer poll; transmissions = list })

-- Linked stations stay linked, whatever either of them does.
abbrev pub KeptLaw : Type 0
KeptLaw =
    (w : Window) (one other : Station) (act : Act) → IsWindow w → AreLinked w one other → MayAct w one other act
    → AreLinked w (acting w one act) (facing other act)

-- no SABM is among the frames, so that they belong to the attempt
abbrev pub HasNoCall : List FrameValue → Type 0
HasNoCall [] = ⊤
HasNoCall (f ∷ frames) = (is_call f.kind.control ≡ false) × HasNoCall frames

-- Only an end that is calling sends a SABM, at a tick: whatever else an end sends belongs to the attempt. `step` is a
-- whole step; `sent` is what is sent if none came, as by an end that answers.
pub record NoCallLaw : Type 0 where
  pub step :
      (w : Window) (old new : LinkEnd) (coming : Coming) (heard : Heard) (doings : List Doing) (frames : List FrameValue)
      → LinkStep w old coming heard doings frames new → (coming ≡ tick → old.state ≡ Calling → ⊥) → HasNoCall frames
  pub sent :
      (w : Window) (end next last : LinkEnd) (doings : List Doing) (frames : List FrameValue)
      → (end.reply ≡ Some call → ⊥) → DoesAll end doings next → Drains w next frames last → HasNoCall frames

-- the station with this end, after it sent these frames
abbrev pub having_sent : Station → LinkEnd → List FrameValue → Station
having_sent station end frames = record { end = end; transmissions = sending_all station.transmissions frames }

-- Linked stations stay linked when the layer above one of them does something and all its frames are sent.
abbrev pub SentLaw : Type 0
SentLaw =
    (w : Window) (one other : Station) (doings : List Doing) (frames : List FrameValue) (end last : LinkEnd)
    → IsWindow w → AreLinked w one other → DoesAll one.end doings end → Drains w end frames last → HasNoCall frames
    → AreLinked w (having_sent one last frames) other

-- They stay linked when one of them hears a frame of the other one by a lawful delivery, or a tick comes, and it makes
-- its whole step.
abbrev pub HeardLaw : Type 0
HeardLaw =
    (w : Window) (one other : Station) (place : ℕ) (t : Transmission) (heard : Heard) (doings : List Doing)
    (frames : List FrameValue) (last : LinkEnd)
    → IsWindow w → AreLinked w one other → IsQuiet w other.end → IsLawful w other.transmissions place t
    → LinkStep w one.end (frame t.frame) heard doings frames last
    → AreLinked w (having_sent one last frames) (facing other (hear place t))

abbrev pub TickedLaw : Type 0
TickedLaw =
    (w : Window) (one other : Station) (heard : Heard) (doings : List Doing) (frames : List FrameValue) (last : LinkEnd)
    → IsWindow w → AreLinked w one other → LinkStep w one.end tick heard doings frames last → HasNoCall frames
    → AreLinked w (having_sent one last frames) other

-- A transmission is delivered to a station whose end is gone, as it was last: only that it was delivered is noted. The
-- delivery need not be lawful.
abbrev pub DeliveredLaw : Type 0
DeliveredLaw =
    (w : Window) (one other : Station) (place : ℕ) (t : Transmission)
    → IsWindow w → AreLinked w one other → IsAt other.transmissions place t
    → AreLinked w one (facing other (hear place t))

-- no I or S frame and no SABM is among the frames
abbrev pub AreAnswers : List FrameValue → Type 0
AreAnswers [] = ⊤
AreAnswers (f ∷ frames) =
    (is_numbered f.kind.control ≡ false) × (is_call f.kind.control ≡ false) × AreAnswers frames

-- A station whose end is gone, as it was last, sends frames without numbers, as the DM that answers a command.
abbrev pub AnsweredLaw : Type 0
AnsweredLaw =
    (w : Window) (one other : Station) (frames : List FrameValue)
    → AreLinked w one other → AreAnswers frames → AreLinked w (having_sent one one.end frames) other

-- They stay linked when the link of one of them ends, and it sends nothing.
abbrev pub DownLaw : Type 0
DownLaw =
    (w : Window) (one other : Station) → AreLinked w one other
    → AreLinked w (with_end one (entering one.end Down)) other

-- which of the two stations is which doesn't matter
abbrev pub TurnedLaw : Type 0
TurnedLaw = (w : Window) (one other : Station) → AreLinked w one other → AreLinked w other one

-- What a linked station has accepted is a prefix of what the other one's layer above pushed.
abbrev pub FrontLaw : Type 0
FrontLaw =
    (w : Window) (one other : Station) → AreLinked w one other → IsFront (concat other.end.taken) one.end.pushed

-- No lawful delivery to a linked station shows a bad N(R).
abbrev pub NoBadLaw : Type 0
NoBadLaw =
    (w : Window) (one other : Station) (place : ℕ) (t : Transmission) → IsWindow w → AreLinked w one other → IsQuiet w other.end
    → IsLawful w other.transmissions place t → IsTrue (is_numbered (control_of t))
    → is_bad (meaning_of w one.end (ack_number (control_of t))) ≡ false

-- The prefix law, for every modulus m and window k with 1 <= k < m.
pub record PrefixLaw : Type 0 where
  pub opening : OpeningLaw
  pub kept : KeptLaw
  pub sent : SentLaw
  pub heard : HeardLaw
  pub ticked : TickedLaw
  pub no_call : NoCallLaw
  pub delivered : DeliveredLaw
  pub answered : AnsweredLaw
  pub down : DownLaw
  pub turned : TurnedLaw
  pub front : FrontLaw
  pub no_bad : NoBadLaw
