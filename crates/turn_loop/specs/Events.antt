-- The events of a node: what it hears and when it ticks, by the turns of its air and their moments.
use Rattle.std.specs.Prelude.{◌≡◌, ◌⊎◌, ℕ, List, [], ◌∷◌, ◌++◌, map}
use Rattle.px_base.specs.CallSign.{CallSign}
use Rattle.px_base.specs.Polling.{octets_of_turn}
use Rattle.px_base.specs.declared.air.Turn.{Turn}
use Rattle.px_base.specs.declared.air.Turn.TheVariants as turn
use Rattle.kiss.specs.KissText.{kiss_frames}
use Rattle.ax25_frames.specs.FrameText.{FrameText, FrameValue}
use Rattle.turn_loop.specs.Inputs.{unless_same}

-- a frame is heard at a moment; or the clock went on to this moment
pub data NodeEvent : Type 0 where
  hears : FrameValue → ℕ → NodeEvent
  ticks : ℕ → NodeEvent

-- the frame is for this station, and no repeater is named in it
pub record IsFor (me : CallSign) (frame : FrameValue) : Type 0 where
  pub dest : frame.dest ≡ me
  pub via : frame.via ≡ 0

-- no frame for this station has these octets
abbrev pub NoneFor : CallSign → List ℕ → Type 0
NoneFor me octets = (frame : FrameValue) → FrameText frame octets → IsFor me frame → ⊥

-- Of these lists of octets, in order, those that a frame for the station has are these frames; all others are passed
-- over.
abbrev pub FramesFor : CallSign → List (List ℕ) → List FrameValue → Type 0
FramesFor me [] frames = frames ≡ []
FramesFor me (octets ∷ others) frames =
    ((frame : FrameValue) × (later : List FrameValue) × FrameText frame octets × IsFor me frame
    × (frames ≡ frame ∷ later) × FramesFor me others later)
    ⊎ (NoneFor me octets × FramesFor me others frames)

-- After these octets, these others finish these frames for the station.
abbrev pub Finishes : CallSign → List ℕ → List ℕ → List FrameValue → Type 0
Finishes me before octets frames =
    (texts : List (List ℕ)) × (kiss_frames (before ++ octets) ≡ kiss_frames before ++ texts)
    × FramesFor me texts frames

-- these frames, all heard at this moment
abbrev pub heard_at : ℕ → List FrameValue → List NodeEvent
heard_at moment frames = map (λ frame. hears frame moment) frames

-- a tick of a turn, where the moment isn't the one of the last tick: none at the end of the air, nor where the poll
-- failed
abbrev pub tick_of : Turn → ℕ → ℕ → List NodeEvent
tick_of (turn.Bytes octets) last moment = unless_same last moment (ticks moment)
tick_of turn.Quiet last moment = unless_same last moment (ticks moment)
tick_of turn.Fail last moment = []
tick_of turn.End last moment = []

-- What turns at these moments, one each, bring to the station after these octets: the frames that the octets of the
-- first finish, all at its moment, then a tick where that isn't the moment of the last tick; and so on.
abbrev pub TurnsBring : CallSign → List ℕ → ℕ → List Turn → List ℕ → List NodeEvent → Type 0
TurnsBring me before last [] moments events = events ≡ []
TurnsBring me before last (next ∷ turns) [] events = ⊥
TurnsBring me before last (next ∷ turns) (moment ∷ moments) events =
    (frames : List FrameValue) × (later : List NodeEvent)
    × Finishes me before (octets_of_turn next) frames
    × (events ≡ heard_at moment frames ++ (tick_of next last moment ++ later))
    × TurnsBring me (before ++ octets_of_turn next) moment turns moments later

-- The events of a node's turns. The last tick's moment is the first turn's at the start, so that turn never ticks.
abbrev pub NodeEvents : CallSign → List Turn → List ℕ → List NodeEvent → Type 0
NodeEvents me turns [] events = (turns ≡ []) × (events ≡ [])
NodeEvents me turns (first ∷ moments) events = TurnsBring me [] first turns (first ∷ moments) events

-- the frames among events, in order
abbrev pub frames_in : List NodeEvent → List FrameValue
frames_in [] = []
frames_in (hears frame moment ∷ events) = frame ∷ frames_in events
frames_in (ticks moment ∷ events) = frames_in events
