-- Laws of a node's events.
use Rattle.std.specs.Prelude.{◌≡◌, ℕ, List}
use Rattle.px_base.specs.CallSign.{CallSign}
use Rattle.px_base.specs.Octets.{IsOctets}
use Rattle.px_base.specs.Polling.{octets_heard}
use Rattle.px_base.specs.declared.air.Turn.{Turn}
use Rattle.kiss.specs.KissText.{kiss_frames}
use Rattle.ax25_frames.specs.FrameText.{FrameValue}
use Rattle.turn_loop.specs.Events.{Finishes, FramesFor, NodeEvent, NodeEvents, frames_in}

-- Turns at moments bring one list of events, and no other.
abbrev pub OneRunLaw : Type 0
OneRunLaw =
    (me : CallSign) (turns : List Turn) (moments : List ℕ) (events others : List NodeEvent)
    → NodeEvents me turns moments events → NodeEvents me turns moments others → events ≡ others

-- The frames among the events are those of all octets heard, joined, in order: how they were cut into polls makes no
-- difference but for the moments.
abbrev pub FramesLaw : Type 0
FramesLaw =
    (me : CallSign) (turns : List Turn) (moments : List ℕ) (events : List NodeEvent)
    → NodeEvents me turns moments events → FramesFor me (kiss_frames (octets_heard turns)) (frames_in events)

-- Whatever octets came before, further ones finish some frames for the station, maybe none.
abbrev pub SomeFramesLaw : Type 0
SomeFramesLaw =
    (me : CallSign) (before octets : List ℕ) → IsOctets before → IsOctets octets
    → (frames : List FrameValue) × Finishes me before octets frames
