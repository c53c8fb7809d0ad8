-- A step of an end: something comes, the layer above does what it does then, and the frames go out until nothing is to
-- be sent. In a run of two stations this is one event of one of them.
use Rattle.std.specs.Prelude.{◌≡◌, List, Option, None, Some}
use Rattle.ax25_frames.specs.FrameText.{FrameValue}
use Rattle.ax25_link.specs.declared.state.Heard.{Heard}
use Rattle.ax25_link.specs.declared.state.Heard.TheVariants.{Nothing, Closed}
use Rattle.ax25_link.specs.declared.state.Why.{Why}
use Rattle.ax25_link.specs.Window.{Window}
use Rattle.ax25_link.specs.Ends.{LinkEnd}
use Rattle.ax25_link.specs.Rows.{after_frame, heard_of}
use Rattle.ax25_link.specs.Timer.{after_tick, told_of_tick}
use Rattle.ax25_link.specs.Calls.{Doing, DoesAll}
use Rattle.ax25_link.specs.Sending.{IsQuiet, Drains}

-- what an end is given
pub data Coming : Type 0 where
  -- a frame from the peer
  frame : FrameValue → Coming
  tick : Coming

abbrev pub after_coming : Window → LinkEnd → Coming → LinkEnd
after_coming w end (frame f) = after_frame w end f
after_coming w end tick = after_tick end

-- what is reported of a tick, as what is reported of a frame
abbrev pub heard_of_tick : Option Why → Heard
heard_of_tick None = Nothing
heard_of_tick (Some reason) = Closed reason

-- what is reported to the layer above
abbrev pub heard_of_coming : Window → LinkEnd → Coming → Heard
heard_of_coming w end (frame f) = heard_of w end f
heard_of_coming w end tick = heard_of_tick (told_of_tick end)

-- Nothing is to be sent by the old end. This comes, and this is reported of it; the layer above does this; these frames
-- are sent, and then nothing is to be sent by the new end.
pub record LinkStep
    (w : Window) (old : LinkEnd) (coming : Coming) (heard : Heard) (doings : List Doing) (frames : List FrameValue)
    (new : LinkEnd) : Type 0 where
  pub quiet : IsQuiet w old
  pub told : heard ≡ heard_of_coming w old coming
  pub end : LinkEnd
  pub does : DoesAll (after_coming w old coming) doings end
  pub drains : Drains w end frames new
