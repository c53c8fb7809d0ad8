-- Whose an end is, and whose the frames are that it sends (AX.25 2.0, 2.2.13).
use Rattle.std.specs.Prelude.{◌≡◌, ◌<◌, List, Bool, Some}
use Rattle.std.specs.List.{AllByRecursion}
use Rattle.px_base.specs.CallSign.{CallSign}
use Rattle.ax25_frames.specs.Kinds.{kind_row}
use Rattle.ax25_frames.specs.FrameText.{FrameValue}
use Rattle.ax25_link.specs.Window.{Window, IsWindow}
use Rattle.ax25_link.specs.Ends.{LinkEnd}
use Rattle.ax25_link.specs.Calls.{Doing, DoesAll}
use Rattle.ax25_link.specs.Sending.{Sending, next_sending, Drains}
use Rattle.ax25_link.specs.declared.state.Heard.{Heard}
use Rattle.ax25_link.specs.LinkStep.{LinkStep, Coming, after_coming}

-- an end's station, the other one, and whether this one called
pub record Stations : Type 0 where
  pub called : Bool
  pub me : CallSign
  pub peer : CallSign

abbrev pub stations_of : LinkEnd → Stations
stations_of end = record { called = end.called; me = end.me; peer = end.peer }

-- A frame from this station to the other one, without repeaters; its sequence numbers are below m (2.3.2.4).
pub record IsFrameOf (w : Window) (stations : Stations) (frame : FrameValue) : Type 0 where
  pub src : frame.src ≡ stations.me
  pub dest : frame.dest ≡ stations.peer
  pub via : frame.via ≡ 0
  pub numbers : AllByRecursion (λ number. number < w.modulus) (kind_row frame.kind.control).numbers

-- the new end is of the same stations as the old one, and these frames are of that
pub record SendsOwn (w : Window) (old : LinkEnd) (frames : List FrameValue) (new : LinkEnd) : Type 0 where
  pub stations : stations_of new ≡ stations_of old
  pub own : AllByRecursion (IsFrameOf w (stations_of old)) frames

-- An end stays of the same stations, and sends frames of its station to the other one alone: whatever comes, whatever
-- the layer above does, whatever it sends, and over a whole step.
pub record StationsLaw : Type 0 where
  pub coming :
      (w : Window) (end : LinkEnd) (coming : Coming) → stations_of (after_coming w end coming) ≡ stations_of end
  pub does :
      (end last : LinkEnd) (doings : List Doing) → DoesAll end doings last → stations_of last ≡ stations_of end
  pub sends :
      (w : Window) (end : LinkEnd) (sending : Sending) → IsWindow w → next_sending w end ≡ Some sending
      → IsFrameOf w (stations_of end) sending.frame × (stations_of sending.after ≡ stations_of end)
  pub drains :
      (w : Window) (end last : LinkEnd) (frames : List FrameValue) → IsWindow w → Drains w end frames last
      → SendsOwn w end frames last
  pub step :
      (w : Window) (old new : LinkEnd) (coming : Coming) (heard : Heard) (doings : List Doing)
      (frames : List FrameValue) → IsWindow w → LinkStep w old coming heard doings frames new
      → SendsOwn w old frames new
