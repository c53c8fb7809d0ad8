-- What contracts see of a frame: its value, without where its octets lie.
use Rattle.std.specs.Prelude.{[], ◌∷◌}
use Rattle.ax25_frames.specs.declared.control.Control.{Control}
use Rattle.ax25_frames.specs.declared.control.Control.TheVariants as control
use Rattle.ax25_frames.specs.declared.frame.Frame.{Frame}
use Rattle.ax25_frames.specs.declared.frame.Kind.{Kind}
use Rattle.ax25_frames.specs.declared.frame.Kind.TheVariants as kind
use Rattle.ax25_frames.specs.Kinds.{KindValue}
use Rattle.ax25_frames.specs.FrameText.{FrameValue}

-- a kind without PID and information
abbrev pub bare_value : Control → KindValue
bare_value c = record { control = c; pid = []; information = [] }

-- a kind without where its information lies
abbrev pub kind_value : Kind → KindValue
kind_value (kind.I ns nr pid info) = record { control = control.I ns nr; pid = pid ∷ []; information = info.now }
kind_value (kind.Rr nr) = bare_value (control.Rr nr)
kind_value (kind.Rnr nr) = bare_value (control.Rnr nr)
kind_value (kind.Rej nr) = bare_value (control.Rej nr)
kind_value kind.Sabm = bare_value control.Sabm
kind_value kind.Disc = bare_value control.Disc
kind_value kind.Dm = bare_value control.Dm
kind_value kind.Ua = bare_value control.Ua
kind_value (kind.Frmr info) = record { control = control.Frmr; pid = []; information = info }
kind_value (kind.Ui pid info) = record { control = control.Ui; pid = pid ∷ []; information = info.now }

-- a frame without where its information lies
abbrev pub value_of : Frame → FrameValue
value_of frame =
    record { dest = frame.dest; src = frame.src; via = frame.via; kind = kind_value frame.kind; poll = frame.poll; command = frame.command }
