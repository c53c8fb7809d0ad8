-- The answer to a station with which there is no link (AX.25 2.0, 2.4.3.4).
use Rattle.std.specs.Prelude.{Bool, false, ◌&&◌, ◌||◌}
use Rattle.px_base.specs.CallSign.{CallSign}
use Rattle.ax25_frames.specs.FrameText.{FrameValue}
use Rattle.ax25_frames.specs.declared.control.Control.TheVariants as control
use Rattle.ax25_frames.specs.Values.{bare_value}
use Rattle.ax25_link.specs.Rows.{is_call}
use Rattle.ax25_link.specs.declared.refusal.Refusal.{Refusal}

-- the DM to a station with which there is no link
abbrev pub refusal_frame : CallSign → Refusal → FrameValue
refusal_frame me refusal =
    record {
      dest = refusal.to;
      src = me;
      via = 0;
      kind = bare_value control.Dm;
      poll = refusal.poll;
      command = false;
    }

-- whether a station without a link answers a frame: SABM, or another command with P = 1
abbrev pub is_answered : FrameValue → Bool
is_answered frame = is_call frame.kind.control || (frame.command && frame.poll)
