-- The parts that the octets so far ended are shown.
use Rattle.std.proofs.Common.{drop, length, ◌-◌}
use Rattle.header_tool.proofs.frames.Showing.{IsShowing}
use Rattle.header_tool.proofs.frames.show.show_frames.Given as goal

abbrev pub invariant-loop-count : goal.invariant-loop-count
invariant-loop-count g l =
    IsShowing g.O.Out.shown g.O.Out.faults l.recorded l.fn.out l.reader.heard (drop l.count l.recorded) l.lines.bytes l.out

abbrev pub decreases-loop-count : goal.decreases-loop-count
decreases-loop-count g l = length l.recorded - l.count
