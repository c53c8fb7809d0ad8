use Rattle.turn_loop.proofs.SomeFrames.{some_frames}
use Rattle.turn_loop.proofs.laws.some_frames_law.Goals as goal

pub returns : goal.returns
returns c =
    some_frames c.one_frame.ensures c.frame_or_fault.ensures c.no_frame_at_a_fault.ensures c.parts_go_on.ensures.frames c.frames_have_octets.ensures
