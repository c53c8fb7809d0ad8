use Rattle.ax25_frames.proofs.FrameLemmas.{no_frame}
use Rattle.ax25_frames.proofs.laws.no_frame_at_a_fault.Goals as goal

pub returns : goal.returns
returns c = no_frame
