use Rattle.ax25_frames.proofs.FrameCases.{frame_or_fault}
use Rattle.ax25_frames.proofs.laws.frame_or_fault.Goals as goal

pub returns : goal.returns
returns c = frame_or_fault
