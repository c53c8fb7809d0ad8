use Rattle.ax25_frames.proofs.FaultLaw.{one_fault}
use Rattle.ax25_frames.proofs.laws.one_fault.Goals as goal

pub returns : goal.returns
returns c = one_fault
