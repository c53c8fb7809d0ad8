use Rattle.ax25_frames.proofs.ReadLemmas.{AreRepeaters}
use Rattle.ax25_frames.proofs.address.read_repeaters.Given as goal

abbrev pub invariant-loop-via : goal.invariant-loop-via
invariant-loop-via l = AreRepeaters l.bytes l.via
