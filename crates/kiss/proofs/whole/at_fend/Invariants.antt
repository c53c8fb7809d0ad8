use Rattle.std.proofs.Common.{take}
use Rattle.kiss.proofs.Names.{HasNoFend}
use Rattle.kiss.proofs.whole.at_fend.Given as goal

abbrev pub invariant-loop-index : goal.invariant-loop-index
invariant-loop-index l = HasNoFend (take l.index l.octets)
