use Rattle.std.proofs.Common.{◌-◌, length}
use Rattle.pfh_writer.proofs.Names.{stamp_of}
use Rattle.pfh_writer.proofs.FillingLemmas.{Walked}
use Rattle.pfh_writer.proofs.stamping.stamp.Given as goal

-- so far the items are filled in
abbrev pub invariant-loop-item : goal.invariant-loop-item
invariant-loop-item l = Walked (stamp_of l.server) l.initial.file l.file l.at l.sum_at l.change

abbrev pub decreases-loop-item : goal.decreases-loop-item
decreases-loop-item l = length l.initial.file - l.at
