use Rattle.std.proofs.Common.{◌≡◌, ◌+◌, ◌%◌, take, sum}
use Rattle.pfh_items.proofs.sums.sum_beside.Given as goal

-- the sum of the octets so far
abbrev pub invariant-loop-i : goal.invariant-loop-i
invariant-loop-i l = l.sum ≡ (sum (take l.i l.first) + sum (take l.i l.second) + sum (take l.i l.third) + sum (take l.i l.fourth)) % 65536
