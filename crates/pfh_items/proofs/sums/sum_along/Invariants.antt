use Rattle.std.proofs.Common.{◌≡◌, take}
use Rattle.pfh_items.proofs.Names.{sum16}
use Rattle.pfh_items.proofs.sums.sum_along.Given as goal

-- the sum of the octets so far
abbrev pub invariant-loop-byte : goal.invariant-loop-byte
invariant-loop-byte l = l.sum ≡ sum16 (take l.byte-index l.bytes)
