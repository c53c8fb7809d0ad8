use Rattle.std.proofs.Common.{◌≡◌, List, ◌++◌, length}
use Rattle.pfh_reader.proofs.Names.{ItemValue, IsClaims}
use Rattle.pfh_reader.proofs.whole_file.claims_of.Given as goal

-- those that were taken stand before those that are left
abbrev pub invariant-loop-item : goal.invariant-loop-item
invariant-loop-item l = (done : List ItemValue) × (done ++ l.item-iterator.items ≡ l.header.items) × IsClaims done l.claims

abbrev pub decreases-loop-item : goal.decreases-loop-item
decreases-loop-item l = length l.item-iterator.items
