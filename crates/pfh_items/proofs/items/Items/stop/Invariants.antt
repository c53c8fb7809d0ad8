use Rattle.std.proofs.Common.{◌≡◌, length}
use Rattle.pfh_items.proofs.items.Items.stop.Given as goal

-- those that are left end where all do
abbrev pub invariant-loop : goal.invariant-loop
invariant-loop l = l.left.stop ≡ l.self.stop

abbrev pub decreases-loop : goal.decreases-loop
decreases-loop l = length l.left.items
