use Rattle.std.proofs.Common.{◌≡◌, List, ◌++◌, length}
use Rattle.pfh_reader.proofs.Names.{ItemValue, items_from, KeepsClaims}
use Rattle.pfh_reader.proofs.checker.take_items.Given as goal

-- those that were taken stand before those that are left
abbrev pub invariant-loop-item : goal.invariant-loop-item
invariant-loop-item l =
    record {
      stop : l.items.stop ≡ (items_from 0 l.octets).stop;
      taken : (done : List ItemValue) × (done ++ l.items.items ≡ (items_from 0 l.octets).items) × KeepsClaims done l.initial.claims l.claims;
    }

abbrev pub decreases-loop-item : goal.decreases-loop-item
decreases-loop-item l = length l.items.items
