-- What reached the device gave the octets before those that are left.
use Rattle.std.proofs.Common.{◌≡◌, ◌+◌, ◌-◌, ◌≤◌, length, take}
use Rattle.real_outside.proofs.Names.{Asks, IsReadOf, all_given}
use Rattle.real_outside.proofs.Moving.{Leads}
use Rattle.real_outside.proofs.disk.moves.fill.Given as goal

abbrev pub invariant-loop-filled : goal.invariant-loop-filled
invariant-loop-filled g l =
    record {
      within : l.filled ≤ length l.initial.room;
      reaches :
          Asks (g.V.Device.calls l.fn.device) (g.V.Device.calls l.device)
          (λ calls.
          Leads (λ before. IsReadOf (l.at + before) (length l.initial.room - before)) (length l.initial.room) l.filled calls
          × (all_given calls ≡ take l.filled l.room));
    }

abbrev pub decreases-loop-filled : goal.decreases-loop-filled
decreases-loop-filled g l = length l.initial.room - l.filled
