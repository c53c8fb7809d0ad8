-- What reached the device wrote the octets before those that are left.
use Rattle.std.proofs.Common.{◌+◌, ◌-◌, ◌≤◌, length, drop}
use Rattle.real_outside.proofs.Names.{Asks, IsWriteOf}
use Rattle.real_outside.proofs.Moving.{Leads}
use Rattle.real_outside.proofs.disk.moves.put.Given as goal

abbrev pub invariant-loop-written : goal.invariant-loop-written
invariant-loop-written g l =
    record {
      within : l.written ≤ length l.bytes;
      reaches :
          Asks (g.V.Device.calls l.fn.device) (g.V.Device.calls l.device)
          (Leads (λ before. IsWriteOf (l.at + before) (drop before l.bytes)) (length l.bytes) l.written);
    }

abbrev pub decreases-loop-written : goal.decreases-loop-written
decreases-loop-written g l = length l.bytes - l.written
