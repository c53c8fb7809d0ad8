-- What reached the connection took the octets before those that are left.
use Rattle.std.proofs.Common.{◌-◌, ◌≤◌, length}
use Rattle.real_outside.proofs.Names.{Asks}
use Rattle.real_outside.proofs.tcp.Sending.{Leads}
use Rattle.real_outside.proofs.tcp.steps.send.Given as goal

abbrev pub invariant-loop-written : goal.invariant-loop-written
invariant-loop-written g l =
    record {
      within : l.written ≤ length l.bytes;
      asks :
          Asks (g.C.Connection.calls l.fn.connection) (g.C.Connection.calls l.connection) (Leads l.bytes l.written);
    }

abbrev pub decreases-loop-written : goal.decreases-loop-written
decreases-loop-written g l = length l.bytes - l.written
