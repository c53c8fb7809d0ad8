-- What reached the stream took the octets before those that are left.
use Rattle.std.proofs.Common.{◌-◌, ◌≤◌, length, take}
use Rattle.std.specs.Io.KnownBytes.{Appends}
use Rattle.real_outside.proofs.Names.{Asks}
use Rattle.real_outside.proofs.Written.{Leads}
use Rattle.real_outside.proofs.writing.write_all.Given as goal

abbrev pub invariant-loop-written : goal.invariant-loop-written
invariant-loop-written g l =
    record {
      within : l.written ≤ length l.bytes;
      tries : l.made ≤ 18446744073709551615;
      contents :
          Appends (g.W.OutputStream.contents l.fn.stream) (g.W.OutputStream.contents l.stream) (take l.written l.bytes);
      asks :
          Asks (g.W.OutputStream.calls l.fn.stream) (g.W.OutputStream.calls l.stream) (Leads l.bytes l.made l.written);
    }

abbrev pub decreases-loop-written : goal.decreases-loop-written
decreases-loop-written g l = 18446744073709551615 - l.made
