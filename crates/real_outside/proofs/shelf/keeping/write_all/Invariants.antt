-- What reached the files wrote the octets before those that are left.
use Rattle.std.proofs.Common.{◌-◌, ◌≤◌, length}
use Rattle.real_outside.proofs.Names.{Asks}
use Rattle.real_outside.proofs.WriteByWrite.{Leads}
use Rattle.real_outside.proofs.shelf.keeping.write_all.Given as goal

abbrev pub invariant-loop-written : goal.invariant-loop-written
invariant-loop-written g l =
    record {
      within : l.written ≤ length l.bytes;
      reaches :
          Asks (g.S.FileSystem.calls l.fn.files) (g.S.FileSystem.calls l.files)
          (Leads l.bytes (g.S.FileSystem.number l.file) l.written);
    }

abbrev pub decreases-loop-written : goal.decreases-loop-written
decreases-loop-written g l = length l.bytes - l.written
