-- So many disks as were made, each of them fresh.
use Rattle.std.proofs.Common.{◌≡◌, length}
use Rattle.pacsat_cli.proofs.Names.{All, IsFresh, cuts_by}
use Rattle.pacsat_cli.proofs.bench.fresh_disks.Given as goal

abbrev pub invariant-loop : goal.invariant-loop
invariant-loop g l = record {
  counted : length l.disks.items ≡ l.counter;
  fresh : All (IsFresh g.B.Disk (cuts_by g.B.CutDisk.restarts g.B.CutDisk.arming g.B.CutDisk.plain g.B.CutDisk.is_starved)) l.disks.items;
}
