use Rattle.std.proofs.Common.{◌≡◌, ◌-◌, ◌^◌, false}
use Rattle.file_journal.specs.Position.{StandsOn}
use Rattle.part_rows.proofs.journal.put.read_to_end.Given as goal

abbrev pub invariant-loop-kind : goal.invariant-loop-kind
invariant-loop-kind g l =
    StandsOn g.D.Disk l.journal l.disk × (l.journal.failed ≡ false) × (l.journal.layout ≡ l.fn.layout)
    × g.D.Disk.lasts l.fn.disk l.disk

abbrev pub decreases-loop-kind : goal.decreases-loop-kind
decreases-loop-kind g l = 2 ^ 63 - l.journal.place
