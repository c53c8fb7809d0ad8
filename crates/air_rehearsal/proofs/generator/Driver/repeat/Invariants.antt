-- The deliveries that are left make up all.
use Rattle.std.specs.Prelude.{◌+◌, ◌-◌}
use Rattle.air_rehearsal.proofs.Names.{cuts_by, Drives, driven_by, delivery_of, TriesTimes}
use Rattle.air_rehearsal.proofs.DriveLemmas.{Owes}
use Rattle.air_rehearsal.proofs.generator.Driver.repeat.Given as goal

abbrev pub invariant-loop : goal.invariant-loop
invariant-loop g l =
    Drives g.B.Disk
    (cuts_by g.B.CutDisk.restarts g.B.CutDisk.arming g.B.CutDisk.plain g.B.CutDisk.is_starved)
    (Owes (TriesTimes l.times (delivery_of l.way l.client (l.place + 1)))
    (TriesTimes (l.times - l.counter) (delivery_of l.way l.client (l.place + 1))))
    (driven_by l.fn.self l.fn.server l.fn.disk l.fn.disks) (driven_by l.self l.server l.disk l.disks)
