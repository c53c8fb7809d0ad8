-- The turns of the rounds that are left make up those of all.
use Rattle.std.specs.Prelude.{◌-◌}
use Rattle.air_rehearsal.proofs.Names.{cuts_by, rounds, Drives, driven_by, Turns}
use Rattle.air_rehearsal.proofs.DriveLemmas.{Owes}
use Rattle.air_rehearsal.proofs.generator.Driver.rounds.Given as goal

abbrev pub invariant-loop : goal.invariant-loop
invariant-loop g l =
    Drives g.B.Disk
    (cuts_by g.B.CutDisk.restarts g.B.CutDisk.arming g.B.CutDisk.plain g.B.CutDisk.is_starved)
    (Owes (Turns (rounds l.count)) (Turns (rounds (l.count - l.counter))))
    (driven_by l.fn.self l.fn.server l.fn.disk l.fn.disks) (driven_by l.self l.server l.disk l.disks)
