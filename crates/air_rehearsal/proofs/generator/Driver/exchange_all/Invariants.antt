-- The exchanges that are left make up all.
use Rattle.std.specs.Prelude.{◌-◌}
use Rattle.air_rehearsal.proofs.Names.{cuts_by, Drives, driven_by, Drawing, Exchanges, none_looked}
use Rattle.air_rehearsal.proofs.DriveLemmas.{Owes}
use Rattle.air_rehearsal.proofs.generator.Driver.exchange_all.Given as goal

abbrev pub invariant-loop : goal.invariant-loop
invariant-loop g l =
    Drives g.B.Disk
    (cuts_by g.B.CutDisk.restarts g.B.CutDisk.arming g.B.CutDisk.plain g.B.CutDisk.is_starved)
    (Owes (λ (old new : Drawing). Exchanges 20 l.client (none_looked old.world l.client) old new)
    (Exchanges (20 - l.counter) l.client l.looked))
    (driven_by l.fn.self l.fn.server l.fn.disk l.fn.disks) (driven_by l.self l.server l.disk l.disks)
