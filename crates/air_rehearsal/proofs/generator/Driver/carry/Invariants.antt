-- The transmissions that are left, behind the delivery that was put off, make up all.
use Rattle.air_rehearsal.proofs.Names.{option_map, None, IfSome, cuts_by, event_value, IsInRange, Drives, driven_by, delivery_of, Carries, between}
use Rattle.air_rehearsal.proofs.DriveLemmas.{Owes}
use Rattle.air_rehearsal.proofs.generator.Driver.carry.Given as goal

abbrev pub invariant-loop-place : goal.invariant-loop-place
invariant-loop-place g l =
    record {
      late : IfSome l.late (λ it. IsInRange (event_value it));
      drives :
          Drives g.B.Disk
          (cuts_by g.B.CutDisk.restarts g.B.CutDisk.arming g.B.CutDisk.plain g.B.CutDisk.is_starved)
          (Owes (Carries (delivery_of l.way l.client) None (between l.from l.to))
          (Carries (delivery_of l.way l.client) (option_map event_value l.late) (between l.place l.to)))
          (driven_by l.fn.self l.fn.server l.fn.disk l.fn.disks) (driven_by l.self l.server l.disk l.disks);
    }
