use Rattle.std.proofs.Common.{◌≡◌, ◌≤◌, length, take}
use Rattle.disk_model.proofs.Names.{before_writes}
use Rattle.disk_model.proofs.undoing.undo.Given as goal

abbrev pub invariant-loop-i : goal.invariant-loop-i
invariant-loop-i l =
    record {
      within : l.end ≤ length l.kept;
      rest : before_writes (take l.i l.writes) (take l.end l.kept) l.octets ≡ before_writes l.writes l.initial.kept l.initial.octets;
    }
