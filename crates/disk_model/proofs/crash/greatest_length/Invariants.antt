use Rattle.std.proofs.Common.{◌≡◌, ◌≤◌, min, length, take}
use Rattle.disk_model.proofs.Names.{surface_after, calls_of}
use Rattle.disk_model.proofs.crash.greatest_length.Given as goal

abbrev pub invariant-loop-write : goal.invariant-loop-write
invariant-loop-write l =
    record {
      most : l.most ≡ min (surface_after l.synced (calls_of (take l.write-index l.writes))).most 18446744073709551615;
      least : length l.synced ≤ l.most;
    }
