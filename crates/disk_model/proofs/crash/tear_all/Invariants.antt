use Rattle.std.proofs.Common.{◌≡◌, length, take}
use Rattle.disk_model.proofs.Names.{IsOctets, surface_after, calls_of, synced_before}
use Rattle.disk_model.proofs.Crashes.{IsTorn}
use Rattle.disk_model.proofs.crash.tear_all.Given as goal

abbrev pub invariant-loop-write : goal.invariant-loop-write
invariant-loop-write l =
    record {
      size : length l.present.items ≡ l.length;
      octets : IsOctets l.present.items;
      same : l.pick.octet ≡ l.fn.pick.octet;
      synced : (surface_after (synced_before l.synced l.writes l.fn.kept l.fn.present.items) (calls_of (take l.write-index l.writes))).synced ≡ synced_before l.synced l.writes l.fn.kept l.fn.present.items;
      torn : IsTorn (surface_after (synced_before l.synced l.writes l.fn.kept l.fn.present.items) (calls_of (take l.write-index l.writes))) l.fn.pick.octet l.present.items;
    }
