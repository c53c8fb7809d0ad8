use Rattle.std.proofs.Common.{◌≡◌, ◌-◌, ◌≤◌, length, take, drop}
use Rattle.file_store_blocks.proofs.Names.{octets_on, IsTold, Reads}
use Rattle.file_store_blocks.proofs.file_blocks.read_octets.Given as goal

-- this number of octets was read
abbrev pub invariant-loop-done : goal.invariant-loop-done
invariant-loop-done g l = record {
  within : l.done ≤ length l.room;
  may_read : g.R.BlockReader.may_read l.reader l.disk;
  reads : Reads g.D.Disk ⊥ l.fn.disk l.disk;
  filled :
      IsTold (g.D.Disk.content l.fn.disk)
      → take l.done l.room ≡ take l.done (drop l.offset (octets_on (g.D.Disk.content l.fn.disk) l.table l.file));
}

abbrev pub decreases-loop-done : goal.decreases-loop-done
decreases-loop-done g l = length l.room - l.done
