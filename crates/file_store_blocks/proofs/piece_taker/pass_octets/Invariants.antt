use Rattle.std.proofs.Common.{◌-◌, ◌≤◌}
use Rattle.file_store_blocks.proofs.Names.{octets_on, TookFront, Reads}
use Rattle.file_store_blocks.proofs.piece_taker.pass_octets.Given as goal

-- this number of octets was handed on
abbrev pub invariant-loop-at : goal.invariant-loop-at
invariant-loop-at g l = record {
  within : l.at ≤ l.until;
  may_read : g.R.BlockReader.may_read l.reader l.disk;
  reads : Reads g.D.Disk ⊥ l.fn.disk l.disk;
  took :
      TookFront g.T.PieceTaker.took (g.D.Disk.content l.fn.disk) (octets_on (g.D.Disk.content l.fn.disk) l.table l.file) l.at
      l.fn.taker l.taker;
}

abbrev pub decreases-loop-at : goal.decreases-loop-at
decreases-loop-at g l = l.until - l.at
