use Rattle.std.proofs.Common.{◌≡◌, ◌*◌, ◌<◌, ◌++◌, drop, length}
use Rattle.ftl0_client_job.proofs.Names.{DoesSeveral, gots}
use Rattle.ftl0_client_job.proofs.download.note_blocks.Given as goal

-- this number of blocks is noted, and the octets that are left come after them
abbrev pub invariant-loop : goal.invariant-loop
invariant-loop g l = record {
  octets : l.block.items ++ l.left ≡ drop (512 * l.counter) (l.rest.items ++ l.octets);
  few : length l.block.items < 512;
  noted : DoesSeveral g.D.Disk ⊥ l.fn.notes l.notes l.fn.disk l.disk (gots l.server l.number l.counter (l.rest.items ++ l.octets));
}
