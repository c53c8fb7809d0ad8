-- Packets were taken from the octets as they were to those that are left.
use Rattle.std.proofs.Common.{◌++◌, length}
use Rattle.ftl0_client.proofs.Names.{octets_in, working}
use Rattle.ftl0_client.proofs.attempt.Invariants.{IsTaking}
use Rattle.ftl0_client.proofs.attempt.attempt.take_packets.Given as goal

abbrev pub invariant-loop-left : goal.invariant-loop-left
invariant-loop-left g l =
    IsTaking g.D.Disk (octets_in l.fn.link ++ l.fn.octets) (octets_in l.link ++ l.piece) (working l.fn.link.link l.fn.job l.fn.notes l.fn.disk) (working l.link.link l.job l.notes l.disk)

abbrev pub decreases-loop-left : goal.decreases-loop-left
decreases-loop-left g l = length l.piece
