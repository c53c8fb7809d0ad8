-- Packets were taken from the octets as they were to those that are left.
use Rattle.std.proofs.Common.{◌++◌, length}
use Rattle.ftl0_server.proofs.Names.{octets_in, carrying, working_on}
use Rattle.ftl0_server.proofs.connection.Invariants.{IsTaking}
use Rattle.ftl0_server.proofs.connection.connection.take_packets.Given as goal

abbrev pub invariant-loop-left : goal.invariant-loop-left
invariant-loop-left g l =
    IsTaking g.D.Disk l.fn.moment (carrying l.fn.link.link (octets_in l.fn.link ++ l.fn.octets) l.fn.session) (carrying l.link.link (octets_in l.link ++ l.piece) l.session) (working_on l.fn.store l.fn.lists l.fn.disk) (working_on l.store l.lists l.disk)

abbrev pub decreases-loop-left : goal.decreases-loop-left
decreases-loop-left g l = length l.piece
