-- The server has sent some frames, as replies in the attempt, and has fewer to give out.
use Rattle.air_rehearsal.proofs.Names.{Store, SameStore, Server, IsServer, server_most}
use Rattle.air_rehearsal.proofs.ServingSent.{RepliesSoFar}
use Rattle.air_rehearsal.proofs.serving.reply_all.Given as goal

abbrev pub invariant-loop-out : goal.invariant-loop-out
invariant-loop-out l =
    SameStore l.fn.server l.server
    × ((store : Store) (it : Server) → IsServer store l.fn.server it
    → RepliesSoFar store it l.server l.fn.attempt l.attempt)

abbrev pub decreases-loop-out : goal.decreases-loop-out
decreases-loop-out l = server_most l.server
