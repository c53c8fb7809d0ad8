-- The server still stands on its disk, has sent some frames, and has fewer to give out.
use Rattle.std.proofs.Common.{◌≡◌}
use Rattle.air_rehearsal.proofs.Names.{Store, SameStore, Server, IsServer, server_most, IsUp, KeepsClients}
use Rattle.air_rehearsal.proofs.ServingKeeps.{SaysSoFar}
use Rattle.air_rehearsal.proofs.stations.Stations.say.Given as goal

abbrev pub invariant-loop-out : goal.invariant-loop-out
invariant-loop-out g l =
    IsUp g.D.Disk l.self l.server l._disk × KeepsClients l.fn.self l.self × (l.self.cut ≡ l.fn.self.cut)
    × SameStore l.fn.server l.server
    × ((store : Store) (it : Server) → IsServer store l.fn.server it
    → SaysSoFar store it l.server l.fn.self.parties.items l.self.parties.items)

abbrev pub decreases-loop-out : goal.decreases-loop-out
decreases-loop-out g l = server_most l.server
