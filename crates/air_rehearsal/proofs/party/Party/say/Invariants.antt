-- The client still may hear a frame, and has fewer frames to give out; so many were sent so far.
use Rattle.std.proofs.Common.{◌≡◌}
use Rattle.air_rehearsal.proofs.Names.{Client, IsClient, client_most, HasLanes, Lanes, KeepsOthers, IsTheirs}
use Rattle.air_rehearsal.proofs.SayLemmas.{SaysSoFar}
use Rattle.air_rehearsal.proofs.party.Party.say.Given as goal

abbrev pub invariant-loop-out : goal.invariant-loop-out
invariant-loop-out g l =
    record {
      theirs : IsTheirs g.D.Disk l.self l._disk;
      keeps : KeepsOthers l.fn.self l.self;
      same : l._disk ≡ l.fn._disk;
      says :
          (client : Client) (lanes : Lanes) → IsClient l.fn.self.client client → HasLanes l.fn.self.attempt lanes
          → SaysSoFar client lanes l.self;
    }

abbrev pub decreases-loop-out : goal.decreases-loop-out
decreases-loop-out g l = client_most l.self.client
