-- The clients so far were sent the frame, if it is for them, and nothing else changed.
use Rattle.std.proofs.Common.{◌≡◌}
use Rattle.air_rehearsal.proofs.Names.{FrameText, FrameValue, KeepsClients}
use Rattle.air_rehearsal.proofs.ServingKeeps.{TimedSoFar}
use Rattle.air_rehearsal.proofs.stations.Stations.send.Given as goal

abbrev pub invariant-loop-i : goal.invariant-loop-i
invariant-loop-i l =
    KeepsClients l.fn.self l.self × (l.self.cut ≡ l.fn.self.cut)
    × ((frame : FrameValue) → FrameText frame l.octets → frame.dest ≡ l.dest
    → TimedSoFar frame l.i l.fn.self.parties.items l.self.parties.items)
