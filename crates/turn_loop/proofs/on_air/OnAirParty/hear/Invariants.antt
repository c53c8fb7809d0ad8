-- The octets up to this one were fed to the reader, and none of them finished a frame for the station.
use Rattle.std.proofs.Common.{take, length, ◌-◌}
use Rattle.turn_loop.proofs.Names.{at, octets_at}
use Rattle.turn_loop.proofs.OnAirLemmas.{IsFeeding}
use Rattle.turn_loop.proofs.on_air.OnAirParty.hear.Given as goal

abbrev pub invariant-loop-count : goal.invariant-loop-count
invariant-loop-count g l = IsFeeding g.S.Station.me (at l.fn.self l.fn.disk) (octets_at l.fn.moment (take l.count l.fn.piece)) (at l.self l.disk)

abbrev pub decreases-loop-count : goal.decreases-loop-count
decreases-loop-count g l = length l.piece - l.count
