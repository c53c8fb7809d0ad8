-- By the client of the number.
use Rattle.std.proofs.Common.{length, sym, ap}
use Rattle.air_world.specs.Attempts.Party.{Party}
use Rattle.air_rehearsal.proofs.Names.{Option, option_and_then, option_map_or, Attempt, newest}
use Rattle.air_rehearsal.proofs.NumberedLemmas.{none-here, to-server-here}
use Rattle.air_rehearsal.proofs.generator.count_to_server.Goals as goal

pub returns-in-Some : goal.returns-in-Some
returns-in-Some c world plays =
    to-server-here c.args.stations.now world plays c.args.client c.in-Some.party.now c.in-Some.ensures c.count.result
    c.count.ensures

pub returns-in-None : goal.returns-in-None
returns-in-None c world plays =
    ap (λ (o : Option Party). option_map_or (λ (a : Attempt). length a.by_client) (option_and_then newest o) 0)
    (sym (none-here c.args.stations.now world plays c.args.client c.in-None.ensures))
