-- By the client of the number.
use Rattle.std.proofs.Common.{◌%◌, ◌^◌, length, sym, ap}
use Rattle.air_world.specs.Attempts.Party.{Party}
use Rattle.air_rehearsal.proofs.Names.{Option, option_map_or}
use Rattle.air_rehearsal.proofs.NumberedLemmas.{attempts-here, none-here}
use Rattle.air_rehearsal.proofs.generator.attempts_of.Goals as goal

pub returns-in-Some : goal.returns-in-Some
returns-in-Some c world plays =
    attempts-here c.args.stations.now world plays c.args.client c.in-Some.party.now c.in-Some.ensures

pub returns-in-None : goal.returns-in-None
returns-in-None c world plays =
    ap (λ (o : Option Party). option_map_or (λ (party : Party). length party.attempts % 2 ^ 64) o 0)
    (sym (none-here c.args.stations.now world plays c.args.client c.in-None.ensures))
