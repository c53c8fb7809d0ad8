-- By the client of the number.
use Rattle.air_rehearsal.proofs.Names.{IsFree}
use Rattle.air_rehearsal.proofs.AllowedLemmas.{has-party, none-there, of-party}
use Rattle.air_rehearsal.proofs.stations.Stations.may_ask.Goals as goal

pub returns-in-Some : goal.returns-in-Some
returns-in-Some c world sound plays =
    let self = c.args.self.now in
    let it = has-party self world sound plays c.args.client c.in-Some.party.now c.in-Some.ensures in
    of-party self world sound plays IsFree c.args.client c.in-Some.party.now c.is_free.result it
    (c.is_free.ensures.party (record { world = world; c = it.c; party = it.party }) it.seat)

pub returns-in-None : goal.returns-in-None
returns-in-None c world sound plays =
    none-there c.args.self.now world sound plays IsFree c.args.client c.in-None.ensures
