-- By the client of the number.
use Rattle.std.proofs.Common.{List, refl, subst, sym}
use Rattle.air_rehearsal.proofs.Names.{Transmission, MayCome, IsLane}
use Rattle.air_rehearsal.proofs.AllowedLemmas.{has-party, may-come, none-there, of-party}
use Rattle.air_rehearsal.proofs.stations.Stations.may_reach_client.Goals as goal

pub returns-in-Some : goal.returns-in-Some
returns-in-Some c world sound plays =
    let self = c.args.self.now in
    let stored = c.in-Some.party.now in
    let it = has-party self world sound plays c.args.client stored c.in-Some.ensures in
    of-party self world sound plays (MayCome (λ a. a.by_server) c.args.transmission) c.args.client stored
    c.may_come.result it
    (may-come self world sound plays (λ a. a.by_server) (λ lanes. lanes.by_server) (λ a count. refl) (λ count. refl)
    c.args.transmission
    stored c.args.client c.may_come.result it
    (λ list list_is.
    c.may_come.ensures list
    (subst (λ (l : List Transmission). IsLane stored.attempt.from_server l) (sym list_is) it.seat.plays.lanes.by_server)))

pub returns-in-None : goal.returns-in-None
returns-in-None c world sound plays =
    none-there c.args.self.now world sound plays (MayCome (λ a. a.by_server) c.args.transmission) c.args.client
    c.in-None.ensures
