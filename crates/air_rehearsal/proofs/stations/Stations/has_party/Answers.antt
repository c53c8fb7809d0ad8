-- By the client of the number.
use Rattle.std.proofs.Common.{true, refl}
use Rattle.air_rehearsal.proofs.Names.{⊤}
use Rattle.air_rehearsal.proofs.AllowedLemmas.{has-party, none-there, of-party}
use Rattle.air_rehearsal.proofs.stations.Stations.has_party.Goals as goal

pub returns-in-Some : goal.returns-in-Some
returns-in-Some c world sound plays =
    let self = c.args.self.now in
    of-party self world sound plays (λ _. ⊤) c.args.client c.in-Some._party.now true
    (has-party self world sound plays c.args.client c.in-Some._party.now c.in-Some.ensures) (λ _. tt, λ _. refl)

pub returns-in-None : goal.returns-in-None
returns-in-None c world sound plays =
    none-there c.args.self.now world sound plays (λ _. ⊤) c.args.client c.in-None.ensures
