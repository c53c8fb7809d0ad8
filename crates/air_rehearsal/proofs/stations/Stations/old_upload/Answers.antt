use Rattle.std.proofs.Common.{◌∙◌, subst}
use Rattle.air_rehearsal.proofs.Names.{IsLastGoing}
use Rattle.air_rehearsal.proofs.Comes.{resume_comes}
use Rattle.air_rehearsal.proofs.PlayParts.{if_ok}
use Rattle.air_rehearsal.proofs.stations.Stations.old_upload.Goals as goal

pub returns-in-Some-2 : goal.returns-in-Some-2
returns-in-Some-2 c =
    if_ok c.part_at.result _ _ c.part_at.ensures
    (λ it is.
    resume_comes c.args.self.now c.args.client it.0 c.in-Some-last_going.going.0 c.in-Some-last_going.going.1
    c.in-Some-2.file c.in-Some.party.now it.1 c.in-Some.ensures
    (λ seat at.
    subst (λ o. IsLastGoing seat.party.client.lists o) c.in-Some-last_going.is (c.last_going.ensures.last seat at))
    (λ world played plays party. c.in_ok-file.ensures world played plays party ∙ c.in-Some-2.is) is.0 is.1)
