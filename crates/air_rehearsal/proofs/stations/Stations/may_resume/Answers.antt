-- By the client of the number.
use Rattle.std.proofs.Common.{◌≡◌, ℕ, Some}
use Rattle.air_rehearsal.proofs.Names.{IsFree, last_unfinished, MayResume, Seat}
use Rattle.air_rehearsal.proofs.AllowedLemmas.{both-if, both-unless, going-some, has-party, none-there, of-party}
use Rattle.air_rehearsal.proofs.stations.Stations.may_resume.Goals as goal

pub returns-then-is_free : goal.returns-then-is_free
returns-then-is_free c world sound plays =
    let self = c.args.self.now in
    let it = has-party self world sound plays c.args.client c.in-Some.party.now c.in-Some.ensures in
    let seat : Seat = record { world = world; c = it.c; party = it.party } in
    of-party self world sound plays MayResume c.args.client c.in-Some.party.now c.is_some.result it
    (both-if (IsFree it.party) ((task : ℕ) × (last_unfinished it.party.client.lists ≡ Some task)) c.is_free.result
    c.is_some.result (c.is_free.ensures.party seat it.seat)
    (going-some it.party.client.lists c.last_going.result (c.last_going.ensures.last seat it.seat) c.is_some.result
    c.is_some.ensures) c.if-is_free.true)

pub returns-else-is_free : goal.returns-else-is_free
returns-else-is_free c world sound plays =
    let self = c.args.self.now in
    let it = has-party self world sound plays c.args.client c.in-Some.party.now c.in-Some.ensures in
    of-party self world sound plays MayResume c.args.client c.in-Some.party.now c.is_free.result it
    (both-unless (IsFree it.party) ((task : ℕ) × (last_unfinished it.party.client.lists ≡ Some task)) c.is_free.result
    (c.is_free.ensures.party (record { world = world; c = it.c; party = it.party }) it.seat) c.if-is_free.false)

pub returns-in-None : goal.returns-in-None
returns-in-None c world sound plays =
    none-there c.args.self.now world sound plays MayResume c.args.client c.in-None.ensures
