-- By the client of the number.
use Rattle.std.proofs.Common.{◌<◌}
use Rattle.air_rehearsal.proofs.Names.{most_tasks, task_count, IsFree, MayTakeFile, Seat}
use Rattle.air_rehearsal.proofs.AllowedLemmas.{both-if, both-unless, has-party, none-there, of-party}
use Rattle.air_rehearsal.proofs.stations.Stations.may_upload.Goals as goal

pub returns-then-is_free : goal.returns-then-is_free
returns-then-is_free c world sound plays =
    let self = c.args.self.now in
    let it = has-party self world sound plays c.args.client c.in-Some.party.now c.in-Some.ensures in
    let seat : Seat = record { world = world; c = it.c; party = it.party } in
    of-party self world sound plays MayTakeFile c.args.client c.in-Some.party.now c.has_room.result it
    (both-if (IsFree it.party) (task_count it.party.client.lists < most_tasks) c.is_free.result c.has_room.result
    (c.is_free.ensures.party seat it.seat) (c.has_room.ensures seat it.seat) c.if-is_free.true)

pub returns-else-is_free : goal.returns-else-is_free
returns-else-is_free c world sound plays =
    let self = c.args.self.now in
    let it = has-party self world sound plays c.args.client c.in-Some.party.now c.in-Some.ensures in
    of-party self world sound plays MayTakeFile c.args.client c.in-Some.party.now c.is_free.result it
    (both-unless (IsFree it.party) (task_count it.party.client.lists < most_tasks) c.is_free.result
    (c.is_free.ensures.party (record { world = world; c = it.c; party = it.party }) it.seat) c.if-is_free.false)

pub returns-in-None : goal.returns-in-None
returns-in-None c world sound plays =
    none-there c.args.self.now world sound plays MayTakeFile c.args.client c.in-None.ensures
