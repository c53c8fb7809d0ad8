-- The recovery is refused, or the server serves over what it gives.
use Rattle.std.proofs.Common.{None, Ok, arith, refl}
use Rattle.ftl0_server.specs.ServerState.{ServerState}
use Rattle.server_node.proofs.Names.{AnswersRecovery, IsKnown, NodeEvents, at, common_steps, lent, lent_party, seen, server_course, store_form}
use Rattle.server_node.proofs.Ending.{Recovers, never-over, refused}
use Rattle.server_node.proofs.on_air.ServerLemmas.{owes-none, Ran, server-serves, started}
use Rattle.server_node.proofs.on_air.serving.serve.Goals as goal

pub drive-station-requires-clause-owes : goal.drive-station-requires-clause-owes
drive-station-requires-clause-owes g c =
    let h = c.in_ok-server.ensures in
    let terms = c.args.terms.now in
    owes-none g.D.Disk g.met.D.Disk.lasts_same (at c.new-station.result c.start.new.disk)
    (started g.D.Disk terms terms.limits.blocks c.args.disk.now c.start.new.disk c.new-station.result c.in_ok-server.server c.new-station.ensures h.recovered h.server h.silent).0

pub answer_of-requires : goal.answer_of-requires
answer_of-requires g c =
    never-over (seen g.D.Disk g.A.Air g.C.Clock.given) (NodeEvents c.args.terms.now.me) (server_course g.D.Disk) (lent_party c.new-station.result c.start.new.disk c.args.air.now c.args.clock.now) _ _ _ c.drive-station.ensures.turns (λ p. refl)

pub returns : goal.returns
returns g c =
    let h = c.in_ok-server.ensures in
    let new = c.drive-station.new in let mid = c.start.new.disk in
    let terms = c.args.terms.now in let blocks = terms.limits.blocks in
    let station = c.new-station.result in let last = c.drive-station.result.0 in
    let up = started g.D.Disk terms blocks c.args.disk.now mid station c.in_ok-server.server c.new-station.ensures h.recovered h.server h.silent in
    let answers : AnswersRecovery g.D.Disk store_form blocks (Ok c.in_ok-server.server) c.args.disk.now mid =
    record { refuses = h.refuses; untouched = h.untouched; untouched_damage = h.untouched_damage; memory = λ is. absurd (cc is); runs = h.runs; since_start = h.since_start; since_sync = h.since_sync; within = h.within } in
    let recovers : Recovers g.D.Disk blocks c.args.disk.now mid c.in_ok-server.server station.server.store =
    rw c.new-station.ensures (record { recovered = h.recovered; rules = h.rules_on; octets = h.octets; answers = answers }) in
    let serves = server-serves (seen g.D.Disk g.A.Air g.C.Clock.given) terms (lent_party station mid c.args.air.now c.args.clock.now) (lent_party last new.disk new.air new.clock) c.drive-station.result.1 c.drive-station.ensures.turns
    g.met.D.Disk.lasts_same g.met.D.Disk.lasts_on up.0 c.args.disk.now c.in_ok-server.server recovers up.1 in
    rw c.answer_of.ensures (record { refuses = serves.refuses; ends = serves.ends; counts = serves.counts; memory = serves.memory; runs = serves.runs })

pub returns-in_err-server : goal.returns-in_err-server
returns-in_err-server g c =
    let h = c.in_err-server.ensures in
    let terms = c.args.terms.now in
    let serves = refused {T = ServerState} (seen g.D.Disk g.A.Air g.C.Clock.given) terms.limits.blocks None (Ran (IsKnown g.D.Disk c.args.disk.now) terms) (lent c.args.disk.now c.args.air.now c.args.clock.now) c.start.new.disk c.in_err-server.field-0.0
    c.from_residual.result c.from_residual.ensures.1
    (record { refuses = h.refuses; untouched = h.untouched; untouched_damage = h.untouched_damage; memory = h.memory; runs = h.runs; since_start = h.since_start; since_sync = h.since_sync; within = h.within }) in grind (arith, common_steps, serves)
