-- The recovery is refused, or the session is served over what it gives.
use Rattle.std.proofs.Common.{refl, ◌∙◌, Ok}
use Rattle.server_node.proofs.Names.{AnswersRecovery, AreHandedOver, IsKnown, StoreState, at, lent, lent_party, login_text, new_server, on_rules_always, recovered_good, seen, session_course, store_form}
use Rattle.server_node.proofs.Ending.{Recovers, never-over, refused, unlisted}
use Rattle.server_node.proofs.sessions.CourseLemmas.{owes-first}
use Rattle.server_node.proofs.sessions.Sessions.{Ran, session-serves}
use Rattle.server_node.proofs.sessions.serving.session.Goals as goal

pub returns-in_err-store : goal.returns-in_err-store
returns-in_err-store g c =
    let h = c.in_err-store.ensures in
    let terms = c.args.terms.now in
    let serves = refused {T = StoreState} (seen g.D.Disk g.A.Air g.C.Clock.given) terms.limits.blocks terms.moment (Ran (IsKnown g.D.Disk c.args.disk.now) terms) (lent c.args.disk.now c.args.air.now c.args.clock.now) c.recover.new.disk
    c.in_err-store.field-0.0 c.from_residual.result c.from_residual.ensures.1 (record { refuses = h.refuses; untouched = h.untouched; untouched_damage = h.untouched_damage; memory = h.memory; runs = h.runs; since_start = h.since_start; since_sync = h.since_sync; within = h.within }) in
    record { refuses = serves.refuses; ends = serves.ends; clock = λ given. refl; counts = serves.counts; memory = serves.memory; runs = serves.runs }

-- there was no memory for the lists
pub returns-in_default : goal.returns-in_default
returns-in_default g c =
    let h = c.in_ok-store.ensures in
    let terms = c.args.terms.now in
    let serves = unlisted (seen g.D.Disk g.A.Air g.C.Clock.given) terms.limits.blocks terms.moment (Ran (IsKnown g.D.Disk c.args.disk.now) terms) (lent c.args.disk.now c.args.air.now c.args.clock.now) c.recover.new.disk c.in_ok-store.store
    (record { refuses = h.refuses; untouched = h.untouched; untouched_damage = h.untouched_damage; memory = λ is. absurd (cc is); runs = h.runs; since_start = h.since_start; since_sync = h.since_sync; within = h.within })
    (recovered_good g.D.Disk terms.limits.blocks (g.D.Disk.content c.args.disk.now) _ h.recovered.content) in
    record { refuses = serves.refuses; ends = serves.ends; clock = λ given. refl; counts = serves.counts; memory = serves.memory; runs = serves.runs }

-- LOGIN_RESP is what the server has to say first
pub take_turns-ended-requires : goal.take_turns-ended-requires
take_turns-ended-requires g c =
    let server = new_server c.args.terms.now.caller c.in_ok-store.store (login_text c.moment_of-first.result) in
    rw c.new-server.ensures (owes-first g.D.Disk g.met.D.Disk.lasts_same g.met.D.Disk.lasts_on (at server c.recover.new.disk) c.in_ok-store.ensures.recovered.ready refl refl)

pub answer_of-requires : goal.answer_of-requires
answer_of-requires g c =
    never-over (seen g.D.Disk g.A.Air g.C.Clock.given) AreHandedOver (session_course g.D.Disk) (lent_party c.new-server.result c.recover.new.disk c.args.air.now c.moment_of-first.new.clock) _ _ _ c.take_turns-ended.ensures.turns (λ p. refl)

pub returns : goal.returns
returns g c =
    let h = c.in_ok-store.ensures in
    let new = c.take_turns-ended.new in let mid = c.recover.new.disk in let store = c.in_ok-store.store in
    let answers : AnswersRecovery g.D.Disk store_form c.args.terms.now.limits.blocks (Ok store) c.args.disk.now mid =
    record { refuses = h.refuses; untouched = h.untouched; untouched_damage = h.untouched_damage; memory = λ is. absurd (cc is); runs = h.runs; since_start = h.since_start; since_sync = h.since_sync; within = h.within } in
    let recovers : Recovers g.D.Disk c.args.terms.now.limits.blocks c.args.disk.now mid store store =
    record { recovered = h.recovered; rules = on_rules_always g.D.Disk store mid h.recovered.ready c.state_law.ensures.rules; octets = h.octets; answers = answers } in
    let serves = session-serves (seen g.D.Disk g.A.Air g.C.Clock.given) c.args.terms.now c.moment_of-first.result store mid c.args.air.now c.moment_of-first.new.clock
    (lent_party new.party new.disk new.air new.clock) c.take_turns-ended.result (rw c.new-server.ensures at c.take_turns-ended.ensures.turns) g.met.D.Disk.lasts_same g.met.D.Disk.lasts_on c.args.disk.now store recovers c.args.clock.now c.moment_of-first.ensures.moment in
    rw c.answer_of.ensures
    (record { refuses = serves.refuses; ends = serves.ends; clock = λ given. c.take_turns-ended.ensures.clock given ∙ c.moment_of-first.ensures.clock given; counts = serves.counts; memory = serves.memory; runs = serves.runs })
