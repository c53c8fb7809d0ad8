-- A client may follow if there are fewer than eight, there is no event, and none has its call.
use Rattle.std.proofs.Common.{◌≡◌, ◌<◌, ◌≤◌, [], ◌∷◌, ◌++◌, length, map, true, false, ap, sym, subst, ◌∙◌, arith, length-append}
use Rattle.air_schedule.proofs.Names.{list_any, eqb-false, length-map, AreDistinct, IsSchedule, Schedule, event_value}
use Rattle.air_schedule.proofs.ScheduleLemmas.{IsSchedule-client, client_follows, is_known, is_new, is_same, not_distinct}
use Rattle.air_schedule.proofs.schedule.Schedule.add_client.Goals.{In_ok-push, then-is_full-via-then-is_full, then-is_full-via-else-is_full+then-not-is_empty, then-is_full-via-else-is_full+else-not-is_empty+then-contains}
use Rattle.air_schedule.proofs.schedule.Schedule.add_client.Goals as goal

pub returns-then-is_full-clause-none : goal.returns-then-is_full-clause-none
returns-then-is_full-clause-none c = λ _ more h.
    let found = client_follows c.args.self.now c.args.call more h in
    let calls : found.1.0.calls ≡ c.args.self.now.calls ++ c.args.call ∷ found.1.1 = found.1.3 in
    elim c.then-is_full.branch [
      | then-is_full-via-then-is_full w ↦
          let most : length found.1.0.calls ≤ 8 = found.1.2.most in
          omega (arith, ap length c.clients.ensures, ap length calls, length-append c.args.self.now.calls (c.args.call ∷ found.1.1))
      | then-is_full-via-else-is_full+then-not-is_empty w ↦
          let none : map event_value w.events.result.now ≡ [] = w.events.ensures ∙ found.0 in
          eqb-false _ 0 (sym w.is_empty.ensures ∙ w.if-not-is_empty.true) (omega (arith, length-map w.events.result.now event_value, ap length none))
      | then-is_full-via-else-is_full+else-not-is_empty+then-contains w ↦
          is_known c.args.self.now.calls c.args.call
          (subst (λ known. list_any (λ other. is_same other c.args.call) known ≡ true) w.clients-else-not-is_empty.ensures
          (sym w.contains.ensures.value ∙ w.if-contains.true))
          (not_distinct c.args.self.now.calls found.1.1 c.args.call (subst AreDistinct calls found.1.2.distinct))
    ]

-- the schedule with one more client
after : (c : In_ok-push) → IsSchedule (record { size = c.self.inside.window; calls = c.push.new.self.items; events = map event_value c.self.inside.events.items })
after c =
    let schedule : Schedule = record { size = c.self.inside.window; calls = c.self.inside.clients.items; events = map event_value c.self.inside.events.items } in
    let items : c.push.new.self.items ≡ c.self.inside.clients.items ++ c.args.call ∷ [] = c.in_ok-push.ensures.items in
    let same : c.self.inside.clients.items ≡ c.args.self.now.calls = ap (λ (s : Schedule). s.calls) c.self.view_is in
    let most : length c.self.inside.clients.items ≤ 8 = c.self.invariant.most in
    let few : length c.self.inside.clients.items < 8 = omega (arith, ap length same, ap length c.clients.ensures) in
    let new = is_new c.self.inside.clients.items c.args.call
    (subst (λ calls. list_any (λ other. is_same other c.args.call) calls ≡ false) (c.clients-else-not-is_empty.ensures ∙ sym same)
    (sym c.contains.ensures.value ∙ c.if-contains.false)) in
    subst (λ calls. IsSchedule (record { size = c.self.inside.window; calls = calls; events = map event_value c.self.inside.events.items })) (sym items)
    (IsSchedule-client schedule c.args.call c.self.invariant few new c.requires)

pub invariant_of-self-2 : goal.invariant_of-self-2
invariant_of-self-2 c = after c

pub returns-clause-schedule : goal.returns-clause-schedule
returns-clause-schedule c = after c
