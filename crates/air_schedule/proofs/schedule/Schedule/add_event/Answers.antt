-- One more event is one more line.
use Rattle.std.proofs.Common.{◌≡◌, ◌∷◌, ◌++◌, [], List, map, ap, sym, subst, ◌∙◌}
use Rattle.air_schedule.proofs.Names.{map-append, Event, IsSchedule, Schedule, event_value, event_line, lines_of}
use Rattle.air_schedule.proofs.ScheduleLemmas.{IsSchedule-event, lines_of-event}
use Rattle.air_schedule.proofs.schedule.Schedule.add_event.Goals.{In_ok-push}
use Rattle.air_schedule.proofs.schedule.Schedule.add_event.Goals as goal

-- the events in memory stand for one more
events : (c : In_ok-push) → map event_value c.push.new.self.items ≡ map event_value c.self.inside.events.items ++ event_value c.args.event ∷ []
events c = ap (map event_value) c.in_ok-push.ensures.items ∙ map-append event_value c.self.inside.events.items (c.args.event ∷ [])

-- the schedule with these events in place of its own
with_events : (c : In_ok-push) → List Event → Schedule
with_events c all = record { size = c.self.inside.window; calls = c.self.inside.clients.items; events = all }

pub returns-clause-taken : goal.returns-clause-taken
unfolding with_events
returns-clause-taken c =
    ap (λ (all : List Event). lines_of (with_events c all)) (events c)
    ∙ lines_of-event (with_events c (map event_value c.self.inside.events.items)) (event_value c.args.event)
    ∙ ap (λ (s : Schedule). lines_of s ++ event_line (event_value c.args.event) ∷ []) c.self.view_is

pub returns-clause-schedule : goal.returns-clause-schedule
unfolding with_events
returns-clause-schedule c =
    subst (λ (all : List Event). IsSchedule (with_events c all)) (sym (events c))
    (IsSchedule-event (with_events c (map event_value c.self.inside.events.items)) (event_value c.args.event) c.self.invariant c.requires)
