-- What a frame and a tick make of an attempt, by the laws of a client's attempts.
use Rattle.std.proofs.Common.{◌≡◌, [], true, false, Option, None, Some, refl, sym, ap, ◌∙◌}
use Rattle.std.specs.Prelude.{if◌then◌else◌, ◌&&◌}
use Rattle.ax25_link.specs.declared.state.Why.TheVariants as why
use Rattle.ftl0_client.specs.Attempt.Hearing.{hearing}
use Rattle.ftl0_client.specs.Entries.{HearingLaw}
use Rattle.air_world.proofs.attempts.Names.{FrameValue, LinkState, Why, LinkEnd, heard_of_tick, refusal_frame, row, row_of_state, after_tick, is_down, is_spent, runs_out, told_of_tick, Window, after_all, Lists, Attempted, after_told, packets_told, ticking, with_end, IsToldDown, OutcomeLaw, settled, TickingLaw, entries_heard, entries_ticked}
use Rattle.air_world.proofs.attempts.ClientJob.{Happens}
use Rattle.air_world.proofs.attempts.ClientRows.{frame-comes, tick-comes, tick_outcome}
use Rattle.air_world.proofs.attempts.ClientWorks.{after_of}

pub frame-happens : HearingLaw → OutcomeLaw → (w : Window) (lists : Lists) (a : Attempted) (f : FrameValue)
    → a.end.called ≡ true → IsToldDown a
    → Happens lists (after_all lists (hearing w lists a f).noted) a (row w a.end f) f.kind.information
    (entries_heard w lists a f) (hearing w lists a f).after
frame-happens law outcome w lists a f called told =
    let heard = law w lists a f in
    let became = (outcome w lists a f told).0 in
    record {
      comes = frame-comes f w a.end called;
      now_is = refl;
      doings = heard.0.doings;
      does = heard.0.does;
      said = heard.0.said;
      items = heard.1;
      goes = heard.2;
      told_down = became.0;
      silent = λ down. ap (λ (s : LinkState). (row_of_state s w a.end f).heard) down;
    }

-- a tick brings no packet
tick-after : (lists : Lists) (a : Attempted) (end : LinkEnd) (o : Option Why)
    → settled (after_told (heard_of_tick o) (with_end a end) []) ≡ after_of lists a end [] (heard_of_tick o)
tick-after lists a end None = refl
tick-after lists a end (Some why) = refl

tick-items : (a : Attempted) (o : Option Why) → packets_told (heard_of_tick o) a [] ≡ []
tick-items a None = refl
tick-items a (Some why) = refl

pub tick-happens : TickingLaw → OutcomeLaw → (w : Window) (lists : Lists) (a : Attempted) → IsToldDown a
    → Happens lists lists a (tick_outcome a.end) [] (entries_ticked a) (ticking a)
tick-happens law outcome w lists a told =
    let ticked = law lists a in
    let some : FrameValue = refusal_frame a.end.me (record { to = a.end.peer; poll = false }) in
    let became = (outcome w lists a some told).1 in
    record {
      comes = tick-comes a.end;
      now_is = tick-after lists a (after_tick a.end) (told_of_tick a.end);
      doings = ticked.0.doings;
      does = ticked.0.does;
      said = ticked.0.said;
      items = tick-items a (told_of_tick a.end) ∙ sym ticked.1;
      goes = ticked.2;
      told_down = became.0;
      silent =
          λ down.
          ap
          (λ (s : LinkState).
          heard_of_tick (if is_down s then None else if runs_out a.end && is_spent a.end then Some why.NoAnswer else None))
          down;
    }
