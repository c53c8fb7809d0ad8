-- A tick at a session's end of the link: the attempt goes on, with no entry.
use Rattle.std.proofs.Common.{◌≡◌, ℕ, ◌+◌, List, [], ◌∷◌, ◌++◌, Bool, true, false, Option, None, Some, refl, sym, ap}
use Rattle.std.proofs.Common.{subst, ◌∙◌, append-nil}
use Rattle.std.specs.Prelude.{if◌then◌else◌, ◌&&◌}
use Rattle.ax25_link.specs.declared.state.Why.TheVariants as why
use Rattle.ax25_link.specs.Kept.{is_there}
use Rattle.ax25_link.specs.LinkStep as step
use Rattle.ftl0_server.specs.Connection.Hearing.{ticking, with_end}
use Rattle.ftl0_server.specs.Entries as session
use Rattle.air_world.proofs.attempts.Names.{AllByRecursion, concat, cond_both, CallSign, FrameValue, packets_of, rest_of, texts, Fits, Down, Up, Why, LinkEnd, LinkStep, heard_of_coming, entering, Drains, after_count, after_tick, is_down, is_spent, runs_out, told_of_tick, trying, Window, stations_law, command, Connected, caller_of, IsNotLost, SessionEntry, Attempt, IsAttempt, IsSession, ServerSide, SessionReaches}
use Rattle.air_world.proofs.attempts.LinkKeeps.{KeepsStreams, drains-keep, drains-quiet}
use Rattle.air_world.proofs.attempts.ServerLink.{answered-by, attempt-goes-on, gone, link-ticks}

-- ---- the end

-- what a tick leaves
pub record TickLeaves (end after : LinkEnd) : Type 0 where
  pub pushed : after.pushed ≡ end.pushed
  pub taken : after.taken ≡ end.taken

pub tick-leaves : (end : LinkEnd) → TickLeaves end (after_tick end)
tick-leaves end =
    let same : TickLeaves end end = record { pushed = refl; taken = refl } in
    cond_both (is_down end.state) end (after_count end) (TickLeaves end) (λ b. same)
    (λ b. cond_both (runs_out end) _ _ (TickLeaves end)
    (λ out. cond_both (is_spent end) (entering end Down) (trying end) (TickLeaves end)
    (λ s. record { pushed = refl; taken = refl }) (λ s. record { pushed = refl; taken = refl }))
    (λ out. record { pushed = refl; taken = refl }))

-- it is up still if it isn't reported down
tick-by : (end : LinkEnd) (out spent : Bool) → end.state ≡ Up
    → is_there (if out && spent then Some why.NoAnswer else None) ≡ false
    → (if out then (if spent then entering end Down else trying end) else record end { count = end.count + 1 }).state
    ≡ Up
tick-by end true true up goes = absurd cc
tick-by end true false up goes = up
tick-by end false spent up goes = up

pub tick-up : (c : Connected) → c.end.state ≡ Up → (ticking c).over ≡ false → (after_tick c.end).state ≡ Up
tick-up c up goes =
    let end : LinkEnd = c.end in
    let not_down : is_down end.state ≡ false = ap is_down up in
    let told : told_of_tick end ≡ (if runs_out end && is_spent end then Some why.NoAnswer else None) =
    ap (λ (b : Bool). if b then None else if runs_out end && is_spent end then Some why.NoAnswer else None) not_down in
    let is : after_tick end ≡ after_count end = ap (λ (b : Bool). if b then end else after_count end) not_down in
    ap (λ (e : LinkEnd). e.state) is
    ∙ tick-by end (runs_out end) (is_spent end) up (ap (λ (o : Option Why). is_there o) (sym told) ∙ goes)

-- ---- the session

-- the connection after the tick, with this end when all was sent
abbrev pub ticked_to : Connected → LinkEnd → Connected
ticked_to c last = with_end (ticking c).after last

-- the session after the tick, up or over
abbrev pub ticked_side : ServerSide → LinkEnd → Bool → ServerSide
ticked_side side last up =
    record side { connected = ticked_to side.connected last; entries = side.entries ++ []; is_up = up }

module _ (w : Window) (side : ServerSide) (frames : List FrameValue) (last : LinkEnd)
    (drains : Drains w (after_tick side.connected.end) frames last)
    (peer : last.peer ≡ side.connected.end.peer) (was_up : side.is_up ≡ true) where
  keeps : KeepsStreams (after_tick side.connected.end) last
  keeps = drains-keep w (after_tick side.connected.end) last frames drains

  taken-same : last.taken ≡ side.connected.end.taken
  taken-same = keeps.taken ∙ (tick-leaves side.connected.end).taken

  pub session-ticks : (up : Bool) → IsSession side → IsSession (ticked_side side last up)
  session-ticks up is =
      let same : side.entries ++ [] ≡ side.entries = append-nil side.entries in
      record {
        reached =
            subst (λ (entries : List SessionEntry). SessionReaches (caller_of (ticked_to side.connected last)) command
            entries side.connected.state) (sym same)
            (subst (λ (caller : CallSign). SessionReaches caller command side.entries side.connected.state) (sym peer)
            is.reached);
        unread = is.unread;
        packets =
            ap (λ (t : List (List ℕ)). packets_of (concat t)) taken-same ∙ is.packets
            ∙ ap (λ (entries : List SessionEntry). session.items_in entries ++ is.unread) (sym same);
        all = λ all. is.all (subst (AllByRecursion IsNotLost) same all);
        none_lost = λ still. subst (AllByRecursion IsNotLost) (sym same) (is.none_lost was_up);
        rest = is.rest ∙ sym (ap (λ (t : List (List ℕ)). rest_of (concat t)) taken-same);
        said =
            keeps.pushed ∙ (tick-leaves side.connected.end).pushed ∙ is.said
            ∙ ap (λ (entries : List SessionEntry). texts (side.greeting ∷ session.said_in entries)) (sym same);
        greets = is.greets;
        fits = subst (λ (entries : List SessionEntry). AllByRecursion Fits (side.greeting ∷ session.said_in entries))
            (sym same) is.fits;
      }

-- ---- the attempt

module _ (me server : CallSign) (a : Attempt) (side : ServerSide) (is : IsAttempt me server a)
    (has : a.server ≡ Some side) (was_up : side.is_up ≡ true)
    (link_up : side.connected.end.state ≡ Up) (w : Window) (same : a.window ≡ w) (frames : List FrameValue)
    (last : LinkEnd)
    (drains : Drains w (after_tick side.connected.end) frames last) (up : Bool) where
  drained : Drains a.window (after_tick side.connected.end) frames last
  drained = subst (λ (v : Window). Drains v (after_tick side.connected.end) frames last) (sym same) drains

  link-step : LinkStep a.window side.connected.end step.tick (heard_of_coming a.window side.connected.end step.tick) []
      frames last
  link-step = record {
    quiet = (answered-by me server a side is has).quiet;
    told = refl;
    end = after_tick side.connected.end;
    does = refl;
    drains = drained;
  }

  pub attempt-ticks : IsAttempt me server (gone a (ticked_side side last up) a.by_client frames)
  attempt-ticks =
      let sends =
      stations_law.step a.window side.connected.end last step.tick
      (heard_of_coming a.window side.connected.end step.tick) [] frames is.window link-step in
      attempt-goes-on me server a side (ticked_side side last up) a.by_client frames is has
      (record {
        call = is.call;
        from_client = is.stations.from_client;
        sends = sends;
        linked =
            link-ticks me server a side (heard_of_coming a.window side.connected.end step.tick) [] frames last is has
            link_up link-step;
        quiet = drains-quiet a.window (after_tick side.connected.end) last frames drained;
        session =
            session-ticks a.window side frames last drained (ap (λ s. s.peer) sends.stations) was_up up
            (answered-by me server a side is has).session;
      })
