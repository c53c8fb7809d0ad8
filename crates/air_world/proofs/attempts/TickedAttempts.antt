-- What becomes of a client's attempts at a tick of the server: the newest session goes on, or is over.
use Rattle.std.proofs.Common.{◌≡◌, ℕ, List, [], ◌∷◌, ◌++◌, Bool, false, Option, None, Some, refl, sym, ap, ap₂, subst}
use Rattle.std.proofs.Common.{◌∙◌}
use Rattle.ax25_link.specs.Timer as link
use Rattle.ftl0_server.specs.Connection.Hearing.{ticking}
use Rattle.ftl0_server.specs.StepLaws.Steps as server
use Rattle.air_world.specs.Attempts.Transfers.{after_tick}
use Rattle.air_world.proofs.attempts.Names.{IfSome, MatchOption, AllByRecursion, option_map_or, option_or, same_Some, CallSign, Drains, Window, ticks, Connected, caller_of, Server, ServerStep, Stepped, place_of, Attempt, IsAttempt, AreAttempts, Calls, IsBetween, IsNewestSession, IsSeatedIn, ServerTicksLaw, did_in, AreOver, OnlyNewestUp, newest_side, with_answered, ServerSide, ServerDid, connection_of, did_to, has_session, served, ticked_by}
use Rattle.air_world.proofs.attempts.Connections.{IsBehind, last-connection, new-seat, none-over, old-connection, old-none}
use Rattle.air_world.proofs.attempts.Connections.{session-up}
use Rattle.air_world.proofs.attempts.Drained.{to_station}
use Rattle.air_world.proofs.attempts.Places.{place-of-is, place-of-not, same-seat}
use Rattle.air_world.proofs.attempts.ServerHearing.{SlotEnds}
use Rattle.air_world.proofs.attempts.ServerLink.{gone}
use Rattle.air_world.proofs.attempts.ServerPlaces.{tick-places}
use Rattle.air_world.proofs.attempts.ServerTicks.{drained, tick-behind, tick-caller, tick-ends, tick-keeps-server, tick-seat}
use Rattle.air_world.proofs.attempts.SessionTicks.{attempt-ticks, ticked_to}
use Rattle.air_world.proofs.attempts.Sitting.{KeepsSeats, calls-kept}

-- ---- the newest attempt that a session answered

-- The attempt that another one becomes: it has this session.
pub record Becomes (me server : CallSign) (w : Window) (b : Attempt) (side : ServerSide) : Type 0 where
  pub is : IsAttempt me server b
  pub window : b.window ≡ w
  pub has : b.server ≡ Some side

-- Attempts of which the newest session is this one.
pub record NewestIs (me server : CallSign) (w : Window) (attempts : List Attempt) (side : ServerSide) : Type 0 where
  pub are : AreAttempts me server attempts
  pub windows : AllByRecursion (λ (a : Attempt). a.window ≡ w) attempts
  pub newest : newest_side attempts ≡ Some side
  pub only : OnlyNewestUp attempts
  pub over : side.is_up ≡ false → AreOver attempts

module _ (me server : CallSign) (w : Window) (change : Attempt → ServerSide → Attempt) (old new : ServerSide)
    (each : (a : Attempt) → IsAttempt me server a → a.window ≡ w → a.server ≡ Some old → Becomes me server w
    (change a old) new) where
  newest-changed : (a : Attempt) (older : List Attempt) → AreAttempts me server (a ∷ older)
      → AllByRecursion (λ (b : Attempt). b.window ≡ w) (a ∷ older)
      → a.server ≡ Some old → OnlyNewestUp (a ∷ older) → NewestIs me server w (change a old ∷ older) new
  newest-changed a older are windows has only =
      let b = each a are.0 windows.0 has in
      let others : AreOver older =
      subst (λ (o : Option ServerSide). MatchOption o (OnlyNewestUp older) (λ s. AreOver older)) has only in
      record {
        are = (b.is, are.1);
        windows = (b.window, windows.1);
        newest = ap (λ (o : Option ServerSide). option_or o (newest_side older)) b.has;
        only = subst (λ (o : Option ServerSide). MatchOption o (OnlyNewestUp older) (λ s. AreOver older)) (sym b.has)
            others;
        over = λ down. (subst (λ (o : Option ServerSide). IfSome o (λ s. s.is_up ≡ false)) (sym b.has) down, others);
      }

  later-changed : (a : Attempt) (older : List Attempt) → IsAttempt me server a → a.window ≡ w → a.server ≡ None
      → NewestIs me server w older new
      → NewestIs me server w (a ∷ older) new
  later-changed a older is window has later = record {
    are = (is, later.are);
    windows = (window, later.windows);
    newest = ap (λ (o : Option ServerSide). option_or o (newest_side older)) has ∙ later.newest;
    only = subst (λ (o : Option ServerSide). MatchOption o (OnlyNewestUp older) (λ s. AreOver older)) (sym has)
        later.only;
    over = λ down. (subst (λ (o : Option ServerSide). IfSome o (λ s. s.is_up ≡ false)) (sym has) tt, later.over down);
  }

  -- whether a session answered the first attempt
  changed-by : (a : Attempt) (older : List Attempt) (o : Option ServerSide) → a.server ≡ o
      → AreAttempts me server (a ∷ older)
      → AllByRecursion (λ (b : Attempt). b.window ≡ w) (a ∷ older) → OnlyNewestUp (a ∷ older)
      → newest_side (a ∷ older) ≡ Some old
      → (OnlyNewestUp older → newest_side older ≡ Some old → NewestIs me server w (with_answered change older) new)
      → NewestIs me server w (with_answered change (a ∷ older)) new
  changed-by a older None has are windows only newest later =
      let rest =
      later (subst (λ (o : Option ServerSide). MatchOption o (OnlyNewestUp older) (λ s. AreOver older)) has only)
      (ap (λ (o : Option ServerSide). option_or o (newest_side older)) (sym has) ∙ newest) in
      subst (λ (list : List Attempt). NewestIs me server w list new)
      (sym (ap (λ (o : Option ServerSide). option_map_or (λ s. change a s ∷ older) o (a ∷ with_answered change older))
      has))
      (later-changed a (with_answered change older) are.0 windows.0 has rest)
  changed-by a older (Some side) has are windows only newest later =
      let same : side ≡ old =
      same_Some side old (ap (λ (o : Option ServerSide). option_or o (newest_side older)) (sym has) ∙ newest) in
      subst (λ (list : List Attempt). NewestIs me server w list new)
      (sym (ap (λ (o : Option ServerSide). option_map_or (λ s. change a s ∷ older) o (a ∷ with_answered change older))
      (has ∙ ap Some same)))
      (newest-changed a older are windows (has ∙ ap Some same) only)

  pub answered-changed : (attempts : List Attempt) → AreAttempts me server attempts
      → AllByRecursion (λ (a : Attempt). a.window ≡ w) attempts → OnlyNewestUp attempts
      → newest_side attempts ≡ Some old → NewestIs me server w (with_answered change attempts) new
  answered-changed [] are windows only newest = absurd cc
  answered-changed (a ∷ older) are windows only newest =
      changed-by a older a.server refl are windows only newest
      (λ only newest. answered-changed older are.1 windows.1 only newest)

-- ---- a tick

module _ (old : Server) (moment : ℕ) (gives : Stepped) (step : ServerStep old (ticks moment) [] gives)
    (between : IsBetween old) (me : CallSign) (attempts : List Attempt)
    (calls : Calls old me attempts) where
  abbrev did : ServerDid
  did = did_in moment step

  abbrev keeps_me : gives.new.me ≡ old.me
  keeps_me = (tick-places old moment gives step).keeps.me

  abbrev keeps_window : gives.new.window ≡ old.window
  keeps_window = (tick-places old moment gives step).keeps.window

  -- the client has no session
  none-ticks : place_of me old.slots ≡ None → Calls gives.new me (after_tick did me attempts)
  none-ticks none =
      let before = old-none old between me (λ place c there same. place-of-not me old.slots none place c there same) in
      let is : after_tick did me attempts ≡ attempts =
      ap (λ (o : Option Connected). ticked_by o (connection_of step.last me) (did_to me did) attempts) before in
      let seats : KeepsSeats old gives.new me =
      record {
        back = λ place c there same.
            let seat = tick-seat old moment gives step between place c there in
            absurd (place-of-not me old.slots none place seat.was seat.there
            (sym (tick-caller old moment gives step between place c seat) ∙ same));
        forth = λ place c there same. absurd (place-of-not me old.slots none place c there same);
      } in
      subst (Calls gives.new me) (sym is)
      (calls-kept old gives.new me between seats attempts keeps_me keeps_window calls)

  -- it has one at this place
  module _ (place : ℕ) (c : Connected) (is_place : place_of me old.slots ≡ Some place) (there : IsSeatedIn old place c)
      (mine : caller_of c ≡ me) where
    abbrev ends : SlotEnds old.window (ticking c).over (ticking c).after (to_station me gives.frames)
        (drained old moment gives step between me place c there mine).now
    ends = tick-ends old moment gives step between me place c there mine

    abbrev now : Connected
    now = ticked_to c ends.last

    abbrev up : Bool
    up = has_session step.last (caller_of now)

    -- the session after the tick
    abbrev ticked_on : ServerSide → ServerSide
    ticked_on side = record side { connected = now; entries = side.entries ++ []; is_up = up }

    abbrev change : Attempt → ServerSide → Attempt
    change a side = served (did_to me did) now [] a side

    behind : IsBehind step.last gives.new me place (ticking c).over now
    behind = tick-behind old moment gives step between me place c there mine

    tick-is : after_tick did me attempts ≡ with_answered change attempts
    tick-is =
        ap₂ (λ (one two : Option Connected). ticked_by one two (did_to me did) attempts)
        (old-connection old between me place c there mine)
        (last-connection step.last gives.new me place (ticking c).over now behind)

    abbrev newest : IsNewestSession c attempts
    newest = calls.sits.some place c is_place there

    each : (a : Attempt) → IsAttempt me old.me a → a.window ≡ old.window → a.server ≡ Some newest.side
        → Becomes me old.me old.window (change a newest.side) (ticked_on newest.side)
    each a is window has =
        let drains =
        subst (λ (d : Connected). Drains old.window (link.after_tick d.end) (to_station me gives.frames) ends.last)
        (sym newest.connected_is) ends.drains in
        let link_up = ap (λ (d : Connected). d.end.state) newest.connected_is ∙ between.ups place c there in
        let on =
        attempt-ticks me old.me a newest.side is has newest.is_up link_up old.window window (to_station me gives.frames)
        ends.last drains up in
        record {
          is =
              subst
              (λ (d : Connected). IsAttempt me old.me
              (gone a (record newest.side {
                connected = ticked_to d ends.last;
                entries = newest.side.entries ++ [];
                is_up = up;
              }) a.by_client (to_station me gives.frames)))
              newest.connected_is on;
          window = window;
          has = refl;
        }

    some-ticks : Calls gives.new me (after_tick did me attempts)
    some-ticks =
        let on =
        answered-changed me old.me old.window change newest.side (ticked_on newest.side) each attempts
        calls.attempts_are calls.windows calls.sits.newest_up newest.is_newest in
        subst (Calls gives.new me) (sym tick-is)
        (record {
          attempts_are =
              subst (λ (server : CallSign). AreAttempts me server (with_answered change attempts)) (sym keeps_me)
              on.are;
          windows =
              subst (λ (w : Window). AllByRecursion (λ (a : Attempt). a.window ≡ w) (with_answered change attempts))
              (sym keeps_window) on.windows;
          sits = record {
            none = λ none. on.over (none-over step.last gives.new me place (ticking c).over now behind none);
            some = λ at d is seated.
                let it = place-of-is me gives.new.slots at is in
                let same : it.0 ≡ d = same-seat it.0 d (sym it.1 ∙ seated) in
                let seat =
                new-seat step.last gives.new me place (ticking c).over now behind at d seated
                (ap caller_of (sym same) ∙ it.2) in
                record {
                  side = ticked_on newest.side;
                  is_newest = on.newest;
                  connected_is = seat.1;
                  is_up = session-up step.last gives.new me place (ticking c).over now behind seat.0;
                };
            newest_up = on.only;
          };
        })

  tick-calls : Calls gives.new me (after_tick did me attempts)
  tick-calls = by (place_of me old.slots) refl
    where
      by : (o : Option ℕ) → place_of me old.slots ≡ o → Calls gives.new me (after_tick did me attempts)
      by None is = none-ticks is
      by (Some place) is = let there = place-of-is me old.slots place is in some-ticks place there.0 is there.1 there.2

pub server-ticks : server.SomeStepLaw → server.OneStepLaw → ServerTicksLaw
server-ticks some one = record {
  server = λ old moment gives between step. tick-keeps-server old moment gives step between some one;
  each = λ old moment gives me attempts between calls step. tick-calls old moment gives step between me attempts calls;
}
