-- What a tick makes of a server's places.
use Rattle.std.proofs.Common.{◌≡◌, inl, ℕ, List, [], length, map, false, Some, refl, sym, ap, subst, ◌∙◌}
use Rattle.ax25_link.specs.LinkStep as step
use Rattle.file_store.specs.Command.{after_all}
use Rattle.ftl0_server.specs.Connection.Hearing.{ticking, with_end}
use Rattle.ftl0_server.specs.StepLaws.Steps as server
use Rattle.air_world.proofs.attempts.Names.{slice_get, option_map, same_Some, slice_get-map, length-map, CallSign, FrameValue, LinkEnd, Drains, Stations, after_tick, Window, stations_law, ticks, Connected, caller_of, Server, ServerStep, Stepped, Slot, connected, free, leaving, left_by, slot_ticking, SlotDrains, IsBetween, IsSeatedIn, StaysServer}
use Rattle.air_world.proofs.attempts.Connections.{IsBehind, left-held}
use Rattle.air_world.proofs.attempts.Drained.{DrainedAt, IsHeldAt, drained-at, drained-length, to_station, was-drained}
use Rattle.air_world.proofs.attempts.LinkKeeps.{drains-keep}
use Rattle.air_world.proofs.attempts.Places.{held, mapped-some}
use Rattle.air_world.proofs.attempts.ServerBetween.{Reseats, between-new, known-new, none-left, seat-before, steps-again}
use Rattle.air_world.proofs.attempts.ServerHearing.{SlotEnds, drains-peer, left-connected, slot-ends}
use Rattle.air_world.proofs.attempts.ServerPlaces.{ChangesAll, tick-places}
use Rattle.air_world.proofs.attempts.SessionTicks.{tick-up, ticked_to}

-- the peer stays
tick-peer : (w : Window) (end : LinkEnd) → (after_tick end).peer ≡ end.peer
tick-peer w end = ap (λ (s : Stations). s.peer) (stations_law.coming w end step.tick)

module _ (old : Server) (moment : ℕ) (gives : Stepped) (step : ServerStep old (ticks moment) [] gives)
    (between : IsBetween old) where
  abbrev ticked : List Slot
  ticked = map slot_ticking old.slots

  changes : ChangesAll old (ticks moment) gives step ticked
  changes = tick-places old moment gives step

  -- ---- connections after it

  -- A connection was at its place before, and its session went on.
  pub record TickSeat (place : ℕ) (c : Connected) : Type 0 where
    pub was : Connected
    pub there : IsSeatedIn old place was
    pub last : LinkEnd
    pub frames : List FrameValue
    pub drains : Drains old.window (after_tick was.end) frames last
    pub goes : (ticking was).over ≡ false
    pub is : c ≡ ticked_to was last

  ticked-by : (place : ℕ) (slot before : Slot) (c : Connected) (own : List FrameValue)
      → slice_get old.slots place ≡ Some before → slot_ticking before ≡ slot
      → SlotDrains old.window slot own (connected c) → TickSeat place c
  ticked-by place slot free c own at is drains =
      absurd (let none = subst (λ (s : Slot). SlotDrains old.window s own (connected c)) (sym is) drains in let no =
      none.1 in cc)
  ticked-by place slot (leaving d) c own at is drains =
      absurd (let left = subst (λ (s : Slot). SlotDrains old.window s own (connected c)) (sym is) drains in let no =
      left.2 in cc)
  ticked-by place slot (connected d) c own at is drains =
      let ends =
      slot-ends old.window (ticking d).over (ticking d).after own (connected c)
      (subst (λ (s : Slot). SlotDrains old.window s own (connected c)) (sym is) drains) in
      let now = left-connected (ticking d).over (ticked_to d ends.last) c (sym ends.now_is) in
      record { was = d; there = at; last = ends.last; frames = own; drains = ends.drains; goes = now.0; is = sym now.1 }

  pub tick-seat : (place : ℕ) (c : Connected) → IsSeatedIn gives.new place c → TickSeat place c
  tick-seat place c there =
      let was = was-drained old.window ticked gives.frames step.last.slots place (connected c) changes.drains
      (seat-before old step.last.slots gives.new changes.keeps.slots place c there) in
      let before =
      mapped-some slot_ticking (slice_get old.slots place) was.slot
      (sym (slice_get-map slot_ticking old.slots place) ∙ was.at) in
      ticked-by place was.slot before.0 c was.own before.1 before.2 was.drains

  pub tick-caller : (place : ℕ) (c : Connected) (seat : TickSeat place c) → caller_of c ≡ caller_of seat.was
  tick-caller place c seat =
      ap caller_of seat.is
      ∙ drains-peer old.window (after_tick seat.was.end) seat.last seat.frames between.window seat.drains
      ∙ tick-peer old.window seat.was.end

  pub tick-reseats : Reseats old gives.new (λ caller place. ⊥)
  tick-reseats = record {
    eight =
        ap (λ (s : List Slot). length s) changes.keeps.slots ∙ length-map step.last.slots _
        ∙ drained-length old.window ticked gives.frames step.last.slots changes.drains
        ∙ length-map old.slots slot_ticking;
    none_leaving = none-left old step.last.slots gives.new changes.keeps.slots;
    up = λ place c there.
        let seat = tick-seat place c there in
        ap (λ (d : Connected). d.end.state) seat.is
        ∙ (drains-keep old.window (after_tick seat.was.end) seat.last seat.frames seat.drains).state
        ∙ tick-up seat.was (between.ups place seat.was seat.there) seat.goes;
    each = λ place c there.
        let seat = tick-seat place c there in
        inl (record { before = seat.was; there = seat.there; caller_is = sym (tick-caller place c seat) });
    once = λ who one two is. absurd is;
    apart = λ who one two c is. absurd is;
  }

  pub tick-keeps-server : server.SomeStepLaw → server.OneStepLaw
      → StaysServer old gives (λ caller. ⊥) × (gives.new.store ≡ old.store) × (gives.new.lists ≡ old.lists)
  tick-keeps-server some one = (
    record {
      me_is = changes.keeps.me;
      window_is = changes.keeps.window;
      between =
          between-new old gives.new (λ caller place. ⊥) between tick-reseats changes.keeps.window
          (steps-again some one old (ticks moment) gives between.may_step step);
      store_is = changes.keeps.store ∙ ap (after_all old.store) (sym step.done_is);
      known = known-new old gives.new (λ caller place. ⊥) between tick-reseats (λ caller. ⊥) (λ caller place is. is);
    },
    changes.keeps.store,
    changes.keeps.lists,
  )

  -- ---- the caller's connection

  module _ (me : CallSign) (place : ℕ) (c : Connected) (there : IsSeatedIn old place c) (mine : caller_of c ≡ me) where
    held-before : (other : ℕ) (before : Slot) (that : Connected) → slice_get old.slots other ≡ Some before
        → held (slot_ticking before) ≡ Some that → caller_of that ≡ me
        → other ≡ place
    held-before other free that at is theirs = absurd cc
    held-before other (leaving d) that at is theirs = absurd (between.none_leaving other d at)
    held-before other (connected d) that at is theirs =
        let same : (ticking d).after ≡ that =
        same_Some (ticking d).after that (sym (left-held (ticking d).over (ticking d).after) ∙ is) in
        between.distinct other place d c at there
        (sym (tick-peer old.window d.end) ∙ ap caller_of same ∙ theirs ∙ sym mine)

    only-held : (other : ℕ) → IsHeldAt me ticked other → other ≡ place
    only-held other it =
        let before =
        mapped-some slot_ticking (slice_get old.slots other) it.0
        (sym (slice_get-map slot_ticking old.slots other) ∙ it.2) in
        held-before other before.0 it.1 before.1 (ap held before.2 ∙ it.3) it.4

    pub drained : DrainedAt old.window me between.window (left_by (ticking c).over (ticking c).after) gives.frames
        step.last.slots place
    drained =
        drained-at old.window me between.window ticked gives.frames step.last.slots place
        (left_by (ticking c).over (ticking c).after) (ticking c).after
        (slice_get-map slot_ticking old.slots place ∙ ap (option_map slot_ticking) there)
        (left-held (ticking c).over (ticking c).after)
        (tick-peer old.window c.end ∙ mine) only-held changes.drains

    pub tick-ends : SlotEnds old.window (ticking c).over (ticking c).after (to_station me gives.frames) drained.now
    tick-ends =
        slot-ends old.window (ticking c).over (ticking c).after (to_station me gives.frames) drained.now drained.drains

    -- a place that has a connection had one of the same caller
    drained-held : (slot now : Slot) (that : Connected) (own : List FrameValue) → SlotDrains old.window slot own now
        → held now ≡ Some that
        → (d : Connected) × (held slot ≡ Some d) × (caller_of that ≡ caller_of d)
    drained-held free now that own drains is = absurd (let no = sym (ap held drains.1) ∙ is in cc)
    drained-held (connected d) now that own drains is =
        let same : with_end d drains.0 ≡ that = same_Some (with_end d drains.0) that (sym (ap held drains.2) ∙ is) in
        (d, refl, ap caller_of (sym same) ∙ drains-peer old.window d.end drains.0 own between.window drains.1)
    drained-held (leaving d) now that own drains is =
        let same : with_end d drains.0 ≡ that = same_Some (with_end d drains.0) that (sym (ap held drains.2) ∙ is) in
        (d, refl, ap caller_of (sym same) ∙ drains-peer old.window d.end drains.0 own between.window drains.1)

    pub tick-behind : IsBehind step.last gives.new me place (ticking c).over (ticked_to c tick-ends.last)
    tick-behind = record {
      here = drained.at ∙ ap Some tick-ends.now_is;
      caller_is =
          drains-peer old.window (after_tick c.end) tick-ends.last (to_station me gives.frames) between.window
          tick-ends.drains ∙ tick-peer old.window c.end ∙ mine;
      only = λ other slot that at is theirs.
          let was = was-drained old.window ticked gives.frames step.last.slots other slot changes.drains at in
          let it = drained-held was.slot slot that was.own was.drains is in
          only-held other (was.slot, it.0, was.at, it.1, sym it.2 ∙ theirs);
      new_are = changes.keeps.slots;
    }
