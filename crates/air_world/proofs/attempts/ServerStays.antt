-- A server that heard a frame is one between events again.
use Rattle.std.proofs.Common.{◌≡◌, ℕ, List, [], Bool, true, false, Option, None, Some, refl, sym, ap, ◌∙◌}
use Rattle.std.specs.Prelude.{◌&&◌}
use Rattle.file_store.specs.Command.{after_all}
use Rattle.ftl0_server.specs.Connection.Hearing.{with_end}
use Rattle.ftl0_server.specs.Slots.{is_empty}
use Rattle.ftl0_server.specs.StepLaws.Steps as server
use Rattle.air_world.proofs.attempts.Names.{slice_get, slice_set, same_Some, CallSign, FrameValue, is_call, hears, has_left, Connected, answering, caller_of, Happened, hearing, HearingLaw, Server, hearing_at, hearing_by, hearing_stranger, ServerStep, Stepped, happening, Slot, all_freed, connected, first_empty, free, leaving, place_of, slot_after, refusals, stranger_by, IsBetween, IsSeatedIn, StaysServer}
use Rattle.air_world.proofs.attempts.LinkKeeps.{drains-keep}
use Rattle.air_world.proofs.attempts.Places.{place-of-is, place-of-not, position-is, same-seat, seat-caller}
use Rattle.air_world.proofs.attempts.ServerBetween.{IsAtPlace, Reseats, Resits, between-new, known-new, none-reseats}
use Rattle.air_world.proofs.attempts.ServerBetween.{place-reseats, steps-again}
use Rattle.air_world.proofs.attempts.ServerHearing.{SlotEnds, StaysUp, drains-peer, frame-stays, left-connected, slot-ends}
use Rattle.air_world.proofs.attempts.ServerPlaces.{ChangesNone, ChangesPlace, heard-place, opened-place, passed-places}

-- ---- the store

-- the store is the one after the commands
pub stranger-store : (old : Server) (frame : FrameValue) (moment : ℕ) (calls : Bool) (place : Option ℕ) (asks : Bool)
    → ((stranger_by old frame moment calls place asks).store ≡ old.store)
    × ((stranger_by old frame moment calls place asks).lists ≡ old.lists)
stranger-store old frame moment true None asks = (refl, refl)
stranger-store old frame moment true (Some place) asks = (refl, refl)
stranger-store old frame moment false place true = (refl, refl)
stranger-store old frame moment false place false = (refl, refl)

module _ (old : Server) (frame : FrameValue) (moment : ℕ) where
  store-at : (place : ℕ) (slot : Option Slot)
      → (hearing_at old frame moment [] place slot).after.store ≡ after_all old.store
      (hearing_at old frame moment [] place slot).done
  store-at place None = refl
  store-at place (Some free) = refl
  store-at place (Some (leaving c)) = refl
  store-at place (Some (connected c)) = refl

  store-by : (place : Option ℕ)
      → (hearing_by old frame moment [] place).after.store ≡ after_all old.store
      (hearing_by old frame moment [] place).done
  store-by None =
      (stranger-store old frame moment (is_call frame.kind.control) (first_empty old.slots)
      (frame.command && frame.poll)).0
  store-by (Some place) = store-at place (slice_get old.slots place)

-- ---- the cases of a frame

-- no connection is at the lowest empty place
empty-seat : (slots : List Slot) (place : ℕ) (c : Connected) → first_empty slots ≡ Some place
    → slice_get slots place ≡ Some (connected c) → ⊥
empty-seat slots place c first there =
    let it = position-is is_empty slots place free first in
    let same : it.x ≡ connected c = same_Some it.x (connected c) (sym it.at ∙ there) in
    let no : true ≡ false = sym it.passes ∙ ap is_empty same in
    cc

module _ (old : Server) (frame : FrameValue) (moment : ℕ) (gives : Stepped)
    (step : ServerStep old (hears frame moment) [] gives) where
  -- The sender's connection at this place hears it.
  pub record IsHeard : Type 0 where
    pub place : ℕ
    pub is_place : place_of frame.src old.slots ≡ Some place
    pub c : Connected
    pub there : IsSeatedIn old place c
    pub caller_is : caller_of c ≡ frame.src
    pub changes : ChangesPlace old (hears frame moment) gives step place
        (slot_after (hearing old.window moment old.store old.lists c frame []))
    pub ends :
        SlotEnds old.window (hearing old.window moment old.store old.lists c frame []).over
        (hearing old.window moment old.store old.lists c frame []).after gives.frames changes.now

  -- A connection is opened at this place.
  pub record IsOpened : Type 0 where
    pub place : ℕ
    pub none : place_of frame.src old.slots ≡ None
    pub first : first_empty old.slots ≡ Some place
    pub calls : is_call frame.kind.control ≡ true
    pub changes :
        ChangesPlace old (hears frame moment) gives step place
        (connected (answering old.me frame.src frame.poll moment (has_left old.lists frame.src)))
    pub ends :
        SlotEnds old.window false (answering old.me frame.src frame.poll moment (has_left old.lists frame.src))
        gives.frames changes.now

  -- No connection hears it.
  pub record IsPassed : Type 0 where
    pub none : place_of frame.src old.slots ≡ None
    pub changes : ChangesNone old (hears frame moment) gives step
        (refusals old.me (hearing_stranger old frame moment).stray)

  -- so it does if it is at this place
  pub heard-at : (place : ℕ) (c : Connected) → place_of frame.src old.slots ≡ Some place → IsSeatedIn old place c
      → (h : IsHeard) × (h.c ≡ c)
  heard-at place c is there =
      let happened : Happened = hearing old.window moment old.store old.lists c frame [] in
      let changes = heard-place old frame moment gives step place c is there in (
        record {
          place = place;
          is_place = is;
          c = c;
          there = there;
          caller_is = seat-caller frame.src old.slots place c is there;
          changes = changes;
          ends = slot-ends old.window happened.over happened.after gives.frames changes.now changes.drains;
        },
        refl,
      )

  pub frame-cases : (P : Type 0) → (IsHeard → P) → (IsOpened → P) → (IsPassed → P) → P
  frame-cases P heard opened passed = by (place_of frame.src old.slots) refl
    where
      calls-by : (first : Option ℕ) → first_empty old.slots ≡ first → place_of frame.src old.slots ≡ None
          → is_call frame.kind.control ≡ true → P
      calls-by None first none calls =
          passed (record { none = none; changes = passed-places old frame moment gives step none (λ is. first) })
      calls-by (Some place) first none calls =
          let changes = opened-place old frame moment gives step place none calls first in
          opened
          (record {
            place = place;
            none = none;
            first = first;
            calls = calls;
            changes = changes;
            ends = slot-ends old.window false
                (answering old.me frame.src frame.poll moment (has_left old.lists frame.src)) gives.frames changes.now
                changes.drains;
          })

      none-by : (b : Bool) → is_call frame.kind.control ≡ b → place_of frame.src old.slots ≡ None → P
      none-by true calls none = calls-by (first_empty old.slots) refl none calls
      none-by false calls none =
          passed (record {
            none = none;
            changes = passed-places old frame moment gives step none
                (λ is. absurd (let no : true ≡ false = sym is ∙ calls in cc));
          })

      by : (place : Option ℕ) → place_of frame.src old.slots ≡ place → P
      by None is = none-by (is_call frame.kind.control) refl is
      by (Some place) is = let there = place-of-is frame.src old.slots place is in
          heard (heard-at place there.0 is there.1).0

  module _ (hearing_law : HearingLaw) (between : IsBetween old) where
    -- what is at the place then
    pub heard-resits : (h : IsHeard) → Resits old frame.src h.place h.changes.now
    heard-resits h =
        let happened : Happened = hearing old.window moment old.store old.lists h.c frame [] in
        let stays : StaysUp h.c happened =
        frame-stays moment old.store old.lists h.c frame hearing_law old.window (between.ups h.place h.c h.there) in
        record {
          is = λ c is.
              let now =
              left-connected happened.over (with_end happened.after h.ends.last) c (sym h.ends.now_is ∙ is) in (
                ap (λ (d : Connected). d.end.state) (sym now.1)
                    ∙ (drains-keep old.window happened.after.end h.ends.last gives.frames h.ends.drains).state
                    ∙ stays.up now.0,
                ap caller_of (sym now.1)
                    ∙ drains-peer old.window happened.after.end h.ends.last gives.frames between.window h.ends.drains
                    ∙ stays.peer ∙ h.caller_is,
              );
          only = λ other c there same. between.distinct other h.place c h.c there h.there (same ∙ sym h.caller_is);
          was = λ c there. ap caller_of (let same : c ≡ h.c = same-seat c h.c (sym there ∙ h.there) in same)
              ∙ h.caller_is;
        }

    pub opened-resits : (h : IsOpened) → Resits old frame.src h.place h.changes.now
    opened-resits h =
        let c : Connected = answering old.me frame.src frame.poll moment (has_left old.lists frame.src) in
        record {
          is = λ d is.
              let now = left-connected false (with_end c h.ends.last) d (sym h.ends.now_is ∙ is) in (
                ap (λ (d : Connected). d.end.state) (sym now.1)
                    ∙ (drains-keep old.window c.end h.ends.last gives.frames h.ends.drains).state,
                ap caller_of (sym now.1)
                    ∙ drains-peer old.window c.end h.ends.last gives.frames between.window h.ends.drains,
              );
          only = λ other d there same. absurd (place-of-not frame.src old.slots h.none other d there same);
          was = λ d there. absurd (empty-seat old.slots h.place d h.first there);
        }

    pub heard-slots : (h : IsHeard) → gives.new.slots ≡ all_freed (slice_set old.slots h.place h.changes.now)
    heard-slots h = h.changes.keeps.slots ∙ ap all_freed h.changes.slots_are

    pub opened-slots : (h : IsOpened) → gives.new.slots ≡ all_freed (slice_set old.slots h.place h.changes.now)
    opened-slots h = h.changes.keeps.slots ∙ ap all_freed h.changes.slots_are

    pub passed-slots : (h : IsPassed) → gives.new.slots ≡ all_freed old.slots
    passed-slots h = h.changes.keeps.slots ∙ ap all_freed h.changes.slots_are

    module _ (some : server.SomeStepLaw) (one : server.OneStepLaw) where
      abbrev IsSender : CallSign → Type 0
      IsSender caller = caller ≡ frame.src

      stays-by : (IsNew : CallSign → ℕ → Type 0) → Reseats old gives.new IsNew
          → ((caller : CallSign) (place : ℕ) → IsNew caller place → IsSender caller)
          → gives.new.me ≡ old.me → gives.new.window ≡ old.window
          → gives.new.store ≡ (happening old (hears frame moment) []).after.store
          → StaysServer old gives (λ caller. caller ≡ frame.src)
      stays-by IsNew seats senders me window store = record {
        me_is = me;
        window_is = window;
        between =
            between-new old gives.new IsNew between seats window
            (steps-again some one old (hears frame moment) gives between.may_step step);
        store_is = store ∙ store-by old frame moment (place_of frame.src old.slots)
            ∙ ap (after_all old.store) (sym step.done_is);
        known = known-new old gives.new IsNew between seats (λ caller. caller ≡ frame.src) senders;
      }

      pub frame-keeps-server : StaysServer old gives (λ caller. caller ≡ frame.src)
      frame-keeps-server =
          frame-cases (StaysServer old gives (λ caller. caller ≡ frame.src))
          (λ h. stays-by (IsAtPlace frame.src h.place)
          (place-reseats old gives.new between frame.src h.place h.changes.now h.changes.within (heard-slots h)
          (heard-resits h)) (λ caller place is. is.0)
          h.changes.keeps.me h.changes.keeps.window h.changes.keeps.store)
          (λ h. stays-by (IsAtPlace frame.src h.place)
          (place-reseats old gives.new between frame.src h.place h.changes.now h.changes.within (opened-slots h)
          (opened-resits h)) (λ caller place is. is.0)
          h.changes.keeps.me h.changes.keeps.window h.changes.keeps.store)
          (λ h. stays-by (λ caller place. ⊥) (none-reseats old gives.new between (passed-slots h))
          (λ caller place is. absurd is)
          h.changes.keeps.me h.changes.keeps.window h.changes.keeps.store)
