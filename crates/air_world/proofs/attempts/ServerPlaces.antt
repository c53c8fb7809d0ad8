-- What a step of a server makes of its places, before those of sessions that are over are free.
use Rattle.std.proofs.Common.{◌≡◌, ℕ, ◌<◌, List, [], ◌++◌, length, get_or, map, Bool, true, Option, None, Some, refl}
use Rattle.std.proofs.Common.{sym, ap, ap₂, subst, ◌∙◌, append-nil}
use Rattle.std.specs.Prelude.{◌&&◌}
use Rattle.ftl0_server.specs.Server.{settled}
use Rattle.ftl0_server.specs.Slots.{is_empty}
use Rattle.air_world.proofs.attempts.Names.{slice_get, slice_set, position-Some, slice_get-get_or, slice_get_within, FrameValue, is_call, Window, NodeEvent, hears, ticks, has_left, Connected, answering, Happened, hearing, Refused, Server, heard_at, hearing_at, hearing_by, hearing_stranger, with_slot, ServerStep, Stepped, happening, Slot, all_freed, connected, first_empty, free, place_of, slot_after, slot_ticking, SlotDrains, SlotsDrain, refusals, SendsAll, alone-at, passed-same, places-none, sends-all, silent-by, stranger_by}

-- What a step keeps of the server, which is this one before it sends anything.
pub record Keeps (old after : Server) (gives : Stepped) (last : Server) : Type 0 where
  pub me : gives.new.me ≡ old.me
  pub window : gives.new.window ≡ old.window
  pub store : gives.new.store ≡ after.store
  pub lists : gives.new.lists ≡ after.lists
  pub slots : gives.new.slots ≡ all_freed last.slots

-- The step sends what this place drains, which is this one before, and leaves all others as they were.
pub record ChangesPlace (old : Server) (event : NodeEvent) (gives : Stepped) (step : ServerStep old event [] gives)
    (place : ℕ) (slot : Slot) : Type 0 where
  pub within : place < length old.slots
  pub now : Slot
  pub drains : SlotDrains old.window slot gives.frames now
  pub slots_are : step.last.slots ≡ slice_set old.slots place now
  pub keeps : Keeps old (happening old event []).after gives step.last

-- The step sends these frames, and leaves all places as they were.
pub record ChangesNone (old : Server) (event : NodeEvent) (gives : Stepped) (step : ServerStep old event [] gives)
    (frames : List FrameValue) : Type 0 where
  pub frames_are : gives.frames ≡ frames
  pub slots_are : step.last.slots ≡ old.slots
  pub keeps : Keeps old (happening old event []).after gives step.last

-- The step sends what the places drain, which are these before.
pub record ChangesAll (old : Server) (event : NodeEvent) (gives : Stepped) (step : ServerStep old event [] gives)
    (slots : List Slot) : Type 0 where
  pub drains : SlotsDrain old.window slots gives.frames step.last.slots
  pub keeps : Keeps old (happening old event []).after gives step.last

module _ (old : Server) (event : NodeEvent) (gives : Stepped) (step : ServerStep old event [] gives) where
  abbrev after : Server
  after = (happening old event []).after

  sent : SendsAll after gives.frames step.last
  sent = sends-all gives.frames after after.stray step.last step.sent

  stray-none : old.stray ≡ None
  stray-none = (silent-by old old.stray step.silent).0

  -- what the step keeps, if what happened keeps the call and the window
  step-keeps : after.me ≡ old.me → after.window ≡ old.window → Keeps old after gives step.last
  step-keeps me window =
      let new_is : gives.new ≡ record after { slots = all_freed sent.slots; stray = None } =
      step.new_is ∙ ap settled sent.last_is in
      record {
        me = ap (λ (s : Server). s.me) new_is ∙ me;
        window = ap (λ (s : Server). s.window) new_is ∙ window;
        store = ap (λ (s : Server). s.store) new_is;
        lists = ap (λ (s : Server). s.lists) new_is;
        slots = ap (λ (s : Server). s.slots) step.new_is;
      }

  -- one place is another one after what happened
  one-place : (place : ℕ) (slot there : Slot) → after.me ≡ old.me → after.window ≡ old.window → after.stray ≡ old.stray
      → after.slots ≡ slice_set old.slots place slot → slice_get old.slots place ≡ Some there
      → ChangesPlace old event gives step place slot
  one-place place slot there me window stray slots_are is =
      let frames_are : gives.frames ≡ sent.own = sent.frames_are
      ∙ ap (λ (o : Option Refused). refusals after.me o ++ sent.own) (stray ∙ stray-none) in
      let drains : SlotsDrain old.window (slice_set old.slots place slot) sent.own sent.slots =
      subst (λ (slots : List Slot). SlotsDrain old.window slots sent.own sent.slots) slots_are
      (subst (λ (w : Window). SlotsDrain w after.slots sent.own sent.slots) window sent.drains) in
      let alone =
      alone-at old.window old.slots sent.slots place slot there sent.own (silent-by old old.stray step.silent).1 is
      drains in
      record {
        within = slice_get_within old.slots place there is;
        now = alone.0;
        drains =
            subst (λ (frames : List FrameValue). SlotDrains old.window slot frames alone.0) (sym frames_are) alone.1;
        slots_are = ap (λ (s : Server). s.slots) sent.last_is ∙ alone.2;
        keeps = step-keeps me window;
      }

  -- none is
  no-place : after.me ≡ old.me → after.window ≡ old.window → after.slots ≡ old.slots
      → ChangesNone old event gives step (refusals old.me after.stray)
  no-place me window slots_are =
      let drains : SlotsDrain old.window old.slots sent.own sent.slots =
      subst (λ (slots : List Slot). SlotsDrain old.window slots sent.own sent.slots) slots_are
      (subst (λ (w : Window). SlotsDrain w after.slots sent.own sent.slots) window sent.drains) in
      let none = places-none old.window old.slots sent.slots sent.own (silent-by old old.stray step.silent).1 drains in
      record {
        frames_are =
            sent.frames_are ∙ ap (λ (own : List FrameValue). refusals after.me after.stray ++ own) none.0
            ∙ append-nil (refusals after.me after.stray) ∙ ap (λ at. refusals at after.stray) me;
        slots_are = ap (λ (s : Server). s.slots) sent.last_is ∙ none.1;
        keeps = step-keeps me window;
      }

-- a tick
pub tick-places : (old : Server) (moment : ℕ) (gives : Stepped) (step : ServerStep old (ticks moment) [] gives)
    → ChangesAll old (ticks moment) gives step (map slot_ticking old.slots)
tick-places old moment gives step =
    let s = sent old (ticks moment) gives step in
    let frames_are : gives.frames ≡ s.own = s.frames_are
    ∙ ap (λ (o : Option Refused). refusals old.me o ++ s.own) (stray-none old (ticks moment) gives step) in
    record {
      drains =
          subst (λ (frames : List FrameValue). SlotsDrain old.window (map slot_ticking old.slots) frames
          step.last.slots) (sym frames_are)
          (subst (λ (last : List Slot). SlotsDrain old.window (map slot_ticking old.slots) s.own last)
          (sym (ap (λ (x : Server). x.slots) s.last_is)) s.drains);
      keeps = step-keeps old (ticks moment) gives step refl refl;
    }

-- ---- a frame

module _ (old : Server) (frame : FrameValue) (moment : ℕ) (gives : Stepped)
    (step : ServerStep old (hears frame moment) [] gives) where
  abbrev then_is : Server
  then_is = (happening old (hears frame moment) []).after

  -- it is heard by the connection at this place
  pub heard-place : (place : ℕ) (c : Connected) → place_of frame.src old.slots ≡ Some place
      → slice_get old.slots place ≡ Some (connected c)
      → ChangesPlace old (hears frame moment) gives step place
      (slot_after (hearing old.window moment old.store old.lists c frame []))
  heard-place place c is there =
      let happened : Happened = hearing old.window moment old.store old.lists c frame [] in
      let by : then_is ≡ (heard_at old place happened).after =
      ap (λ o. (hearing_by old frame moment [] o).after) is
      ∙ ap (λ o. (hearing_at old frame moment [] place o).after) there in
      one-place old (hears frame moment) gives step place (slot_after happened) (connected c)
      (ap (λ (s : Server). s.me) by) (ap (λ (s : Server). s.window) by)
      (ap (λ (s : Server). s.stray) by) (ap (λ (s : Server). s.slots) by) there

  -- it opens a connection
  pub opened-place : (place : ℕ) → place_of frame.src old.slots ≡ None → is_call frame.kind.control ≡ true
      → first_empty old.slots ≡ Some place
      → ChangesPlace old (hears frame moment) gives step place
      (connected (answering old.me frame.src frame.poll moment (has_left old.lists frame.src)))
  opened-place place is calls first =
      let slot : Slot = connected (answering old.me frame.src frame.poll moment (has_left old.lists frame.src)) in
      let by : then_is ≡ with_slot old place slot =
      ap (λ o. (hearing_by old frame moment [] o).after) is
      ∙ ap₂ (λ (b : Bool) (o : Option ℕ). stranger_by old frame moment b o (frame.command && frame.poll)) calls first in
      let within = (position-Some is_empty old.slots place free first).0 in
      one-place old (hears frame moment) gives step place slot (get_or old.slots place free)
      (ap (λ (s : Server). s.me) by) (ap (λ (s : Server). s.window) by)
      (ap (λ (s : Server). s.stray) by) (ap (λ (s : Server). s.slots) by) (slice_get-get_or old.slots place free within)

  -- no connection hears it
  pub passed-places : place_of frame.src old.slots ≡ None
      → (is_call frame.kind.control ≡ true → first_empty old.slots ≡ None)
      → ChangesNone old (hears frame moment) gives step (refusals old.me (hearing_stranger old frame moment).stray)
  passed-places is none =
      let by : then_is ≡ hearing_stranger old frame moment = ap (λ o. (hearing_by old frame moment [] o).after) is in
      let same =
      passed-same old frame moment (is_call frame.kind.control) (first_empty old.slots) (frame.command && frame.poll)
      none in
      subst (λ (s : Server). ChangesNone old (hears frame moment) gives step (refusals old.me s.stray)) by
      (no-place old (hears frame moment) gives step (ap (λ (s : Server). s.me) by ∙ same.0)
      (ap (λ (s : Server). s.window) by ∙ same.1)
      (ap (λ (s : Server). s.slots) by ∙ same.2))
