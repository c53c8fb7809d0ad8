-- What a step of a server sends is sent place by place.
use Rattle.std.proofs.Common.{◌≡◌, ℕ, zero, suc, List, [], ◌∷◌, ◌++◌, get_or, Bool, true, false, ◌&&◌, Option, None, Some, refl, sym, ap, ap₂, subst, ◌∙◌, append-nil}
use Rattle.std.specs.Prelude.{if◌then◌else◌}
use Rattle.std.proofs.lemmas.List.Quantifiers.{position-Some}
use Rattle.ax25_link.specs.Refusals.{refusal_frame}
use Rattle.ftl0_server.specs.Server.{refusing}
use Rattle.ftl0_server.specs.StepLaws.Places.{ChangesAt, HearsByPlaces, SendsByPlaces, SlotDrains, SlotsDrain, StepLaw, refusals}
use Rattle.ftl0_server.proofs.step_laws.Names.{slice_get, slice_set, option_map, same_Some, slice_get-get_or, FrameValue, LinkEnd, is_call, Drains, IsQuiet, Sending, next_sending, Window, has_left, Failure, answering, Happened, hearing, with_end, Refused, Server, called_by, heard_at, hearing_at, hearing_by, hearing_stranger, sends_by, sends_of_places, with_slot, Empties, ServerStep, Stepped, happening, PlacesSend, Slot, SlotSends, all_freed, connected, first_empty, first_of, free, is_empty, leaving, places_next, slot_after, slot_next, slot_sends, NodeEvent, hears}

-- ---- one place

-- an end that has nothing to send drains nothing
drains-none : (w : Window) (end last : LinkEnd) (frames : List FrameValue) → IsQuiet w end → Drains w end frames last → (frames ≡ []) × (last ≡ end)
drains-none w end last [] quiet drains = (refl, drains.1)
drains-none w end last (frame ∷ frames) quiet drains = absurd (let some = drains.1 in cc)

mapped-none : {X Y : Type 0} (f : X → Y) (o : Option X) → option_map f o ≡ None → o ≡ None
mapped-none f None none = refl
mapped-none f (Some x) none = absurd cc

-- the same of a place
slot-quiet : (w : Window) (slot : Slot) → slot_next w slot ≡ None → SlotDrains w slot [] slot
slot-quiet w free none = (refl, refl)
slot-quiet w (connected c) none = (c.end, (mapped-none (slot_sends (λ end. connected (with_end c end))) (next_sending w c.end) none, refl), refl)
slot-quiet w (leaving c) none = (c.end, (mapped-none (slot_sends (λ end. leaving (with_end c end))) (next_sending w c.end) none, refl), refl)

slot-none : (w : Window) (slot now : Slot) (frames : List FrameValue) → slot_next w slot ≡ None → SlotDrains w slot frames now → (frames ≡ []) × (now ≡ slot)
slot-none w free now frames none drains = drains
slot-none w (connected c) now frames none drains =
    let quiet = mapped-none (slot_sends (λ end. connected (with_end c end))) (next_sending w c.end) none in
    let same = drains-none w c.end drains.0 frames quiet drains.1 in
    (same.0, drains.2 ∙ ap (λ (end : LinkEnd). connected (with_end c end)) same.1)
slot-none w (leaving c) now frames none drains =
    let quiet = mapped-none (slot_sends (λ end. leaving (with_end c end))) (next_sending w c.end) none in
    let same = drains-none w c.end drains.0 frames quiet drains.1 in
    (same.0, drains.2 ∙ ap (λ (end : LinkEnd). leaving (with_end c end)) same.1)

-- a frame, and then the others
module _ (w : Window) (end : LinkEnd) (slot : LinkEnd → Slot) (frames : List FrameValue) (now : Slot) where
  abbrev DrainsAs : LinkEnd → List FrameValue → Type 0
  DrainsAs from all = (last : LinkEnd) × Drains w from all last × (now ≡ slot last)

  sent-step : (o : Option Sending) (sends : SlotSends) → next_sending w end ≡ o → option_map (slot_sends slot) o ≡ Some sends
      → (each : (after : LinkEnd) → sends.after ≡ slot after → DrainsAs after frames) → DrainsAs end (sends.frame ∷ frames)
  sent-step None sends is maps each = absurd cc
  sent-step (Some sending) sends is maps each =
      let same = same_Some (slot_sends slot sending) sends maps in
      let rest = each sending.after (ap (λ (s : SlotSends). s.after) (sym same)) in
      (rest.0, (sending, is, ap (λ (s : SlotSends). s.frame) (sym same), rest.1), rest.2)

slot-step : (w : Window) (slot now : Slot) (sends : SlotSends) (frames : List FrameValue) → slot_next w slot ≡ Some sends → SlotDrains w sends.after frames now
    → SlotDrains w slot (sends.frame ∷ frames) now
slot-step w free now sends frames is drains = absurd cc
slot-step w (connected c) now sends frames is drains =
    sent-step w c.end (λ end. connected (with_end c end)) frames now (next_sending w c.end) sends refl is
    (λ after same. subst (λ (s : Slot). SlotDrains w s frames now) same drains)
slot-step w (leaving c) now sends frames is drains =
    sent-step w c.end (λ end. leaving (with_end c end)) frames now (next_sending w c.end) sends refl is
    (λ after same. subst (λ (s : Slot). SlotDrains w s frames now) same drains)

-- ---- places, one after another

first-none : (slot : Slot) (slots : List Slot) (first : Option SlotSends) (later : Option PlacesSend) → first_of slot slots first later ≡ None → (first ≡ None) × (later ≡ None)
first-none slot slots None None none = (refl, refl)
first-none slot slots None (Some sends) none = absurd cc
first-none slot slots (Some sends) later none = absurd cc

module _ (w : Window) where
  both-none : (slot : Slot) (slots : List Slot) → places_next w (slot ∷ slots) ≡ None → (slot_next w slot ≡ None) × (places_next w slots ≡ None)
  both-none slot slots none = first-none slot slots (slot_next w slot) (places_next w slots) none

  places-quiet : (slots : List Slot) → places_next w slots ≡ None → SlotsDrain w slots [] slots
  places-quiet [] none = (refl, refl)
  places-quiet (slot ∷ slots) none =
      let both = both-none slot slots none in
      ([], [], slot, slots, refl, refl, slot-quiet w slot both.0, places-quiet slots both.1)

  pub places-none : (slots last : List Slot) (frames : List FrameValue) → places_next w slots ≡ None → SlotsDrain w slots frames last → (frames ≡ []) × (last ≡ slots)
  places-none [] last frames none drains = drains
  places-none (slot ∷ slots) last frames none drains =
      let both = both-none slot slots none in
      let one = slot-none w slot drains.2 drains.0 both.0 drains.6 in
      let rest = places-none slots drains.3 drains.1 both.1 drains.7 in
      (drains.4 ∙ ap₂ (λ (own others : List FrameValue). own ++ others) one.0 rest.0, drains.5 ∙ ap₂ (λ (now : Slot) (later : List Slot). now ∷ later) one.1 rest.1)

  -- the first place sends this, or those after it send that
  module _ (slot : Slot) (slots last : List Slot) (frames : List FrameValue)
      (each : (sends : PlacesSend) (others : List FrameValue) (later : List Slot) → places_next w slots ≡ Some sends → SlotsDrain w sends.after others later
      → SlotsDrain w slots (sends.frame ∷ others) later) where
    step-by : (first : Option SlotSends) (later : Option PlacesSend) (sends : PlacesSend) → slot_next w slot ≡ first → places_next w slots ≡ later
        → first_of slot slots first later ≡ Some sends → SlotsDrain w sends.after frames last → SlotsDrain w (slot ∷ slots) (sends.frame ∷ frames) last
    step-by None None sends none is gives drains = absurd cc
    step-by None (Some next) sends none is gives drains =
        let P : PlacesSend → Type 0 = λ s. SlotsDrain w s.after frames last → SlotsDrain w (slot ∷ slots) (s.frame ∷ frames) last in
        let same = same_Some (record { frame = next.frame; after = slot ∷ next.after }) sends gives in
        subst P same
        (λ d.
        let one = slot-none w slot d.2 d.0 none d.6 in (
          [],
          next.frame ∷ d.1,
          slot,
          d.3,
          ap (λ (all : List FrameValue). next.frame ∷ all) (d.4 ∙ ap (λ (own : List FrameValue). own ++ d.1) one.0),
          d.5 ∙ ap (λ (now : Slot). now ∷ d.3) one.1,
          slot-quiet w slot none,
          each next d.1 d.3 is d.7,
        )) drains
    step-by (Some first) later sends first_is is gives drains =
        let P : PlacesSend → Type 0 = λ s. SlotsDrain w s.after frames last → SlotsDrain w (slot ∷ slots) (s.frame ∷ frames) last in
        let same = same_Some (record { frame = first.frame; after = first.after ∷ slots }) sends gives in
        subst P same
        (λ d. (first.frame ∷ d.0, d.1, d.2, d.3, ap (λ (all : List FrameValue). first.frame ∷ all) d.4, d.5, slot-step w slot d.2 first d.0 first_is d.6, d.7)) drains

  places-step : (slots : List Slot) (sends : PlacesSend) (frames : List FrameValue) (last : List Slot) → places_next w slots ≡ Some sends → SlotsDrain w sends.after frames last
      → SlotsDrain w slots (sends.frame ∷ frames) last
  places-step [] sends frames last is drains = absurd cc
  places-step (slot ∷ slots) sends frames last is drains =
      step-by slot slots last frames (λ next others later. places-step slots next others later) (slot_next w slot) (places_next w slots) sends refl refl is drains

  -- if nothing was to be sent, the place that is another one now sends alone
  pub alone-at : (slots last : List Slot) (place : ℕ) (slot old : Slot) (frames : List FrameValue) → places_next w slots ≡ None → slice_get slots place ≡ Some old
      → SlotsDrain w (slice_set slots place slot) frames last → (now : Slot) × SlotDrains w slot frames now × (last ≡ slice_set slots place now)
  alone-at [] last place slot old frames none there drains = absurd cc
  alone-at (s ∷ slots) last zero slot old frames none there drains =
      let rest = places-none slots drains.3 drains.1 (both-none s slots none).1 drains.7 in
      let frames_are : frames ≡ drains.0 = drains.4 ∙ ap (λ (others : List FrameValue). drains.0 ++ others) rest.0 ∙ append-nil drains.0 in
      (drains.2, subst (λ (all : List FrameValue). SlotDrains w slot all drains.2) (sym frames_are) drains.6, drains.5 ∙ ap (λ (later : List Slot). drains.2 ∷ later) rest.1)
  alone-at (s ∷ slots) last (suc place) slot old frames none there drains =
      let one = slot-none w s drains.2 drains.0 (both-none s slots none).0 drains.6 in
      let frames_are : frames ≡ drains.1 = drains.4 ∙ ap (λ (own : List FrameValue). own ++ drains.1) one.0 in
      let rest = alone-at slots drains.3 place slot old drains.1 (both-none s slots none).1 there drains.7 in (
        rest.0,
        subst (λ (all : List FrameValue). SlotDrains w slot all rest.0) (sym frames_are) rest.1,
        drains.5 ∙ ap₂ (λ (now : Slot) (later : List Slot). now ∷ later) one.1 rest.2,
      )

-- ---- a server

-- What a server sends, and what it is then.
pub record SendsAll (server : Server) (frames : List FrameValue) (last : Server) : Type 0 where
  pub own : List FrameValue
  pub frames_are : frames ≡ refusals server.me server.stray ++ own
  pub slots : List Slot
  pub drains : SlotsDrain server.window server.slots own slots
  pub last_is : last ≡ record server { slots = slots; stray = None }

-- with this DM to be sent
abbrev pub with_stray : Server → Option Refused → Server
with_stray server stray = record server { stray = stray }

no-places : (server : Server) (o : Option PlacesSend) → sends_of_places server o ≡ None → o ≡ None
no-places server None none = refl
no-places server (Some sends) none = absurd cc

module _ (frame : FrameValue) (frames : List FrameValue) (last : Server)
    (each : (server : Server) → Empties (with_stray server None) frames last → SendsAll (with_stray server None) frames last) where
  after-places : (server : Server) (o : Option PlacesSend) → places_next server.window server.slots ≡ o → Empties (with_stray server None) (frame ∷ frames) last
      → sends_of_places (with_stray server None) o ≡ sends_of_places (with_stray server None) (places_next server.window server.slots)
      → SendsAll (with_stray server None) (frame ∷ frames) last
  after-places server None is h by = absurd (let some = h.1 in cc)
  after-places server (Some sends) is h by =
      let same = same_Some (record { frame = sends.frame; after = record (with_stray server None) { slots = sends.after } }) h.0 (by ∙ h.1) in
      let rest = each (record server { slots = sends.after }) (subst (λ s. Empties s.after frames last) (sym same) h.3) in
      record {
        own = sends.frame ∷ rest.own;
        frames_are = ap₂ (λ (first : FrameValue) (later : List FrameValue). first ∷ later) (h.2 ∙ ap (λ s. s.frame) (sym same)) rest.frames_are;
        slots = rest.slots;
        drains = places-step server.window server.slots sends rest.own rest.slots is rest.drains;
        last_is = rest.last_is;
      }

pub sends-all : (frames : List FrameValue) (server : Server) (stray : Option Refused) (last : Server) → Empties (with_stray server stray) frames last
    → SendsAll (with_stray server stray) frames last
sends-all [] server None last h =
    let quiet = no-places (with_stray server None) (places_next server.window server.slots) h.0 in
    record { own = []; frames_are = refl; slots = server.slots; drains = places-quiet server.window server.slots quiet; last_is = h.1 }
sends-all [] server (Some refused) last h = absurd (let none = h.0 in cc)
sends-all (frame ∷ frames) server None last h =
    after-places frame frames last (λ from. sends-all frames from None last) server (places_next server.window server.slots) refl h refl
sends-all (frame ∷ frames) server (Some refused) last h =
    let same = same_Some (record { frame = refusal_frame server.me refused; after = with_stray server None }) h.0 h.1 in
    let rest = sends-all frames server None last (subst (λ s. Empties s.after frames last) (sym same) h.3) in
    record {
      own = rest.own;
      frames_are = ap₂ (λ (first : FrameValue) (later : List FrameValue). first ∷ later) (h.2 ∙ ap (λ s. s.frame) (sym same)) rest.frames_are;
      slots = rest.slots;
      drains = rest.drains;
      last_is = rest.last_is;
    }

-- a server that has nothing to send
pub silent-by : (server : Server) (stray : Option Refused) → sends_by server stray ≡ None → (stray ≡ None) × (places_next server.window server.slots ≡ None)
silent-by server None none = (refl, no-places server (places_next server.window server.slots) none)
silent-by server (Some refused) none = absurd cc

-- ---- a step

step-each : (old : Server) (event : NodeEvent) (failures : List Failure) (gives : Stepped) → ServerStep old event failures gives
    → SendsByPlaces (happening old event failures).after gives
step-each old event failures gives step =
    let after : Server = (happening old event failures).after in
    let sent = sends-all gives.frames after after.stray step.last step.sent in
    record {
      own = sent.own;
      frames_are = sent.frames_are;
      last = sent.slots;
      drains = sent.drains;
      new_is = step.new_is ∙ ap (λ (s : Server). record s { slots = all_freed s.slots }) sent.last_is;
    }

module _ (old : Server) (gives : Stepped) (stray : old.stray ≡ None) (quiet : places_next old.window old.slots ≡ None) where
  -- one place is another one then
  one-changed : (after : Server) (place : ℕ) (slot there : Slot) → after.stray ≡ old.stray → after.window ≡ old.window
      → after.slots ≡ slice_set old.slots place slot → slice_get old.slots place ≡ Some there → SendsByPlaces after gives → ChangesAt old place slot gives
  one-changed after place slot there stray_is window_is slots_are is h =
      let frames_are : gives.frames ≡ h.own = h.frames_are ∙ ap (λ (o : Option Refused). refusals after.me o ++ h.own) (stray_is ∙ stray) in
      let drains : SlotsDrain old.window (slice_set old.slots place slot) h.own h.last =
      subst (λ (slots : List Slot). SlotsDrain old.window slots h.own h.last) slots_are (subst (λ (w : Window). SlotsDrain w after.slots h.own h.last) window_is h.drains) in
      let alone = alone-at old.window old.slots h.last place slot there h.own quiet is drains in
      record {
        now = alone.0;
        drains = subst (λ (frames : List FrameValue). SlotDrains old.window slot frames alone.0) (sym frames_are) alone.1;
        slots_are = ap (λ (s : Server). s.slots) h.new_is ∙ ap all_freed alone.2;
      }

  -- none is
  none-changed : (after : Server) → after.me ≡ old.me → after.window ≡ old.window → after.slots ≡ old.slots → SendsByPlaces after gives
      → (gives.frames ≡ refusals old.me after.stray) × (gives.new.slots ≡ all_freed old.slots)
  none-changed after me_is window_is slots_are h =
      let drains : SlotsDrain old.window old.slots h.own h.last =
      subst (λ (slots : List Slot). SlotsDrain old.window slots h.own h.last) slots_are (subst (λ (w : Window). SlotsDrain w after.slots h.own h.last) window_is h.drains) in
      let none = places-none old.window old.slots h.last h.own quiet drains in (
        h.frames_are ∙ ap (λ (own : List FrameValue). refusals after.me after.stray ++ own) none.0 ∙ append-nil (refusals after.me after.stray)
            ∙ ap (λ me. refusals me after.stray) me_is,
        ap (λ (s : Server). s.slots) h.new_is ∙ ap all_freed none.1,
      )

-- ---- a frame of a station without a connection

module _ (server : Server) (frame : FrameValue) (moment : ℕ) where
  abbrev pub stranger_by : Bool → Option ℕ → Bool → Server
  stranger_by calls place asks =
      if calls then called_by server frame.src frame.poll moment place
      else if asks then refusing server frame.src true
      else server

  -- the places, the call and the window stay
  pub passed-same : (calls : Bool) (place : Option ℕ) (asks : Bool) → (calls ≡ true → place ≡ None)
      → ((stranger_by calls place asks).me ≡ server.me) × ((stranger_by calls place asks).window ≡ server.window) × ((stranger_by calls place asks).slots ≡ server.slots)
  passed-same true None asks none = (refl, refl, refl)
  passed-same true (Some place) asks none = absurd (let is = none refl in cc)
  passed-same false place true none = (refl, refl, refl)
  passed-same false place false none = (refl, refl, refl)

step-hears : (old : Server) (frame : FrameValue) (moment : ℕ) (failures : List Failure) (gives : Stepped) → ServerStep old (hears frame moment) failures gives
    → HearsByPlaces old frame moment failures gives
step-hears old frame moment failures gives step =
    let each = step-each old (hears frame moment) failures gives step in
    let silent = silent-by old old.stray step.silent in
    record {
      heard = λ place c is there.
          let happened : Happened = hearing old.window moment old.store old.lists c frame failures in
          let by : happening old (hears frame moment) failures ≡ heard_at old place happened =
          ap (hearing_by old frame moment failures) is ∙ ap (hearing_at old frame moment failures place) there in
          one-changed old gives silent.0 silent.1 (heard_at old place happened).after place (slot_after happened) (connected c) refl refl refl there
          (subst (λ h. SendsByPlaces h.after gives) by each);
      opened = λ place is calls first.
          let slot : Slot = connected (answering old.me frame.src frame.poll moment (has_left old.lists frame.src)) in
          let by : (happening old (hears frame moment) failures).after ≡ with_slot old place slot =
          ap (λ o. (hearing_by old frame moment failures o).after) is
          ∙ ap₂ (λ (b : Bool) (o : Option ℕ). stranger_by old frame moment b o (frame.command && frame.poll)) calls first in
          let within = (position-Some is_empty old.slots place free first).0 in
          one-changed old gives silent.0 silent.1 (with_slot old place slot) place slot (get_or old.slots place free) refl refl refl
          (slice_get-get_or old.slots place free within) (subst (λ (s : Server). SendsByPlaces s gives) by each);
      passed = λ is none.
          let by : (happening old (hears frame moment) failures).after ≡ hearing_stranger old frame moment =
          ap (λ o. (hearing_by old frame moment failures o).after) is in
          let same = passed-same old frame moment (is_call frame.kind.control) (first_empty old.slots) (frame.command && frame.poll) none in
          none-changed old gives silent.0 silent.1 (hearing_stranger old frame moment) same.0 same.1 same.2
          (subst (λ (s : Server). SendsByPlaces s gives) by each);
    }

pub step-law : StepLaw
step-law = record { each = step-each; hears = step-hears }
