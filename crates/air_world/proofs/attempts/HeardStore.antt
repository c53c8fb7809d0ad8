-- What a frame makes of the server's store and lists.
use Rattle.std.proofs.Common.{◌≡◌, ◌⊎◌, inl, inr, ℕ, [], true, Option, None, Some, refl, ap, subst, ◌∙◌}
use Rattle.std.specs.Prelude.{◌&&◌}
use Rattle.air_world.proofs.attempts.Names.{FrameValue, is_call, hears, Connected, hearing, HearingLaw, Server, ServerHappened, heard_at, hearing_at, hearing_by, ServerStep, Stepped, happening, first_empty, place_of, HeardLaw, IsBetween, IsSeatedIn, SessionHears, did_in}
use Rattle.air_world.proofs.attempts.Connections.{last-connection}
use Rattle.air_world.proofs.attempts.Places.{place-of-is}
use Rattle.air_world.proofs.attempts.ServerHearing.{call-nothing}
use Rattle.air_world.proofs.attempts.ServerHears.{after_of, behind}
use Rattle.air_world.proofs.attempts.ServerPlaces.{heard-place}
use Rattle.air_world.proofs.attempts.ServerStays.{IsHeard, frame-cases, heard-at, stranger-store}

-- what happens if the sender's connection hears the frame
happens-at : (old : Server) (frame : FrameValue) (moment place : ℕ) (c : Connected)
    → place_of frame.src old.slots ≡ Some place → IsSeatedIn old place c
    → happening old (hears frame moment) [] ≡ heard_at old place
    (hearing old.window moment old.store old.lists c frame [])
happens-at old frame moment place c is there =
    ap (hearing_by old frame moment []) is ∙ ap (hearing_at old frame moment [] place) there

module _ (hearing_law : HearingLaw) (old : Server) (frame : FrameValue) (moment : ℕ) (gives : Stepped)
    (between : IsBetween old)
    (step : ServerStep old (hears frame moment) [] gives) where
  heard-of : (h : IsHeard old frame moment gives step) → SessionHears (did_in moment step) gives frame h.c
  heard-of h =
      let happens = happens-at old frame moment h.place h.c h.is_place h.there in
      record {
        end = h.ends.last;
        after_is =
            last-connection step.last gives.new frame.src h.place
            (hearing old.window moment old.store old.lists h.c frame []).over
            (after_of old frame moment gives step hearing_law between h h.c)
            (behind old frame moment gives step hearing_law between h);
        done_is = step.done_is ∙ ap (λ (s : ServerHappened). s.done) happens;
        lists_are = h.changes.keeps.lists ∙ ap (λ (s : ServerHappened). s.after.lists) happens;
      }

  heard : (place : ℕ) (c : Connected) → place_of frame.src old.slots ≡ Some place → IsSeatedIn old place c
      → SessionHears (did_in moment step) gives frame c
  heard place c is there =
      let at = heard-at old frame moment gives step place c is there in
      subst (SessionHears (did_in moment step) gives frame) at.1 (heard-of at.0)

  -- ---- no session

  -- a station without a connection
  unheard-none : place_of frame.src old.slots ≡ None → (gives.done ≡ []) × (gives.new.lists ≡ old.lists)
  unheard-none none =
      let happens = ap (hearing_by old frame moment []) none in
      let lists =
      (stranger-store old frame moment (is_call frame.kind.control) (first_empty old.slots)
      (frame.command && frame.poll)).1 in (
        step.done_is ∙ ap (λ (s : ServerHappened). s.done) happens,
        keeps-lists ∙ ap (λ (s : ServerHappened). s.after.lists) happens ∙ lists,
      )
    where
      keeps-lists : gives.new.lists ≡ (happening old (hears frame moment) []).after.lists
      keeps-lists =
          frame-cases old frame moment gives step
          (gives.new.lists ≡ (happening old (hears frame moment) []).after.lists) (λ h. h.changes.keeps.lists)
          (λ h. h.changes.keeps.lists) (λ h. h.changes.keeps.lists)

  -- a SABM of a station that has one
  unheard-call : (place : ℕ) (c : Connected) → place_of frame.src old.slots ≡ Some place → IsSeatedIn old place c
      → is_call frame.kind.control ≡ true
      → (gives.done ≡ []) × (gives.new.lists ≡ old.lists)
  unheard-call place c is there calls =
      let nothing = call-nothing moment old.store old.lists c frame old.window (between.ups place c there) calls in
      let happens = happens-at old frame moment place c is there in (
        step.done_is ∙ ap (λ (s : ServerHappened). s.done) happens ∙ nothing.0,
        (heard-place old frame moment gives step place c is there).keeps.lists
            ∙ ap (λ (s : ServerHappened). s.after.lists) happens ∙ nothing.1,
      )

  unheard : (is_call frame.kind.control ≡ true) ⊎ (place_of frame.src old.slots ≡ None)
      → (gives.done ≡ []) × (gives.new.lists ≡ old.lists)
  unheard why =
      elim why [
        | inl calls ↦ by (place_of frame.src old.slots) refl calls
        | inr none ↦ unheard-none none
      ]
    where
      by : (o : Option ℕ) → place_of frame.src old.slots ≡ o → is_call frame.kind.control ≡ true
          → (gives.done ≡ []) × (gives.new.lists ≡ old.lists)
      by None is calls = unheard-none is
      by (Some place) is calls = let it = place-of-is frame.src old.slots place is in
          unheard-call place it.0 is it.1 calls

pub heard-law : HearingLaw → HeardLaw
heard-law hearing_law = record {
  heard = λ old frame moment gives place c between other is there step. heard hearing_law old frame moment gives between
      step place c is there;
  unheard = λ old frame moment gives between why step. unheard hearing_law old frame moment gives between step why;
}
