-- A caller's attempts and its place in the server, if the step didn't change it.
use Rattle.std.proofs.Common.{◌≡◌, ◌≢◌, inl, inr, ℕ, ◌<◌, List, length, sym, ap, subst, ◌∙◌}
use Rattle.air_world.proofs.attempts.Names.{slice_get, slice_set, AllByRecursion, CallSign, Window, slice_get-set_other, Connected, caller_of, Server, Slot, all_freed, Attempt, AreAttempts, Calls, IsBetween, IsSeatedIn, SitsBy}
use Rattle.air_world.proofs.attempts.Places.{place-of-at, place-of-is, place-of-no, place-of-not, same-seat, seat-freed}
use Rattle.air_world.proofs.attempts.ServerBetween.{Resits, seat-before, seat-is}

-- The connections of a caller are where they were, and no other.
pub record KeepsSeats (old new : Server) (me : CallSign) : Type 0 where
  pub back : (place : ℕ) (c : Connected) → IsSeatedIn new place c → caller_of c ≡ me → IsSeatedIn old place c
  pub forth : (place : ℕ) (c : Connected) → IsSeatedIn old place c → caller_of c ≡ me → IsSeatedIn new place c

module _ (old new : Server) (me : CallSign) (between : IsBetween old) (keeps : KeepsSeats old new me)
    (attempts : List Attempt) where
  sits-kept : SitsBy old me attempts → SitsBy new me attempts
  sits-kept sits = record {
    none = λ none.
        sits.none
        (place-of-no me old.slots (λ place c there same. place-of-not me new.slots none place c
        (keeps.forth place c there same) same));
    some = λ place c is there.
        let it = place-of-is me new.slots place is in
        let same : it.0 ≡ c = same-seat it.0 c (sym it.1 ∙ there) in
        let mine : caller_of c ≡ me = ap caller_of (sym same) ∙ it.2 in
        let was = keeps.back place c there mine in
        sits.some place c
        (place-of-at me old.slots place c was mine
        (λ other that theirs also. between.distinct other place that c theirs was (also ∙ sym mine))) was;
    newest_up = sits.newest_up;
  }

  pub calls-kept : new.me ≡ old.me → new.window ≡ old.window → Calls old me attempts → Calls new me attempts
  calls-kept me_is window_is calls = record {
    attempts_are = subst (λ (server : CallSign). AreAttempts me server attempts) (sym me_is) calls.attempts_are;
    windows =
        subst (λ (w : Window). AllByRecursion (λ (a : Attempt). a.window ≡ w) attempts) (sym window_is) calls.windows;
    sits = sits-kept calls.sits;
  }

-- a step that changed no place
pub none-seats : (old new : Server) (me : CallSign) → new.slots ≡ all_freed old.slots → KeepsSeats old new me
none-seats old new me slots_are = record {
  back = λ place c there same. seat-before old old.slots new slots_are place c there;
  forth = λ place c there same. ap (λ (s : List Slot). slice_get s place) slots_are
      ∙ seat-freed old.slots place c there;
}

-- a step that changed the place of another caller
pub other-seats : (old new : Server) (me caller : CallSign) (place : ℕ) (now : Slot) → place < length old.slots
    → me ≢ caller
    → new.slots ≡ all_freed (slice_set old.slots place now) → IsBetween old → Resits old caller place now
    → KeepsSeats old new me
other-seats old new me caller place now within apart slots_are between sits = record {
  back = λ other c there same.
      elim (seat-is old new between caller place now within slots_are sits other c there) [
        | inl here ↦ absurd (apart (sym same ∙ (sits.is c here.1).1))
        | inr was ↦ was.1
      ];
  forth = λ other c there same.
      let elsewhere : other ≢ place =
      λ here. apart (sym same ∙ sits.was c (ap (λ n. slice_get old.slots n) (sym here) ∙ there)) in
      ap (λ (s : List Slot). slice_get s other) slots_are
      ∙ seat-freed (slice_set old.slots place now) other c
      (slice_get-set_other old.slots place other now elsewhere ∙ there);
}
