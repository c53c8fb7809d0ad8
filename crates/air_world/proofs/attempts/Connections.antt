-- The connection of a caller before a step of the server and after it.
use Rattle.std.proofs.Common.{◌≡◌, inl, inr, ℕ, ◌<◌, List, length, Bool, true, false, None, Some, refl, sym, ap, ◌∙◌}
use Rattle.air_world.proofs.attempts.Names.{is_some, slice_get, slice_set, same_Some, CallSign, slice_get-set_same, Connected, caller_of, Server, Slot, all_freed, connected, free, leaving, left_by, place_of, IsBetween, IsSeatedIn, connection_of, has_session}
use Rattle.air_world.proofs.attempts.Places.{connection-is, connection-no, freed-seat, held, place-of-at, place-of-no}
use Rattle.air_world.proofs.attempts.Places.{place-of-not, seat-freed}
use Rattle.air_world.proofs.attempts.ListLemmas.{set-at}
use Rattle.air_world.proofs.attempts.ServerBetween.{Resits}

pub left-held : (over : Bool) (c : Connected) → held (left_by over c) ≡ Some c
left-held true c = refl
left-held false c = refl

is-false : (b : Bool) → (b ≡ true → ⊥) → b ≡ false
is-false true no_true = absurd (no_true refl)
is-false false no_true = refl

-- ---- before

module _ (old : Server) (between : IsBetween old) where
  -- no session is over
  held-seat : (place : ℕ) (slot : Slot) (c : Connected) → slice_get old.slots place ≡ Some slot → held slot ≡ Some c
      → IsSeatedIn old place c
  held-seat place free c at is = absurd cc
  held-seat place (connected d) c at is = at ∙ ap (λ (x : Connected). Some (connected x)) (same_Some d c is)
  held-seat place (leaving d) c at is = absurd (between.none_leaving place d at)

  pub old-connection : (caller : CallSign) (place : ℕ) (c : Connected) → IsSeatedIn old place c → caller_of c ≡ caller
      → connection_of old caller ≡ Some c
  old-connection caller place c there same =
      connection-is caller old.slots place (connected c) c there refl same
      (λ other slot that at is theirs. between.distinct other place that c (held-seat other slot that at is) there
      (theirs ∙ sym same))

  pub old-none : (caller : CallSign) → ((place : ℕ) (c : Connected) → IsSeatedIn old place c → caller_of c ≡ caller → ⊥)
      → connection_of old caller ≡ None
  old-none caller none =
      connection-no caller old.slots
      (λ other slot that at is theirs. none other that (held-seat other slot that at is) theirs)

-- ---- after a step

-- A caller's connection when the server has sent all, whose session is over or isn't; and the server then, in which
-- places are free whose sessions are over.
pub record IsBehind (last new : Server) (caller : CallSign) (place : ℕ) (over : Bool) (c : Connected) : Type 0 where
  pub here : slice_get last.slots place ≡ Some (left_by over c)
  pub caller_is : caller_of c ≡ caller
  pub only :
      (other : ℕ) (slot : Slot) (that : Connected) → slice_get last.slots other ≡ Some slot → held slot ≡ Some that
      → caller_of that ≡ caller → other ≡ place
  pub new_are : new.slots ≡ all_freed last.slots

module _ (last new : Server) (caller : CallSign) (place : ℕ) (over : Bool) (c : Connected)
    (behind : IsBehind last new caller place over c) where
  pub last-connection : connection_of last caller ≡ Some c
  last-connection =
      connection-is caller last.slots place (left_by over c) c behind.here (left-held over c) behind.caller_is
      behind.only

  only-seat : (other : ℕ) (that : Connected) → slice_get last.slots other ≡ Some (connected that)
      → caller_of that ≡ caller_of c → other ≡ place
  only-seat other that there theirs = behind.only other (connected that) that there refl (theirs ∙ behind.caller_is)

  -- it is up unless its session is over
  pub session-up : over ≡ false → has_session last (caller_of c) ≡ true
  session-up goes =
      ap is_some (place-of-at (caller_of c) last.slots place c
      (behind.here ∙ ap (λ (b : Bool). Some (left_by b c)) goes) refl only-seat)

  seat-not-over : (d : Connected) → left_by over c ≡ connected d → (over ≡ false) × (c ≡ d)
  seat-not-over d is = by over refl
    where
      by : (b : Bool) → over ≡ b → (over ≡ false) × (c ≡ d)
      by true is_over =
          absurd (let no : leaving c ≡ connected d = ap (λ (b : Bool). left_by b c) (sym is_over) ∙ is in cc)
      by false goes =
          (goes, let same : connected c ≡ connected d = ap (λ (b : Bool). left_by b c) (sym goes) ∙ is in cc)

  -- a seat of the caller
  seat-here : (other : ℕ) (d : Connected) → slice_get last.slots other ≡ Some (connected d) → caller_of d ≡ caller
      → (over ≡ false) × (c ≡ d)
  seat-here other d there mine =
      let at = behind.only other (connected d) d there refl mine in
      seat-not-over d
      (same_Some (left_by over c) (connected d) (sym behind.here ∙ ap (λ n. slice_get last.slots n) (sym at) ∙ there))

  pub up-goes : has_session last (caller_of c) ≡ true → over ≡ false
  up-goes up = by over refl
    where
      by : (b : Bool) → over ≡ b → over ≡ false
      by true is_over =
          absurd
          (let none : place_of (caller_of c) last.slots ≡ None =
          place-of-no (caller_of c) last.slots
          (λ other that there theirs.
          let goes = (seat-here other that there (theirs ∙ behind.caller_is)).0 in
          let no : true ≡ false = sym is_over ∙ goes in
          cc) in
          let no : false ≡ true = sym (ap is_some none) ∙ up in
          cc)
      by false goes = goes

  -- the caller's connection between events is this one, if it has one
  pub new-seat : (other : ℕ) (d : Connected) → IsSeatedIn new other d → caller_of d ≡ caller → (over ≡ false) × (c ≡ d)
  new-seat other d there mine =
      seat-here other d (freed-seat last.slots other d
      (ap (λ (s : List Slot). slice_get s other) (sym behind.new_are) ∙ there)) mine

  -- it has none if the session is over
  pub none-over : place_of caller new.slots ≡ None → has_session last (caller_of c) ≡ false
  none-over none = by over refl
    where
      by : (b : Bool) → over ≡ b → has_session last (caller_of c) ≡ false
      by true is_over =
          is-false (has_session last (caller_of c)) (λ up. let no : true ≡ false = sym is_over ∙ up-goes up in cc)
      by false goes =
          absurd
          (place-of-not caller new.slots none place c
          (ap (λ (s : List Slot). slice_get s place) behind.new_are
          ∙ seat-freed last.slots place c (behind.here ∙ ap (λ (b : Bool). Some (left_by b c)) goes)) behind.caller_is)

-- so it is after a step that changed the caller's place alone
pub place-behind : (old last new : Server) → IsBetween old → (caller : CallSign) (place : ℕ) (now : Slot)
    → place < length old.slots
    → last.slots ≡ slice_set old.slots place now → new.slots ≡ all_freed last.slots → Resits old caller place now
    → (over : Bool) (c : Connected)
    → now ≡ left_by over c → caller_of c ≡ caller → IsBehind last new caller place over c
place-behind old last new between caller place now within slots_are new_are sits over c now_is caller_is = record {
  here = ap (λ (s : List Slot). slice_get s place) slots_are ∙ slice_get-set_same old.slots place now within
      ∙ ap Some now_is;
  caller_is = caller_is;
  only = λ other slot that at is theirs.
      elim (set-at old.slots place other now slot
      (ap (λ (s : List Slot). slice_get s other) (sym slots_are) ∙ at)) [
        | inl it ↦ it.0
        | inr was ↦ sits.only other that (held-seat old between other slot that was.1 is) theirs
      ];
  new_are = new_are;
}
