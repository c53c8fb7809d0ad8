-- Null devices that are held, opening by opening.
use Rattle.std.proofs.Common.{◌≡◌, ◌⊎◌, inl, inr, ℕ, ◌+◌, ℤ, List, [], ◌∷◌, ◌++◌, length, Result, Ok, Err, Bool, true, false, refl, sym, subst, arith, length-append}
use Rattle.real_outside.specs.declared.descriptors.StandardStreams.{StandardStreams}
use Rattle.real_outside.proofs.Names.{AreHeld, AreStandard, HoldsLowest, HoldsOpened, IsHeld, IsStandard, KeepsHeld, SystemError}

module _ {O : Type 0} (descriptor : O → ℤ) where
  -- those before are held still, and so is the next one
  pub held_more : (before now : StandardStreams O) (answers : List (Result O SystemError)) (opened : O) → KeepsHeld descriptor before now → IsHeld descriptor now (descriptor opened) → AreHeld descriptor before answers → AreHeld descriptor now (answers ++ Ok opened ∷ [])
  held_more before now [] opened keeps is held = (is, tt)
  held_more before now (Ok first ∷ later) opened keeps is held = (keeps (descriptor first) held.0, held_more before now later opened keeps is held.1)
  held_more before now (Err error ∷ later) opened keeps is held = absurd held

  pub held_kept : (before now : StandardStreams O) (answers : List (Result O SystemError)) → KeepsHeld descriptor before now → AreHeld descriptor before answers → AreHeld descriptor now answers
  held_kept before now [] keeps held = tt
  held_kept before now (Ok first ∷ later) keeps held = (keeps (descriptor first) held.0, held_kept before now later keeps held.1)
  held_kept before now (Err error ∷ later) keeps held = absurd held

  held_standard : (streams : StandardStreams O) (n : ℤ) → IsHeld descriptor streams n → IsStandard n
  held_standard streams n (inl is) = inl is.0
  held_standard streams n (inr (inl is)) = inr (inl is.0)
  held_standard streams n (inr (inr is)) = inr (inr is.0)

  -- what is held has a standard stream's descriptor
  pub are_standard : (streams : StandardStreams O) (answers : List (Result O SystemError)) → AreHeld descriptor streams answers → AreStandard descriptor answers
  are_standard streams [] held = tt
  are_standard streams (Ok first ∷ later) held = (held_standard streams (descriptor first) held.0, are_standard streams later held.1)
  are_standard streams (Err error ∷ later) held = absurd held

  -- one more that is held
  pub opened_held : (before now : StandardStreams O) (answer : Result O SystemError) (result : Result Bool SystemError) (answers : List (Result O SystemError)) → HoldsOpened descriptor before now answer result → result ≡ Ok true → AreHeld descriptor before answers → AreHeld descriptor now (answers ++ answer ∷ [])
  opened_held before now (Ok opened) (Ok true) answers holds is held = held_more before now answers opened holds.1 holds.0 held
  opened_held before now (Ok opened) (Ok false) answers holds is held = absurd (cc is)
  opened_held before now (Ok opened) (Err error) answers holds is held = absurd holds
  opened_held before now (Err error) result answers holds is held = absurd (cc (holds, is))

  -- the one that isn't
  pub opened_last : (before now : StandardStreams O) (answer : Result O SystemError) (result : Result Bool SystemError) (answers : List (Result O SystemError)) → HoldsOpened descriptor before now answer result → result ≡ Ok false → AreHeld descriptor before answers → HoldsLowest descriptor (Ok now) (answers ++ answer ∷ [])
  opened_last before now (Ok opened) (Ok true) answers holds is held = absurd (cc is)
  opened_last before now (Ok opened) (Ok false) answers holds is held = (answers, opened, refl, holds.0, held_kept before now answers holds.1 held)
  opened_last before now (Ok opened) (Err error) answers holds is held = absurd holds
  opened_last before now (Err error) result answers holds is held = absurd (cc (holds, is))

  -- the one that fails
  pub opened_failed :
      (before now : StandardStreams O) (answer : Result O SystemError) (error : SystemError)
      (result : Result (StandardStreams O) SystemError) (answers : List (Result O SystemError))
      → HoldsOpened descriptor before now answer (Err error) → result ≡ Err error
      → HoldsLowest descriptor result (answers ++ answer ∷ [])
  opened_failed before now (Ok opened) error result answers holds is = absurd holds
  opened_failed before now (Err failed) error result answers holds is =
      let same : result ≡ Err failed = cc (is, holds) in
      subst (λ (r : Result (StandardStreams O) SystemError). HoldsLowest descriptor r (answers ++ Err failed ∷ []))
      (sym same) (inl (answers, refl))

-- one more
pub length_more : {X : Type 0} (xs : List X) (x : X) (n : ℕ) → length xs ≡ n → length (xs ++ x ∷ []) ≡ n + 1
length_more xs x n e = omega (arith, e, length-append xs (x ∷ []))
