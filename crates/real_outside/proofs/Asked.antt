-- What is asked of an object outside the program, call by call.
use Rattle.std.proofs.Common.{◌≡◌, List, [], ◌∷◌, ◌++◌, Option, refl, sym, subst}
use Rattle.real_outside.proofs.Names.{Grows, Asks, Grows-trans, asks_one, asks_then}

module _ {C : Type 0} where
  -- what follows a call
  pub after_call :
      (P Q : List C → Type 0) (was mid now : Option (List C)) (next : C) → Grows was mid (next ∷ [])
      → ((later : List C) → P later → Q (next ∷ later)) → Asks mid now P → Asks was now Q
  after_call P Q was mid now next grows step asks =
      asks_then (λ (first : List C). first ≡ next ∷ []) P Q was mid now
      (λ first later is follows. subst (λ (l : List C). Q (l ++ later)) (sym is) (step later follows))
      (asks_one (λ (first : List C). first ≡ next ∷ []) was mid next grows refl) asks

  -- two calls are made
  pub asks_two :
      (P : List C → Type 0) (was mid now : Option (List C)) (first second : C)
      → Grows was mid (first ∷ []) → Grows mid now (second ∷ []) → P (first ∷ second ∷ []) → Asks was now P
  asks_two P was mid now first second before after is =
      (first ∷ second ∷ [], Grows-trans was mid now (first ∷ []) (second ∷ []) before after, is)
