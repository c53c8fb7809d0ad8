-- Lemmas on lists that are told: how they gain items and grow, and what is asked of an object outside the program.
use Rattle.std.proofs.Common.{◌≡◌, ℕ, zero, suc, List, [], ◌∷◌, ◌++◌, take, drop, refl, sym, ap, ◌∙◌, subst, append_assoc, append-nil}
use Rattle.px_base.specs.CallRecords.{Asks}
use Rattle.px_base.specs.Octets.{IsFront}
use Rattle.px_base.specs.Outside.{Gains, GainsPrefix, Grows}
use Rattle.px_base.proofs.Names.{take-append-drop, Option, None, Some}

-- what stays gains nothing
pub Gains-none : (told : Option (List ℕ)) → Gains told told []
Gains-none None = refl
Gains-none (Some text) = ap Some (sym (append-nil text))

-- what is gained first and what is gained then is gained together
pub Gains-trans :
    (a b c : Option (List ℕ)) (s t : List ℕ) → Gains a b s → Gains b c t → Gains a c (s ++ t)
Gains-trans None b c s t h k = subst (λ (x : Option (List ℕ)). Gains x c t) h k
Gains-trans (Some text) b c s t h k =
    let next : Gains (Some (text ++ s)) c t = subst (λ (x : Option (List ℕ)). Gains x c t) h k in
    next ∙ ap Some (append_assoc text s t)

-- a prefix that is gained is a front of the octets
pub Gains-front :
    (before now : Option (List ℕ)) (octets : List ℕ) → GainsPrefix before now octets
    → (text : List ℕ) × Gains before now text × IsFront text octets
Gains-front before now octets h = (take h.0 octets, h.1, (drop h.0 octets, sym (take-append-drop h.0 octets)))

-- a front of octets is one of more octets
front_of : (t u : List ℕ) (n : ℕ) → (m : ℕ) × (take m (t ++ u) ≡ take n t)
front_of [] u zero = (0, refl)
front_of [] u (suc n) = (0, refl)
front_of (x ∷ t) u zero = (0, refl)
front_of (x ∷ t) u (suc n) = let h = front_of t u n in (suc h.0, ap (λ (y : List ℕ). x ∷ y) h.1)

front_after : (s t u : List ℕ) (n : ℕ) → (m : ℕ) × (take m (s ++ (t ++ u)) ≡ s ++ take n t)
front_after [] t u n = front_of t u n
front_after (x ∷ s) t u n = let h = front_after s t u n in (suc h.0, ap (λ (y : List ℕ). x ∷ y) h.1)

-- what is gained first, and then a prefix of what comes
pub GainsPrefix-after :
    (a b c : Option (List ℕ)) (s t u : List ℕ) → Gains a b s → GainsPrefix b c t → GainsPrefix a c (s ++ (t ++ u))
GainsPrefix-after a b c s t u h k =
    let front = front_after s t u k.0 in
    (front.0, subst (λ (x : List ℕ). Gains a c x) (sym front.1) (Gains-trans a b c s (take k.0 t) h k.1))

-- what stays grows by nothing
pub Grows-none : {X : Type 0} (told : Option (List X)) → Grows told told []
Grows-none None = tt
Grows-none (Some all) = (all, refl, sym (append-nil all))

-- what came first and what came then came together
pub Grows-trans :
    {X : Type 0} (a b c : Option (List X)) (xs ys : List X) → Grows a b xs → Grows b c ys → Grows a c (xs ++ ys)
Grows-trans {X} a b None xs ys h k = tt
Grows-trans {X} a b (Some all) xs ys h k =
    let mid : Grows a (Some k.0) xs = subst (λ (x : Option (List X)). Grows a x xs) k.1 h in
    (mid.0, mid.1, k.2 ∙ ap (λ (x : List X). x ++ ys) mid.2 ∙ append_assoc mid.0 xs ys)

module _ {C : Type 0} where
  -- nothing is asked
  pub asks_none : (P : List C → Type 0) (was : Option (List C)) → P [] → Asks was was P
  asks_none P was is = ([], Grows-none was, is)

  -- one call is made
  pub asks_one : (P : List C → Type 0) (was now : Option (List C)) (next : C) → Grows was now (next ∷ []) → P (next ∷ []) → Asks was now P
  asks_one P was now next grows is = (next ∷ [], grows, is)

  -- some calls are made, and then others
  pub asks_then :
      (P Q R : List C → Type 0) (was between now : Option (List C))
      → ((first later : List C) → P first → Q later → R (first ++ later))
      → Asks was between P → Asks between now Q → Asks was now R
  asks_then P Q R was between now step first later =
      (first.0 ++ later.0, Grows-trans was between now first.0 later.0 first.1 later.1, step first.0 later.0 first.2 later.2)

  -- one more call is made
  pub asks_more :
      (P Q : List C → Type 0) (was between now : Option (List C)) (next : C) → Grows between now (next ∷ [])
      → ((calls : List C) → P calls → Q (calls ++ next ∷ [])) → Asks was between P → Asks was now Q
  asks_more P Q was between now next grows step asks =
      (asks.0 ++ next ∷ [], Grows-trans was between now asks.0 (next ∷ []) asks.1 grows, step asks.0 asks.2)

  -- the same calls, of which something else is known
  pub asks_as :
      (P Q : List C → Type 0) (was now : Option (List C))
      → ((calls : List C) → P calls → Q calls) → Asks was now P → Asks was now Q
  asks_as P Q was now step asks = (asks.0, asks.1, step asks.0 asks.2)
