-- What holds where content is told.
use Rattle.std.proofs.Common.{◌≡◌, inl, inr, ℕ, List, Option, None, Some, IfSome, is_some, Result, Ok, IfOk, refl, sym, ◌∙◌, ap, subst, true, true≢false, ⊎_elim, arith}
use Rattle.disk_model.proofs.Names.{HasContent, Elapses, LeavesOnly, SamePast, TellsAlike}

-- to show a fact of what is told, and to use one
pub if_told : {A : Type 0} (o : Option A) (P : A → Type 0) → ((x : A) → o ≡ Some x → P x) → IfSome o P
if_told None P shows = tt
if_told (Some x) P shows = shows x refl

pub at_told : {A : Type 0} {o : Option A} (P : A → Type 0) (x : A) → o ≡ Some x → IfSome o P → P x
at_told P x is holds = subst (λ o. IfSome o P) is holds

-- the same of what is answered
pub at_ok : {T E : Type 0} {result : Result T E} (P : T → Type 0) (x : T) → result ≡ Ok x → IfOk result P → P x
at_ok P x is holds = subst (λ result. IfOk result P) is holds

-- a fact of what is told becomes another
pub told_weaker : {A : Type 0} (o : Option A) (P Q : A → Type 0) → ((x : A) → o ≡ Some x → P x → Q x) → IfSome o P → IfSome o Q
told_weaker None P Q step holds = tt
told_weaker (Some x) P Q step holds = step x refl holds

-- what is told after a call was told before it
pub told_before : (before now : Option (List ℕ)) (x : List ℕ) → TellsAlike before now → now ≡ Some x → (y : List ℕ) × (before ≡ Some y)
told_before None now x alike is = absurd (true≢false (sym (alike.0 (ap is_some is))))
told_before (Some y) now x alike is = (y, refl)

-- so it is of what stood before
pub content_now : (before now : Option (List ℕ)) (step : List ℕ → List ℕ → Type 0) (x : List ℕ) → TellsAlike before now → HasContent before now step → now ≡ Some x
    → (y : List ℕ) × (before ≡ Some y) × step y x
content_now before now step x alike has is =
    let was = told_before before now x alike is in
    let new = at_told _ was.0 was.1 has in
    (was.0, was.1, subst (λ (l : List ℕ). step was.0 l) (some_same new.0 x (sym new.1 ∙ is)) new.2)
  where
    some_same : (a b : List ℕ) → Some a ≡ Some b → a ≡ b
    some_same a b same = cc same

pub alike_same : (before now : Option (List ℕ)) → now ≡ before → TellsAlike before now
alike_same before now same = (λ told. subst (λ (o : Option (List ℕ)). is_some o ≡ true) same told, λ told. subst (λ (o : Option (List ℕ)). is_some o ≡ true) (sym same) told)

pub alike_on : (before mid now : Option (List ℕ)) → TellsAlike before mid → TellsAlike mid now → TellsAlike before now
alike_on before mid now first second = (λ told. first.0 (second.0 told), λ told. second.1 (first.1 told))

-- ---- how a run of disk calls goes on

module _ {D : Type 0} (moment : D → ℕ) (since : D → ℕ → List ℕ → Type 0) where
  -- before the first call
  pub started : (old : D) (P : List ℕ → Type 0) → LeavesOnly moment since old old P
  started old P = record { later = omega arith; each = λ t image le left. inl left }

  -- a call that only reads
  pub reads : (old new : D) (P : List ℕ → Type 0) → moment new ≡ moment old → SamePast (since old) (since new) → LeavesOnly moment since old new P
  reads old new P same same_past = record { later = omega (arith, same); each = λ t image le left. inl ((same_past t image).0 left) }

  -- one call more, after which a crash leaves what has P
  pub goes_on : (old mid new : D) (P images : List ℕ → Type 0) → LeavesOnly moment since old mid P
      → Elapses (moment mid) (moment new) (since mid) (since new) images → ((image : List ℕ) → images image → P image)
      → LeavesOnly moment since old new P
  goes_on old mid new P images so_far time here = record {
    later = omega (arith, so_far.later, time.later);
    each = λ t image le left. ⊎_elim (so_far.each t image le) (λ now. inr (here image now)) (time.nothing_else t image (omega (arith, le, so_far.later)) left);
  }

  -- one call
  pub once : (old new : D) (P images : List ℕ → Type 0) → Elapses (moment old) (moment new) (since old) (since new) images
      → ((image : List ℕ) → images image → P image) → LeavesOnly moment since old new P
  once old new P images time here = goes_on old old new P images (started old P) time here

  -- two runs, one after the other
  pub joined : (old mid new : D) (P : List ℕ → Type 0) → LeavesOnly moment since old mid P → LeavesOnly moment since mid new P → LeavesOnly moment since old new P
  joined old mid new P first second = record {
    later = omega (arith, first.later, second.later);
    each = λ t image le left. ⊎_elim (first.each t image le) (λ here. inr here) (second.each t image (omega (arith, le, first.later)) left);
  }

  -- what has P has Q
  pub weaker : (old new : D) (P Q : List ℕ → Type 0) → ((image : List ℕ) → P image → Q image) → LeavesOnly moment since old new P → LeavesOnly moment since old new Q
  weaker old new P Q step leaves = record {
    later = leaves.later;
    each = λ t image le left. ⊎_elim (λ was. inl was) (λ here. inr (step image here)) (leaves.each t image le left);
  }
