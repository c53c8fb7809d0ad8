-- What reaches the files while a shelf keeps the octets of one, step by step.
use Rattle.std.proofs.Common.{◌≡◌, inl, inr, ℕ, List, [], ◌∷◌, ◌++◌, Option, None, Some, Result, Ok, Err, refl}
use Rattle.real_outside.proofs.Names.{Grows, Asks, InTurn, OnOpened, Once, Replaces, Step, out_of_memory, FileCall, SystemError, asks_as, asks_none, asks_one, asks_then}

-- one call is made
pub once :
    (asked : Result Unit SystemError → FileCall) (was now : Option (List FileCall)) (result : Result Unit SystemError)
    → Grows was now (asked result ∷ []) → Asks was now (Once asked result)
once asked was now result grows = asks_one (Once asked result) was now (asked result) grows refl

module _ (First Next : Step) (was : Option (List FileCall)) where
  -- the first step is refused
  pub in_turn_err :
      (now : Option (List FileCall)) (result : Result Unit SystemError) (error : SystemError) → result ≡ Err error
      → Asks was now (First (Err error)) → Asks was now (InTurn First Next result)
  in_turn_err now result error is asks =
      asks_as (First (Err error)) (InTurn First Next result) was now (λ calls first. rw is (inl (refl, first))) asks

  -- it is done, and the other follows
  pub in_turn :
      (mid now : Option (List FileCall)) (result : Result Unit SystemError) → Asks was mid (First (Ok tt))
      → Asks mid now (Next result) → Asks was now (InTurn First Next result)
  in_turn mid now result first next =
      asks_then (First (Ok tt)) (Next result) (InTurn First Next result) was mid now
      (λ calls later does follows. inr (calls, later, refl, does, follows)) first next

-- there is no memory for a path, and nothing is asked
pub none_replaced :
    (path octets : List ℕ) (mode : Option ℕ) (was : Option (List FileCall)) (result : Result Unit SystemError)
    → result ≡ Err out_of_memory → Asks was was (Replaces path mode octets result)
none_replaced path octets None was result is = asks_none (Replaces path None octets result) was (inr (refl, is))
none_replaced path octets (Some mode) was result is =
    asks_none (Replaces path (Some mode) octets result) was (inr (refl, is))

module _ (Opens : Result ℕ SystemError → List FileCall → Type 0)
    (Next : Result Unit SystemError → ℕ → List FileCall → Type 0) (was : Option (List FileCall)) where
  -- a file is opened, and what follows
  pub on_opened :
      (mid now : Option (List FileCall)) (file : ℕ) (result : Result Unit SystemError)
      → Asks was mid (Opens (Ok file)) → Asks mid now (Next result file) → Asks was now (OnOpened Opens Next result)
  on_opened mid now file result opened follows =
      asks_then (Opens (Ok file)) (Next result file) (OnOpened Opens Next result) was mid now
      (λ first later opens does. inr (file, first, later, refl, opens, does)) opened follows

  -- it can't be opened
  pub not_opened :
      (now : Option (List FileCall)) (result : Result Unit SystemError) (error : SystemError) → result ≡ Err error
      → Asks was now (Opens (Err error)) → Asks was now (OnOpened Opens Next result)
  not_opened now result error is refused =
      asks_as (Opens (Err error)) (OnOpened Opens Next result) was now (λ calls opens. inl (error, is, opens)) refused
