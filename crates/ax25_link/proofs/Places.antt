-- Places of a station's transmissions, after a frame is sent and after one is delivered.
use Rattle.std.proofs.Common.{◌≡◌, ℕ, ◌+◌, ◌-◌, ◌<◌, ◌⊎◌, List, [], ◌∷◌, ◌++◌, length, Some, true, refl, sym, ◌∙◌, ap, subst, arith, inl, inr, zero, suc, length-append}
use Rattle.ax25_link.proofs.Names.{slice_get, slice_set, IsTrue, slice_get_within, same_Some, cases_eq, cases_lt, true≢false, FrameValue, Transmission, fresh, IsAt, NoneLater, later_count, is_numbered, control_of, delivering}

-- an element of a list with one more at its end
pub slice_get-append_before : {A : Type 0} (xs ys : List A) (i : ℕ) → i < length xs → slice_get (xs ++ ys) i ≡ slice_get xs i
slice_get-append_before [] ys i h = absurd (omega arith)
slice_get-append_before (x ∷ xs) ys zero h = refl
slice_get-append_before (x ∷ xs) ys (suc i) h = slice_get-append_before xs ys i (omega arith)

pub slice_get-append_at : {A : Type 0} (xs : List A) (y : A) → slice_get (xs ++ y ∷ []) (length xs) ≡ Some y
slice_get-append_at [] y = refl
slice_get-append_at (x ∷ xs) y = slice_get-append_at xs y

-- an element of a list in which one was changed
pub slice_get-set_same : {A : Type 0} (xs : List A) (i : ℕ) (y : A) → i < length xs → slice_get (slice_set xs i y) i ≡ Some y
slice_get-set_same [] i y h = absurd (omega arith)
slice_get-set_same (x ∷ xs) zero y h = refl
slice_get-set_same (x ∷ xs) (suc i) y h = slice_get-set_same xs i y (omega arith)

pub slice_get-set_other : {A : Type 0} (xs : List A) (i j : ℕ) (y : A) → (j ≡ i → ⊥) → slice_get (slice_set xs i y) j ≡ slice_get xs j
slice_get-set_other [] i j y h = refl
slice_get-set_other (x ∷ xs) zero zero y h = absurd (h refl)
slice_get-set_other (x ∷ xs) zero (suc j) y h = refl
slice_get-set_other (x ∷ xs) (suc i) zero y h = refl
slice_get-set_other (x ∷ xs) (suc i) (suc j) y h = slice_get-set_other xs i j y (λ e. h (ap suc e))

pub length-slice_set : {A : Type 0} (xs : List A) (i : ℕ) (y : A) → length (slice_set xs i y) ≡ length xs
length-slice_set [] i y = refl
length-slice_set (x ∷ xs) zero y = refl
length-slice_set (x ∷ xs) (suc i) y = ap suc (length-slice_set xs i y)

-- a transmission after one more frame was sent
pub at-append : (list : List Transmission) (f : FrameValue) (place : ℕ) (u : Transmission) → IsAt (list ++ fresh f ∷ []) place u
    → ((place < length list) × IsAt list place u) ⊎ ((place ≡ length list) × (u ≡ fresh f))
at-append list f place u at =
    elim (cases_lt place (length list)) [
      | inl below ↦ inl (below, sym (slice_get-append_before list (fresh f ∷ []) place below) ∙ at)
      | inr above ↦
          let within : place < length (list ++ fresh f ∷ []) = slice_get_within (list ++ fresh f ∷ []) place u at in
          let size : length (list ++ fresh f ∷ []) ≡ length list + 1 = length-append list (fresh f ∷ []) in
          let last : place ≡ length list = omega (arith, size) in
          inr (last, same_Some u (fresh f) (sym at ∙ ap (λ n. slice_get (list ++ fresh f ∷ []) n) last ∙ slice_get-append_at list (fresh f)))
    ]

pub later_count-append : (list : List Transmission) (f : FrameValue) (place : ℕ) → place < length list
    → later_count (list ++ fresh f ∷ []) place ≡ later_count list place + 1
later_count-append list f place below =
    let size : length (list ++ fresh f ∷ []) ≡ length list + 1 = length-append list (fresh f ∷ []) in omega (arith, size)

pub NoneLater-append : (list : List Transmission) (f : FrameValue) (place : ℕ) → NoneLater (list ++ fresh f ∷ []) place → NoneLater list place
NoneLater-append list f place h later t after at kind =
    h later t after (slice_get-append_before list (fresh f ∷ []) later (slice_get_within list later t at) ∙ at) kind

-- the transmission that was delivered, and any other
delivered_at : (list : List Transmission) (place : ℕ) (t : Transmission) → IsAt list place t
    → IsAt (delivering list place t) place (record t { delivered = true })
delivered_at list place t at = slice_get-set_same list place (record t { delivered = true }) (slice_get_within list place t at)

-- what was at this place before a delivery is the same frame
pub record WasAt (list : List Transmission) (p : ℕ) (u : Transmission) : Type 0 where
  pub before : Transmission
  pub at : IsAt list p before
  pub frame : u.frame ≡ before.frame

pub was_at : (list : List Transmission) (place : ℕ) (t : Transmission) (p : ℕ) (u : Transmission) → IsAt list place t
    → IsAt (delivering list place t) p u → WasAt list p u
was_at list place t p u at now =
    elim (cases_eq p place) [
      | inl same ↦
          let e : u ≡ record t { delivered = true } =
          same_Some u (record t { delivered = true }) (sym now ∙ ap (λ n. slice_get (delivering list place t) n) same ∙ delivered_at list place t at) in
          record { before = t; at = ap (λ n. slice_get list n) same ∙ at; frame = ap (λ (x : Transmission). x.frame) e }
      | inr other ↦
          record { before = u; at = sym (slice_get-set_other list place p (record t { delivered = true }) other) ∙ now; frame = refl }
    ]

pub later_count-deliver : (list : List Transmission) (place : ℕ) (t : Transmission) (p : ℕ)
    → later_count (delivering list place t) p ≡ later_count list p
later_count-deliver list place t p = ap (λ n. n - 1 - p) (length-slice_set list place (record t { delivered = true }))

-- a later frame that was delivered is none before
pub NoneLater-deliver : (list : List Transmission) (place : ℕ) (t : Transmission) (p : ℕ) → IsAt list place t
    → NoneLater (delivering list place t) p → NoneLater list p
NoneLater-deliver list place t p at h later u after here kind =
    elim (cases_eq later place) [
      | inl same ↦
          let e : u ≡ t = same_Some u t (sym here ∙ ap (λ n. slice_get list n) same ∙ at) in
          let numbered : IsTrue (is_numbered (control_of t)) = ap (λ (x : Transmission). is_numbered (control_of x)) (sym e) ∙ kind in
          absurd (true≢false (h place (record t { delivered = true }) (subst (λ n. p < n) same after) (delivered_at list place t at) numbered))
      | inr other ↦ h later u after (slice_get-set_other list place later (record t { delivered = true }) other ∙ here) kind
    ]

pub NoneLater-overtaken : (list : List Transmission) (place : ℕ) (t : Transmission) (p : ℕ) → IsAt list place t
    → IsTrue (is_numbered (control_of t)) → NoneLater (delivering list place t) p → p < place → ⊥
NoneLater-overtaken list place t p at numbered h before =
    true≢false (h place (record t { delivered = true }) before (delivered_at list place t at) numbered)

-- the flags after a delivery
pub delivered_same : (list : List Transmission) (place : ℕ) (t : Transmission) (p : ℕ) (u : Transmission) → IsAt list place t → p ≡ place
    → IsAt (delivering list place t) p u → u.delivered ≡ true
delivered_same list place t p u at same now =
    let e : u ≡ record t { delivered = true } =
    same_Some u (record t { delivered = true }) (sym now ∙ ap (λ n. slice_get (delivering list place t) n) same ∙ delivered_at list place t at) in
    ap (λ (x : Transmission). x.delivered) e

pub unchanged_at : (list : List Transmission) (place : ℕ) (t : Transmission) (p : ℕ) (u : Transmission) → (p ≡ place → ⊥)
    → IsAt (delivering list place t) p u → IsAt list p u
unchanged_at list place t p u other now = sym (slice_get-set_other list place p (record t { delivered = true }) other) ∙ now
