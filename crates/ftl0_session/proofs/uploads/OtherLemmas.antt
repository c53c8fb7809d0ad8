-- What a call on one upload leaves of the other entries.
use Rattle.std.proofs.Common.{◌≡◌, ℕ, refl, ap, sym, ◌∙◌, subst, None, Some, inl, inr}
use Rattle.ftl0_session.proofs.Names.{eqb_tells, CallSign, KeepsRests, Entry, Store, entry_of, partial, ChangesEntry, KeepsOthers, StoreState, rest_in, store_in, entry_for, KeepsOtherCallers, NoOtherOut}

pub never_some : {X : Type 0} (x : X) → None ≡ Some x → ⊥
never_some x same = cc

-- a store that is the same has the same entries
pub changes-same : (n : ℕ) (before now : Store) → now ≡ before → ChangesEntry before now n
changes-same n before now same number e found = (e, ap (λ (s : Store). entry_of s number) (sym same) ∙ found, refl, λ ne. refl)

-- ---- the entries and uploads of other callers

module _ (before now : StoreState) (n : ℕ) (caller : CallSign) (changes : ChangesEntry (store_in before) (store_in now) n)
    (rests : KeepsRests before.files now.files n) where
  -- if the entry of this number is the caller's
  pub others-kept : ((e : Entry) → entry_of (store_in before) n ≡ Some e → e.caller ≡ caller) → KeepsOthers before now n → KeepsOtherCallers before now caller
  others-kept own uploads = record {
    uploads = λ up ne holds. uploads up (λ same. ne (own (entry_for up holds.begun (partial holds.held)) (subst (λ (k : ℕ). entry_of (store_in before) k ≡ Some (entry_for up holds.begun (partial holds.held))) same holds.entry))) holds;
    entries = λ number e ne found.
        let was = changes number e found in
        elim (eqb_tells number n) [
          | inl w ↦ absurd (ne (sym was.2 ∙ own was.0 (subst (λ (k : ℕ). entry_of (store_in before) k ≡ Some was.0) w.1 was.1)))
          | inr w ↦ (was.1 ∙ ap Some (was.3 w.1), rests number w.1)
        ];
  }

  -- no upload of another number goes out
  pub only-own : NoOtherOut before caller (Some n) → NoOtherOut now caller (Some n)
  only-own only number e found theirs other =
      let was = changes number e found in
      elim (eqb_tells number n) [
        | inl w ↦ absurd (other (ap Some (sym w.1)))
        | inr w ↦ rests number w.1 ∙ only number was.0 was.1 (was.2 ∙ theirs) other
      ]

  -- and none at all if that of this number is given up
  pub only-none : NoOtherOut before caller (Some n) → rest_in now n ≡ None → NoOtherOut now caller None
  only-none only gone number e found theirs other =
      let was = changes number e found in
      elim (eqb_tells number n) [
        | inl w ↦ subst (λ (k : ℕ). rest_in now k ≡ None) (sym w.1) gone
        | inr w ↦ rests number w.1 ∙ only number was.0 was.1 (was.2 ∙ theirs) (λ same. w.1 (let back : n ≡ number = cc in sym back))
      ]

-- what the caller's other entries are, if no upload of the caller's is out
pub only-wider : (store : StoreState) (caller : CallSign) (n : ℕ) → NoOtherOut store caller None → NoOtherOut store caller (Some n)
only-wider store caller n only number e found theirs other = only number e found theirs (λ same. absurd (never_some number same))
