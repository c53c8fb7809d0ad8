-- What is read of a complete file.
use Rattle.std.proofs.Common.{◌≡◌, ℕ, ◌≤◌, List, length, replicate, Option, None, Some, Result, Ok, Err, OnOk, refl, sym, ◌∙◌, ap, subst}
use Rattle.file_store.proofs.Names.{IsSomeAnd, IsTrue, is_some, length-replicate, option_map, outlined_entry, Placed, Seal, placed_of, IsSealedIn, Sealed, octets_given, holding_with, octets_in, seen, entry_seen, outlined_found, outlined_sealed, FillsRoom, Blocks, IsCompleteIn, Entry, entry_of, holding_of, octets_at, octets_of, StoreState, placed_in, store_in}

-- a complete file is sealed
module _ (self : StoreState) (number : ℕ) (whole : IsCompleteIn (store_in self) number) where
  pub sealed-there : Sealed (placed_in self) number
  sealed-there = by (outlined_sealed (placed_in self) number whole)
    where
      mark-of : (f : Placed) → placed_of (placed_in self) number ≡ Some f → (s : Option Seal) → f.seal ≡ s → IsTrue (is_some s) → Sealed (placed_in self) number
      mark-of f found None same is = absurd (cc is)
      mark-of f found (Some mark) same is = record { file = f; found = found; mark = mark; is = same }

      by : IsSealedIn (placed_in self) number → Sealed (placed_in self) number
      by (f, found, is) = mark-of f found f.seal refl is

module _ (self : StoreState) (number : ℕ) (sealed : Sealed (placed_in self) number) where
  -- it is as long as memory shows
  pub sealed-length : length (octets_at (entry_of (store_in self) number)) ≡ sealed.file.held
  sealed-length =
      ap (λ (o : Option Entry). length (octets_at o)) (outlined_found (placed_in self) number ∙ ap (option_map outlined_entry) sealed.found)
      ∙ zeros (option_map (λ (m : Seal). m.moment) sealed.file.seal)
    where
      zeros : (o : Option ℕ) → length (octets_of (holding_of (replicate sealed.file.held 0) o)) ≡ sealed.file.held
      zeros None = length-replicate {A = ℕ} sealed.file.held 0
      zeros (Some moment) = length-replicate {A = ℕ} sealed.file.held 0

  -- what is given of it are its octets on the disk
  pub sealed-given : (held : Blocks) → octets_at (entry_of (seen held (placed_in self)) number) ≡ octets_given held sealed
  sealed-given held =
      ap octets_at (entry_seen held (placed_in self) number sealed.file sealed.found)
      ∙ ap (λ (s : Option Seal). octets_of (holding_with s sealed.file (octets_in held sealed.file))) sealed.is

-- ---- answers

pub then-ok : {T E : Type 0} (result : Result T E) (P Q : Type 0) → (P → Q) → OnOk result P → OnOk result Q
then-ok (Ok v) P Q there is = there is
then-ok (Err e) P Q there is = tt

pub fills-same : (one other : List ℕ) (at count : ℕ) (room : List ℕ) → one ≡ other → FillsRoom one at count room → FillsRoom other at count room
fills-same one other at count room same fills = subst (λ (octets : List ℕ). FillsRoom octets at count room) same fills

-- what fits a file is no longer than memory shows
pub fits-inside : (self : StoreState) (number len : ℕ) → IsSomeAnd (placed_of (placed_in self) number) (λ f. len ≤ f.held) → len ≤ length (octets_at (entry_of (store_in self) number))
fits-inside self number len fits =
    by (placed_of (placed_in self) number) refl fits
  where
    zeros : (count : ℕ) (o : Option ℕ) → length (octets_of (holding_of (replicate count 0) o)) ≡ count
    zeros count None = length-replicate {A = ℕ} count 0
    zeros count (Some moment) = length-replicate {A = ℕ} count 0

    by : (o : Option Placed) → placed_of (placed_in self) number ≡ o → IsSomeAnd o (λ f. len ≤ f.held) → len ≤ length (octets_at (entry_of (store_in self) number))
    by None found is = absurd is
    by (Some f) found is =
        let long : length (octets_at (entry_of (store_in self) number)) ≡ f.held =
        ap (λ (o : Option Entry). length (octets_at o)) (outlined_found (placed_in self) number ∙ ap (option_map outlined_entry) found)
        ∙ zeros f.held (option_map (λ (m : Seal). m.moment) f.seal) in
        subst (λ (n : ℕ). len ≤ n) (sym long) is
