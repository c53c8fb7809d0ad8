-- What a store of placed files is seen as keeps the rules of a store.
use Rattle.std.proofs.Common.{◌≡◌, ℕ, ◌+◌, ◌≤◌, List, [], ◌∷◌, length, map, Option, None, Some, refl, ap, sym, ◌∙◌, subst, arith}
use Rattle.std.specs.Prelude.{if◌then◌else◌}
use Rattle.file_store_blocks.specs.SameLaws.{octets_same}
use Rattle.file_store_blocks.proofs.Names.{IfSome, IsSome, is_some, sum_by, AllByRecursion, length-map, sum_by-cons, found_holds, IsSealable, ArePlaced, IsPlaced, IsPlacedFile, KeepsSeal, KeepsSeals, Rise, blocks_seen, times_at, Decides, Placed, PlacedStore, Seal, times_sealed, sealed, Sealed, holding_with, octets_in, seen, seen_entry, stamp_at, sum_with, SaysIn, header_octets, AreEntries, FitsLength, HaveCallers, IsStore, most_entries, Blocks, HoldSame, fault_code, length-stamped}
use Rattle.file_store_blocks.proofs.SeenLemmas.{length_octets}

-- ---- seals

-- what the seal of a sealed file says
pub sealed_keeps : (held : Blocks) (store : PlacedStore) (number : ℕ) → KeepsSeals held store → (sealed : Sealed store number)
    → IsSealable (stamp_at sealed.mark.moment sealed.file) (octets_in held sealed.file) sealed.mark.sum sealed.mark.header
sealed_keeps held store number keeps sealed =
    let f = sealed.file in
    let here = found_holds (KeepsSeal held) number store.entries f keeps sealed.found in
    let says = subst (λ (o : Option Seal). IfSome o (SaysIn f (octets_in held f))) sealed.is here in
    record { faultless = says.0; sum_is = says.1; len_is = says.2 }

-- its header is no longer than what is held
pub sealed_inside : (store : PlacedStore) (number : ℕ) → IsPlaced store → (sealed : Sealed store number) → sealed.mark.header ≤ sealed.file.held
sealed_inside store number is sealed =
    let one = found_holds (IsPlacedFile store.blocks) number store.entries sealed.file is.files sealed.found in
    subst (λ (o : Option Seal). IfSome o (λ s. s.header ≤ sealed.file.held)) sealed.is one.header

-- ---- the rules of a store

-- the octets of a file fit its length, stamped if it is sealed
fits_seen : (f : Placed) (octets : List ℕ) (limit : ℕ) (s : Option Seal) → IsPlacedFile limit f → length octets ≡ f.held → (IsSome s → f.held ≡ f.length)
    → IfSome s (λ _. fault_code octets ≡ None) → FitsLength (holding_with s f octets) f.length
fits_seen f octets limit None is same whole keeps = subst (λ (n : ℕ). n ≤ f.length) (sym same) is.fits
fits_seen f octets limit (Some s) is same whole keeps = length-stamped (stamp_at s.moment f) octets is.caller keeps ∙ same ∙ whole refl

faultless : (s : Option Seal) (P : Type 0) (Q R : Seal → Type 0) → IfSome s (λ seal. P × Q seal × R seal) → IfSome s (λ _. P)
faultless None P Q R keeps = tt
faultless (Some s) P Q R keeps = keeps.0

pub seal_faultless : (held : Blocks) (f : Placed) → KeepsSeal held f → IfSome f.seal (λ _. fault_code (octets_in held f) ≡ None)
seal_faultless held f keeps =
    let octets = octets_in held f in
    faultless f.seal (fault_code octets ≡ None) (λ s. s.sum ≡ sum_with s.moment f octets) (λ s. s.header ≡ length (header_octets octets)) keeps

are_seen : (held : Blocks) (limit low next : ℕ) (files : List Placed) → Rise low files next → ArePlaced limit files → AllByRecursion (KeepsSeal held) files
    → AreEntries low (map (seen_entry held) files) next
are_seen held limit low next [] rise are keeps = tt
are_seen held limit low next (f ∷ fs) rise are keeps =
    let octets = octets_in held f in (
      rise.0,
      rise.1,
      fits_seen f octets limit f.seal are.0 (length_octets held limit f are.0) are.0.whole
          (seal_faultless held f keeps.0),
      are.0.short,
      are_seen held limit (f.number + 1) next fs rise.2 are.1 keeps.1,
    )

callers_seen : (held : Blocks) (limit : ℕ) (files : List Placed) → ArePlaced limit files → HaveCallers (map (seen_entry held) files)
callers_seen held limit [] are = tt
callers_seen held limit (f ∷ fs) are = (are.0.caller, callers_seen held limit fs are.1)

pub seen_store : (held : Blocks) (store : PlacedStore) → IsPlaced store → KeepsSeals held store → 1 ≤ store.blocks → store.blocks ≤ 65536
    → IsStore (seen held store)
seen_store held store is keeps some most = record {
  entries = are_seen held store.blocks 1 store.next store.entries is.numbers is.files keeps;
  callers = callers_seen held store.blocks store.entries is.files;
  next = is.next;
  count = subst (λ (n : ℕ). n ≤ most_entries) (sym (length-map store.entries (seen_entry held))) is.few;
  blocks = subst (λ (n : ℕ). n ≤ store.blocks) (sym (blocks_seen held store)) is.rooms;
  some = some;
  most = most;
}

-- ---- seals, whatever other blocks hold

-- what a seal says of octets
abbrev SaysOf : Placed → List ℕ → Option Seal → Type 0
SaysOf f octets o = IfSome o (SaysIn f octets)

seal_same : (one other : Blocks) (f : Placed) → HoldSame (λ b. 1 ≤ times_sealed b f) one other → KeepsSeal one f → KeepsSeal other f
seal_same one other f same keeps = by f.seal refl keeps
  where
    by : (o : Option Seal) → f.seal ≡ o → SaysOf f (octets_in one f) o → SaysOf f (octets_in other f) o
    by None is keeps = tt
    by (Some s) is keeps =
        let all : (b : ℕ) → times_sealed b f ≡ times_at b f =
        λ b. ap (λ (o : Option Seal). if is_some o then times_at b f else 0) is in
        let octets = octets_same one other f (λ b some. same b (subst (λ (n : ℕ). 1 ≤ n) (sym (all b)) some)) in
        subst (λ (os : List ℕ). SaysOf f os (Some s)) (sym octets) keeps

files_same : (one other : Blocks) (files : List Placed) → HoldSame (λ b. 1 ≤ sum_by (times_sealed b) files) one other → AllByRecursion (KeepsSeal one) files
    → AllByRecursion (KeepsSeal other) files
files_same one other [] same keeps = tt
files_same one other (f ∷ fs) same keeps =
    let more = λ (b : ℕ). sum_by-cons (times_sealed b) f fs in (
      seal_same one other f (λ b is. same b (omega (arith, is, more b))) keeps.0,
      files_same one other fs (λ b is. same b (omega (arith, is, more b))) keeps.1,
    )

pub seals_same : (one other : Blocks) (store : PlacedStore) → HoldSame (Decides store) one other → KeepsSeals one store → KeepsSeals other store
seals_same one other store same keeps = files_same one other store.entries same keeps
