-- The store as far as memory shows: it keeps the rules of a store, and reports about each file what the store does.
use Rattle.std.proofs.Common.{◌≡◌, ℕ, ◌+◌, ◌≤◌, Bool, List, [], ◌∷◌, length, map, replicate, Option, None, Some, refl, ap, ap₂, sym, ◌∙◌, subst, arith}
use Rattle.std.specs.Prelude.{option_map}
use Rattle.file_store_blocks.specs.Outlined.{outlined, outlined_entry}
use Rattle.file_store_blocks.proofs.Names.{IfSome, IsSome, IsTrue, is_some, AllByRecursion, length-map, length-replicate, map-append, replicate-append-replicate, ArePlaced, IsPlaced, IsPlacedFile, KeepsSeal, KeepsSeals, Rise, rooms_files, sum_map, Placed, PlacedStore, Seal, new_placed, placed_of, runs_of, grown, with_grown, with_new, IsNextSealed, IsSealedIn, placed_info, entry_with, holding_with, octets_in, seen, seen_entry, stamp_at, Grows, may_grow, rooms_of, AreEntries, FitsLength, HaveCallers, IsStore, most_entries, Entry, Holding, blocks_for, entry_of, holding_of, octets_of, partial, store_from, Info, Blocks, fault_code, length-stamped, CallSign}
use Rattle.file_store_blocks.proofs.RulesLemmas.{seal_faultless}
use Rattle.file_store_blocks.proofs.SeenLemmas.{changed_shown, find_shown, length_octets}
use Rattle.file_store_model.specs.Like.{AreLike, IsAsFar, IsEntryLike, IsStoreLike}
use Rattle.file_store_model.specs.Command as file
use Rattle.file_store_model.specs.Info.{IsCompleteIn, IsNextComplete, info_of, is_complete}
use Rattle.file_store_model.specs.Store.{blocks_of}

-- how far a file with this seal has come, with zeros for its octets
abbrev holding_at : ℕ → Option Seal → Holding
holding_at count seal = holding_of (replicate count 0) (option_map (λ s. s.moment) seal)

-- the same of a file
abbrev outlined_holding : Placed → Holding
outlined_holding f = holding_at f.held f.seal

length_zeros : (count : ℕ) → length {A = ℕ} (replicate count 0) ≡ count
length_zeros count = length-replicate {A = ℕ} count 0

length_at : (count : ℕ) (seal : Option Seal) → length (octets_of (holding_at count seal)) ≡ count
length_at count None = length_zeros count
length_at count (Some s) = length_zeros count

complete_at : (count : ℕ) (seal : Option Seal) → is_complete (holding_at count seal) ≡ is_some seal
complete_at count None = refl
complete_at count (Some s) = refl

-- ---- what is reported about a file

pub outlined_info : (f : Placed) → info_of (outlined_entry f) ≡ placed_info f
outlined_info f =
    let told : ℕ → Bool → Info = λ n b. record {
      number = f.number;
      caller = f.caller;
      length = f.length;
      held = n;
      complete = b;
      begun = f.begun;
    } in
    ap₂ told (length_at f.held f.seal) (complete_at f.held f.seal)

-- the entry of a number is the outline of its file
pub outlined_found : (store : PlacedStore) (number : ℕ) → entry_of (outlined store) number ≡ option_map outlined_entry (placed_of store number)
outlined_found store number = find_shown outlined_holding number store.entries

module _ (store : PlacedStore) (number : ℕ) where
  -- a sealed file is a complete one
  pub sealed_outlined : IsSealedIn store number → IsCompleteIn (outlined store) number
  sealed_outlined (f, found, is) =
      (outlined_entry f, outlined_found store number ∙ ap (option_map outlined_entry) found, complete_at f.held f.seal ∙ is)

  -- and no other file is
  pub outlined_sealed : IsCompleteIn (outlined store) number → IsSealedIn store number
  outlined_sealed (e, found, is) = by (placed_of store number) refl (sym (outlined_found store number) ∙ found)
    where
      by : (o : Option Placed) → placed_of store number ≡ o → option_map outlined_entry o ≡ Some e → IsSealedIn store number
      by None same outlined_is = absurd (cc)
      by (Some f) same outlined_is =
          let here : outlined_entry f ≡ e = cc in
          let complete : IsTrue (is_complete (outlined_entry f).holding) = subst (λ (x : Entry). IsTrue (is_complete x.holding)) (sym here) is in
          (f, same, sym (complete_at f.held f.seal) ∙ complete)

-- the next sealed file is the next complete one
pub outlined_next : (store : PlacedStore) (above : ℕ) (o : Option ℕ) → IsNextSealed store above o → IsNextComplete (outlined store) above o
outlined_next store above None none = λ number past complete. none number past (outlined_sealed store number complete)
outlined_next store above (Some next) (past, is, least) =
    (past, sealed_outlined store next is, λ number over complete. least number over (outlined_sealed store number complete))

-- ---- the rules of a store

fits_at : (f : Placed) (seal : Option Seal) → f.held ≤ f.length → (IsSome seal → f.held ≡ f.length) → FitsLength (holding_at f.held seal) f.length
fits_at f None fits whole = omega (arith, fits, length_zeros f.held)
fits_at f (Some s) fits whole = length_zeros f.held ∙ whole refl

are_outlined : (limit low next : ℕ) (files : List Placed) → Rise low files next → ArePlaced limit files → AreEntries low (map outlined_entry files) next
are_outlined limit low next [] rise are = tt
are_outlined limit low next (f ∷ fs) rise are =
    (rise.0, rise.1, fits_at f f.seal are.0.fits are.0.whole, are.0.short, are_outlined limit (f.number + 1) next fs rise.2 are.1)

callers_outlined : (limit : ℕ) (files : List Placed) → ArePlaced limit files → HaveCallers (map outlined_entry files)
callers_outlined limit [] are = tt
callers_outlined limit (f ∷ fs) are = (are.0.caller, callers_outlined limit fs are.1)

blocks_outlined : (store : PlacedStore) → blocks_of (outlined store) ≡ rooms_of (runs_of store.entries)
blocks_outlined store = sum_map (λ (e : Entry). blocks_for e.length) outlined_entry store.entries ∙ sym (rooms_files store.entries)

pub outlined_rules : (store : PlacedStore) → IsPlaced store → 1 ≤ store.blocks → store.blocks ≤ 65536 → IsStore (outlined store)
outlined_rules store is some most = record {
  entries = are_outlined store.blocks 1 store.next store.entries is.numbers is.files;
  callers = callers_outlined store.blocks store.entries is.files;
  next = is.next;
  count = subst (λ (n : ℕ). n ≤ most_entries) (sym (length-map store.entries outlined_entry)) is.few;
  blocks = subst (λ (n : ℕ). n ≤ store.blocks) (sym (blocks_outlined store)) is.rooms;
  some = some;
  most = most;
}

-- ---- with what the blocks hold

far_seen : (f : Placed) (octets : List ℕ) (limit : ℕ) (seal : Option Seal) → IsPlacedFile limit f → length octets ≡ f.held → IfSome seal (λ _. fault_code octets ≡ None)
    → IsAsFar (holding_at f.held seal) (holding_with seal f octets)
far_seen f octets limit None is same keeps = length_zeros f.held ∙ sym same
far_seen f octets limit (Some s) is same keeps =
    (length_zeros f.held ∙ sym same ∙ sym (length-stamped (stamp_at s.moment f) octets is.caller keeps), refl)

all_like : (held : Blocks) (limit : ℕ) (files : List Placed) → ArePlaced limit files → AllByRecursion (KeepsSeal held) files → AreLike (map outlined_entry files) (map (seen_entry held) files)
all_like held limit [] are keeps = tt
all_like held limit (f ∷ fs) are keeps =
    let one : IsEntryLike (outlined_entry f) (seen_entry held f) = record {
      number = refl;
      caller = refl;
      length = refl;
      begun = refl;
      holding = far_seen f (octets_in held f) limit f.seal are.0 (length_octets held limit f are.0) (seal_faultless held f keeps.0);
    } in
    (one, all_like held limit fs are.1 keeps.1)

-- if the seals are kept, what is seen is the outline except for the octets
pub seen_like : (held : Blocks) (store : PlacedStore) → IsPlaced store → KeepsSeals held store → IsStoreLike (outlined store) (seen held store)
seen_like held store is keeps = record {
  entries = all_like held store.blocks store.entries is.files keeps;
  next = refl;
  blocks = refl;
}

-- ---- changes

pub outlined_new : (store : PlacedStore) (number : ℕ) (caller : CallSign) (file_length moment : ℕ)
    → outlined (with_new store (new_placed number caller file_length moment)) ≡ file.after (outlined store) (file.begin number caller file_length moment)
outlined_new store number caller file_length moment =
    ap (λ (es : List Entry). store_from es (number + 1) store.blocks) (map-append outlined_entry store.entries (new_placed number caller file_length moment ∷ []))

grown_outlined : (f : Placed) (block used : ℕ) → f.seal ≡ None → outlined_entry (grown block used f) ≡ entry_with f (file.grown (replicate used 0) (outlined_entry f))
grown_outlined f block used none =
    ap (λ (s : Option Seal). entry_with f (holding_at (f.held + used) s)) none
    ∙ ap (λ (os : List ℕ). entry_with f (partial os)) (sym (replicate-append-replicate f.held used 0))
    ∙ sym (ap (λ (s : Option Seal). entry_with f (file.with_more (replicate used 0) (holding_at f.held s))) none)

-- further octets of a file are a Grow of as many zeros
pub outlined_grown : (store : PlacedStore) (number block used : ℕ) → IsPlaced store → Grows store number block used
    → outlined (with_grown store number block used) ≡ file.after (outlined store) (file.grow number (replicate used 0))
outlined_grown store number block used is grows =
    let one = grows.passes.file in
    let may = may_grow one used grows.passes.test_is in
    ap (λ (es : List Entry). store_from es store.next store.blocks)
    (changed_shown outlined_holding number (grown block used) (file.grown (replicate used 0)) 1 store.next store.entries one is.numbers grows.passes.found (grown_outlined one block used may.partial))
