-- What is true in every image of a disk on which a store is.
use Rattle.std.proofs.Common.{◌≡◌, ℕ, false, List, length, replicate, Option, None, Some, IfSome, refl, sym, ◌∙◌, ap, arith}
use Rattle.file_store.proofs.Names.{IsSome, option_map, length-replicate, Ghosts, IsPlaced, outlined, outlined_entry, Placed, PlacedStore, Seal, placed_of, placed_seen, entry_with, holding_with, octets_in, seen, entry_seen, found_length, outlined_found, images_now, Blocks, blocks_on, images_here, told_weaker, Entry, Holding, entry_of, holding_of, octets_of, partial, HoldsInEach, StandsInEach, kept_at, StandsFor, StandsOn, StoreState, placed_in, store_form, store_on, Holds, Upload, entry_for}
use Rattle.file_store.proofs.DoesLemmas.{kept-on}

-- ---- what the blocks hold of a file that is under way

-- The entry is there, with as many octets.
pub record IsSeenPartial (held : Blocks) (store : PlacedStore) (number count : ℕ) (entry : Entry) : Type 0 where
  pub octets : List ℕ
  pub found : entry_of (seen held store) number ≡ Some (record entry { holding = partial octets })
  pub many : length octets ≡ count

-- it has no seal
unsealed : (count : ℕ) (seal : Option Seal) (zeros : List ℕ) → holding_of (replicate count 0) (option_map (λ s. s.moment) seal) ≡ partial zeros → (seal ≡ None) × (length zeros ≡ count)
unsealed count None zeros is = (refl, ap (λ (h : Holding). length (octets_of h)) (sym is) ∙ length-replicate {A = ℕ} count 0)
unsealed count (Some s) zeros is = absurd (cc is)

-- The file of this number, of which memory shows this entry, with this many octets: it has no seal.
pub record IsFileUnder (store : PlacedStore) (number count : ℕ) (entry : Entry) : Type 0 where
  pub file : Placed
  pub found : placed_of store number ≡ Some file
  pub shown : outlined_entry file ≡ entry
  pub seal : file.seal ≡ None
  pub many : file.held ≡ count

pub file-under : (store : PlacedStore) (number : ℕ) (entry : Entry) (zeros : List ℕ) → entry.holding ≡ partial zeros → entry_of (outlined store) number ≡ Some entry
    → IsFileUnder store number (length zeros) entry
file-under store number entry zeros partial_is there = by (placed_of store number) refl (sym (outlined_found store number) ∙ there)
  where
    by : (o : Option Placed) → placed_of store number ≡ o → option_map outlined_entry o ≡ Some entry → IsFileUnder store number (length zeros) entry
    by None found same = absurd (cc same)
    by (Some f) found same =
        let one : outlined_entry f ≡ entry = cc same in
        let far = unsealed f.held f.seal zeros (ap (λ (e : Entry). e.holding) one ∙ partial_is) in
        record { file = f; found = found; shown = one; seal = far.0; many = sym far.1 }

pub seen-partial : (held : Blocks) (store : PlacedStore) (number : ℕ) (is : IsPlaced store) (entry : Entry) (zeros : List ℕ) → entry.holding ≡ partial zeros → entry_of (outlined store) number ≡ Some entry
    → IsSeenPartial held store number (length zeros) entry
seen-partial held store number is entry zeros partial_is there =
    let under = file-under store number entry zeros partial_is there in
    let f : Placed = under.file in
    record {
      octets = octets_in held f;
      found =
          entry_seen held store number f under.found
          ∙ ap (λ (s : Option Seal). Some (entry_with f (holding_with s f (octets_in held f)))) under.seal
          ∙ ap (λ (e : Entry). Some (record e { holding = partial (octets_in held f) })) under.shown;
      many = found_length held store number f is under.found ∙ under.many;
    }

-- If memory shows an entry, there is a file.
pub placed-there : (store : PlacedStore) (number : ℕ) (entry : Entry) → entry_of (outlined store) number ≡ Some entry → IsSome (placed_of store number)
placed-there store number entry found = by (placed_of store number) (sym (outlined_found store number) ∙ found)
  where
    by : (o : Option Placed) → option_map outlined_entry o ≡ Some entry → IsSome o
    by None same = absurd (cc same)
    by (Some f) same = refl

module _ {D : Type 0} (g : Ghosts D) (self : StoreState) (disk : D) (healthy : self.journal.failed ≡ false) (stands : StandsOn g self disk) where
  -- each image stands for the store
  pub stands-each : IfSome (g.content disk) (λ _. (image : List ℕ) → images_now g disk image → StandsFor image (store_on g self disk))
  stands-each = images_here store_form g placed_seen.own_number (kept_at g self disk) (kept-on g self disk stands) healthy

  pub holds-each : (up : Upload) → Holds self up → HoldsInEach g up disk
  holds-each up h =
      let there = seen-partial (blocks_on (g.content disk)) (placed_in self) up.number stands.holds.reached (entry_for up h.begun (partial h.held)) h.held refl h.entry in
      told_weaker (g.content disk) _ _ (λ now told each image here. (store_on g self disk, h.begun, there.octets, each image here, there.found, omega (arith, h.count, there.many))) stands-each

  pub entry-each : (number : ℕ) (entry : Entry) → entry_of (store_on g self disk) number ≡ Some entry → StandsInEach g number entry disk
  entry-each number entry found = told_weaker (g.content disk) _ _ (λ now told each image here. (store_on g self disk, each image here, found)) stands-each
