-- Blocks that hold nothing but zeros: what is seen of the entries is what memory shows.
use Rattle.std.proofs.Common.{◌≡◌, ℕ, zero, suc, ◌+◌, ◌*◌, List, [], ◌∷◌, ◌++◌, length, map, take, replicate, Option, None, Some, refl, ap, ap₂, ◌∙◌, arith}
use Rattle.pfh_items.specs.Stamp.{StampValue, stamped}
use Rattle.file_store.proofs.Names.{flat_map, replicate-append-replicate, take-replicate, ArePlaced, IsPlaced, IsPlacedFile, outlined, outlined_entry, Placed, PlacedStore, Seal, entry_with, holding_with, octets_in, seen, seen_entry, stamp_at, whole_block, Entry, complete, holding_of, store_from, Blocks, blocks_on, file_parts, option_map}

-- a disk of which nothing is observed holds zeros
abbrev no_blocks : Blocks
no_blocks = blocks_on None

front_zeros : (count : ℕ) → take count (replicate count 0 ++ replicate count 0) ≡ replicate {A = ℕ} count 0
front_zeros count = ap (take count) (replicate-append-replicate count count 0) ∙ take-replicate count (count + count) 0 (omega arith)

-- octets of zeros have no items, so stamping leaves them
stamped_zeros : (stamp : StampValue) (count : ℕ) → stamped stamp (replicate count 0) ≡ replicate count 0
unfolding stamped file_parts
stamped_zeros stamp zero = refl
stamped_zeros stamp (suc count) = refl

blocks_zeros : (blocks : List ℕ) → flat_map (whole_block no_blocks) blocks ≡ replicate (512 * length blocks) 0
blocks_zeros [] = refl
blocks_zeros (b ∷ bs) =
    ap₂ (λ (a c : List ℕ). a ++ c) (front_zeros 512) (blocks_zeros bs)
    ∙ replicate-append-replicate 512 (512 * length bs) 0
    ∙ ap (λ (n : ℕ). replicate n 0) (omega arith)

octets_zeros : (limit : ℕ) (f : Placed) → IsPlacedFile limit f → octets_in no_blocks f ≡ replicate f.held 0
octets_zeros limit f is =
    ap (take f.held) (blocks_zeros f.blocks) ∙ take-replicate f.held (512 * length f.blocks) 0 (omega (arith, is.count))

holding_zeros : (f : Placed) (seal : Option Seal) → holding_with seal f (replicate f.held 0) ≡ holding_of (replicate f.held 0) (option_map (λ s. s.moment) seal)
holding_zeros f None = refl
holding_zeros f (Some s) = ap (λ (os : List ℕ). complete os s.moment) (stamped_zeros (stamp_at s.moment f) f.held)

entry_zeros : (limit : ℕ) (f : Placed) → IsPlacedFile limit f → seen_entry no_blocks f ≡ outlined_entry f
entry_zeros limit f is =
    ap (λ (os : List ℕ). entry_with f (holding_with f.seal f os)) (octets_zeros limit f is) ∙ ap (entry_with f) (holding_zeros f f.seal)

entries_zeros : (limit : ℕ) (files : List Placed) → ArePlaced limit files → map (seen_entry no_blocks) files ≡ map outlined_entry files
entries_zeros limit [] are = refl
entries_zeros limit (f ∷ fs) are = ap₂ (λ (e : Entry) (es : List Entry). e ∷ es) (entry_zeros limit f are.0) (entries_zeros limit fs are.1)

pub seen_zeros : (store : PlacedStore) → IsPlaced store → seen (blocks_on None) store ≡ outlined store
seen_zeros store is = ap (λ (es : List Entry). store_from es store.next store.blocks) (entries_zeros store.blocks store.entries is.files)
