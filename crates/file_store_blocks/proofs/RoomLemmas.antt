-- If each number that was given is that of an entry, and stays so, there is room after the records of a journal.
use Rattle.std.proofs.Common.{◌≡◌, inl, inr, ℕ, ◌+◌, ◌≤◌, false, List, [], ◌∷◌, length, map, Option, None, Some, sym, ◌∙◌, ap, subst, arith}
use Rattle.file_store_blocks.proofs.Names.{length-map, Ghosts, ArePlaced, IsPlaced, IsPlacedFile, Rise, blocks_seen, rooms_files, Placed, PlacedStore, Seal, placed_form, placed_steps, placed_seen, holding_with, octets_in, seen, seen_entry, FillBlocks, FillsBlocks, IsSized, size_of_store, AreAllowed, Command, DropsNothing, after_all, most_entries, Store, HasRoomFor, StandsAt, Blocks, HasBlocks, block_in, half_size, Position, are_made, room_within}
use Rattle.file_store_blocks.proofs.SeenLemmas.{length_octets}
use Rattle.file_store_blocks.proofs.SizeLemmas.{all_sized, same_blocks, size_fits, sizes_after}
use Rattle.file_store_blocks.proofs.SpentLemmas.{records_most}

-- ---- what bounds the size of a store

placed_fills : (held : Blocks) (limit : ℕ) (f : Placed) → IsPlacedFile limit f → FillsBlocks (holding_with f.seal f (octets_in held f)) f.length
placed_fills held limit f is = by f.seal
  where
    long : length (octets_in held f) ≡ f.held
    long = length_octets held limit f is

    by : (mark : Option Seal) → FillsBlocks (holding_with mark f (octets_in held f)) f.length
    by None = (
      omega (arith, long, is.fits),
      elim is.full [
        | inl whole ↦ inr (long ∙ whole)
        | inr blocks ↦ inl (omega (arith, long, blocks))
      ],
    )
    by (Some mark) = tt

fill_seen : (held : Blocks) (limit low next : ℕ) (files : List Placed) → Rise low files next → ArePlaced limit files
    → FillBlocks low (map (seen_entry held) files) next
fill_seen held limit low next [] rise are = tt
fill_seen held limit low next (f ∷ fs) rise are =
    (rise.0, rise.1, placed_fills held limit f are.0, fill_seen held limit (f.number + 1) next fs rise.2 are.1)

-- Each store of placed files is seen as one of which that holds.
placed_sized : (held : Blocks) (store : PlacedStore) → IsPlaced store → IsSized (seen held store)
placed_sized held store is =
    record {
      entries = fill_seen held store.blocks 1 store.next store.entries is.numbers is.files;
      next = is.next;
      few = subst (λ (n : ℕ). n ≤ most_entries) (sym (length-map store.entries (seen_entry held))) is.few;
      blocks = omega (arith, is.rooms, blocks_seen held store, rooms_files store.entries);
    }

-- ---- the room

-- Commands that are allowed and drop nothing have room after the records of a journal, if none was dropped before.
pub room_for_commands : {D : Type 0} (g : Ghosts D) (position : Position) (now : PlacedStore) (disk : D) (octets : List ℕ) → StandsAt g placed_form placed_steps position now disk
    → position.failed ≡ false → g.content disk ≡ Some octets → length now.entries + 1 ≡ now.next
    → (held : Blocks) (commands : List Command) → AreAllowed (seen held now) commands → DropsNothing commands → HasRoomFor placed_form position commands
room_for_commands g position now disk octets at healthy told all held commands allowed drops =
    let are = are_made g placed_steps seen placed_form placed_seen position now disk octets at healthy told in
    let all_made : length are.made.store.entries + 1 ≡ are.made.store.next = subst (λ (s : PlacedStore). length s.entries + 1 ≡ s.next) (sym are.kept) all in
    let most = records_most (block_in octets) position.blocks are.records are.made are.are_records are.takes all_made held in
    let before : Store = seen held now in
    let store : Store = after_all before commands in
    let sized = placed_sized held now at.holds.reached in
    let grows = sizes_after commands before sized allowed drops in
    let fits = size_fits store (all_sized commands before sized allowed drops) in
    let blocks : position.blocks ≡ now.blocks = at.holds.number (subst HasBlocks (sym at.layout_is) tt) in
    room_within placed_form position commands (8 + size_of_store store) at.layout_is
    (omega (arith, are.place, most, ap (λ (s : PlacedStore). size_of_store (seen held s)) are.kept, grows))
    (subst (λ (n : ℕ). 8 + size_of_store store + 1 ≤ half_size n) (same_blocks commands before ∙ sym blocks) fits)
