-- What changes of the entries are of the store of files that they are seen as.
use Rattle.std.proofs.Common.{◌≡◌, ℕ, List, ◌++◌, length, take, drop, replicate, nat_le, nat_lt, Bool, true, false, None, Some, refl, ap, sym, ◌∙◌, arith, inl, inr, ◌+◌}
use Rattle.std.specs.Prelude.{◌&&◌, if◌then◌else◌}
use Rattle.file_store_blocks.proofs.Names.{IsTrue, eq-eqb, nat_tests, append_assoc, take-append-drop, take-take, take_at, IsSealable, found_holds, header_found, IsPlaced, IsPlacedFile, PlacedStore, PlacedCommand, after, begin, can_grow, drop_entry, grow, header_at, is_allowed, is_free, is_whole, seal, seal_with, seen_command, with_grown, with_sealed, IsWritable, octets_for, placed_after, read_step, record_of_placed, recorded_in, kept_after, kept_allowed, IsReadStore, ReadStore, after_recorded, change, is_recordable, begin_len, recorded_written, octets_in, seen, seen_entry, stamp_at, whole_block, Grows, Passes, may_grow, passes_found, both-true, grow-is_allowed, Blocks, Record, HasPut, steps}
use Rattle.file_store_blocks.proofs.AppliedLemmas.{sum_decides}
use Rattle.file_store_blocks.proofs.SeenLemmas.{entry_seen, length_octets, partial_seen, seen_grown}
use Rattle.file_store_model.specs.Command as file

-- ---- further octets of a file

module _ (held : Blocks) (store : PlacedStore) (number block : ℕ) where
  -- the condition of a Grow, by what it says
  pub grows_allowed : (used : ℕ) → Grows store number block used → IsTrue (is_allowed held store (grow number block used))
  grows_allowed used grows =
      let some : IsTrue (nat_le 1 used) = let h = grows.takes.some in grind (arith, nat_tests) in
      let most : IsTrue (nat_le used 512) = let h = grows.takes.most in grind (arith, nat_tests) in
      let there : IsTrue (nat_lt block store.blocks) = let h = grows.takes.there in grind (arith, nat_tests) in
      both-true (nat_le 1 used && nat_le used 512 && is_free store block) _
      (both-true (nat_le 1 used && nat_le used 512) (is_free store block) (both-true (nat_le 1 used) (nat_le used 512) some most)
      (both-true (nat_lt block store.blocks) _ there (eq-eqb _ _ grows.takes.free)))
      (passes_found store number (λ f. can_grow f used) grows.passes.file grows.passes.found ∙ grows.passes.test_is)

  module _ (octets : List ℕ) (grows : Grows store number block (length octets)) where
    -- the store that is seen allows a Grow of octets that a block may take
    pub seen_may_grow : IsPlaced store → file.IsAllowed (seen held store) (file.grow number octets)
    seen_may_grow is =
        let one = grows.passes.file in
        let may = may_grow one (length octets) grows.passes.test_is in
        let rules = found_holds (IsPlacedFile store.blocks) number store.entries one is.files grows.passes.found in
        let before : length (octets_in held one) ≡ one.held = length_octets held store.blocks one rules in
        grow-is_allowed (seen held store) number octets (seen_entry held one) (octets_in held one) (entry_seen held store number one grows.passes.found)
        (partial_seen held one may.partial) grows.takes.some grows.takes.most (omega (arith, before, may.room))
        (elim may.fills [
          | inl block_is ↦ inl block_is
          | inr all ↦ inr (omega (arith, before, all))
        ])

    -- octets that were put in the block are at its beginning
    pub put_there : HasPut (Some (record { number = block; octets = octets })) held → take (length octets) (whole_block held block) ≡ octets
    put_there put =
        let zeros : List ℕ = replicate 512 0 in
        let left : List ℕ = drop (length octets) (held block) in
        let split : held block ≡ octets ++ left =
        sym (take-append-drop (length octets) (held block)) ∙ ap (λ (os : List ℕ). os ++ left) put in
        take-take (length octets) 512 (held block ++ zeros) grows.takes.most
        ∙ ap (λ (os : List ℕ). take (length octets) (os ++ zeros)) split
        ∙ ap (λ (os : List ℕ). take (length octets) os) (append_assoc octets left zeros)
        ∙ take_at octets (left ++ zeros) (length octets) refl

    -- and the store with them is seen as the one after that Grow
    pub seen_put : IsPlaced store → HasPut (Some (record { number = block; octets = octets })) held
        → seen held (with_grown store number block (length octets)) ≡ file.after (seen held store) (file.grow number octets)
    seen_put is put =
        seen_grown held store number block (length octets) is grows
        ∙ ap (λ (os : List ℕ). file.after (seen held store) (file.grow number os)) (put_there put)

-- ---- a file sealed

-- what the record of a Seal makes of the store, if the check of the file found this
pub seal_step : (held : Blocks) (store : PlacedStore) (number moment sum header : ℕ) (passes : Passes store number is_whole)
    → IsSealable (stamp_at moment passes.file) (octets_in held passes.file) sum header
    → placed_after held store (seal number moment sum) ≡ Some (with_sealed store number (seal_with moment sum header))
seal_step held store number moment sum header passes is =
    let ok : IsTrue (is_allowed held store (seal number moment sum)) =
    sym (sum_decides held store number moment sum passes sum header is) ∙ eq-eqb sum sum refl in
    let same : header_at held store number ≡ header = header_found held store number passes.file passes.found ∙ sym is.len_is in
    rw ok (ap (λ (n : ℕ). Some (with_sealed store number (seal_with moment sum n))) same)

-- ---- the record of a command of what is kept

-- the condition of a command that makes a store holds, and that is the one after it
made_after : (ok : Bool) (made now : PlacedStore) → (if ok then Some made else None) ≡ Some now → IsTrue ok × (made ≡ now)
made_after true made now is = (refl, cc is)
made_after false made now is = absurd (cc is)

-- the record of a command has as many octets as the command's records have
pub octets_written : (held : Blocks) (entry : Record) (command : PlacedCommand) → IsWritable command → entry ≡ record_of_placed command
    → octets_for (seen_command held command) ≡ 4 + length entry.content
octets_written held entry command writable is = by command writable ∙ ap (λ (e : Record). 4 + length e.content) (sym is)
  where
    by : (c : PlacedCommand) → IsWritable c → octets_for (seen_command held c) ≡ 4 + length (record_of_placed c).content
    by (begin number caller file_length moment) w = omega (arith, begin_len number caller file_length moment w.1)
    by (grow number block used) w = refl
    by (seal number moment sum) w = refl
    by (drop_entry number) w = refl

-- The record of a command makes the same of each store that is read of which that is kept.
pub kept_step : (held : Blocks) (store next : PlacedStore) (command : PlacedCommand) (entry : Record) → IsWritable command → entry ≡ record_of_placed command
    → placed_after held store command ≡ Some next → (before : ReadStore) → IsReadStore before → before.store ≡ store
    → (now : ReadStore) × (read_step held before entry ≡ Some now) × (now.store ≡ next)
kept_step held store next command entry writable is step before rules kept =
    let both = made_after (is_allowed held before.store command) (after held before.store command) next (ap (λ (s : PlacedStore). placed_after held s command) kept ∙ step) in
    let read : recorded_in entry ≡ Some (change command) = ap recorded_in is ∙ recorded_written (change command) writable in (
      after_recorded held before (change command),
      steps (is_recordable held) (after_recorded held) before (change command) (recorded_in entry) read (kept_allowed held before rules command both.0),
      kept_after held before rules command both.0 ∙ both.1,
    )
