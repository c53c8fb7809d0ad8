-- What a write of a block leaves of the records, and of what a crash leaves.
use Rattle.std.proofs.Common.{◌≡◌, inl, inr, ℕ, ◌+◌, ◌-◌, ◌≤◌, true, false, Bool, List, ◌∷◌, ◌++◌, length, take, drop, Some, IfSome, Result, Ok, Err, OnOk, refl, sym, ◌∙◌, ap, subst, arith, append_assoc, take-append-drop, take-take, drop-drop, take_all}
use Rattle.std.specs.Result.{is_err}
use Rattle.file_journal.proofs.Names.{common_steps, drop_at, drop-take, length-take-le, take_at, on_ok_weaker, IsOctets, HasContent, Only, Torn, Writes, LeavesSince, Ghosts, IsTornFrom, HasBlock, IsWritingBlock, WritesBlock, Leaves, Makes, images_now, block_in, block_place, first_gate, half_gate, IsAt, Position, StandsOn, gate_of, left_to_read, store_in, Record, records_text, Half, Layout, on_ok_both, weaker, at_told, content_now, if_told, told_weaker, kept_back, torn_front, torn_length}
use Rattle.file_journal.proofs.AppendLemmas.{AllEnd, Ends, all_end, ends_at, ends_closed, ends_store, ends_there}
use Rattle.file_journal.proofs.JournalLemmas.{same_header}
use Rattle.file_journal.proofs.LayoutLemmas.{gate_of_blocks, half_behind, same_half}
use Rattle.file_journal.proofs.PositionLemmas.{among_records}

-- a write inside leaves what a torn one may leave
pub writes_torn : (at : ℕ) (text old new : List ℕ) → at + length text ≤ length old → Writes at text old new → Torn at (length text) old new
writes_torn at text old new within writes = record {
  before = writes.before;
  after = kept_back (at + length text) old new writes.after;
  no_shorter = omega (arith, writes.size);
  no_longer = omega (arith, writes.size);
}

-- octets torn between the header and the first gate
module _ (at count first : ℕ) (behind : 16 ≤ at) (within : at + count ≤ first) (octets image : List ℕ) (long : first ≤ length octets) (torn : Torn at count octets image) where
  same_length : length image ≡ length octets
  same_length = torn_length at count octets image (omega (arith, within, long)) torn

  same_front : take 16 image ≡ take 16 octets
  same_front =
      sym (take-take 16 at image behind) ∙ ap (λ (l : List ℕ). take 16 l) (torn_front at count octets image (omega (arith, within, long)) torn) ∙ take-take 16 at octets behind

  same_back : drop first image ≡ drop first octets
  same_back =
      let rest : drop (at + count) image ≡ drop (at + count) octets =
      ap (λ (l : List ℕ). drop (at + count) l) (sym (take_all (length octets) image (omega (arith, same_length)))) ∙ torn.after in
      let parts : at + count + (first - (at + count)) ≡ first = omega (arith, within) in
      ap (λ (i : ℕ). drop i image) (sym parts) ∙ sym (drop-drop (first - (at + count)) (at + count) image) ∙ ap (λ (l : List ℕ). drop (first - (at + count)) l) rest
      ∙ drop-drop (first - (at + count)) (at + count) octets ∙ ap (λ (i : ℕ). drop i octets) parts

-- the records of octets torn so end where they ended
ends_beside : (magic : List ℕ) (layout : Layout) (blocks : ℕ) (chosen : Half) (entries : List Record) (place at count : ℕ) (octets image : List ℕ) → Ends magic layout blocks chosen entries place octets
    → 16 ≤ at → at + count ≤ half_gate layout blocks chosen → Torn at count octets image → Ends magic layout blocks chosen entries place image
ends_beside magic layout blocks chosen entries place at count octets image ends behind within torn =
    let first = half_gate layout blocks chosen in
    let long : first ≤ length octets = omega (arith, ends_there magic layout blocks chosen entries place octets ends, ends.is_place) in
    let size = same_length at count first behind within octets image long torn in
    let split : octets ≡ ends.header ++ (records_text entries ++ ends.gate ∷ ends.rest) = ends.split ∙ append_assoc ends.header (records_text entries) (ends.gate ∷ ends.rest) in
    let back : drop first image ≡ records_text entries ++ ends.gate ∷ ends.rest =
    same_back at count first behind within octets image long torn ∙ ap (λ (l : List ℕ). drop first l) split ∙ drop_at ends.header (records_text entries ++ ends.gate ∷ ends.rest) first ends.size in
    let front : take 16 (take first image) ≡ take 16 ends.header =
    take-take 16 first image (omega (arith, behind, within)) ∙ same_front at count first behind within octets image long torn
    ∙ sym (take-take 16 first octets (omega (arith, behind, within))) ∙ ap (λ (l : List ℕ). take 16 l) (ap (λ (l : List ℕ). take first l) split ∙ take_at ends.header (records_text entries ++ ends.gate ∷ ends.rest) first ends.size) in
    record {
      header = take first image;
      gate = ends.gate;
      rest = ends.rest;
      head = same_header 16 magic blocks ends.header (take first image) (omega arith) front ends.head;
      size = length-take-le first image (omega (arith, size, long));
      half = same_half 16 layout ends.header (take first image) (omega arith) front ∙ ends.half;
      long = omega (arith, size, ends.long);
      are = ends.are;
      is_place = ends.is_place;
      inside = ends.inside;
      split = sym (take-append-drop first image) ∙ ap (λ (l : List ℕ). take first image ++ l) back ∙ sym (append_assoc (take first image) (records_text entries) (ends.gate ∷ ends.rest));
      shut = ends.shut;
    }

-- a block of a store stands before its first gate
pub block_within : (journal : Position) (block count : ℕ) → HasBlock journal block → count ≤ 512 → block_place block + count ≤ first_gate journal.layout journal.blocks
block_within journal block count has most = omega (arith, gate_of_blocks journal.layout journal.blocks has.has_blocks, has.there, most)

-- and so before the first gate of its records
pub block_before : (journal : Position) (block count : ℕ) → HasBlock journal block → count ≤ 512 → block_place block + count ≤ gate_of journal
block_before journal block count has most = omega (arith, block_within journal block count has most, half_behind journal.layout journal.blocks journal.half)

-- A journal at its end, and a block of its store that is written.
module _ {D : Type 0} (g : Ghosts D) (journal : Position) (old : D) (ok : journal.failed ≡ false) (end : journal.ended ≡ true) (stands : StandsOn g journal old)
    (block : ℕ) (has : HasBlock journal block) (bytes : List ℕ) (most : length bytes ≤ 512) where
  beside : (entries : List Record) (octets image : List ℕ) → Ends journal.magic journal.layout journal.blocks journal.half entries journal.place octets → Torn (block_place block) (length bytes) octets image
      → Ends journal.magic journal.layout journal.blocks journal.half entries journal.place image
  beside entries octets image ends torn =
      ends_beside journal.magic journal.layout journal.blocks journal.half entries journal.place (block_place block) (length bytes) octets image ends (omega arith) (block_before journal block (length bytes) has most) torn

  ends_alike : (entries : List Record) (octets image : List ℕ) → Ends journal.magic journal.layout journal.blocks journal.half entries journal.place octets → Ends journal.magic journal.layout journal.blocks journal.half entries journal.place image
      → (store_in journal image ≡ store_in journal octets) × (left_to_read journal image ≡ left_to_read journal octets)
  ends_alike entries octets image ends now = (
    ends_store _ _ _ _ entries _ image now ∙ sym (ends_store _ _ _ _ entries _ octets ends),
    ends_closed _ _ _ _ entries _ image now ∙ sym (ends_closed _ _ _ _ entries _ octets ends),
  )

  -- each image while it is written
  writing : ((t : ℕ) (image : List ℕ) → t ≤ g.moment old → g.images old image → g.images_since old t image) → (octets : List ℕ) → g.content old ≡ Some octets → (image : List ℕ)
      → IsTornFrom (g.images old) (block_place block) (length bytes) image → IsWritingBlock journal block (length bytes) (g.images old) octets image
  writing counts_now octets told image torn =
      let all = all_end g journal old ok end stands octets told in
      let same = ends_alike all.entries octets image all.content (beside all.entries torn.0 image (all.images torn.0 (counts_now (g.moment old) torn.0 (omega arith) torn.1)) torn.2) in
      record { store = same.0; left = same.1; beside = torn }

  -- what it makes of the content
  module _ (before now : List ℕ) (told : g.content old ≡ Some before) (writes : Writes (block_place block) bytes before now) where
    written_ends : (all : AllEnd g journal old ok end stands before) × Ends journal.magic journal.layout journal.blocks journal.half all.entries journal.place now
    written_ends =
        let all = all_end g journal old ok end stands before told in (
          all,
          beside all.entries before now all.content
              (writes_torn (block_place block) bytes before now (omega (arith, block_within journal block (length bytes) has most, all.content.long)) writes),
        )

    pub writes_block : WritesBlock journal block bytes before now
    writes_block =
        let ends = written_ends in
        let same = ends_alike ends.0.entries before now ends.0.content ends.1 in
        record { octets = writes; begins = (take-take (length bytes) 512 (drop (block_place block) now) most ∙ writes.there); store = same.0; left = same.1 }

  -- what it makes and leaves
  module _ {U E : Type 0} (result : Result U E) (new : D) (at : ℕ) (at_is : at ≡ block_place block)
      (at_makes : Makes g result old new (Writes at bytes) (λ _. IsTornFrom (g.images old) at (length bytes))) where
    makes : Makes g result old new (Writes (block_place block) bytes) (λ _. IsTornFrom (g.images old) (block_place block) (length bytes))
    makes = subst (λ (i : ℕ). Makes g result old new (Writes i bytes) (λ _. IsTornFrom (g.images old) i (length bytes))) at_is at_makes

    pub block_written : OnOk result (HasContent (g.content old) (g.content new) (WritesBlock journal block bytes))
    block_written = on_ok_weaker result (λ step. told_weaker (g.content old) _ _ (λ before told now. (now.0, now.1, writes_block before now.0 told now.2)) step) makes.ok

    stands_still : IfSome (g.content new) IsOctets → OnOk result (StandsOn g journal new)
    stands_still are = on_ok_both result (λ step rest. inr (if_told (g.content new) _ (λ now told_now.
        let was = content_now _ _ (Writes (block_place block) bytes) now makes.puts.told step told_now in
        let ends = written_ends was.0 now was.1 was.2 in
        let at = ends_at journal ends.0.entries now (at_told IsOctets now told_now are) ends.1 in (
          ends.0.entries,
          at.0,
          λ image here.
              let same = at_told (Only (images_now g new)) now told_now rest image here in
              (subst (λ (l : List ℕ). IsAt journal ends.0.entries l) (sym same) at.0, ap (left_to_read journal) same),
        )))) makes.ok makes.quiet

    -- the journal, which has failed exactly where the write did
    pub block_stands : (seen : Position) → seen ≡ journal → (failed : Bool) → failed ≡ is_err result → IfSome (g.content new) IsOctets → StandsOn g (record seen { failed = failed }) new
    block_stands seen seen_is failed failed_is are =
        subst (λ (p : Position). StandsOn g (record p { failed = failed }) new) (sym seen_is) (subst (λ (b : Bool). StandsOn g (record journal { failed = b }) new) (sym failed_is) (by result (stands_still are)))
      where
        by : (r : Result U E) → OnOk r (StandsOn g journal new) → StandsOn g (record journal { failed = is_err r }) new
        by (Ok x) stands = subst (λ (b : Bool). StandsOn g (record journal { failed = b }) new) ok stands
        by (Err e) stands = inl refl

    module _ (counts_now : (t : ℕ) (image : List ℕ) → t ≤ g.moment old → g.images old image → g.images_since old t image) where
      pub block_leaves : Leaves g old new (IsWritingBlock journal block (length bytes) (g.images old))
      block_leaves = told_weaker (g.content old) _ _ (λ before told left. weaker g.moment g.images_since old new _ _ (λ image torn. writing counts_now before told image torn) left) makes.since

      pub block_any_moment : IfSome (g.content old) (λ before. LeavesSince (g.moment old) (g.images_since new) (λ image. store_in journal image ≡ store_in journal before))
      block_any_moment = grind (arith, common_steps, all_end, ends_store, block_leaves)

-- A block that is read.
module _ {D : Type 0} (g : Ghosts D) (journal : Position) (old : D) (ok : journal.failed ≡ false) (stands : StandsOn g journal old) (block : ℕ) (has : HasBlock journal block) where
  pub block_there : (count : ℕ) → count ≤ 512 → IfSome (g.content old) (λ octets. block_place block + count ≤ length octets)
  block_there count most = grind (arith, common_steps, told_weaker, block_within, among_records)

-- what is read of a block
pub block_part : (octets room : List ℕ) (block at count : ℕ) → at + count ≤ 512 → room ≡ take count (drop (block_place block + at) octets) → room ≡ take count (drop at (block_in octets block))
block_part octets room block at count within is =
    is ∙ ap (take count) (sym (drop-drop at (block_place block) octets))
    ∙ sym (ap (take count) (ap (λ (n : ℕ). drop at (take n (drop (block_place block) octets))) (let parts : 512 ≡ at + (512 - at) = omega (arith, within) in parts) ∙ drop-take at (512 - at) (drop (block_place block) octets))
    ∙ take-take count (512 - at) (drop at (drop (block_place block) octets)) (omega (arith, within)))
