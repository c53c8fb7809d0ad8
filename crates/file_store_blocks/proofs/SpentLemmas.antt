-- How many octets the records of a half have, if no file was given up whose number came in them.
use Rattle.std.proofs.Common.{◌≡◌, ℕ, ◌+◌, ◌*◌, ◌≤◌, ◌∷◌, List, [], length, map, not, filter, true, Option, None, Some, refl, ap, sym, subst, arith, length-append}
use Rattle.file_store_blocks.specs.AnewLaws.{block_count, length_record}
use Rattle.file_store_blocks.proofs.Names.{IsSome, IsTrue, nat_le, sum_by, AllByRecursion, and_parts, length-map, sum_by-cons, sum_by_push, sum_changed, sum_without, ArePlaced, IsPlacedFile, IsMade, all_made, nothing_made, step_made, Placed, Seal, has_number, new_placed, begin, can_seal, changed, drop_entry, grow, grown, header_at, is_partial, seal, seal_with, sealed, CanRecord, read_step, record_of_recorded, recorded_in, may_number, ReadStore, Recorded, after_recorded, change, is_recordable, may_have, next_is, nothing_read, begin_len, recorded_says, holding_with, octets_in, seen, seen_entry, entry_octets, held_octets, size_of_store, may_seal, may_take, passed, blocks_for, Blocks, IsRecord, Record, records_text, stepped}
use Rattle.file_store_blocks.proofs.SeenLemmas.{length_octets}
use Rattle.file_journal.specs.Ledger.{Takes}

-- how many octets the records of a file have had so far: 23, and 14 for each block and for its seal
abbrev seal_octets : Option Seal → ℕ
seal_octets None = 0
seal_octets (Some mark) = 14

abbrev size : Placed → ℕ
size f = 23 + 14 * block_count f + seal_octets f.seal

abbrev sizes : ReadStore → ℕ
sizes read = sum_by size read.store.entries

-- Of the numbers that came, each is that of an entry, or is gone. While none is gone, the records have no more octets
-- than those that rebuild the store.
record IsSpent (read : ReadStore) (octets : ℕ) : Type 0 where
  nothing : read.first ≡ true → octets ≡ 0
  few : length read.store.entries + 1 ≤ read.least
  most : length read.store.entries + 1 ≡ read.least → octets ≤ 8 + sizes read

-- the octets of a record, with its gate
abbrev record_octets : Recorded → ℕ
record_octets recorded = 4 + length (record_of_recorded recorded).content

grown_size : (f : Placed) (block used : ℕ) → size (grown block used f) ≡ size f + 14
grown_size f block used = omega (arith, length-append f.blocks (block ∷ []))

sealed_size : (f : Placed) (mark : Seal) → f.seal ≡ None → size (sealed mark f) ≡ size f + 14
sealed_size f mark none = omega (arith, ap seal_octets none)

module _ (held : Blocks) (read : ReadStore) (made : IsMade held read) (octets : ℕ) (spent : IsSpent read octets) where
  spent_after :
      (recorded : Recorded) → CanRecord recorded → IsTrue (is_recordable held read recorded)
      → IsSpent (after_recorded held read recorded) (octets + record_octets recorded)
  spent_after (next_is number) writable ok =
      let first : read.first ≡ true = (and_parts read.first (nat_le read.least number) ok).0 in
      record {
        nothing = λ is. absurd (cc is);
        few = spent.few;
        most = λ is. omega (arith, spent.nothing first);
      }
  spent_after (change (begin number caller file_length moment)) writable ok =
      let may = may_number read number (and_parts (may_have read number) _ ok).0 in
      let new = new_placed number caller file_length moment in
      let count = length-append read.store.entries (new ∷ []) in
      record {
        nothing = λ is. absurd (cc is);
        few = omega (arith, spent.few, may.0, count);
        most = λ is.
            let before = spent.most (omega (arith, is, spent.few, may.0, count)) in
            omega (
              arith,
              before,
              begin_len number caller file_length moment writable.1,
              sum_by_push size read.store.entries new,
            );
      }
  spent_after (change (grow number block used)) writable ok =
      let grows = may_take held read.store number block used ok in
      let one = grows.passes.file in
      let count = length-map read.store.entries (changed number (grown block used)) in
      record {
        nothing = λ is. absurd (cc is);
        few = omega (arith, spent.few, count);
        most = λ is.
            omega (
              arith,
              spent.most (omega (arith, is, count)),
              grown_size one block used,
              sum_changed size number (grown block used) one 1 read.least read.store.entries made.is.rules.numbers
                  grows.passes.found,
            );
      }
  spent_after (change (seal number moment sum)) writable ok =
      let passes = passed read.store number (λ f. can_seal held f moment sum) ok in
      let mark = seal_with moment sum (header_at held read.store number) in
      let count = length-map read.store.entries (changed number (sealed mark)) in
      record {
        nothing = λ is. absurd (cc is);
        few = omega (arith, spent.few, count);
        most = λ is.
            omega (
              arith,
              spent.most (omega (arith, is, count)),
              sealed_size passes.file mark (may_seal held passes.file moment sum passes.test_is).partial,
              sum_changed size number (sealed mark) passes.file 1 read.least read.store.entries
                  made.is.rules.numbers passes.found,
            );
      }
  spent_after (change (drop_entry number)) writable ok =
      let passes = passed read.store number is_partial ok in
      let left = filter (λ f. not (has_number number f)) read.store.entries in
      let fewer : length left + 1 ≡ length read.store.entries =
      omega (
        arith,
        sum_ones left,
        sum_ones read.store.entries,
        sum_without (λ f. 1) number 1 read.least read.store.entries passes.file made.is.rules.numbers passes.found,
      ) in
      record {
        nothing = λ is. absurd (cc is);
        few = omega (arith, spent.few, fewer);
        most = λ is. absurd (omega (arith, is, spent.few, fewer));
      }
    where
      sum_ones : (files : List Placed) → sum_by (λ (f : Placed). 1) files ≡ length files
      sum_ones [] = refl
      sum_ones (f ∷ fs) = omega (arith, sum_by-cons (λ (g : Placed). 1) f fs, sum_ones fs)

all_spent :
    (held : Blocks) (entries : List Record) (before now : ReadStore) (octets : ℕ) → IsMade held before
    → IsSpent before octets → AllByRecursion IsRecord entries → Takes (read_step held) before entries now
    → IsSpent now (octets + length (records_text entries))
all_spent held [] before now octets made spent are takes =
    subst (λ (r : ReadStore). IsSpent r (octets + 0)) (sym takes)
    (subst (λ (n : ℕ). IsSpent before n) (omega arith) spent)
all_spent held (entry ∷ entries) before now octets made spent are takes =
    let step = stepped (is_recordable held) (after_recorded held) before takes.0 (recorded_in entry) takes.1 in
    let says = recorded_says entry step.0 are.0 step.1 in
    let here : IsSpent takes.0 (octets + record_octets step.0) =
    subst (λ (r : ReadStore). IsSpent r (octets + record_octets step.0)) (sym step.3)
    (spent_after held before made octets spent step.0 says.0 step.2) in
    let later =
    all_spent held entries takes.0 now (octets + record_octets step.0) (step_made held before made takes.0 entry are.0 takes.1)
    here are.1 takes.2 in
    let same : record_octets step.0 ≡ 4 + length entry.content = ap (λ (e : Record). 4 + length e.content) (sym says.1) in
    subst (λ (n : ℕ). IsSpent now n) (omega (arith, same, length_record entry entries)) later

-- ---- as a store of files

-- a file's records have the octets of its entry
size_seen : (held : Blocks) (limit : ℕ) (f : Placed) → IsPlacedFile limit f → size f ≡ entry_octets (seen_entry held f)
size_seen held limit f is = by f.seal refl
  where
    by : (mark : Option Seal) → f.seal ≡ mark
        → 23 + 14 * block_count f + seal_octets mark ≡ 23 + held_octets f.length (holding_with mark f (octets_in held f))
    by None none = omega (arith, is.count, ap blocks_for (length_octets held limit f is))
    by (Some mark) some = omega (arith, is.count, ap blocks_for (is.whole (subst (λ (o : Option Seal). IsSome o) (sym some) refl)))

sizes_seen : (held : Blocks) (limit : ℕ) (files : List Placed) → ArePlaced limit files
    → sum_by size files ≡ sum_by entry_octets (map (seen_entry held) files)
sizes_seen held limit [] are = refl
sizes_seen held limit (f ∷ fs) are =
    omega (
      arith,
      sum_by-cons size f fs,
      sum_by-cons entry_octets (seen_entry held f) (map (seen_entry held) fs),
      size_seen held limit f are.0,
      sizes_seen held limit fs are.1,
    )

-- If each number that was given is that of an entry, the records that made a store have no more octets than a Next and
-- what makes the store of files that it is seen as.
pub records_most : (held : Blocks) (blocks : ℕ) (records : List Record) (made : ReadStore) → AllByRecursion IsRecord records
    → Takes (read_step held) (nothing_read blocks) records made → length made.store.entries + 1 ≡ made.store.next
    → (other : Blocks) → length (records_text records) ≤ 8 + size_of_store (seen other made.store)
records_most held blocks records made are takes all other =
    let first = nothing_read blocks in
    let none : IsSpent first 0 = record { nothing = λ is. refl; few = omega arith; most = λ is. omega arith } in
    let spent = all_spent held records first made 0 (nothing_made held blocks) none are takes in
    let rules = all_made held records first made (nothing_made held blocks) are takes in
    omega (
      arith,
      spent.most (omega (arith, spent.few, rules.is.least, all)),
      sizes_seen other made.store.blocks made.store.entries rules.is.rules.files,
    )
