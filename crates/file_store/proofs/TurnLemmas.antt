-- A change of the entries as a turn of the kept state: its record, and what that makes.
use Rattle.std.proofs.Common.{◌≡◌, ◌+◌, ℕ, ◌≤◌, ◌==◌, Bool, true, false, List, [], length, nat_le, nat_lt, Option, None, Some, refl, sym, ◌∙◌, ap, subst, arith}
use Rattle.std.specs.Prelude.{◌&&◌, if◌then◌else◌}
use Rattle.file_store_blocks.specs.PlacedCommand as placed
use Rattle.file_store_blocks.specs.PlacedCommand.{after}
use Rattle.file_store_model.specs.Command as file
use Rattle.file_journal.specs.Steps.{HasPut, WritesTurn}
use Rattle.file_store.specs.declared.change.EntriesChange.TheVariants as change
use Rattle.file_store.proofs.Names.{IfSome, IsTrue, eq-eqb, nat_tests, IsSealable, IsPlaced, after_placed, blocks_seen, drop_placed, grow_placed, seal_placed, PlacedStore, placed_of, PlacedCommand, is_partial, seal_with, with_grown, with_sealed, EntriesState, PlacedFiles, octets_or_none, rest_of, store_of, placed_form, placed_steps, IsWritable, placed_after, record_of_placed, octets_in, seen, stamp_at, Grows, Passes, passes_found, grows_allowed, kept_step, octets_written, seal_step, seen_after, seen_allowed, seen_may_grow, seen_put, seen_sealed, MayBegin, can_begin, last_next, longest_file, most_entries, Store, blocks_for, blocks_of, both-true, Blocks, Record, LetsBy, MayMake, placed_by, turn_by, waiting_in, EntriesChange, CallSign}

-- ---- the conditions

can-begin : (store : Store) (file_length : ℕ) → blocks_of store ≤ store.blocks → MayBegin store file_length → IsTrue (can_begin store file_length)
can-begin store file_length taken may =
    let short : IsTrue (nat_le file_length longest_file) = let h = may.short in grind (arith, nat_tests) in
    let few : IsTrue (nat_lt (length store.entries) most_entries) = let h = may.few in grind (arith, nat_tests) in
    let left : IsTrue (nat_lt store.next last_next) = let h = may.left in grind (arith, nat_tests) in
    let sum : blocks_of store + blocks_for file_length ≤ store.blocks = omega (arith, may.room, taken) in
    let room : IsTrue (nat_le (blocks_of store + blocks_for file_length) store.blocks) = grind (arith, nat_tests) in
    both-true (nat_le file_length longest_file && nat_lt (length store.entries) most_entries && nat_lt store.next last_next) _
    (both-true (nat_le file_length longest_file && nat_lt (length store.entries) most_entries) _ (both-true (nat_le file_length longest_file) _ short few) left) room

begin-allowed : (held : Blocks) (store : PlacedStore) (caller : CallSign) (file_length moment : ℕ) → IsPlaced store → MayBegin (seen held store) file_length
    → IsTrue (placed.is_allowed held store (placed.begin store.next caller file_length moment))
begin-allowed held store caller file_length moment is may =
    both-true (store.next == store.next) _ (eq-eqb store.next store.next refl) (can-begin (seen held store) file_length (omega (arith, blocks_seen held store, is.rooms)) may)

drop-allowed : (held : Blocks) (store : PlacedStore) (number : ℕ) → Passes store number is_partial → IsTrue (placed.is_allowed held store (placed.drop_entry number))
drop-allowed held store number passes = passes_found store number is_partial passes.file passes.found ∙ passes.test_is

-- ---- the step of a record

-- if its condition holds
allowed-after : (held : Blocks) (store : PlacedStore) (command : PlacedCommand) → IsTrue (placed.is_allowed held store command) → placed_after held store command ≡ Some (after held store command)
allowed-after held store command ok = rw ok refl

-- the condition of a command that makes a store holds
is-allowed-made : (ok : Bool) (made now : PlacedStore) → (if ok then Some made else None) ≡ Some now → IsTrue ok
is-allowed-made true made now is = refl
is-allowed-made false made now is = absurd (cc is)

-- ---- each change

found-some : {A : Type 0} (o : Option A) (a : A) (P : A → Type 0) → o ≡ Some a → IfSome o P → P a
found-some o a P is holds = subst (λ (p : Option _). IfSome p P) is holds

module _ (files : PlacedFiles) (number block count : ℕ) (front : length (waiting_in files number) ≡ count) (grows : Grows (store_of files) number block count) where
  abbrev octets : List ℕ
  octets = waiting_in files number

  pub grows-front : Grows (store_of files) number block (length octets)
  grows-front = subst (λ (n : ℕ). Grows (store_of files) number block n) (sym front) grows

  hold-sees : (held : Blocks) → IsPlaced (store_of files) → HasPut (Some (record { number = block; octets = octets })) held
      → seen held (with_grown (store_of files) number block count) ≡ file.after (seen held (store_of files)) (file.grow number octets)
  hold-sees held is put =
      ap (λ (n : ℕ). seen held (with_grown (store_of files) number block n)) (sym front) ∙ seen_put held (store_of files) number block octets grows-front is put

-- this many octets wait
pub waits-length : (files : PlacedFiles) (number count : ℕ) (rest : List ℕ) → rest_of files number ≡ Some rest → length rest ≡ count → length (waiting_in files number) ≡ count
waits-length files number count rest out all = ap (λ (o : Option (List ℕ)). length (octets_or_none o)) out ∙ all

pub turn-written : (it : EntriesChange) (entries : EntriesState) (entry : Record) → MayMake it entries → IsWritable (placed_by it entries.files) → entry ≡ record_of_placed (placed_by it entries.files)
    → WritesTurn placed_form placed_steps seen (store_of entries.files) (turn_by it entries.files) entry
turn-written (change.Begin caller file_length moment) entries entry may writable is =
    let store = store_of entries.files in
    let command = placed.begin store.next caller file_length moment in
    let ok : (held : Blocks) → IsTrue (placed.is_allowed held store command) = λ held. begin-allowed held store caller file_length moment may.rules (may.has held) in
    record {
      allowed = λ held lets. seen_allowed held store command may.rules (ok held);
      step = λ held lets put. kept_step held store (after held store command) command entry writable is (allowed-after held store command (ok held));
      sees = λ held lets put. seen_after held store command may.rules (ok held);
      reaches = after_placed (λ b. []) store command may.rules writable.1 (ok (λ b. []));
      number = refl;
      calls = refl;
      octets = octets_written (λ b. []) entry command writable is;
    }
turn-written (change.Hold number block count) entries entry may writable is =
    let store = store_of entries.files in
    let command = placed.grow number block count in
    let waits = may.has.0 in
    let grows = may.has.1 in
    let front = waits-length entries.files number count waits.0 waits.1 waits.2 in
    record {
      allowed = λ held lets. seen_may_grow held store number block (waiting_in entries.files number) (grows-front entries.files number block count front grows) may.rules;
      step = λ held lets put.
          kept_step held store (after held store command) command entry writable is (allowed-after held store command (grows_allowed held store number block count grows));
      sees = λ held lets put. hold-sees entries.files number block count front grows held may.rules put;
      reaches = grow_placed store number block count may.rules grows;
      number = refl;
      calls = refl;
      octets = octets_written (λ b. []) entry command writable is;
    }
turn-written (change.Seal number moment header) entries entry may writable is =
    let store = store_of entries.files in
    let command = placed.seal number moment header.sum in
    let passes = may.has.0.passes in
    let mark = seal_with moment header.sum header.len in
    let sealable : (held : Blocks) → LetsBy (change.Seal number moment header) entries.files held → IsSealable (stamp_at moment passes.file) (octets_in held passes.file) header.sum header.len =
    λ held lets. found-some (placed_of store number) passes.file (λ f. IsSealable (stamp_at moment f) (octets_in held f) header.sum header.len) passes.found lets in
    let made : (held : Blocks) → LetsBy (change.Seal number moment header) entries.files held → placed_after held store command ≡ Some (with_sealed store number mark) =
    λ held lets. seal_step held store number moment header.sum header.len passes (sealable held lets) in
    record {
      allowed = λ held lets. seen_allowed held store command may.rules (is-allowed-made (placed.is_allowed held store command) (after held store command) (with_sealed store number mark) (made held lets));
      step = λ held lets put. kept_step held store (with_sealed store number mark) command entry writable is (made held lets);
      sees = λ held lets put. seen_sealed held store number mark may.rules passes;
      reaches = seal_placed store number mark may.rules may.has.0;
      number = refl;
      calls = refl;
      octets = octets_written (λ b. []) entry command writable is;
    }
turn-written (change.Drop number) entries entry may writable is =
    let store = store_of entries.files in
    let command = placed.drop_entry number in
    let ok : (held : Blocks) → IsTrue (placed.is_allowed held store command) = λ held. drop-allowed held store number may.has in
    record {
      allowed = λ held lets. seen_allowed held store command may.rules (ok held);
      step = λ held lets put. kept_step held store (after held store command) command entry writable is (allowed-after held store command (ok held));
      sees = λ held lets put. seen_after held store command may.rules (ok held);
      reaches = drop_placed store number may.rules may.has;
      number = refl;
      calls = refl;
      octets = octets_written (λ b. []) entry command writable is;
    }
