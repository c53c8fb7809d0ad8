-- What the conditions of commands say.
use Rattle.std.proofs.Common.{◌≡◌, ◌⊎◌, ℕ, ◌+◌, ◌≤◌, ◌<◌, ◌==◌, Bool, true, false, not, ◌&&◌, ◌||◌}
use Rattle.std.proofs.Common.{nat_le, nat_lt, Option, None, Some, refl, ap, inl, inr}
use Rattle.std.specs.Prelude.{IsTrue, is_none, is_some, option_map, unwrap_or}
use Rattle.std.proofs.lemmas.Bool.{and_parts, eqb-true, leb-true, ltb-true}
use Rattle.file_store_blocks.specs.Placed.{Placed, PlacedStore, Seal, placed_of, runs_of}
use Rattle.file_store_blocks.specs.PlacedCommand.{can_grow, can_seal, grow, is_allowed, is_free, is_partial, is_whole}
use Rattle.file_store_blocks.specs.PlacedCommand.{passes_at}
use Rattle.file_store_blocks.specs.Seen.{octets_in, sum_with}
use Rattle.file_store_blocks.specs.BlockTable.Table.{times_of}
use Rattle.file_store_model.specs.Limits.{last_next, longest_file, most_entries}
use Rattle.file_journal.specs.Layout.{Blocks}
use Rattle.pfh_items.specs.Faults.{fault_code}

-- the file of this number, which passes the test
pub record Passes (store : PlacedStore) (number : ℕ) (test : Placed → Bool) : Type 0 where
  pub file : Placed
  pub found : placed_of store number ≡ Some file
  pub test_is : IsTrue (test file)

pub passed :
    (store : PlacedStore) (number : ℕ) (test : Placed → Bool) → IsTrue (passes_at store number test)
    → Passes store number test
passed store number test ok = by (placed_of store number) refl ok
  where
    by :
        (o : Option Placed) → placed_of store number ≡ o → IsTrue (unwrap_or (option_map test o) false)
        → Passes store number test
    by None is ok = absurd (cc)
    by (Some file) is ok = record { file = file; found = is; test_is = ok }

-- and a file that is found passes if its test says so
pub passes_found :
    (store : PlacedStore) (number : ℕ) (test : Placed → Bool) (file : Placed) → placed_of store number ≡ Some file
    → passes_at store number test ≡ test file
passes_found store number test file found = ap (λ (o : Option Placed). unwrap_or (option_map test o) false) found

-- a file under way has no seal
pub partial_none : (file : Placed) → IsTrue (is_partial file) → file.seal ≡ None
partial_none file part = by file.seal part
  where
    by : (seal : Option Seal) → IsTrue (not (is_some seal)) → seal ≡ None
    by None part = refl
    by (Some seal) part = absurd (cc)

none_is : (o : Option ℕ) → IsTrue (is_none o) → o ≡ None
none_is None is = refl
none_is (Some code) is = absurd (cc)

either : (a b : Bool) → IsTrue (a || b) → IsTrue a ⊎ IsTrue b
either true b is = inl refl
either false b is = inr is

-- the file is under way and has room for this many further octets, which fill a block or are all that it lacks
pub record MayGrow (file : Placed) (used : ℕ) : Type 0 where
  pub partial : file.seal ≡ None
  pub room : file.held + used ≤ file.length
  pub fills : (used ≡ 512) ⊎ (file.held + used ≡ file.length)

pub may_grow : (file : Placed) (used : ℕ) → IsTrue (can_grow file used) → MayGrow file used
may_grow file used ok =
    let tests = and_parts (is_partial file && nat_le (file.held + used) file.length) _ ok in
    let first = and_parts (is_partial file) (nat_le (file.held + used) file.length) tests.0 in
    record {
      partial = partial_none file first.0;
      room = leb-true _ _ first.1;
      fills = elim (either (used == 512) (file.held + used == file.length) tests.1) [
        | inl is ↦ inl (eqb-true _ _ is)
        | inr is ↦ inr (eqb-true _ _ is)
      ];
    }

-- this many octets are put in a block that is there and that no file has
pub record MayTake (store : PlacedStore) (block used : ℕ) : Type 0 where
  pub some : 1 ≤ used
  pub most : used ≤ 512
  pub there : block < store.blocks
  pub free : times_of block (runs_of store.entries) ≡ 0

-- what the condition of a Grow says
pub record Grows (store : PlacedStore) (number block used : ℕ) : Type 0 where
  pub takes : MayTake store block used
  pub passes : Passes store number (λ f. can_grow f used)

pub may_take :
    (held : Blocks) (store : PlacedStore) (number block used : ℕ)
    → IsTrue (is_allowed held store (grow number block used)) → Grows store number block used
may_take held store number block used ok =
    let tests = and_parts (nat_le 1 used && nat_le used 512 && is_free store block) _ ok in
    let first = and_parts (nat_le 1 used && nat_le used 512) (is_free store block) tests.0 in
    let few = and_parts (nat_le 1 used) (nat_le used 512) first.0 in
    let free =
    and_parts (nat_lt block store.blocks) (times_of block (runs_of store.entries) == 0) first.1 in
    record {
      takes = record {
        some = leb-true _ _ few.0;
        most = leb-true _ _ few.1;
        there = ltb-true _ _ free.0;
        free = eqb-true _ _ free.1;
      };
      passes = passed store number (λ f. can_grow f used) tests.1;
    }

-- the file is under way, and all of its octets are held
pub record IsWhole (file : Placed) : Type 0 where
  pub partial : file.seal ≡ None
  pub whole : file.held ≡ file.length

pub whole_is : (file : Placed) → IsTrue (is_whole file) → IsWhole file
whole_is file ok =
    let tests = and_parts (is_partial file) (file.held == file.length) ok in
    record { partial = partial_none file tests.0; whole = eqb-true _ _ tests.1 }

-- a file that may be sealed is one
pub seals_whole :
    (held : Blocks) (file : Placed) (moment sum : ℕ) → IsTrue (can_seal held file moment sum) → IsTrue (is_whole file)
seals_whole held file moment sum ok =
    let tests = and_parts (is_whole file && is_none (fault_code (octets_in held file))) _ ok in
    (and_parts (is_whole file) (is_none (fault_code (octets_in held file))) tests.0).0

-- the file of this number is under way, all of its octets are held, and a header of this length is no longer
pub record TakesSeal (store : PlacedStore) (number header : ℕ) : Type 0 where
  pub passes : Passes store number is_whole
  pub inside : header ≤ passes.file.held

-- the file is under way, all of its octets are held and break no rule, and this is the sum of the stamped header
pub record MaySeal (held : Blocks) (file : Placed) (moment sum : ℕ) : Type 0 where
  pub partial : file.seal ≡ None
  pub whole : file.held ≡ file.length
  pub faultless : fault_code (octets_in held file) ≡ None
  pub sum_is : sum ≡ sum_with moment file (octets_in held file)

pub may_seal :
    (held : Blocks) (file : Placed) (moment sum : ℕ) → IsTrue (can_seal held file moment sum)
    → MaySeal held file moment sum
may_seal held file moment sum ok =
    let tests =
    and_parts
    (is_partial file && (file.held == file.length) && is_none (fault_code (octets_in held file))) _ ok in
    let more =
    and_parts (is_partial file && (file.held == file.length)) (is_none (fault_code (octets_in held file))) tests.0 in
    let first = and_parts (is_partial file) (file.held == file.length) more.0 in
    record {
      partial = partial_none file first.0;
      whole = eqb-true _ _ first.1;
      faultless = none_is (fault_code (octets_in held file)) more.1;
      sum_is = eqb-true _ _ tests.1;
    }

-- a file of this length may be begun, if there are this many entries, and this many blocks are taken of those there are
pub record MayCome (number next file_length count taken blocks : ℕ) : Type 0 where
  pub number_is : number ≡ next
  pub short : file_length ≤ longest_file
  pub few : count < most_entries
  pub left : next < last_next
  pub room : taken ≤ blocks

pub may_come :
    (number next file_length count taken blocks : ℕ)
    → IsTrue
    ((number == next)
    && (nat_le file_length longest_file && nat_lt count most_entries && nat_lt next last_next
    && nat_le taken blocks))
    → MayCome number next file_length count taken blocks
may_come number next file_length count taken blocks ok =
    let own = and_parts (number == next) _ ok in
    let tests =
    and_parts (nat_le file_length longest_file && nat_lt count most_entries && nat_lt next last_next)
    (nat_le taken blocks) own.1 in
    let more =
    and_parts (nat_le file_length longest_file && nat_lt count most_entries) (nat_lt next last_next) tests.0 in
    let first = and_parts (nat_le file_length longest_file) (nat_lt count most_entries) more.0 in
    record {
      number_is = eqb-true _ _ own.0;
      short = leb-true _ _ first.0;
      few = ltb-true _ _ first.1;
      left = ltb-true _ _ more.1;
      room = leb-true _ _ tests.1;
    }
