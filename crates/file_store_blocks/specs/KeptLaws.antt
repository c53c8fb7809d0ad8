-- Each command keeps the rules of a store of placed files.
use Rattle.std.proofs.Common.{◌≡◌, ◌⊎◌, ℕ, ◌+◌, ◌*◌, ◌≤◌, ◌<◌, ◌==◌, cond, not, List, [], ◌∷◌, ◌++◌, length, map}
use Rattle.std.proofs.Common.{Bool, filter, take, Option, None, Some, refl, ap, sym, ◌∙◌, subst, arith, inl, inr}
use Rattle.std.proofs.Common.{length-append}
use Rattle.std.specs.Prelude.{IfSome, IsSome, IsTrue, option_map, sum_by, unwrap_or}
use Rattle.std.specs.List.{flat_map}
use Rattle.std.proofs.lemmas.Bool.Decides.{eqb_tells}
use Rattle.std.proofs.lemmas.List.{length-map, length-take}
use Rattle.std.proofs.lemmas.List.Elements.{All-push}
use Rattle.std.proofs.lemmas.List.Filters.{length-filter_both}
use Rattle.std.proofs.lemmas.List.Folds.{fold-map}
use Rattle.std.proofs.lemmas.List.Sums.{sum_by_push}
use Rattle.file_store_blocks.specs.FilesLaws.{all_changed, all_filter, all_push, found_holds, rise_changed, rise_filter}
use Rattle.file_store_blocks.specs.FilesLaws.{rise_push, sum_changed, sum_without}
use Rattle.file_store_blocks.specs.IsPlaced.{IsPlaced, IsPlacedFile}
use Rattle.file_store_blocks.specs.Placed.{Placed, PlacedStore, has_number, new_placed, no_entries, placed_of, run_of}
use Rattle.file_store_blocks.specs.Placed.{Seal, runs_of}
use Rattle.file_store_blocks.specs.PlacedCommand.{PlacedCommand, after, begin, changed, drop_entry, grow, grown}
use Rattle.file_store_blocks.specs.PlacedCommand.{header_at, is_allowed, is_partial, seal, seal_with, seen_command}
use Rattle.file_store_blocks.specs.PlacedCommand.{sealed}
use Rattle.file_store_blocks.specs.PlacedCommand.{can_seal, with_changed, with_grown, with_new, with_sealed}
use Rattle.file_store_blocks.specs.PlacedCommand.{without_file}
use Rattle.file_store_blocks.specs.Seen.{header_in, octets_in, seen, seen_entry, whole_block}
use Rattle.file_store_blocks.specs.TestLaws.{Grows, MayCome, MayGrow, MayTake, Passes, may_come, may_grow, may_take}
use Rattle.file_store_blocks.specs.TestLaws.{TakesSeal, may_seal, passed, seals_whole, whole_is}
use Rattle.file_store_blocks.specs.BlockTable.Table.{Run, rooms_of, times_in, times_of}
use Rattle.file_store_model.specs.Command.{HasCall}
use Rattle.file_store_model.specs.Headers.{header_octets, parts_or_none}
use Rattle.file_store_model.specs.Limits.{longest_file, most_entries}
use Rattle.file_store_model.specs.Store.{Entry, blocks_for, blocks_of}
use Rattle.file_journal.specs.Layout.{Blocks}
use Rattle.pfh_items.specs.Faults.{fault_code}
use Rattle.pfh_items.specs.Layout.{HeaderValue, header_text}
use Rattle.pfh_writer.proofs.StampedLemmas.{good_parts, length-parts, no_fault-code}
use Rattle.px_base.specs.CallSign.{CallSign, IsCall}

-- ---- sums over the runs

-- a sum over what is made of each
pub sum_map : {A B : Type 0} (g : B → ℕ) (v : A → B) (xs : List A) → sum_by g (map v xs) ≡ sum_by (λ x. g (v x)) xs
sum_map g v xs = fold-map (λ (a : ℕ) x. a + g x) v 0 xs

-- how often a block occurs in a file
abbrev pub times_at : ℕ → Placed → ℕ
times_at block file = times_in block (run_of file)

pub times_files : (block : ℕ) (files : List Placed) → times_of block (runs_of files) ≡ sum_by (times_at block) files
times_files block files = sum_map (times_in block) run_of files

-- how many blocks a file takes at its whole length
abbrev pub room_at : Placed → ℕ
room_at file = blocks_for file.length

pub rooms_files : (files : List Placed) → rooms_of (runs_of files) ≡ sum_by room_at files
rooms_files files = sum_map (λ (r : Run). r.room) run_of files

-- the files take as many blocks as the entries that they are seen as
pub blocks_seen : (held : Blocks) (store : PlacedStore) → blocks_of (seen held store) ≡ rooms_of (runs_of store.entries)
blocks_seen held store =
    sum_map (λ (e : Entry). blocks_for e.length) (seen_entry held) store.entries ∙ sym (rooms_files store.entries)

pub times_grown :
    (b block used : ℕ) (file : Placed) → times_at b (grown block used file) ≡ times_at b file + cond (block == b) 1 0
times_grown b block used file = sum_by_push (λ (x : ℕ). cond (x == b) 1 0) file.blocks block

-- ---- one file

pub new_is :
    (limit number : ℕ) (caller : CallSign) (file_length moment : ℕ) → IsCall caller → file_length ≤ longest_file
    → IsPlacedFile limit (new_placed number caller file_length moment)
new_is limit number caller file_length moment call short = record {
  caller = call;
  short = short;
  fits = omega arith;
  whole = λ (is : IsSome (new_placed number caller file_length moment).seal). absurd (cc);
  header = tt;
  count = omega arith;
  full = inr (omega arith);
  below = λ i d h. omega (arith, h);
}

-- this number of further octets comes in one more block, if the file has room for them
held_more : (held used file_length count : ℕ) → (held ≡ file_length) ⊎ (held ≡ 512 * count) → held + used ≤ file_length
    → 1 ≤ used → held ≡ 512 * count
held_more held used file_length count (inl all) room some = absurd (omega (arith, all, room, some))
held_more held used file_length count (inr full) room some = full

pub grows_full : (limit : ℕ) (file : Placed) (used : ℕ) → IsPlacedFile limit file → MayGrow file used → 1 ≤ used
    → file.held ≡ 512 * length file.blocks
grows_full limit file used is may some =
    held_more file.held used file.length (length file.blocks) is.full may.room some

grown_full : (held used file_length count : ℕ) → held ≡ 512 * count → (used ≡ 512) ⊎ (held + used ≡ file_length)
    → (held + used ≡ file_length) ⊎ (held + used ≡ 512 * (count + 1))
grown_full held used file_length count is (inl whole) = inr (omega (arith, is, whole))
grown_full held used file_length count is (inr last) = inl last

grown_count : (held used count : ℕ) → held ≡ 512 * count → 1 ≤ used → used ≤ 512 → count + 1 ≡ blocks_for (held + used)
grown_count held used count is some most = omega (arith, is, some, most)

never_sealed : {A : Type 0} (o : Option A) → o ≡ None → IsSome o → ⊥
never_sealed None none is = cc
never_sealed (Some x) none is = cc

pub none_keeps : (o : Option Seal) (P : Seal → Type 0) → o ≡ None → IfSome o P
none_keeps None P none = tt
none_keeps (Some s) P none = absurd (cc)

pub grown_is :
    (store : PlacedStore) (file : Placed) (block used : ℕ) → IsPlacedFile store.blocks file → MayGrow file used
    → MayTake store block used → IsPlacedFile store.blocks (grown block used file)
grown_is store file block used is may take =
    let full = grows_full store.blocks file used is may take.some in
    let len : length (file.blocks ++ block ∷ []) ≡ length file.blocks + 1 = length-append file.blocks (block ∷ []) in
    record {
      caller = is.caller;
      short = is.short;
      fits = may.room;
      whole = λ some. absurd (never_sealed file.seal may.partial some);
      header = none_keeps file.seal (λ s. s.header ≤ file.held + used) may.partial;
      count = len ∙ grown_count file.held used (length file.blocks) full take.some take.most;
      full = subst (λ (n : ℕ). (file.held + used ≡ file.length) ⊎ (file.held + used ≡ 512 * n)) (sym len)
          (grown_full file.held used file.length (length file.blocks) full may.fills);
      below = All-push (λ (b : ℕ). b < store.blocks) file.blocks block is.below take.there;
    }

pub sealed_is : (limit : ℕ) (mark : Seal) (file : Placed) → IsPlacedFile limit file → file.held ≡ file.length
    → mark.header ≤ file.held → IsPlacedFile limit (sealed mark file)
sealed_is limit mark file is whole inside = record {
  caller = is.caller;
  short = is.short;
  fits = is.fits;
  whole = λ some. whole;
  header = inside;
  count = is.count;
  full = is.full;
  below = is.below;
}

-- ---- all files

pub none_is_placed : (blocks : ℕ) → IsPlaced (no_entries blocks)
none_is_placed blocks = record {
  numbers = tt;
  files = tt;
  once = λ block. omega arith;
  next = omega arith;
  few = omega arith;
  rooms = omega arith;
}

-- what the condition of a Begin says, if there are this many entries, which take this many blocks
abbrev pub Comes : PlacedStore → ℕ → ℕ → ℕ → ℕ → Type 0
Comes store number file_length count taken =
    MayCome number store.next file_length count (taken + blocks_for file_length) store.blocks

pub begin_placed :
    (store : PlacedStore) (caller : CallSign) (file_length moment : ℕ) → IsPlaced store → IsCall caller
    → Comes store store.next file_length (length store.entries) (rooms_of (runs_of store.entries))
    → IsPlaced (with_new store (new_placed store.next caller file_length moment))
begin_placed store caller file_length moment is call may =
    let new : Placed = new_placed store.next caller file_length moment in
    let all = store.entries ++ new ∷ [] in
    record {
      numbers = rise_push 1 store.next store.entries new is.numbers is.next refl;
      files = all_push (IsPlacedFile store.blocks) store.entries new is.files
          (new_is store.blocks store.next caller file_length moment call may.short);
      once = λ b. omega (
        arith,
        is.once b,
        times_files b store.entries,
        times_files b all,
        sum_by_push (times_at b) store.entries new,
      );
      next = omega arith;
      few = omega (arith, may.few, length-append store.entries (new ∷ []));
      rooms = omega (
        arith,
        may.room,
        rooms_files store.entries,
        rooms_files all,
        sum_by_push room_at store.entries new,
      );
    }

module _ (store : PlacedStore) (number : ℕ) (change : Placed → Placed) (file : Placed) (is : IsPlaced store)
    (found : placed_of store number ≡ Some file) (same_number : (g : Placed) → (change g).number ≡ g.number)
    (same_length : (change file).length ≡ file.length) (here : IsPlacedFile store.blocks (change file)) where
  abbrev now : List Placed
  now = map (changed number change) store.entries

  changed_placed : ((b : ℕ) → times_of b (runs_of now) ≤ 1) → IsPlaced (with_changed store number change)
  changed_placed once = record {
    numbers = rise_changed number change 1 store.next store.entries same_number is.numbers;
    files = all_changed (IsPlacedFile store.blocks) number change file here 1 store.next store.entries is.numbers found
        is.files;
    once = once;
    next = is.next;
    few = subst (λ (n : ℕ). n ≤ most_entries) (sym (length-map store.entries (changed number change))) is.few;
    rooms = omega (
      arith,
      is.rooms,
      rooms_files store.entries,
      rooms_files now,
      sum_changed room_at number change file 1 store.next store.entries is.numbers found,
      ap blocks_for same_length,
    );
  }

  times_changed :
      (b : ℕ)
      → times_of b (runs_of now) + times_at b file ≡ times_of b (runs_of store.entries) + times_at b (change file)
  times_changed b = omega (
    arith,
    times_files b store.entries,
    times_files b now,
    sum_changed (times_at b) number change file 1 store.next store.entries is.numbers found,
  )

pub grow_placed : (store : PlacedStore) (number block used : ℕ) → IsPlaced store → Grows store number block used
    → IsPlaced (with_grown store number block used)
grow_placed store number block used is grows =
    let take = grows.takes in
    let file = grows.passes.file in
    let found = grows.passes.found in
    let may = may_grow file used grows.passes.test_is in
    let one = found_holds (IsPlacedFile store.blocks) number store.entries file is.files found in
    let here = grown_is store file block used one may take in
    changed_placed store number (grown block used) file is found (λ g. refl) refl here
    (λ b.
    grind (
      arith,
      times_changed store number (grown block used) file is found (λ g. refl) refl here b,
      times_grown b block used file,
      is.once b,
      take.free,
      eqb_tells block b,
    ))

pub seal_placed : (store : PlacedStore) (number : ℕ) (mark : Seal) → IsPlaced store
    → TakesSeal store number mark.header → IsPlaced (with_sealed store number mark)
seal_placed store number mark is takes =
    let file = takes.passes.file in
    let found = takes.passes.found in
    let one = found_holds (IsPlacedFile store.blocks) number store.entries file is.files found in
    let here = sealed_is store.blocks mark file one (whole_is file takes.passes.test_is).whole takes.inside in
    changed_placed store number (sealed mark) file is found (λ g. refl) refl here
    (λ b.
    omega (
      arith,
      times_changed store number (sealed mark) file is found (λ g. refl) refl here b,
      is.once b,
    ))

pub drop_placed : (store : PlacedStore) (number : ℕ) → IsPlaced store → Passes store number is_partial
    → IsPlaced (without_file store number)
drop_placed store number is passes =
    let test : Placed → Bool = λ f. not (has_number number f) in
    let left = filter test store.entries in
    record {
      numbers = rise_filter test 1 store.next store.entries is.numbers;
      files = all_filter (IsPlacedFile store.blocks) test store.entries is.files;
      once = λ b. omega (
        arith,
        is.once b,
        times_files b store.entries,
        times_files b left,
        sum_without (times_at b) number 1 store.next store.entries passes.file is.numbers passes.found,
      );
      next = is.next;
      few = omega (arith, is.few, length-filter_both test (λ f. not (test f)) (λ _. refl) store.entries);
      rooms = omega (
        arith,
        is.rooms,
        rooms_files store.entries,
        rooms_files left,
        sum_without room_at number 1 store.next store.entries passes.file is.numbers passes.found,
      );
    }

pub begin_may :
    (held : Blocks) (store : PlacedStore) (number : ℕ) (caller : CallSign) (file_length moment : ℕ)
    → IsTrue (is_allowed held store (begin number caller file_length moment))
    → Comes store number file_length (length store.entries) (rooms_of (runs_of store.entries))
begin_may held store number caller file_length moment ok =
    let entries = map (seen_entry held) store.entries in
    let taken = blocks_of (seen held store) in
    let first =
    may_come number store.next file_length (length entries) (taken + blocks_for file_length) store.blocks ok in
    subst (λ (n : ℕ). Comes store number file_length n (rooms_of (runs_of store.entries)))
    (length-map store.entries (seen_entry held))
    (subst (λ (n : ℕ). Comes store number file_length (length entries) n) (blocks_seen held store) first)

-- a header that keeps all rules is no longer than the octets that it is of
pub header_within : (octets : List ℕ) → fault_code octets ≡ None → length (header_octets octets) ≤ length octets
header_within octets none =
    let good = good_parts octets (no_fault-code octets none) in
    let all = length-parts octets good.parts good.begins good.are in
    let same : length (header_octets octets) ≡ length (header_text good.parts.items) =
    ap (λ (p : Option HeaderValue). length (header_text (parts_or_none p).items)) good.are in
    omega (arith, all, same, length-append (header_text good.parts.items) good.parts.body)

-- what is reported about the header of the file that is found
pub header_found :
    (held : Blocks) (store : PlacedStore) (number : ℕ) (file : Placed) → placed_of store number ≡ Some file
    → header_at held store number ≡ header_in held file
header_found held store number file found =
    ap (λ (o : Option Placed). unwrap_or (option_map (header_in held) o) 0) found

header_short :
    (len : ℕ) (octets : List ℕ) (count : ℕ) (all : List ℕ) → len ≤ length octets → octets ≡ take count all
    → len ≤ count
header_short len octets count all within is =
    omega (arith, within, ap (λ (os : List ℕ). length os) is, length-take count all)

pub takes_seal :
    (held : Blocks) (store : PlacedStore) (number moment sum : ℕ)
    → Passes store number (λ f. can_seal held f moment sum) → TakesSeal store number (header_at held store number)
takes_seal held store number moment sum passes =
    let may = may_seal held passes.file moment sum passes.test_is in
    let file = passes.file in
    let within : header_at held store number ≤ file.held =
    subst (λ (n : ℕ). n ≤ file.held) (sym (header_found held store number file passes.found))
    (header_short (header_in held file) (octets_in held file) file.held
    (flat_map (whole_block held) file.blocks) (header_within (octets_in held file) may.faultless) refl) in
    record {
      passes = record {
        file = file;
        found = passes.found;
        test_is = seals_whole held file moment sum passes.test_is;
      };
      inside = within;
    }

pub after_placed : (held : Blocks) (store : PlacedStore) (command : PlacedCommand) → IsPlaced store
    → HasCall (seen_command held command) → IsTrue (is_allowed held store command) → IsPlaced (after held store command)
after_placed held store (begin number caller file_length moment) is call ok =
    let may = begin_may held store number caller file_length moment ok in
    let here : Comes store store.next file_length (length store.entries) (rooms_of (runs_of store.entries)) =
    record { number_is = refl; short = may.short; few = may.few; left = may.left; room = may.room } in
    subst (λ (n : ℕ). IsPlaced (with_new store (new_placed n caller file_length moment))) (sym may.number_is)
    (begin_placed store caller file_length moment is call here)
after_placed held store (grow number block used) is call ok =
    grow_placed store number block used is (may_take held store number block used ok)
after_placed held store (seal number moment sum) is call ok =
    let passes = passed store number (λ f. can_seal held f moment sum) ok in
    seal_placed store number (seal_with moment sum (header_at held store number)) is
    (takes_seal held store number moment sum passes)
after_placed held store (drop_entry number) is call ok =
    drop_placed store number is (passed store number is_partial ok)
