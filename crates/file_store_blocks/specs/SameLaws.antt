-- What blocks hold that a store of placed files doesn't use changes nothing of what it is seen as.
use Rattle.std.proofs.Common.{◌≡◌, ℕ, suc, ◌+◌, ◌≤◌, ◌<◌, ◌==◌, Bool, cond, ◌&&◌, true, false, List, [], ◌∷◌, ◌++◌}
use Rattle.std.proofs.Common.{length, map, replicate, take}
use Rattle.std.proofs.Common.{Option, None, Some, refl, ap, ap₂, sym, ◌∙◌, subst, arith, inl, inr, nat_le, nat_lt}
use Rattle.std.specs.Prelude.{All, IsTrue, count_by, if◌then◌else◌, is_none, is_some, sum_by}
use Rattle.std.specs.List.{flat_map}
use Rattle.std.proofs.lemmas.Bool.{eq-eqb}
use Rattle.std.proofs.lemmas.Bool.Decides.{eqb_tells}
use Rattle.std.proofs.lemmas.List.{length-map}
use Rattle.std.proofs.lemmas.List.Sums.{sum_by-cons, sum_by_push}
use Rattle.file_store_blocks.specs.FilesLaws.{sum_changed, sum_without}
use Rattle.file_store_blocks.specs.IsPlaced.{ArePlaced, IsPlaced}
use Rattle.file_store_blocks.specs.KeptLaws.{blocks_seen, header_found, times_at, times_files}
use Rattle.file_store_blocks.specs.Placed.{Decides, Placed, PlacedStore, Seal, Uses, is_sealed, new_placed, no_entries}
use Rattle.file_store_blocks.specs.Placed.{placed_of, run_of, times_sealed}
use Rattle.file_store_blocks.specs.PlacedCommand.{PlacedCommand, after, begin, can_seal, drop_entry, grow, grown}
use Rattle.file_store_blocks.specs.PlacedCommand.{header_at, is_allowed, is_partial, seal, seal_with, sealed}
use Rattle.file_store_blocks.specs.PlacedCommand.{with_sealed}
use Rattle.file_store_blocks.specs.Seen.{entry_with, holding_with, octets_in, seen, seen_entry, sum_with, whole_block}
use Rattle.file_store_blocks.specs.TestLaws.{Passes, may_grow, may_seal, may_take, partial_none, passed, passes_found}
use Rattle.file_store_blocks.specs.BlockTable.Table.{times_in}
use Rattle.file_store_model.specs.Command.{can_begin}
use Rattle.file_store_model.specs.Headers.{header_octets}
use Rattle.file_store_model.specs.Limits.{last_next, longest_file, most_entries}
use Rattle.file_store_model.specs.Store.{Entry, blocks_for, store_from}
use Rattle.file_journal.specs.Layout.{Blocks, HoldSame}
use Rattle.pfh_items.specs.Faults.{fault_code}

-- ---- the octets of files whose blocks hold the same

-- how often a block occurs in a list
abbrev times_among : ℕ → List ℕ → ℕ
times_among block blocks = count_by (λ b. b == block) blocks

among_cons : (block b : ℕ) (bs : List ℕ) → times_among block (b ∷ bs) ≡ cond (b == block) 1 0 + times_among block bs
among_cons block b bs = sum_by-cons (λ (x : ℕ). cond (x == block) 1 0) b bs

first_among : (b : ℕ) (bs : List ℕ) → 1 ≤ times_among b (b ∷ bs)
first_among b bs = omega (arith, among_cons b b bs, ap {B = ℕ} (λ (t : Bool). cond t 1 0) (eq-eqb b b refl))

blocks_same :
    (one other : Blocks) (blocks : List ℕ) → HoldSame (λ b. 1 ≤ times_among b blocks) one other
    → flat_map (whole_block other) blocks ≡ flat_map (whole_block one) blocks
blocks_same one other [] same = refl
blocks_same one other (b ∷ bs) same =
    ap₂ (λ (h t : List ℕ). h ++ t)
    (ap (λ (os : List ℕ). take 512 (os ++ replicate 512 0)) (same b (first_among b bs)))
    (blocks_same one other bs (λ block is. same block (omega (arith, is, among_cons block b bs))))

pub octets_same :
    (one other : Blocks) (f : Placed) → HoldSame (λ b. 1 ≤ times_at b f) one other
    → octets_in other f ≡ octets_in one f
octets_same one other f same = ap (λ (os : List ℕ). take f.held os) (blocks_same one other f.blocks same)

entries_same :
    (one other : Blocks) (files : List Placed) → HoldSame (λ b. 1 ≤ sum_by (times_at b) files) one other
    → map (seen_entry other) files ≡ map (seen_entry one) files
entries_same one other [] same = refl
entries_same one other (f ∷ fs) same =
    let more = λ (b : ℕ). sum_by-cons (times_at b) f fs in
    let here = octets_same one other f (λ b is. same b (omega (arith, is, more b))) in
    ap₂ (λ (e : Entry) (es : List Entry). e ∷ es)
    (ap (λ (os : List ℕ). entry_with f (holding_with f.seal f os)) here)
    (entries_same one other fs (λ b is. same b (omega (arith, is, more b))))

pub seen_same :
    (one other : Blocks) (store : PlacedStore) → HoldSame (Uses store) one other
    → seen other store ≡ seen one store
seen_same one other store same =
    ap (λ (es : List Entry). store_from es store.next store.blocks)
    (entries_same one other store.entries
    (λ b is. same b (subst (λ (n : ℕ). 1 ≤ n) (sym (times_files b store.entries)) is)))

-- ---- which blocks a store uses

at_le : (block : ℕ) (f : Placed) → times_sealed block f ≤ times_at block f
at_le block f = by (is_sealed f)
  where
    by : (b : Bool) → (if b then times_in block (run_of f) else 0) ≤ times_in block (run_of f)
    by true = omega arith
    by false = omega arith

sealed_le : (block : ℕ) (files : List Placed) → sum_by (times_sealed block) files ≤ sum_by (times_at block) files
sealed_le block [] = omega arith
sealed_le block (f ∷ fs) =
    omega (
      arith,
      sum_by-cons (times_sealed block) f fs,
      sum_by-cons (times_at block) f fs,
      at_le block f,
      sealed_le block fs,
    )

-- what a sealed file has is used
pub decides_uses : (store : PlacedStore) (block : ℕ) → Decides store block → Uses store block
decides_uses store block is =
    omega (arith, is, times_files block store.entries, sealed_le block store.entries)

among_below :
    (limit block : ℕ) (bs : List ℕ) → All (λ b. b < limit) bs → 1 ≤ times_among block bs → block < limit
among_below limit block [] all some = absurd (omega (arith, some))
among_below limit block (b ∷ bs) all some =
    elim (eqb_tells b block) [
      | inl w ↦
          let first : b < limit = all 0 b (omega arith) in
          omega (arith, first, w.1)
      | inr w ↦
          among_below limit block bs (λ i d h. all (suc i) d (omega (arith, h)))
          (omega (arith, some, among_cons block b bs, ap {B = ℕ} (λ (t : Bool). cond t 1 0) w.0))
    ]

files_below :
    (limit block : ℕ) (files : List Placed) → ArePlaced limit files → 1 ≤ sum_by (times_at block) files
    → block < limit
files_below limit block [] are some = absurd (omega (arith, some))
files_below limit block (f ∷ fs) are some =
    elim (eqb_tells (times_at block f) 0) [
      | inl w ↦
          files_below limit block fs are.1 (omega (arith, some, w.1, sum_by-cons (times_at block) f fs))
      | inr w ↦ among_below limit block f.blocks are.0.below (omega (arith, w.1))
    ]

-- each block that is used is there
pub uses_below : (store : PlacedStore) (block : ℕ) → IsPlaced store → Uses store block → block < store.blocks
uses_below store block is uses =
    files_below store.blocks block store.entries is.files (omega (arith, uses, times_files block store.entries))

pub none_used : (blocks block : ℕ) → ¬ Uses (no_entries blocks) block
none_used blocks block uses = omega (arith, uses)

-- ---- a command and what decided on the store before it

-- a file without seal decides nothing
none_sealed : (block : ℕ) (f : Placed) → f.seal ≡ None → times_sealed block f ≡ 0
none_sealed block f none =
    ap (λ (s : Option Seal). if is_some s then times_in block (run_of f) else 0) none

pub decides_after :
    (held : Blocks) (store : PlacedStore) (command : PlacedCommand) → IsPlaced store
    → IsTrue (is_allowed held store command) → (block : ℕ) → Decides store block
    → Decides (after held store command) block
decides_after held store (begin number caller file_length moment) is ok block some =
    omega (
      arith,
      some,
      sum_by_push (times_sealed block) store.entries (new_placed number caller file_length moment),
    )
decides_after held store (grow number at used) is ok block some =
    let grows = may_take held store number at used ok in
    let one = grows.passes.file in
    let none = (may_grow one used grows.passes.test_is).partial in
    omega (
      arith,
      some,
      none_sealed block one none,
      sum_changed (times_sealed block) number (grown at used) one 1 store.next store.entries is.numbers
          grows.passes.found,
    )
decides_after held store (seal number moment sum) is ok block some =
    let passes = passed store number (λ f. can_seal held f moment sum) ok in
    let none = (may_seal held passes.file moment sum passes.test_is).partial in
    omega (
      arith,
      some,
      none_sealed block passes.file none,
      sum_changed (times_sealed block) number (sealed (seal_with moment sum (header_at held store number))) passes.file
          1 store.next store.entries is.numbers passes.found,
    )
decides_after held store (drop_entry number) is ok block some =
    let passes = passed store number is_partial ok in
    omega (
      arith,
      some,
      none_sealed block passes.file (partial_none passes.file passes.test_is),
      sum_without (times_sealed block) number 1 store.next store.entries passes.file is.numbers passes.found,
    )

-- the blocks of a file decide that it could be sealed
seal_decides :
    (store : PlacedStore) (number : ℕ) (mark : Seal) (f : Placed) → IsPlaced store → placed_of store number ≡ Some f
    → f.seal ≡ None → (block : ℕ) → 1 ≤ times_at block f → Decides (with_sealed store number mark) block
seal_decides store number mark f is found none block some =
    let here : times_sealed block (sealed mark f) ≡ times_at block f = refl in
    omega (
      arith,
      some,
      here,
      none_sealed block f none,
      sum_changed (times_sealed block) number (sealed mark) f 1 store.next store.entries is.numbers found,
    )

pub can_begin_same :
    (one other : Blocks) (store : PlacedStore) (file_length : ℕ)
    → can_begin (seen other store) file_length ≡ can_begin (seen one store) file_length
can_begin_same one other store file_length =
    let count = length-map store.entries (seen_entry other) ∙ sym (length-map store.entries (seen_entry one)) in
    let taken = blocks_seen other store ∙ sym (blocks_seen one store) in
    ap₂
    (λ (n t : ℕ).
    nat_le file_length longest_file && nat_lt n most_entries && nat_lt store.next last_next
    && nat_le (t + blocks_for file_length) store.blocks)
    count taken

-- the octets of a file that may be sealed are the same if its blocks hold the same
sealed_same :
    (one other : Blocks) (store : PlacedStore) (number moment sum : ℕ) → IsPlaced store
    → (passes : Passes store number (λ f. can_seal one f moment sum))
    → HoldSame (Decides (after one store (seal number moment sum))) one other
    → octets_in other passes.file ≡ octets_in one passes.file
sealed_same one other store number moment sum is passes same =
    let f = passes.file in
    let none = (may_seal one f moment sum passes.test_is).partial in
    let mark = seal_with moment sum (header_at one store number) in
    octets_same one other f (λ b some. same b (seal_decides store number mark f is passes.found none b some))

-- A command that is allowed is allowed too if the blocks of the files that are sealed after it hold the same.
pub allowed_same :
    (one other : Blocks) (store : PlacedStore) (command : PlacedCommand) → IsPlaced store
    → IsTrue (is_allowed one store command) → HoldSame (Decides (after one store command)) one other
    → IsTrue (is_allowed other store command)
allowed_same one other store (begin number caller file_length moment) is ok same =
    ap (λ (b : Bool). (number == store.next) && b) (can_begin_same one other store file_length) ∙ ok
allowed_same one other store (grow number block used) is ok same = ok
allowed_same one other store (seal number moment sum) is ok same =
    let passes = passed store number (λ f. can_seal one f moment sum) ok in
    let f = passes.file in
    let octets = sealed_same one other store number moment sum is passes same in
    passes_found store number (λ g. can_seal other g moment sum) f passes.found
    ∙ ap
    (λ (os : List ℕ).
    is_partial f && (f.held == f.length) && is_none (fault_code os) && (sum == sum_with moment f os))
    octets
    ∙ passes.test_is
allowed_same one other store (drop_entry number) is ok same = ok

-- and makes the same
pub after_same :
    (one other : Blocks) (store : PlacedStore) (command : PlacedCommand) → IsPlaced store
    → IsTrue (is_allowed one store command) → HoldSame (Decides (after one store command)) one other
    → after other store command ≡ after one store command
after_same one other store (begin number caller file_length moment) is ok same = refl
after_same one other store (grow number block used) is ok same = refl
after_same one other store (seal number moment sum) is ok same =
    let passes = passed store number (λ f. can_seal one f moment sum) ok in
    let octets = sealed_same one other store number moment sum is passes same in
    ap (λ (n : ℕ). with_sealed store number (seal_with moment sum n))
    (header_found other store number passes.file passes.found
    ∙ ap (λ (os : List ℕ). length (header_octets os)) octets
    ∙ sym (header_found one store number passes.file passes.found))
after_same one other store (drop_entry number) is ok same = refl
