-- A command whose condition holds is seen as a command of the store of files, whose condition holds too.
use Rattle.std.proofs.Common.{◌≡◌, ℕ, ◌+◌, ◌*◌, ◌≤◌, ◌<◌, ◌==◌, Bool, not, List, [], ◌∷◌, ◌++◌}
use Rattle.std.proofs.Common.{length, map, filter, take, replicate, Option, None, Some, refl, ap, ap₂, sym, ◌∙◌, subst, arith, inl, inr}
use Rattle.std.proofs.Common.{length-append}
use Rattle.std.specs.Prelude.{option_map}
use Rattle.file_store_model.specs.Command as file
use Rattle.file_store_blocks.proofs.Names.{IsTrue, find, is_none, flat_map, take-append-add, take-length, eq-eqb, eqb_tells, flat_map-append, append-nil, length-replicate, length-take-le, map-append, changed_past, found_holds, IsPlaced, IsPlacedFile, Rise, grows_full, Placed, PlacedStore, Seal, has_number, new_placed, placed_of, PlacedCommand, after, begin, can_seal, changed, drop_entry, grow, grown, header_at, is_allowed, is_partial, is_whole, seal, seal_with, sealed, seen_command, with_grown, with_sealed, entry_with, holding_with, octets_in, seen, seen_entry, stamp_at, whole_block, Grows, Passes, may_grow, may_seal, may_take, partial_none, passed, seals_whole, whole_is, kept_with, passes, with_more, Entry, Holding, entry_of, partial, store_from, both-true, grow-is_allowed, Blocks, fault_code}

-- ---- the octets of a file

pub length_whole : (held : Blocks) (block : ℕ) → length (whole_block held block) ≡ 512
length_whole held block =
    length-take-le 512 (held block ++ replicate 512 0)
    (omega (arith, length-append (held block) (replicate 512 0), length-replicate {A = ℕ} 512 0))

pub length_blocks : (held : Blocks) (blocks : List ℕ) → length (flat_map (whole_block held) blocks) ≡ 512 * length blocks
length_blocks held [] = omega arith
length_blocks held (b ∷ bs) =
    omega (arith, length-append (whole_block held b) (flat_map (whole_block held) bs), length_whole held b, length_blocks held bs)

-- as many octets of a file are held as its entry says
pub length_octets : (held : Blocks) (limit : ℕ) (f : Placed) → IsPlacedFile limit f → length (octets_in held f) ≡ f.held
length_octets held limit f is =
    length-take-le f.held (flat_map (whole_block held) f.blocks) (omega (arith, is.count, length_blocks held f.blocks))

pub length_used : (held : Blocks) (block used : ℕ) → used ≤ 512 → length (take used (whole_block held block)) ≡ used
length_used held block used most = length-take-le used (whole_block held block) (omega (arith, most, length_whole held block))

-- further octets come after those held
pub octets_grown : (held : Blocks) (f : Placed) (block used : ℕ) → f.held ≡ 512 * length f.blocks
    → octets_in held (grown block used f) ≡ octets_in held f ++ take used (whole_block held block)
octets_grown held f block used full =
    let w = whole_block held in
    let front = flat_map w f.blocks in
    let same : length front ≡ f.held = length_blocks held f.blocks ∙ sym full in
    let all : take f.held front ≡ front = ap (λ (n : ℕ). take n front) (sym same) ∙ take-length front in
    ap (λ (os : List ℕ). take (f.held + used) os) (flat_map-append w f.blocks (block ∷ []))
    ∙ ap (λ (n : ℕ). take (n + used) (front ++ (w block ++ []))) (sym same)
    ∙ take-append-add front (w block ++ []) used
    ∙ ap (λ (os : List ℕ). front ++ take used os) (append-nil (w block))
    ∙ ap (λ (os : List ℕ). os ++ take used (w block)) (sym all)

-- ---- one entry

-- a file without seal is seen as one under way
pub partial_seen : (held : Blocks) (f : Placed) → f.seal ≡ None → (seen_entry held f).holding ≡ partial (octets_in held f)
partial_seen held f none = ap (λ (s : Option Seal). holding_with s f (octets_in held f)) none

pub grown_seen : (held : Blocks) (f : Placed) (block used : ℕ) → f.seal ≡ None → f.held ≡ 512 * length f.blocks
    → seen_entry held (grown block used f) ≡ entry_with f (file.grown (take used (whole_block held block)) (seen_entry held f))
grown_seen held f block used none full =
    ap (entry_with f)
    (partial_seen held (grown block used f) none
    ∙ ap partial (octets_grown held f block used full)
    ∙ ap (with_more (take used (whole_block held block))) (sym (partial_seen held f none)))

pub sealed_seen : (held : Blocks) (f : Placed) (mark : Seal) → f.seal ≡ None
    → seen_entry held (sealed mark f) ≡ entry_with f (file.sealed mark.moment (seen_entry held f))
sealed_seen held f mark none = ap (λ (h : Holding). entry_with f (kept_with (stamp_at mark.moment f) h)) (sym (partial_seen held f none))

-- ---- all entries

-- each file with how far it has come
module _ (how : Placed → Holding) where
  abbrev pub shown : Placed → Entry
  shown f = entry_with f (how f)

  pub find_shown : (number : ℕ) (files : List Placed) → find (λ (e : Entry). e.number == number) (map shown files) ≡ option_map shown (find (has_number number) files)
  find_shown number [] = refl
  find_shown number (f ∷ fs) =
      elim (eqb_tells f.number number) [
        | inl w ↦ rw w.0 refl
        | inr w ↦ rw w.0 (find_shown number fs)
      ]

  shown_past : (number : ℕ) (change : Entry → Holding) (low next : ℕ) (files : List Placed) → Rise low files next → number < low → map (file.changed number change) (map shown files) ≡ map shown files
  shown_past number change low next [] rise past = refl
  shown_past number change low next (f ∷ fs) rise past =
      elim (eqb_tells f.number number) [
        | inl w ↦ absurd (omega (arith, w.1, rise.0, past))
        | inr w ↦ rw w.0 (ap (λ (es : List Entry). shown f ∷ es) (shown_past number change (f.number + 1) next fs rise.2 (omega (arith, rise.0, past))))
      ]

  -- a change of the file that is found is seen as a change of its entry
  pub changed_shown : (number : ℕ) (change : Placed → Placed) (makes : Entry → Holding) (low next : ℕ) (files : List Placed) (one : Placed)
      → Rise low files next → find (has_number number) files ≡ Some one → shown (change one) ≡ entry_with one (makes (shown one))
      → map shown (map (changed number change) files) ≡ map (file.changed number makes) (map shown files)
  changed_shown number change makes low next [] one rise found here = refl
  changed_shown number change makes low next (f ∷ fs) one rise found here =
      elim (eqb_tells f.number number) [
        | inl w ↦
            let is : Some f ≡ Some one = rw w.0 at found in
            let same : one ≡ f = cc in
            let below : number < f.number + 1 = omega (arith, w.1) in
            let head : shown (change f) ≡ entry_with f (makes (shown f)) = subst (λ (g : Placed). shown (change g) ≡ entry_with g (makes (shown g))) same here in
            rw w.0
            (ap₂ (λ (e : Entry) (es : List Entry). e ∷ es) head
            (ap (map shown) (changed_past number change (f.number + 1) next fs rise.2 below) ∙ sym (shown_past number makes (f.number + 1) next fs rise.2 below)))
        | inr w ↦
            let rest = changed_shown number change makes (f.number + 1) next fs one rise.2 (rw w.0 at found) here in
            rw w.0 (ap (λ (es : List Entry). shown f ∷ es) rest)
      ]

  pub without_shown : (number : ℕ) (files : List Placed) → map shown (filter (λ f. not (has_number number f)) files) ≡ filter (λ (e : Entry). not (e.number == number)) (map shown files)
  without_shown number [] = refl
  without_shown number (f ∷ fs) =
      elim (eqb_tells f.number number) [
        | inl w ↦ rw w.0 (without_shown number fs)
        | inr w ↦ rw w.0 (ap (λ (es : List Entry). shown f ∷ es) (without_shown number fs))
      ]

-- how far a file has come, with what the blocks hold
abbrev pub seen_holding : Blocks → Placed → Holding
seen_holding held f = holding_with f.seal f (octets_in held f)

-- the entry of a number is what its file is seen as
pub entry_placed : (held : Blocks) (store : PlacedStore) (number : ℕ) → entry_of (seen held store) number ≡ option_map (seen_entry held) (placed_of store number)
entry_placed held store number = find_shown (seen_holding held) number store.entries

-- the entry of a file that is found
pub entry_seen : (held : Blocks) (store : PlacedStore) (number : ℕ) (f : Placed) → placed_of store number ≡ Some f
    → entry_of (seen held store) number ≡ Some (seen_entry held f)
entry_seen held store number f found = entry_placed held store number ∙ ap (option_map (seen_entry held)) found

-- ---- the store after a command

-- further octets of a file in a block are seen as a Grow
pub seen_grown : (held : Blocks) (store : PlacedStore) (number block used : ℕ) → IsPlaced store → Grows store number block used
    → seen held (with_grown store number block used) ≡ file.after (seen held store) (file.grow number (take used (whole_block held block)))
seen_grown held store number block used is grows =
    let one = grows.passes.file in
    let may = may_grow one used grows.passes.test_is in
    let rules = found_holds (IsPlacedFile store.blocks) number store.entries one is.files grows.passes.found in
    ap (λ (es : List Entry). store_from es store.next store.blocks)
    (changed_shown (seen_holding held) number (grown block used) (file.grown (take used (whole_block held block))) 1 store.next store.entries one is.numbers grows.passes.found
    (grown_seen held one block used may.partial (grows_full store.blocks one used rules may grows.takes.some)))

-- a seal of a whole file is seen as a Seal, whatever it says of the header
pub seen_sealed : (held : Blocks) (store : PlacedStore) (number : ℕ) (mark : Seal) → IsPlaced store → Passes store number is_whole
    → seen held (with_sealed store number mark) ≡ file.after (seen held store) (file.seal number mark.moment)
seen_sealed held store number mark is passes =
    ap (λ (es : List Entry). store_from es store.next store.blocks)
    (changed_shown (seen_holding held) number (sealed mark) (file.sealed mark.moment) 1 store.next store.entries passes.file is.numbers passes.found
    (sealed_seen held passes.file mark (whole_is passes.file passes.test_is).partial))

pub seen_after : (held : Blocks) (store : PlacedStore) (command : PlacedCommand) → IsPlaced store → IsTrue (is_allowed held store command)
    → seen held (after held store command) ≡ file.after (seen held store) (seen_command held command)
seen_after held store (begin number caller file_length moment) is ok =
    ap (λ (es : List Entry). store_from es (number + 1) store.blocks) (map-append (seen_entry held) store.entries (new_placed number caller file_length moment ∷ []))
seen_after held store (grow number block used) is ok = seen_grown held store number block used is (may_take held store number block used ok)
seen_after held store (seal number moment sum) is ok =
    let passes = passed store number (λ f. can_seal held f moment sum) ok in
    seen_sealed held store number (seal_with moment sum (header_at held store number)) is
    (record { file = passes.file; found = passes.found; test_is = seals_whole held passes.file moment sum passes.test_is })
seen_after held store (drop_entry number) is ok =
    ap (λ (es : List Entry). store_from es store.next store.blocks) (without_shown (seen_holding held) number store.entries)

-- ---- the condition of a command

-- the entry that is found passes a test of how far it has come
passes_seen : (held : Blocks) (store : PlacedStore) (number : ℕ) (f : Placed) (test : Holding → ℕ → Bool) → placed_of store number ≡ Some f → f.seal ≡ None
    → IsTrue (test (partial (octets_in held f)) f.length) → IsTrue (passes (λ e. test e.holding e.length) (entry_of (seen held store) number))
passes_seen held store number f test found none ok =
    subst (λ (o : Option Entry). IsTrue (passes (λ e. test e.holding e.length) o)) (sym (entry_seen held store number f found))
    (subst (λ (h : Holding). IsTrue (test h f.length)) (sym (partial_seen held f none)) ok)

pub seen_allowed : (held : Blocks) (store : PlacedStore) (command : PlacedCommand) → IsPlaced store → IsTrue (is_allowed held store command)
    → IsTrue (file.is_allowed (seen held store) (seen_command held command))
seen_allowed held store (begin number caller file_length moment) is ok = ok
seen_allowed held store (grow number block used) is ok =
    let grows = may_take held store number block used ok in
    let one = grows.passes.file in
    let may = may_grow one used grows.passes.test_is in
    let rules = found_holds (IsPlacedFile store.blocks) number store.entries one is.files grows.passes.found in
    let octets = take used (whole_block held block) in
    let more : length octets ≡ used = length_used held block used grows.takes.most in
    let before : length (octets_in held one) ≡ one.held = length_octets held store.blocks one rules in
    grow-is_allowed (seen held store) number octets (seen_entry held one) (octets_in held one) (entry_seen held store number one grows.passes.found)
    (partial_seen held one may.partial) (omega (arith, more, grows.takes.some)) (omega (arith, more, grows.takes.most)) (omega (arith, more, before, may.room))
    (elim may.fills [
      | inl block_is ↦ inl (more ∙ block_is)
      | inr all ↦ inr (omega (arith, more, before, all))
    ])
seen_allowed held store (seal number moment sum) is ok =
    let passes = passed store number (λ f. can_seal held f moment sum) ok in
    let one = passes.file in
    let may = may_seal held one moment sum passes.test_is in
    let rules = found_holds (IsPlacedFile store.blocks) number store.entries one is.files passes.found in
    passes_seen held store number one file.is_good passes.found may.partial
    (both-true (length (octets_in held one) == one.length) (is_none (fault_code (octets_in held one)))
    (eq-eqb _ _ (length_octets held store.blocks one rules ∙ may.whole)) (ap is_none may.faultless))
seen_allowed held store (drop_entry number) is ok =
    let passes = passed store number is_partial ok in
    passes_seen held store number passes.file (λ h l. file.is_partial h) passes.found (partial_none passes.file passes.test_is) refl
