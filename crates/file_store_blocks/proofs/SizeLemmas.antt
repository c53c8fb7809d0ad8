-- How many octets the records have that make a store of files, command by command.
use Rattle.std.proofs.Common.{◌≡◌, ◌⊎◌, inl, inr, ℕ, ◌+◌, ◌*◌, ◌≤◌, ◌<◌, ◌==◌, true, false, ◌&&◌, ◌||◌, ◌%◌, List, [], ◌∷◌, ◌++◌, length, map, Some, refl, ap, sym, ◌∙◌, subst, arith, length-append}
use Rattle.file_store_model.specs.Command.{after, begin, changed, drop_entry, grow, grown, is_allowed, seal, sealed, stamp_of}
use Rattle.file_store_model.proofs.Offered.{has_number}
use Rattle.file_journal.specs.Commands.{octets_of}
use Rattle.file_store_blocks.proofs.Names.{IsTrue, find, nat_le, sum_by, and_parts, leb-true, eqb_tells, nat_tests, length-map, sum_by-cons, sum_by_push, AreAllowed, Command, DropsNothing, KeepsFile, after_all, can_take, is_good, kept_with, with_holding, with_more, most_entries, Entry, Holding, Store, blocks_for, complete, entry_of, new_entry, partial, begin-allowed, blocks-map-changed, good-partial, grow-takes, passes-entry, half_size, placed_form, octets_for, FillBlocks, FillsBlocks, IsSized, entry_octets, held_octets, size_of_store}

-- ---- one entry changed

changed_past : (number : ℕ) (change : Entry → Holding) (low next : ℕ) (entries : List Entry) → FillBlocks low entries next → number < low
    → map (changed number change) entries ≡ entries
changed_past number change low next [] are past = refl
changed_past number change low next (e ∷ es) are past = grind (arith, nat_tests, changed_past number change (e.number + 1) next es are.3)

module _ (number : ℕ) (change : Entry → Holding) (one : Entry) where
  abbrev new : Entry
  new = record one { holding = change one }

  changed_here : (e : Entry) → (e.number == number) ≡ true → e ≡ one → changed number change e ≡ new
  changed_here e here same = rw here (ap (λ (x : Entry). record x { holding = change x }) same)

  changed_other : (e : Entry) → (e.number == number) ≡ false → changed number change e ≡ e
  changed_other e other = rw other refl

  fill_changed : FillsBlocks (change one) one.length → (low next : ℕ) (entries : List Entry) → FillBlocks low entries next → find (has_number number) entries ≡ Some one
      → FillBlocks low (map (changed number change) entries) next
  fill_changed fills low next [] are found = absurd (cc)
  fill_changed fills low next (e ∷ es) are found =
      elim (eqb_tells e.number number) [
        | inl w ↦
            let is : Some e ≡ Some one = rw w.0 at found in
            let same : e ≡ one = cc in
            let number_is : one.number ≡ e.number = ap (λ (x : Entry). x.number) (sym same) in
            let rest = changed_past number change (e.number + 1) next es are.3 (omega (arith, w.1)) in
            let filled : FillBlocks low (new ∷ es) next = (
              subst (λ (n : ℕ). low ≤ n) (sym number_is) are.0,
              subst (λ (n : ℕ). n < next) (sym number_is) are.1,
              fills,
              subst (λ (n : ℕ). FillBlocks (n + 1) es next) (sym number_is) are.3,
            ) in
            subst (λ (es_now : List Entry). FillBlocks low es_now next)
            (sym (ap (λ (x : Entry). x ∷ map (changed number change) es) (changed_here e w.0 same) ∙ ap (λ (xs : List Entry). new ∷ xs) rest)) filled
        | inr w ↦
            subst (λ (x : Entry). FillBlocks low (x ∷ map (changed number change) es) next) (sym (changed_other e w.0))
            (are.0, are.1, are.2, fill_changed fills (e.number + 1) next es are.3 (rw w.0 at found))
      ]

  size_changed : (low next : ℕ) (entries : List Entry) → FillBlocks low entries next → find (has_number number) entries ≡ Some one
      → sum_by entry_octets (map (changed number change) entries) + entry_octets one ≡ sum_by entry_octets entries + entry_octets new
  size_changed low next [] are found = absurd (cc)
  size_changed low next (e ∷ es) are found =
      elim (eqb_tells e.number number) [
        | inl w ↦
            let is : Some e ≡ Some one = rw w.0 at found in
            let same : e ≡ one = cc in
            omega (
              arith,
              sum_by-cons entry_octets e es,
              sum_by-cons entry_octets (changed number change e) (map (changed number change) es),
              ap (λ (xs : List Entry). sum_by entry_octets xs) (changed_past number change (e.number + 1) next es are.3 (omega (arith, w.1))),
              ap entry_octets (changed_here e w.0 same),
              ap entry_octets same,
            )
        | inr w ↦
            omega (
              arith,
              sum_by-cons entry_octets e es,
              sum_by-cons entry_octets (changed number change e) (map (changed number change) es),
              ap entry_octets (changed_other e w.0),
              size_changed (e.number + 1) next es are.3 (rw w.0 at found),
            )
      ]

-- and what is true of each entry is true of the one that is found
found_fills : (number : ℕ) (one : Entry) (low next : ℕ) (entries : List Entry) → FillBlocks low entries next → find (has_number number) entries ≡ Some one
    → FillsBlocks one.holding one.length
found_fills number one low next [] are found = absurd (cc)
found_fills number one low next (e ∷ es) are found =
    elim (eqb_tells e.number number) [
      | inl w ↦
          let is : Some e ≡ Some one = rw w.0 at found in
          let same : e ≡ one = cc in
          subst (λ (x : Entry). FillsBlocks x.holding x.length) same are.2
      | inr w ↦ found_fills number one (e.number + 1) next es are.3 (rw w.0 at found)
    ]

fill_push : (low next : ℕ) (entries : List Entry) (e : Entry) → FillBlocks low entries next → low ≤ next → e.number ≡ next → FillsBlocks e.holding e.length
    → FillBlocks low (entries ++ e ∷ []) (next + 1)
fill_push low next [] e are le same fills = (omega (arith, le, same), omega (arith, same), fills, tt)
fill_push low next (x ∷ xs) e are le same fills =
    (are.0, omega (arith, are.1), are.2, fill_push (x.number + 1) next xs e are.3 (omega (arith, are.1)) same fills)

-- ---- what a command changes of a file

-- a file that came so far, changed: it fills its blocks, and its records have 14 octets more
abbrev Grows : Holding → Holding → ℕ → Type 0
Grows old new file_length = FillsBlocks new file_length × (held_octets file_length new ≡ held_octets file_length old + 14)

fills_grown : (octets : List ℕ) (holding : Holding) (file_length : ℕ) → FillsBlocks holding file_length → 1 ≤ length octets → length octets ≤ 512
    → IsTrue (can_take holding file_length (length octets)) → Grows holding (with_more octets holding) file_length
fills_grown octets (partial held) file_length fills some most takes =
    let n = length octets in
    let parts = and_parts (nat_le (length held + n) file_length) ((n == 512) || (length held + n == file_length)) takes in
    let room : length held + n ≤ file_length = leb-true _ _ parts.0 in
    let all = length-append held octets in
    let even : length held % 512 ≡ 0 = elim fills.1 [
      | inl even ↦ even
      | inr whole ↦ absurd (omega (arith, whole, room, some))
    ] in
    let ends : (length (held ++ octets) % 512 ≡ 0) ⊎ (length (held ++ octets) ≡ file_length) =
    elim (eqb_tells n 512) [
      | inl w ↦ inl (omega (arith, all, even, w.1))
      | inr w ↦
          let last : (length held + n == file_length) ≡ true = rw w.0 at parts.1 in
          elim (eqb_tells (length held + n) file_length) [
            | inl v ↦ inr (omega (arith, all, v.1))
            | inr v ↦ absurd (cc)
          ]
    ] in
    ((omega (arith, all, room), ends), omega (arith, all, even, some, most))
fills_grown octets (complete all moment) file_length fills some most takes = absurd (cc takes)

fills_sealed : (moment : ℕ) (e : Entry) → IsTrue (is_good e.holding e.length) → Grows e.holding (sealed moment e) e.length
fills_sealed moment e good =
    let was = good-partial e.holding e.length good in
    subst (λ (h : Holding). Grows h (kept_with (stamp_of moment e) h) e.length) (sym was.1) (tt, omega (arith, was.2))

-- ---- each command

abbrev Sizes : Store → Command → Type 0
Sizes store command = IsSized (after store command) × (octets_for command + size_of_store store ≡ size_of_store (after store command))

with_sized : (store : Store) (number : ℕ) (change : Entry → Holding) (one : Entry) → IsSized store → entry_of store number ≡ Some one → Grows one.holding (change one) one.length
    → IsSized (with_holding store number change) × (14 + size_of_store store ≡ size_of_store (with_holding store number change))
with_sized store number change one is found grows = (
  record {
    entries = fill_changed number change one grows.0 1 store.next store.entries is.entries found;
    next = is.next;
    few = subst (λ (n : ℕ). n ≤ most_entries) (sym (length-map store.entries (changed number change))) is.few;
    blocks = subst (λ (n : ℕ). n ≤ store.blocks) (sym (blocks-map-changed number change store.entries)) is.blocks;
  },
  omega (arith, size_changed number change one 1 store.next store.entries is.entries found, grows.1),
)

one_sized : (store : Store) (command : Command) → IsSized store → IsTrue (is_allowed store command) → KeepsFile command → Sizes store command
one_sized store (begin number caller file_length moment) is ok keeps =
    let may = begin-allowed store number caller file_length moment ok in
    let new = new_entry number caller file_length moment in (
      record {
        entries =
            subst (λ (n : ℕ). FillBlocks 1 (store.entries ++ new ∷ []) (n + 1)) (sym may.0)
            (fill_push 1 store.next store.entries new is.entries is.next may.0 (omega arith, inl refl));
        next = omega arith;
        few = omega (arith, may.2, length-append store.entries (new ∷ []));
        blocks = omega (arith, may.3, sum_by_push (λ (e : Entry). blocks_for e.length) store.entries new);
      },
      omega (arith, sum_by_push entry_octets store.entries new),
    )
one_sized store (grow number octets) is ok keeps =
    let found = passes-entry (λ e. can_take e.holding e.length (length octets)) (entry_of store number) (grow-takes store number octets ok) in
    let front = and_parts (nat_le 1 (length octets) && nat_le (length octets) 512) _ ok in
    let sizes = and_parts (nat_le 1 (length octets)) (nat_le (length octets) 512) front.0 in
    let one = found.0 in
    with_sized store number (grown octets) one is found.1
    (fills_grown octets one.holding one.length (found_fills number one 1 store.next store.entries is.entries found.1) (leb-true _ _ sizes.0) (leb-true _ _ sizes.1) found.2)
one_sized store (seal number moment) is ok keeps =
    let found = passes-entry (λ e. is_good e.holding e.length) (entry_of store number) ok in
    with_sized store number (sealed moment) found.0 is found.1 (fills_sealed moment found.0 found.2)
one_sized store (drop_entry number) is ok keeps = absurd keeps

-- Commands that are allowed and drop nothing keep what bounds the size of a store,
pub all_sized : (commands : List Command) (store : Store) → IsSized store → AreAllowed store commands → DropsNothing commands → IsSized (after_all store commands)
all_sized [] store is ok keeps = is
all_sized (command ∷ commands) store is ok keeps =
    all_sized commands (after store command) (one_sized store command is ok.0 keeps.0).0 ok.1 keeps.1

-- and the store is as much larger after them as their records have octets.
pub sizes_after : (commands : List Command) (store : Store) → IsSized store → AreAllowed store commands → DropsNothing commands
    → octets_of placed_form commands + size_of_store store ≡ size_of_store (after_all store commands)
sizes_after [] store is ok keeps = omega arith
sizes_after (command ∷ commands) store is ok keeps =
    let here = one_sized store command is ok.0 keeps.0 in
    omega (arith, here.1, sizes_after commands (after store command) here.0 ok.1 keeps.1)

-- ---- the bound

sizes_most : (low next : ℕ) (entries : List Entry) → FillBlocks low entries next
    → sum_by entry_octets entries ≤ 37 * length entries + 14 * sum_by (λ (e : Entry). blocks_for e.length) entries
sizes_most low next [] are = omega arith
sizes_most low next (e ∷ es) are =
    omega (
      arith,
      sum_by-cons entry_octets e es,
      sum_by-cons (λ (x : Entry). blocks_for x.length) e es,
      sizes_most (e.number + 1) next es are.3,
      one_most e.holding e.length are.2,
    )
  where
    one_most : (holding : Holding) (file_length : ℕ) → FillsBlocks holding file_length → held_octets file_length holding ≤ 14 * blocks_for file_length + 14
    one_most (partial held) file_length fills = omega (arith, fills.0)
    one_most (complete octets moment) file_length fills = omega arith

-- All of them have room in a half, with a Next before them and a gate after them.
pub size_fits : (store : Store) → IsSized store → 8 + size_of_store store + 1 ≤ half_size store.blocks
size_fits store is = omega (arith, sizes_most 1 store.next store.entries is.entries, is.few, is.blocks)

-- no command changes how many blocks there are
pub same_blocks : (commands : List Command) (store : Store) → (after_all store commands).blocks ≡ store.blocks
same_blocks [] store = refl
same_blocks (command ∷ commands) store = same_blocks commands (after store command) ∙ one_same command
  where
    one_same : (c : Command) → (after store c).blocks ≡ store.blocks
    one_same (begin number caller file_length moment) = refl
    one_same (grow number octets) = refl
    one_same (seal number moment) = refl
    one_same (drop_entry number) = refl
