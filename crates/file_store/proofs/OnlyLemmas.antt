-- What is the same of a store if the file of one number alone changed.
use Rattle.std.proofs.Common.{◌≡◌, ℕ, List, [], ◌∷◌, take, Option, None, Some, inl, inr, refl, sym, ◌∙◌, ap, subst}
use Rattle.std.specs.Prelude.{option_map}
use Rattle.file_store.proofs.Names.{IsTrue, eqb_tells, Command, after, after_all, grown, with_holding, is_complete, KeepsComplete, Entry, Holding, Store, entry_of, partial, find-map-changed_other, never-both, ChangesEntry, OnlyChanges, after_first, outlined_all}
use Rattle.file_store.proofs.GrowsLemmas.{AreGrows, IsGrow, find-held, outlined-are, take-are}

-- ---- changes of one number

pub only-same : (number : ℕ) (before now : Store) → now ≡ before → OnlyChanges before now number
only-same number before now same = record {
  next = ap (λ (s : Store). s.next) same;
  blocks = ap (λ (s : Store). s.blocks) same;
  others = λ other ne. ap (λ (s : Store). entry_of s other) same;
  own = λ entry found. (entry, ap (λ (s : Store). entry_of s number) (sym same) ∙ found, refl);
}

pub only-then : (number : ℕ) (before mid now : Store) → OnlyChanges before mid number → OnlyChanges mid now number → OnlyChanges before now number
only-then number before mid now first second = record {
  next = second.next ∙ first.next;
  blocks = second.blocks ∙ first.blocks;
  others = λ other ne. second.others other ne ∙ first.others other ne;
  own = λ entry found.
      let last = second.own entry found in
      let was = first.own last.0 last.1 in
      (was.0, was.1, last.2 ∙ ap (λ (e : Entry). record e { holding = entry.holding }) was.2);
}

-- each entry was there before
pub only-changes : (number : ℕ) (before now : Store) → OnlyChanges before now number → ChangesEntry before now number
only-changes number before now only other entry found =
    elim (eqb_tells other number) [
      | inl w ↦
          let was = only.own entry (ap (entry_of now) (sym w.1) ∙ found) in
          (was.0, ap (entry_of before) w.1 ∙ was.1, sym (ap (λ (e : Entry). e.caller) was.2), λ ne. absurd (ne w.1))
      | inr w ↦ (entry, sym (only.others other w.1) ∙ found, refl, λ ne. refl)
    ]

-- a file under way was no complete one
pub only-complete : (number : ℕ) (before now : Store) (entry : Entry) (held : List ℕ) → entry_of before number ≡ Some entry → entry.holding ≡ partial held → OnlyChanges before now number
    → KeepsComplete before now
only-complete number before now entry held is partial_is only other found there whole =
    elim (eqb_tells other number) [
      | inl w ↦
          let same : found ≡ entry = let f = subst (λ (n : ℕ). entry_of before n ≡ Some found) w.1 there in cc (sym f ∙ is) in
          absurd (never-both entry.holding held partial_is (subst (λ (e : Entry). IsTrue (is_complete e.holding)) same whole))
      | inr w ↦ only.others other w.1 ∙ there
    ]

-- ---- Grows of one number

held-before : (change : Entry → Holding) (o : Option Entry) (then : Entry) → option_map {T = Entry} (λ e. record e { holding = change e }) o ≡ Some then
    → (old : Entry) × (o ≡ Some old) × (then ≡ record old { holding = then.holding })
held-before change None then is = absurd (cc is)
held-before change (Some old) then is =
    let one : record old { holding = change old } ≡ then = cc is in
    (old, refl, subst (λ (e : Entry). e ≡ record old { holding = e.holding }) one refl)

only-held : (store : Store) (number : ℕ) (change : Entry → Holding) → OnlyChanges store (with_holding store number change) number
only-held store number change = record {
  next = refl;
  blocks = refl;
  others = λ other ne. find-map-changed_other number other change store.entries ne;
  own = λ entry found. held-before change (entry_of store number) entry (sym (find-held number change store.entries) ∙ found);
}

only-grow : (store : Store) (number : ℕ) (command : Command) → IsGrow number command → OnlyChanges store (after store command) number
only-grow store number command is = subst (λ (c : Command). OnlyChanges store (after store c) number) (sym is.1) (only-held store number (grown is.0))

pub only-grows : (commands : List Command) (store : Store) (number : ℕ) → AreGrows number commands → OnlyChanges store (after_all store commands) number
only-grows [] store number are = only-same number store store refl
only-grows (command ∷ commands) store number are =
    let mid : Store = after store command in
    only-then number store mid (after_all mid commands) (only-grow store number command are.0) (only-grows commands mid number are.1)

-- what the first of them make of the entries
pub only-first : (before now : Store) (number : ℕ) (commands : List Command) → AreGrows number commands → (count : ℕ) × (now ≡ after_first count before (outlined_all commands)) → OnlyChanges before now number
only-first before now number commands are part =
    let first : List Command = take part.0 (outlined_all commands) in
    subst (λ (s : Store). OnlyChanges before s number) (sym part.1) (only-grows first before number (take-are part.0 number (outlined_all commands) (outlined-are number commands are)))
