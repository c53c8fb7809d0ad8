-- What writes, whole and torn, make of octets.
use Rattle.std.proofs.Common.{◌≡◌, inl, inr, ℕ, ◌+◌, ◌-◌, ◌<◌, ◌≤◌, List, ◌∷◌, ◌++◌, length, get_or, take, drop, sym, ◌∙◌, ap, subst, arith, length-take, append_assoc, take-append-drop, take-take, drop-drop, get_or-take, ◌≢◌, [], refl, length-append, length-drop}
use Rattle.file_journal.proofs.Names.{torn_by, torn_front, torn_length, torn_none, torn_octet, torn_on, written, common_steps, cases_lt, drop-take, le32, Writes, Torn, take_all, block_in, block_place, take-append-add, Lays, length-take-le, IsPutting, OpensGate, with_gate}

-- the front of octets, in which the header is read
pub front16 : (octets room : List ℕ) → room ≡ take 16 (drop 0 octets) → (le32 room 8 ≡ le32 octets 8) × (get_or room 15 0 ≡ get_or octets 15 0) × (take 8 room ≡ take 8 octets)
front16 octets room is =
    let at : (i : ℕ) → i < 16 → get_or room i 0 ≡ get_or octets i 0 = λ i lt. ap (λ (l : List ℕ). get_or l i 0) is ∙ get_or-take 16 octets i 0 lt in (
      omega (arith, at 8 (omega arith), at 9 (omega arith), at 10 (omega arith), at 11 (omega arith)),
      at 15 (omega arith),
      ap (λ (l : List ℕ). take 8 l) is ∙ take-take 8 16 octets (omega arith),
    )

-- ---- what blocks hold where octets outside them change

-- a block is that of the octets up to some place behind it
block_front : (octets : List ℕ) (place block : ℕ) → block_place block + 512 ≤ place → block_in (take place octets) block ≡ block_in octets block
block_front octets place block within =
    let there = block_place block in
    sym (drop-take there 512 (take place octets)) ∙ ap (drop there) (take-take (there + 512) place octets within) ∙ drop-take there 512 octets

-- octets that are the same up to some place hold the same in each block before it
pub same_front : (octets other : List ℕ) (place block : ℕ) → block_place block + 512 ≤ place → take place other ≡ take place octets → block_in other block ≡ block_in octets block
same_front octets other place block within same =
    sym (block_front other place block within) ∙ ap (λ (l : List ℕ). block_in l block) same ∙ block_front octets place block within

-- a torn write behind a block leaves what it holds
pub torn_behind : (at count block : ℕ) (old new : List ℕ) → block_place block + 512 ≤ at → at ≤ length old → Torn at count old new → block_in new block ≡ block_in old block
torn_behind at count block old new within le torn = same_front old new at block within (torn_front at count old new le torn)

-- octets that are the same from some place on hold the same in each block behind it
pub same_back : (octets other : List ℕ) (place block : ℕ) → place ≤ block_place block → drop place other ≡ drop place octets → block_in other block ≡ block_in octets block
same_back octets other place block behind same =
    let rest = block_place block - place in
    let there : place + rest ≡ block_place block = omega (arith, behind) in
    let from : (l : List ℕ) → drop (block_place block) l ≡ drop rest (drop place l) = λ l. ap (λ (i : ℕ). drop i l) (sym there) ∙ sym (drop-drop rest place l) in
    ap (take 512) (from other ∙ ap (drop rest) same ∙ sym (from octets))

-- a write in one block leaves what the others hold
pub torn_other : (block other count : ℕ) (old new : List ℕ) → block ≢ other → count ≤ 512 → block_place block + 512 ≤ length old → Torn (block_place block) count old new
    → block_in new other ≡ block_in old other
torn_other block other count old new differ most there torn = grind (arith, common_steps, cases_lt, torn_behind, torn_length, same_back, take_all)

-- ---- octets that are laid one behind another

pub lays_none : (at : ℕ) (octets : List ℕ) → Lays at [] octets octets
lays_none at octets = record { torn = torn_none at 0 octets; there = refl }

-- octets laid behind others
pub lays_more : (at : ℕ) (text more old mid new : List ℕ) → Lays at text old mid → Writes (at + length text) more mid new → Lays at (text ++ more) old new
lays_more at text more old mid new lays writes = record {
  torn =
      subst (λ (n : ℕ). Torn at n old new) (sym (length-append text more))
      (torn_on at (length text) (length more) old mid new lays.torn (torn_by (at + length text) more mid new writes));
  there =
      ap (λ (n : ℕ). take n (drop at new)) (length-append text more) ∙ ap (take (length text + length more)) split
      ∙ take-append-add text (drop (at + length text) new) (length more) ∙ ap (λ (l : List ℕ). text ++ l) writes.there;
}
  where
    -- what was laid first stays
    front : take (length text) (drop at new) ≡ text
    front = elim (cases_lt (at + length text) (length mid + 1)) [
      | inl inside ↦
          let le : at + length text ≤ length mid = omega (arith, inside) in
          sym (drop-take at (length text) new) ∙ ap (drop at) (sym (take-take (at + length text) (length mid) new le) ∙ writes.before)
          ∙ drop-take at (length text) mid ∙ lays.there
      | inr past ↦
          let none : length text ≡ 0 = omega (arith, past, ap length lays.there, length-take (length text) (drop at mid), length-drop at mid) in
          ap (λ (n : ℕ). take n (drop at new)) none ∙ sym (empty text none)
    ]
      where
        empty : (l : List ℕ) → length l ≡ 0 → l ≡ []
        empty [] is = refl
        empty (x ∷ l) is = absurd (omega (arith, is))

    split : drop at new ≡ text ++ drop (at + length text) new
    split =
        sym (take-append-drop (length text) (drop at new)) ∙ ap (λ (l : List ℕ). l ++ drop (length text) (drop at new)) front
        ∙ ap (λ (l : List ℕ). text ++ l) (drop-drop (length text) at new)

-- ---- what a crash leaves while a record is put behind a gate

-- the content with a record behind the gate, which is as it was
abbrev pub staged : ℕ → List ℕ → List ℕ → List ℕ
staged place text before = take (place + 1) before ++ text ++ drop (place + 1 + length text) before

module _ (place : ℕ) (text before : List ℕ) (there : place < length before) where
  pub staged_long : place < length (staged place text before)
  staged_long = grind (arith, common_steps, length-take-le, length-append)

  -- an octet at the gate's place, and the record behind it
  pub gated : (gate : ℕ) → take place (staged place text before) ++ gate ∷ drop (place + 1) (staged place text before) ≡ with_gate place gate text before
  gated gate = grind (arith, common_steps)

  pub staged_by : (new : List ℕ) → Writes (place + 1) text before new → new ≡ staged place text before
  staged_by new writes = written (place + 1) text before new (omega arith) writes

  pub opened_by : (new : List ℕ) → Writes place (1 ∷ []) (staged place text before) new → OpensGate place text before new
  opened_by new writes =
      written place (1 ∷ []) (staged place text before) new (omega (arith, staged_long)) writes
      ∙ append_assoc (take place (staged place text before)) (1 ∷ []) (drop (place + 1) (staged place text before))
      ∙ gated 1

  -- each image after the gate's write has the record whole
  pub gate_crash : (images : List ℕ → Type 0) (image : List ℕ) → Torn place 1 (staged place text before) image → IsPutting place text images before image
  gate_crash images image torn = inr (get_or image place 0, torn_octet place (staged place text before) image staged_long torn ∙ gated (get_or image place 0))
