-- Where the halves of a store's records stand, and the octets up to where one ends.
use Rattle.std.proofs.Common.{◌≡◌, inl, inr, ℕ, ◌+◌, ◌%◌, ◌==◌, ◌<◌, ◌≤◌, List, [], ◌∷◌, ◌++◌, length, get_or, take, drop, Option, None, Some, IfSome, sym, ◌∙◌, ap, arith, append_assoc, length-append, length-take, take-append-drop, take-take, get_or-take, nat_le}
use Rattle.file_journal.proofs.Names.{common_steps, cond-false, cond-true, cases_lt, le-leb, lt-leb, ne_eqb, take_all, take_at, All-take, IsOctets, HasBlocks, block_place, first_gate, half_by, half_end, half_gate, half_in, up_to, readable, Half, Layout, First}

-- behind the header
pub gate_behind : (layout : Layout) (blocks : ℕ) → 16 ≤ first_gate layout blocks
gate_behind layout blocks = grind arith

-- the first half begins with the first gate
pub first_half : (layout : Layout) (blocks : ℕ) → half_gate layout blocks First ≡ first_gate layout blocks
first_half layout blocks = grind arith

-- and no half before
pub half_behind : (layout : Layout) (blocks : ℕ) (chosen : Half) → first_gate layout blocks ≤ half_gate layout blocks chosen
half_behind layout blocks chosen = grind arith

-- a half ends behind its first two gates
pub half_long : (layout : Layout) (blocks : ℕ) (chosen : Half) → IfSome (half_end layout blocks chosen) (λ end. half_gate layout blocks chosen + 2 ≤ end)
half_long layout blocks chosen = grind arith

-- the first gate stands right behind the blocks
pub gate_of_blocks : (layout : Layout) (blocks : ℕ) → HasBlocks layout → first_gate layout blocks ≡ block_place blocks
gate_of_blocks layout blocks has = grind arith

-- an even selector says the first half
pub even_half : (layout : Layout) (selector : ℕ) → selector % 2 ≡ 0 → half_by layout selector ≡ First
even_half x0 selector even = grind (arith, common_steps, cond-false, ne_eqb)

-- octets with the same front have their records in the same half
pub same_half : (n : ℕ) (layout : Layout) (octets image : List ℕ) → 16 ≤ n → take n image ≡ take n octets → half_in layout image ≡ half_in layout octets
same_half n layout octets image le same =
    ap (half_by layout) (sym (get_or-take n image 15 0 (omega (arith, le))) ∙ ap (λ (l : List ℕ). get_or l 15 0) same ∙ get_or-take n octets 15 0 (omega (arith, le)))

pub up_to_octets : (end : Option ℕ) (octets : List ℕ) → IsOctets octets → IsOctets (up_to end octets)
up_to_octets None octets are = are
up_to_octets (Some end) octets are = All-take (λ octet. octet < 256) end octets are

pub up_to_octet : (end : Option ℕ) (n : ℕ) (octets : List ℕ) → IfSome end (λ place. n < place) → get_or (up_to end octets) n 0 ≡ get_or octets n 0
up_to_octet end n octets lt = grind (arith, get_or-take)

pub up_to_long : (end : Option ℕ) (n : ℕ) (octets : List ℕ) → IfSome end (λ place. n ≤ place) → n ≤ length octets → n ≤ length (up_to end octets)
up_to_long end n octets le long = grind (arith, length-take)

-- a front of them is one of all octets
pub up_to_front : (end : Option ℕ) (n : ℕ) (octets : List ℕ) → n ≤ length (up_to end octets) → take n (up_to end octets) ≡ take n octets
up_to_front end n octets le = grind (arith, take-take, length-take)

-- where they go on behind a gate, so do all octets
pub record Behind (end : Option ℕ) (front : List ℕ) (gate : ℕ) (octets : List ℕ) : Type 0 where
  pub rest : List ℕ
  pub split : octets ≡ front ++ gate ∷ rest
  pub inside : IfSome end (λ place. length front < place)

pub up_to_whole : (end : Option ℕ) (front : List ℕ) (gate : ℕ) (later octets : List ℕ) → up_to end octets ≡ front ++ gate ∷ later → Behind end front gate octets
up_to_whole None front gate later octets is = record { rest = later; split = is; inside = tt }
up_to_whole (Some end) front gate later octets is = record {
  rest = later ++ drop end octets;
  split = sym (take-append-drop end octets) ∙ ap (λ (l : List ℕ). l ++ drop end octets) is ∙ append_assoc front (gate ∷ later) (drop end octets);
  inside = omega (arith, ap length is, length-take end octets, length-append front (gate ∷ later));
}

-- and the other way round
pub up_to_split : (end : Option ℕ) (front : List ℕ) (gate : ℕ) (rest octets : List ℕ) → octets ≡ front ++ gate ∷ rest → IfSome end (λ place. length front < place)
    → (later : List ℕ) × (up_to end octets ≡ front ++ gate ∷ later)
up_to_split None front gate rest octets is inside = (rest, is)
up_to_split (Some end) front gate rest octets is inside =
    let n = length front + 1 in
    let here : length (front ++ gate ∷ []) ≡ n = omega (arith, length-append front (gate ∷ [])) in
    let whole : octets ≡ (front ++ gate ∷ []) ++ rest = is ∙ sym (append_assoc front (gate ∷ []) rest) in (
      drop n (take end octets),
      sym (take-append-drop n (take end octets))
          ∙ ap (λ (l : List ℕ). l ++ drop n (take end octets))
          (take-take n end octets (omega (arith, inside)) ∙ ap (λ (l : List ℕ). take n l) whole ∙ take_at (front ++ gate ∷ []) rest n here)
          ∙ append_assoc front (gate ∷ []) (drop n (take end octets)),
    )

-- what is read of so many octets is those up to the end
pub readable_is : (end : Option ℕ) (len : ℕ) (octets : List ℕ) → len ≡ length octets → up_to end octets ≡ take (readable end len) octets
readable_is x0 len octets is = grind (arith, common_steps, take_all, cases_lt, cond-false, nat_le, lt-leb, cond-true, le-leb)

pub readable_less : (end : Option ℕ) (len : ℕ) → (readable end len ≤ len) × IfSome end (λ place. readable end len ≤ place)
readable_less None len = (omega arith, tt)
readable_less (Some end) len = elim (cases_lt end len) [
  | inl shorter ↦ (let is = cond-false (nat_le len end) len end (lt-leb len end shorter) in (omega (arith, is, shorter), omega (arith, is)))
  | inr longer ↦ (let is = cond-true (nat_le len end) len end (le-leb len end longer) in (omega (arith, is), omega (arith, is, longer)))
]
