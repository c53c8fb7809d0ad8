-- What formatting makes of octets, and what a crash in it leaves.
use Rattle.std.proofs.Common.{◌≡◌, ℕ, ◌+◌, ◌-◌, ◌%◌, ◌==◌, ◌<◌, ◌≤◌, List, [], ◌∷◌, ◌++◌, length, get_or, take, drop, Some, sym, ◌∙◌, ap, subst, arith, append_assoc, length-append, length-drop, take-take, get_or-drop, get_or-take, eq-eqb}
use Rattle.file_journal.proofs.Names.{common_steps, drop_all, drop_more, take_at, length-take-le, get_or_at, nat_tests, cond-true, HasGates, IsAfterFinishing, even_header, even_selector, Torn, Writes, IsTornFrom, IsFinishing, IsMakingEven, IsMakingGates, MakesEven, MakesGates, Ghosts, IsQuietNow, quiet_images, written, three_parts, torn_front, torn_length}

-- the same of a quiet disk
pub torn_quiet : {D : Type 0} (g : Ghosts D) (disk : D) → ((t : ℕ) (image : List ℕ) → t ≤ g.moment disk → g.images disk image → g.images_since disk t image) → IsQuietNow g disk
    → (at n : ℕ) (before : List ℕ) → g.content disk ≡ Some before → (image : List ℕ) → IsTornFrom (g.images disk) at n image → Torn at n before image
torn_quiet g disk counts_now rest at n before told image torn = subst (λ (l : List ℕ). Torn at n l image) ((quiet_images g disk counts_now rest before told) torn.0 torn.1) torn.2

-- at most as many octets give way to these
pub all_by : (text before new : List ℕ) → length before ≤ length text → Writes 0 text before new → new ≡ text
all_by text before new short writes = grind (arith, common_steps)

pub even_crash : (before image : List ℕ) → 16 ≤ length before → Torn 15 1 before image → IsMakingEven before image
even_crash before image long torn = (torn_front 15 1 before image (omega arith) torn, torn_length 15 1 before image (omega arith) torn)

pub even_by : (before new : List ℕ) → 16 ≤ length before → get_or before 15 0 % 2 ≡ 1 → Writes 15 (0 ∷ []) before new → MakesEven before new
even_by before new long odd writes =
    written 15 (0 ∷ []) before new (omega arith) writes ∙ append_assoc (take 15 before) (0 ∷ []) (drop 16 before)
    ∙ ap (λ (n : ℕ). take 15 before ++ n ∷ drop 16 before) (sym (cond-true (get_or before 15 0 % 2 == 1) 0 (get_or before 15 0) (eq-eqb (get_or before 15 0 % 2) 1 odd)))

-- an octet that was written
pub octet_there : (at octet : ℕ) (new : List ℕ) → take 1 (drop at new) ≡ octet ∷ [] → get_or new at 0 ≡ octet
octet_there at octet new is = grind (arith, common_steps, get_or, get_or-drop, get_or-take)

-- What stays before a place, where a write is whole or torn.
module _ (at : ℕ) (old new : List ℕ) (same : take at (take (length old) new) ≡ take at old) where
  header_kept : 16 ≤ at → 16 ≤ length old → take 16 new ≡ take 16 old
  header_kept le long =
      sym (take-take 16 (length old) new long) ∙ sym (take-take 16 at (take (length old) new) le) ∙ ap (λ (l : List ℕ). take 16 l) same ∙ take-take 16 at old le

  octet_kept : (i : ℕ) → i < at → i < length old → get_or new i 0 ≡ get_or old i 0
  octet_kept i lt inside = grind (arith, common_steps, get_or-take, get_or)

-- two octets 00 at the end
two_left : (gate : ℕ) (new : List ℕ) → length new ≡ gate + 2 → get_or new gate 0 ≡ 0 → get_or new (gate + 1) 0 ≡ 0 → drop gate new ≡ 0 ∷ 0 ∷ []
two_left gate new size first second = grind (arith, common_steps, drop_more, drop_all)

module _ (gate : ℕ) (before : List ℕ) (behind : 16 ≤ gate) (low : 16 ≤ length before) (high : length before ≤ gate + 1) where
  -- the header and one gate, which is the last octet
  record HasOneGate (mid : List ℕ) : Type 0 where
    pub size : length mid ≡ gate + 1
    pub header : take 16 mid ≡ take 16 before
    pub closed : get_or mid gate 0 ≡ 0

  one_gate_by : (mid : List ℕ) → Writes gate (0 ∷ []) before mid → HasOneGate mid
  one_gate_by mid writes = record {
    size = omega (arith, writes.size, high);
    header = header_kept gate before mid writes.before behind low;
    closed = octet_there gate 0 mid writes.there;
  }

  pub gates_by : (mid new : List ℕ) → Writes gate (0 ∷ []) before mid → Writes (gate + 1) (0 ∷ []) mid new → MakesGates gate before new
  gates_by mid new first writes =
      let one = one_gate_by mid first in
      let size : length new ≡ gate + 2 = omega (arith, writes.size, one.size) in
      let closed : get_or new gate 0 ≡ 0 = octet_kept (gate + 1) mid new writes.before gate (omega arith) (omega (arith, one.size)) ∙ one.closed in
      let last : drop (16 + (gate - 16)) new ≡ 0 ∷ 0 ∷ [] =
      ap (λ (i : ℕ). drop i new) (let same : 16 + (gate - 16) ≡ gate = omega (arith, behind) in same) ∙ two_left gate new size closed (octet_there (gate + 1) 0 new writes.there) in
      record {
        gap = take (gate - 16) (drop 16 new);
        size = omega (arith, behind, size, length-drop 16 new, length-take-le (gate - 16) (drop 16 new) (omega (arith, size, length-drop 16 new)));
        octets =
            three_parts 16 (gate - 16) new ∙ ap (λ (l : List ℕ). l ++ take (gate - 16) (drop 16 new) ++ drop (16 + (gate - 16)) new) (header_kept (gate + 1) mid new writes.before (omega (arith, behind)) (omega (arith, one.size, behind)) ∙ one.header)
            ∙ ap (λ (l : List ℕ). take 16 before ++ take (gate - 16) (drop 16 new) ++ l) last;
      }

  pub first_gate_crash : (image : List ℕ) → Torn gate 1 before image → IsMakingGates gate before image
  first_gate_crash image torn =
      record {
        header = header_kept gate before image torn.before behind low;
        no_shorter = torn.no_shorter;
        no_longer = omega (arith, torn.no_longer, high);
        closed = λ long. absurd (omega (arith, torn.no_longer, long, high));
      }

  pub second_gate_crash : (mid image : List ℕ) → Writes gate (0 ∷ []) before mid → Torn (gate + 1) 1 mid image → IsMakingGates gate before image
  second_gate_crash mid image first torn =
      let one = one_gate_by mid first in
      record {
        header = header_kept (gate + 1) mid image torn.before (omega (arith, behind)) (omega (arith, one.size, behind)) ∙ one.header;
        no_shorter = omega (arith, torn.no_shorter, one.size, high);
        no_longer = omega (arith, torn.no_longer, one.size);
        closed = λ long. octet_kept (gate + 1) mid image torn.before gate (omega arith) (omega (arith, one.size)) ∙ one.closed;
      }

pub even_selector_even : (before : List ℕ) → even_selector before % 2 ≡ 0
even_selector_even before = grind (arith, nat_tests)

-- The content once the selector is even.
module _ (before : List ℕ) (long : 16 < length before) where
  abbrev pub evened : List ℕ
  evened = take 15 before ++ even_selector before ∷ drop 16 before

  front15 : length (take 15 before) ≡ 15
  front15 = length-take-le 15 before (omega (arith, long))

  pub evened_length : length evened ≡ length before
  evened_length = omega (arith, front15, long, length-append (take 15 before) (even_selector before ∷ drop 16 before), length-drop 16 before)

  pub evened_front : take 15 evened ≡ take 15 before
  evened_front = take_at (take 15 before) (even_selector before ∷ drop 16 before) 15 front15

  pub evened_header : take 16 evened ≡ even_header before
  evened_header = grind (arith, common_steps)

  module _ (gate : ℕ) (short : length before < gate + 2) where
    pub even_finishing : (image : List ℕ) → IsMakingEven before image → IsFinishing gate before image
    even_finishing image making = record {
      interrupted = short;
      header = making.0;
      no_shorter = omega (arith, making.1);
      no_longer = omega (arith, making.1, short);
      even = λ more. absurd (omega (arith, making.1, short, more));
      closed = λ more. absurd (omega (arith, making.1, short, more));
    }

    pub gates_finishing : (image : List ℕ) → IsMakingGates gate evened image → IsFinishing gate before image
    gates_finishing image making =
        let selector : get_or image 15 0 ≡ even_selector before =
        sym (get_or-take 16 image 15 0 (omega arith)) ∙ ap (λ (l : List ℕ). get_or l 15 0) (making.header ∙ evened_header) ∙ get_or_at (take 15 before) (even_selector before) [] 0 15 front15 in
        record {
          interrupted = short;
          header = sym (take-take 15 16 image (omega arith)) ∙ ap (λ (l : List ℕ). take 15 l) making.header ∙ take-take 15 16 evened (omega arith) ∙ evened_front;
          no_shorter = omega (arith, making.no_shorter, evened_length);
          no_longer = making.no_longer;
          even = λ more. ap (λ (n : ℕ). n % 2) selector ∙ even_selector_even before;
          closed = making.closed;
        }

    pub finished_by : (new : List ℕ) → MakesGates gate evened new → IsAfterFinishing gate before new
    finished_by new is = record {
      finished = λ less. subst (λ (header : List ℕ). HasGates gate header new) evened_header is;
      same = λ full. absurd (omega (arith, short, full));
    }
