-- What the octets of a disk stand for, by their header and their length.
use Rattle.std.proofs.Common.{◌≡◌, ◌≢◌, ℕ, ◌+◌, ◌%◌, ◌<◌, ◌≤◌, false, cond, not, nat_le, nat_lt, List, [], ◌∷◌, ◌++◌, length, get_or, take, None, Some, IfSome, refl, sym, ◌∙◌, ap, subst, arith, append_assoc, append-nil, length-append, take-take, get_or-take, inl, inr}
use Rattle.std.proofs.lemmas.Slice.Eq.{bytes_eq-Decides}
use Rattle.file_journal.proofs.Names.{common_steps, cond-true, cond-false, cases_Bool, cases_lt, and_from, false_from_ne_true, both_ways, not_from_true, not_from_false, le-leb, lt-leb, lt-ltb, le-ltb, take_at, get_or-append-add, bytes_eq, le32, le32_octets, first_gate, half_end, half_in, up_to, Record, whole, reading_at, Half, Layout, Standing, store, bad_number, no_store, is_block_number, store_of, journal_of, read_half, header_text, IsSameStore, HasGoodHeader, IsMakingGates, HasHeader, told_weaker, First}
use Rattle.file_journal.proofs.LayoutLemmas.{even_half, first_half, gate_behind, half_long, same_half, up_to_long, up_to_octet}
use Rattle.file_journal.proofs.ReadingLemmas.{read_closed}

module _ (magic : List ℕ) (layout : Layout) (octets : List ℕ) where
  pub of_short : length octets ≤ 16 → journal_of magic layout octets ≡ store None (whole [])
  unfolding journal_of
  of_short short = cond-true (nat_le (length octets) 16) _ _ (le-leb (length octets) 16 short)

  -- more than 16 octets
  longer : (rest : Standing) → 16 < length octets → cond (nat_le (length octets) 16) (store None (whole [])) rest ≡ rest
  longer rest long = cond-false (nat_le (length octets) 16) (store None (whole [])) rest (lt-leb (length octets) 16 long)

  pub of_foreign : 16 < length octets → take 8 octets ≢ magic → journal_of magic layout octets ≡ no_store (take 8 octets)
  unfolding journal_of
  of_foreign long foreign =
      longer _ long
      ∙ cond-true (not (bytes_eq (take 8 octets) magic)) _ _
      (not_from_false _ (false_from_ne_true _ (λ same. foreign ((bytes_eq-Decides (take 8 octets) magic).0 same))))

  -- the right magic
  known : (found rest : Standing) → take 8 octets ≡ magic → cond (not (bytes_eq (take 8 octets) magic)) found rest ≡ rest
  known found rest is = cond-false (not (bytes_eq (take 8 octets) magic)) found rest (not_from_true _ ((bytes_eq-Decides (take 8 octets) magic).1 is))

  pub of_bad_number : 16 < length octets → take 8 octets ≡ magic → is_block_number (le32 octets 8) ≡ false → journal_of magic layout octets ≡ bad_number
  unfolding journal_of
  of_bad_number long is bad = longer _ long ∙ known _ _ is ∙ cond-true (not (is_block_number (le32 octets 8))) _ _ (not_from_false _ bad)

  module _ (blocks : ℕ) (head : HasHeader magic blocks octets) where
    -- the right block number
    good : (short more : ℕ → Standing) → cond (not (is_block_number (le32 octets 8))) bad_number (cond (nat_lt (length octets) (first_gate layout (le32 octets 8) + 2)) (short (le32 octets 8)) (more (le32 octets 8)))
        ≡ cond (nat_lt (length octets) (first_gate layout blocks + 2)) (short blocks) (more blocks)
    good short more = grind (arith, common_steps, cond-false, not_from_true, nat_lt)

    numbered : 16 < length octets
        → journal_of magic layout octets
        ≡ cond (nat_lt (length octets) (first_gate layout blocks + 2)) (store (Some blocks) (whole [])) (store_of blocks (read_half layout blocks (half_in layout octets) octets))
    unfolding journal_of
    numbered long =
        longer _ long ∙ known _ _ head.magic_is
        ∙ good (λ (n : ℕ). store (Some n) (whole [])) (λ (n : ℕ). store_of n (read_half layout n (half_in layout octets) octets))

    pub of_interrupted : 16 < length octets → length octets < first_gate layout blocks + 2 → journal_of magic layout octets ≡ store (Some blocks) (whole [])
    of_interrupted long short = numbered long ∙ cond-true (nat_lt (length octets) (first_gate layout blocks + 2)) _ _ (lt-ltb (length octets) (first_gate layout blocks + 2) short)

    -- the first two gates are there: what is read is that of the half that octet 15 says
    pub of_full : (chosen : Half) → half_in layout octets ≡ chosen → first_gate layout blocks + 2 ≤ length octets → journal_of magic layout octets ≡ store_of blocks (read_half layout blocks chosen octets)
    of_full chosen half_is size = grind (arith, common_steps, numbered, gate_behind, cond-false, nat_lt, le-ltb)

    -- a store whose first gate isn't there yet, or isn't open, in its first half
    pub of_empty : 16 < length octets → (first_gate layout blocks + 1 < length octets → (half_in layout octets ≡ First) × (get_or octets (first_gate layout blocks) 0 ≢ 1))
        → journal_of magic layout octets ≡ store (Some blocks) (whole [])
    of_empty long shut = elim (cases_lt (first_gate layout blocks + 1) (length octets)) [
      | inr short ↦ of_interrupted long (omega (arith, short))
      | inl more ↦
          let gate = first_gate layout blocks in
          let end = half_end layout blocks First in
          let first = first_half layout blocks in
          let far : IfSome end (λ place. gate + 2 ≤ place) = subst (λ (n : ℕ). IfSome end (λ place. n + 2 ≤ place)) first (half_long layout blocks First) in
          let there : gate < length (up_to end octets) = let l = up_to_long end (gate + 2) octets far (omega (arith, more)) in omega (arith, l) in
          of_full First (shut more).0 (omega (arith, more))
          ∙ ap (store_of blocks)
          (ap (λ (n : ℕ). reading_at n (up_to end octets)) first
          ∙ read_closed gate (up_to end octets) there (λ is_open. (shut more).1 (sym (up_to_octet end gate octets (told_weaker end _ _ (λ place told le. omega (arith, le)) far)) ∙ is_open)))
    ]

-- such octets aren't refused
pub is_store : (magic : List ℕ) (layout : Layout) (octets : List ℕ) (blocks : ℕ) → 16 < length octets → HasHeader magic blocks octets → HasGoodHeader (journal_of magic layout octets)
is_store magic layout octets blocks long head = elim (cases_lt (first_gate layout blocks + 1) (length octets)) [
  | inr short ↦ (let is = of_interrupted magic layout octets blocks head long (omega (arith, short)) in (λ found foreign. cc, λ bad. cc))
  | inl more ↦ (let is = of_full magic layout octets blocks head (half_in layout octets) refl (omega (arith, more)) in (λ found foreign. cc, λ bad. cc))
]

-- octets with the same front have the same header
pub same_header : (n : ℕ) (magic : List ℕ) (blocks : ℕ) (octets image : List ℕ) → 12 ≤ n → take n image ≡ take n octets → HasHeader magic blocks octets → HasHeader magic blocks image
same_header n magic blocks octets image le same head =
    let at : (i : ℕ) → i < 12 → get_or image i 0 ≡ get_or octets i 0 =
    λ i lt. sym (get_or-take n image i 0 (omega (arith, le, lt))) ∙ ap (λ (l : List ℕ). get_or l i 0) same ∙ get_or-take n octets i 0 (omega (arith, le, lt)) in
    record {
      magic_is = sym (take-take 8 n image (omega (arith, le))) ∙ ap (λ (l : List ℕ). take 8 l) same ∙ take-take 8 n octets (omega (arith, le)) ∙ head.magic_is;
      blocks_are = omega (arith, head.blocks_are, at 8 (omega arith), at 9 (omega arith), at 10 (omega arith), at 11 (omega arith));
      is_number = head.is_number;
    }

-- a header that is written
pub header_length : (magic : List ℕ) (blocks : ℕ) → length magic ≡ 8 → length (header_text magic blocks) ≡ 16
header_length magic blocks eight = grind (arith, common_steps, length-append)

pub header_written : (magic : List ℕ) (blocks : ℕ) (rest : List ℕ) → length magic ≡ 8 → 1 ≤ blocks → blocks ≤ 65536 → HasHeader magic blocks (header_text magic blocks ++ rest)
header_written magic blocks rest eight some most =
    let tail = 0 ∷ 0 ∷ 0 ∷ 0 ∷ rest in
    let shape : header_text magic blocks ++ rest ≡ magic ++ (le32_octets blocks ++ tail) =
    append_assoc (magic ++ le32_octets blocks) (0 ∷ 0 ∷ 0 ∷ 0 ∷ []) rest ∙ append_assoc magic (le32_octets blocks) tail in
    let at : (i : ℕ) → get_or (header_text magic blocks ++ rest) (8 + i) 0 ≡ get_or (le32_octets blocks ++ tail) i 0 =
    λ i. ap (λ (l : List ℕ). get_or l (8 + i) 0) shape
    ∙ ap (λ (n : ℕ). get_or (magic ++ (le32_octets blocks ++ tail)) (n + i) 0) (sym eight)
    ∙ get_or-append-add magic (le32_octets blocks ++ tail) i 0 in
    record {
      magic_is = ap (λ (l : List ℕ). take 8 l) shape ∙ take_at magic (le32_octets blocks ++ tail) 8 eight;
      blocks_are = omega (arith, most, at 0, at 1, at 2, at 3);
      is_number = and_from (nat_le 1 blocks) (nat_le blocks 65536) (le-leb 1 blocks some) (le-leb blocks 65536 most);
    }

-- its selector is even
pub header_even : (magic : List ℕ) (blocks : ℕ) → length magic ≡ 8 → get_or (header_text magic blocks) 15 0 ≡ 0
header_even magic blocks eight = grind (arith, common_steps, get_or, length-append, get_or-append-add)

-- so a store with it has its records in the first half
pub half_of_header : (n : ℕ) (layout : Layout) (header image : List ℕ) → 16 ≤ n → take n image ≡ take n header → get_or header 15 0 % 2 ≡ 0 → half_in layout image ≡ First
half_of_header n layout header image le same even = same_half n layout header image le same ∙ even_half layout (get_or header 15 0) even

-- while the gates of a new store are written
pub new_gates : (magic : List ℕ) (layout : Layout) (blocks : ℕ) (image : List ℕ) → length magic ≡ 8 → 1 ≤ blocks → blocks ≤ 65536 → IsMakingGates (first_gate layout blocks) (header_text magic blocks) image
    → IsSameStore blocks (store None (whole [])) (journal_of magic layout image)
new_gates magic layout blocks image eight some most making = elim (cases_lt 16 (length image)) [
  | inr short ↦ inl (of_short magic layout image short)
  | inl long ↦
      let head = subst (λ (l : List ℕ). HasHeader magic blocks l) (append-nil (header_text magic blocks)) (header_written magic blocks [] eight some most) in
      inr (
        refl,
        of_empty magic layout image blocks (same_header 16 magic blocks (header_text magic blocks) image (omega arith) making.header head) long (λ more. (
          half_of_header 16 layout (header_text magic blocks) image (omega arith) making.header (ap (λ (n : ℕ). n % 2) (header_even magic blocks eight)),
          λ is_open. absurd (omega (arith, making.closed more, is_open)),
        )),
      )
]

-- what a whole store has, of which the first two gates are there
pub store_parts : (magic : List ℕ) (layout : Layout) (octets : List ℕ) (blocks : ℕ) (chosen : Half) (entries : List Record) → first_gate layout blocks + 2 ≤ length octets → half_in layout octets ≡ chosen
    → journal_of magic layout octets ≡ store (Some blocks) (whole entries)
    → HasHeader magic blocks octets × (read_half layout blocks chosen octets ≡ whole entries)
store_parts magic layout octets blocks chosen entries full half_is is = elim (cases_Bool (bytes_eq (take 8 octets) magic)) [
  | inr foreign ↦ absurd (cc (sym is ∙ of_foreign magic layout octets long (λ same. both_ways _ foreign ((bytes_eq-Decides (take 8 octets) magic).1 same))))
  | inl same ↦ elim (cases_Bool (is_block_number (le32 octets 8))) [
    | inr bad ↦ absurd (cc (sym is ∙ of_bad_number magic layout octets long ((bytes_eq-Decides (take 8 octets) magic).0 same) bad))
    | inl good ↦ parts (record { magic_is = (bytes_eq-Decides (take 8 octets) magic).0 same; blocks_are = refl; is_number = good })
  ]
]
  where
    long : 16 < length octets
    long = omega (arith, full, gate_behind layout blocks)

    parts : HasHeader magic (le32 octets 8) octets → HasHeader magic blocks octets × (read_half layout blocks chosen octets ≡ whole entries)
    parts head = elim (cases_lt (length octets) (first_gate layout (le32 octets 8) + 2)) [
      | inl short ↦
          (let here = of_interrupted magic layout octets (le32 octets 8) head long short in
          let number : le32 octets 8 ≡ blocks = cc (sym is ∙ here) in
          absurd (omega (arith, short, full, ap (first_gate layout) number)))
      | inr all ↦
          (let here = of_full magic layout octets (le32 octets 8) head chosen half_is all in
          let number : le32 octets 8 ≡ blocks = cc (sym is ∙ here) in
          let read : read_half layout (le32 octets 8) chosen octets ≡ whole entries = cc (sym is ∙ here) in
          (subst (λ (n : ℕ). HasHeader magic n octets) number head, ap (λ (n : ℕ). read_half layout n chosen octets) (sym number) ∙ read))
    ]
