-- What a recovery leaves of a content, what it answers, and where its journal stands.
use Rattle.std.specs.Prelude.{if◌then◌else◌}
use Rattle.std.proofs.Common.{◌≡◌, ◌↔◌, inl, inr, ℕ, ◌+◌, ◌%◌, ◌<◌, ◌≤◌, nat_le, List, [], ◌∷◌, ◌++◌, length, get_or, take, Option, Some, IfSome, Result, Ok, Err, refl, sym, ◌∙◌, ap, subst, arith, append_assoc, append-nil, length-append, get_or-take, take-take}
use Rattle.file_journal.specs.declared.faults.RecoverFault.TheVariants as fault
use Rattle.file_journal.proofs.Names.{common_steps, get_or_at, take-append-le, take_at, length-take-le, cases_lt, cond-false, cond-true, le-leb, lt-leb, le32, IsOctets, HasContent, Only, Ghosts, Half, Layout, RecoverFault, ChangesReads, IsQuietNow, Leaves, TellsAlike, images_now, IsFinishing, IsMakingGates, HasHeader, Standing, store, no_store, bad_number, journal_of, header_text, even_header, even_selector, HasGates, HasGoodHeader, IsAfterFinishing, IsAfterRecovery, IsSameStore, store_of, first_gate, half_in, Position, gate_of, left_to_read, position_at_first, IsAt, StandsOn, whole, IsRecovered, IsRecovering, RefusesExactly, gate_in, number_in, at_told, content_now, if_told, told_weaker, reads, First, Reading}
use Rattle.file_journal.proofs.FormatLemmas.{even_selector_even}
use Rattle.file_journal.proofs.JournalLemmas.{half_of_header, header_even, header_length, header_written, new_gates, of_empty, of_full, of_interrupted, of_short, same_header}
use Rattle.file_journal.proofs.LayoutLemmas.{even_half, gate_behind}

-- Refusals.
module _ (magic : List ℕ) (layout : Layout) (before : List ℕ) where
  -- a store is refused nowhere
  pub refuses_none : {T : Type 0} (x : T) → HasGoodHeader (journal_of magic layout before) → RefusesExactly magic layout before (Ok x)
  refuses_none x good = record { not_a_store = λ found. (λ same. cc, λ is. absurd (good.0 found is)); damaged = λ at. (λ same. cc, λ is. absurd (good.1 is.1)) }

  -- the refusal that was answered is handed on, and so is none
  pub refuses_alike : {T U : Type 0} (result : Result T RecoverFault) (other : Result U RecoverFault) → ((e : RecoverFault) → (result ≡ Err e) ↔ (other ≡ Err e)) → RefusesExactly magic layout before result
      → RefusesExactly magic layout before other
  refuses_alike result other same refuses = record {
    not_a_store = λ found. (λ is. (refuses.not_a_store found).0 ((same (fault.NotAStore found)).1 is), λ is. (same (fault.NotAStore found)).0 ((refuses.not_a_store found).1 is));
    damaged = λ at. (λ is. (refuses.damaged at).0 ((same (fault.Damaged at)).1 is), λ is. (same (fault.Damaged at)).0 ((refuses.damaged at).1 is));
  }

-- the refusal of a content by its header
pub refusal_of : {T : Type 0} (magic : List ℕ) (layout : Layout) (octets : List ℕ) (result : Result T RecoverFault) → ((x : T) → result ≡ Ok x → HasGoodHeader (journal_of magic layout octets))
    → ((found : List ℕ) → result ≡ Err (fault.NotAStore found) → journal_of magic layout octets ≡ no_store found)
    → ((at : ℕ) → result ≡ Err (fault.Damaged at) → (at ≡ 8) × (journal_of magic layout octets ≡ bad_number)) → ¬ (result ≡ Err fault.Disk) → RefusesExactly magic layout octets result
refusal_of magic layout octets (Ok x) good foreign bad healthy = refuses_none magic layout octets x (good x refl)
refusal_of magic layout octets (Err (fault.NotAStore found)) good foreign bad healthy =
    let is = foreign found refl in record { not_a_store = λ other. (λ same. cc, λ now. cc); damaged = λ at. (λ same. cc, λ now. cc (now.1)) }
refusal_of magic layout octets (Err (fault.Damaged at)) good foreign bad healthy =
    let is = bad at refl in record { not_a_store = λ found. (λ same. cc, λ now. cc (is.1)); damaged = λ other. (λ same. (cc (is.0), is.1), λ now. cc (is.0, now.0)) }
refusal_of magic layout octets (Err fault.Disk) good foreign bad healthy = absurd (healthy refl)

-- two closed gates behind a header of 16 octets
two_gates : (magic : List ℕ) (layout : Layout) (blocks : ℕ) (front now : List ℕ) → length front ≡ 16 → HasHeader magic blocks front → get_or front 15 0 % 2 ≡ 0 → HasGates (first_gate layout blocks) front now
    → HasHeader magic blocks now × (first_gate layout blocks + 2 ≤ length now) × (half_in layout now ≡ First) × (journal_of magic layout now ≡ store (Some blocks) (whole []))
two_gates magic layout blocks front now size head even gates =
    let gate = first_gate layout blocks in
    let parts : length (front ++ gates.gap) ≡ gate = omega (arith, size, gates.size, length-append front gates.gap) in
    let long : length now ≡ gate + 2 = omega (arith, ap length gates.octets, parts, length-append (front ++ gates.gap) (0 ∷ 0 ∷ [])) in
    let same : take 16 now ≡ take 16 front =
    ap (λ (l : List ℕ). take 16 l) (gates.octets ∙ append_assoc front gates.gap (0 ∷ 0 ∷ [])) ∙ take-append-le 16 front (gates.gap ++ 0 ∷ 0 ∷ []) (omega (arith, size)) in
    let has : HasHeader magic blocks now = same_header 16 magic blocks front now (omega arith) same head in
    let first : half_in layout now ≡ First = half_of_header 16 layout front now (omega arith) same even in
    let closed : get_or now gate 0 ≡ 0 = ap (λ (l : List ℕ). get_or l gate 0) gates.octets ∙ get_or_at (front ++ gates.gap) 0 (0 ∷ []) 0 gate parts in
    (has, omega (arith, long), first, of_empty magic layout now blocks has (omega (arith, long, gate_behind layout blocks)) (λ more. (first, λ is_open. absurd (omega (arith, closed, is_open)))))

-- a store whose formatting is done to its end
pub finishing : (magic : List ℕ) (layout : Layout) (blocks : ℕ) (before image : List ℕ) → 16 < length before → HasHeader magic blocks before → IsFinishing (first_gate layout blocks) before image
    → journal_of magic layout image ≡ journal_of magic layout before
finishing magic layout blocks before image long head making =
    of_empty magic layout image blocks (same_header 15 magic blocks before image (omega arith) making.header head) (omega (arith, long, making.no_shorter))
    (λ more. (even_half layout (get_or image 15 0) (making.even more), λ is_open. absurd (omega (arith, making.closed more, is_open))))
    ∙ sym (of_interrupted magic layout before blocks head long making.interrupted)

-- the half in which a recovery of these octets finds the records: the first one where their formatting was interrupted
abbrev pub IsHalfOf : Layout → ℕ → Half → List ℕ → Type 0
IsHalfOf layout blocks chosen before =
    (length before < first_gate layout blocks + 2 → chosen ≡ First) × (first_gate layout blocks + 2 ≤ length before → chosen ≡ half_in layout before)

finished_store : (magic : List ℕ) (layout : Layout) (blocks : ℕ) (chosen : Half) (before now : List ℕ) → 16 < length before → HasHeader magic blocks before → IsHalfOf layout blocks chosen before
    → IsAfterFinishing (first_gate layout blocks) before now
    → HasHeader magic blocks now × (first_gate layout blocks + 2 ≤ length now) × (half_in layout now ≡ chosen) × (journal_of magic layout now ≡ journal_of magic layout before)
finished_store magic layout blocks chosen before now long head half_is is = elim (cases_lt (length before) (first_gate layout blocks + 2)) [
  | inr full ↦
      let same : now ≡ before = is.same full in
      (subst (λ (l : List ℕ). HasHeader magic blocks l) (sym same) head, omega (arith, ap length same, full), ap (half_in layout) same ∙ sym (half_is.1 full), ap (journal_of magic layout) same)
  | inl short ↦
      let front : length (take 15 before) ≡ 15 = length-take-le 15 before (omega (arith, long)) in
      let even_head = same_header 15 magic blocks before (even_header before) (omega arith) (take_at (take 15 before) (even_selector before ∷ []) 15 front) head in
      let made =
      two_gates magic layout blocks (even_header before) now (omega (arith, front, length-append (take 15 before) (even_selector before ∷ []))) even_head
      (ap (λ (n : ℕ). n % 2) (get_or_at (take 15 before) (even_selector before) [] 0 15 front) ∙ even_selector_even before) (is.finished short) in
      (made.0, made.1, made.2 ∙ sym (half_is.0 short), made.3 ∙ sym (of_interrupted magic layout before blocks head long short))
]

-- a standing with a store has a good header
good-header : (standing : Standing) (number : Option ℕ) (reading : Reading) → standing ≡ store number reading → HasGoodHeader standing
good-header standing number reading is = (λ found other. cc (sym is ∙ other), λ other. cc (sym is ∙ other))

-- What a recovery leaves of a content.
module _ (magic : List ℕ) (layout : Layout) (blocks : ℕ) (before : List ℕ) where
  -- more than 16 octets have their block number, and keep their first 15
  known_gate : 16 < length before → gate_in layout blocks before ≡ first_gate layout (le32 before 8)
  known_gate long = ap (first_gate layout) (cond-false (nat_le (length before) 16) blocks (le32 before 8) (lt-leb (length before) 16 long))

  -- the octets whose first 15 stand in front
  abbrev front_of : List ℕ
  front_of = if nat_le (length before) 16 then header_text magic blocks else before

  known_front : 16 < length before → take 15 front_of ≡ take 15 before
  known_front long = ap (take 15) (cond-false (nat_le (length before) 16) (header_text magic blocks) before (lt-leb (length before) 16 long))

  known_after : (number : ℕ) → HasHeader magic number before → 16 < length before → (now : List ℕ) → IsAfterFinishing (first_gate layout number) before now → IsAfterRecovery magic layout blocks before now
  known_after number head long now is = record {
    new = λ short. absurd (omega (arith, long, short));
    known = λ _. subst (λ (n : ℕ). IsAfterFinishing (first_gate layout n) before now) (sym head.blocks_are) is;
  }

  -- the content as it was
  pub recovering_same : IsRecovering magic layout blocks before before
  recovering_same = record {
    same = inl refl;
    formatted = λ _. refl;
    refused = λ _. refl;
    no_longer = λ short. omega (arith, short);
    header = λ long. sym (known_front long);
    even = λ short more. absurd (omega (arith, short, more));
    closed = λ short more. absurd (omega (arith, short, more));
  }

  -- an interrupted formatting
  pub recovering_finishing : (number : ℕ) (image : List ℕ) → 16 < length before → HasHeader magic number before → IsFinishing (first_gate layout number) before image → IsRecovering magic layout blocks before image
  recovering_finishing number image long head making =
      let here : IsFinishing (gate_in layout blocks before) before image = subst (λ (n : ℕ). IsFinishing n before image) (ap (first_gate layout) (sym head.blocks_are) ∙ sym (known_gate long)) making in
      record {
        same = inl (finishing magic layout number before image long head making);
        formatted = λ full. absurd (omega (arith, here.interrupted, full));
        refused = λ bad. absurd (bad (good-header _ _ _ (of_interrupted magic layout before number head long making.interrupted)));
        no_longer = λ short. here.no_longer;
        header = λ more. here.header ∙ sym (known_front long);
        even = λ short more. here.even more;
        closed = λ short more. here.closed more;
      }

  -- a new store
  module _ (short : length before ≤ 16) where
    new_gate : gate_in layout blocks before ≡ first_gate layout blocks
    new_gate = ap (first_gate layout) (cond-true (nat_le (length before) 16) blocks (le32 before 8) (le-leb (length before) 16 short))

    new_behind : 16 ≤ gate_in layout blocks before
    new_behind = omega (arith, new_gate, gate_behind layout blocks)

    new_front : take 15 front_of ≡ take 15 (header_text magic blocks)
    new_front = ap (take 15) (cond-true (nat_le (length before) 16) (header_text magic blocks) before (le-leb (length before) 16 short))

    pub new_after : (now : List ℕ) → HasGates (first_gate layout blocks) (header_text magic blocks) now → IsAfterRecovery magic layout blocks before now
    new_after now is = record { new = λ _. is; known = λ long. absurd (omega (arith, short, long)) }

    pub recovering_short : (image : List ℕ) → length image ≤ 16 → IsRecovering magic layout blocks before image
    recovering_short image short_now = record {
      same = inl (of_short magic layout image short_now ∙ sym (of_short magic layout before short));
      formatted = λ full. absurd (omega (arith, full, short, new_behind));
      refused = λ bad. absurd (bad (good-header _ _ _ (of_short magic layout before short)));
      no_longer = λ less. omega (arith, short_now, new_behind);
      header = λ long. absurd (omega (arith, long, short_now));
      even = λ less more. absurd (omega (arith, more, short_now, new_behind));
      closed = λ less more. absurd (omega (arith, more, short_now, new_behind));
    }

    pub recovering_gates : (image : List ℕ) → length magic ≡ 8 → 1 ≤ blocks → blocks ≤ 65536 → IsMakingGates (first_gate layout blocks) (header_text magic blocks) image → IsRecovering magic layout blocks before image
    recovering_gates image eight some most making =
        let here : IsMakingGates (gate_in layout blocks before) (header_text magic blocks) image = subst (λ (n : ℕ). IsMakingGates n (header_text magic blocks) image) (sym new_gate) making in
        record {
          same = subst (λ (s : Standing). IsSameStore blocks s (journal_of magic layout image)) (sym (of_short magic layout before short)) (new_gates magic layout blocks image eight some most making);
          formatted = λ full. absurd (omega (arith, full, short, new_behind));
          refused = λ bad. absurd (bad (good-header _ _ _ (of_short magic layout before short)));
          no_longer = λ less. here.no_longer;
          header = λ long.
              sym (take-take 15 16 image (omega arith)) ∙ ap (λ (l : List ℕ). take 15 l) making.header ∙ take-take 15 16 (header_text magic blocks) (omega arith) ∙ sym new_front;
          even = λ less more. ap (λ (n : ℕ). n % 2) selector;
          closed = λ less more. here.closed more;
        }
      where
        selector : get_or image 15 0 ≡ 0
        selector =
            sym (get_or-take 16 image 15 0 (omega arith)) ∙ ap (λ (l : List ℕ). get_or l 15 0) making.header ∙ get_or-take 16 (header_text magic blocks) 15 0 (omega arith)
            ∙ header_even magic blocks eight

-- What a recovery of a disk gives.
module _ {D : Type 0} (g : Ghosts D) (magic : List ℕ) (layout : Layout) (blocks : ℕ) where
  -- a store that has this header now, and the records from before
  pub record IsFormatted (number : ℕ) (chosen : Half) (before now : List ℕ) : Type 0 where
    pub head : HasHeader magic number now
    pub long : first_gate layout number + 2 ≤ length now
    pub half : half_in layout now ≡ chosen
    pub octets : IsAfterRecovery magic layout blocks before now
    pub number_is : number ≡ number_in blocks before
    pub same : IsSameStore blocks (journal_of magic layout before) (journal_of magic layout now)

  pub recovered : (old new : D) (number : ℕ) (chosen : Half) (journal : Position) → journal ≡ position_at_first magic layout number chosen → TellsAlike (g.content old) (g.content new) → IsQuietNow g new
      → IfSome (g.content new) (λ now. IsOctets now) → HasContent (g.content old) (g.content new) (IsFormatted number chosen) → IsRecovered g magic layout blocks old new journal
  recovered old new number chosen journal is alike rest are has = record {
    magic_is = ap (λ (journal : Position). journal.magic) is;
    layout_is = ap (λ (journal : Position). journal.layout) is;
    place = subst (λ (journal : Position). journal.place ≡ gate_of journal) (sym is) refl;
    unread = ap (λ (journal : Position). journal.ended) is;
    healthy = ap (λ (journal : Position). journal.failed) is;
    content = told_weaker (g.content old) _ _ (λ before told now. (
      now.0,
      now.1,
      record {
        octets = now.2.octets;
        number = ap (λ (journal : Position). journal.blocks) is ∙ sym now.2.head.blocks_are;
        same_number = ap (λ (journal : Position). journal.blocks) is ∙ now.2.number_is;
        half = now.2.half ∙ sym (ap (λ (journal : Position). journal.half) is);
        same = now.2.same;
        whole = subst (λ (journal : Position). journal_of magic layout now.0 ≡ store_of journal.blocks (left_to_read journal now.0)) (sym is)
            (of_full magic layout now.0 number now.2.head chosen now.2.half now.2.long);
      },
    )) has;
    quiet = rest;
    stands_on = subst (λ (journal : Position). StandsOn g journal new) (sym is) (inr (if_told (g.content new) _ (λ now told.
        let was = content_now _ _ (IsFormatted number chosen) now alike has told in
        let first = position_at_first magic layout number chosen in
        let at : IsAt first [] now = record {
          are_octets = at_told _ now told are;
          formatted = was.2.long;
          half = was.2.half;
          place = omega arith;
          records = of_full magic layout now number was.2.head chosen was.2.half was.2.long;
          ended = λ end. cc;
        } in (
          [],
          at,
          λ image here.
              let same = at_told (Only (images_now g new)) now told rest image here in
              (subst (λ (l : List ℕ). IsAt first [] l) (sym same) at, ap (left_to_read first) same),
        ))));
  }

  -- of at most 16 octets
  pub new_formatted : (old new : D) → length magic ≡ 8 → 1 ≤ blocks → blocks ≤ 65536 → IfSome (g.content old) (λ before. length before ≤ 16)
      → HasContent (g.content old) (g.content new) (IsAfterRecovery magic layout blocks) → HasContent (g.content old) (g.content new) (IsFormatted blocks First)
  new_formatted old new eight some most short has = told_weaker (g.content old) _ _ (λ before told now.
      let less = at_told _ before told short in
      let head = subst (λ (l : List ℕ). HasHeader magic blocks l) (append-nil (header_text magic blocks)) (header_written magic blocks [] eight some most) in
      let is = two_gates magic layout blocks (header_text magic blocks) now.0 (header_length magic blocks eight) head (ap (λ (n : ℕ). n % 2) (header_even magic blocks eight)) (now.2.new less) in
      (now.0, now.1, record { head = is.0; long = is.1; half = is.2; octets = now.2; number_is = sym (cond-true (nat_le (length before) 16) blocks (le32 before 8) (le-leb (length before) 16 less)); same = inr (of_short magic layout before less, is.3) })) has

  -- of more
  module _ (old mid new : D) (number : ℕ) (only : ChangesReads g old mid) (head : IfSome (g.content old) (HasHeader magic number)) (long : IfSome (g.content old) (λ before. 16 < length before)) where
    pub known_formatted : (chosen : Half) → IfSome (g.content old) (IsHalfOf layout number chosen) → HasContent (g.content mid) (g.content new) (IsAfterFinishing (first_gate layout number))
        → HasContent (g.content old) (g.content new) (IsFormatted number chosen)
    known_formatted chosen half_is has = if_told (g.content old) _ (λ before told.
        let now = at_told _ before (only.same_content ∙ told) has in
        let more = at_told _ before told long in
        let is_head = at_told (HasHeader magic number) before told head in
        let is = finished_store magic layout number chosen before now.0 more is_head (at_told (IsHalfOf layout number chosen) before told half_is) now.2 in
        (now.0, now.1, record { head = is.0; long = is.1; half = is.2; octets = known_after magic layout blocks before number is_head more now.0 now.2; number_is = sym (cond-false (nat_le (length before) 16) blocks (le32 before 8) (lt-leb (length before) 16 more) ∙ is_head.blocks_are); same = inl is.3 }))

    pub known_leaves : Leaves g mid new (IsFinishing (first_gate layout number)) → Leaves g old new (IsRecovering magic layout blocks)
    known_leaves leaves = grind (arith, common_steps, reads, recovering_finishing, head, long)
