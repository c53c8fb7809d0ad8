-- What is read from a gate on.
use Rattle.std.proofs.Common.{◌≡◌, ◌≢◌, ◌↔◌, min, inl, inr, ⊎_elim, ℕ, zero, suc, ◌+◌, ◌-◌, ◌*◌, ◌<◌, ◌≤◌, true, false, ◌==◌, if◌then◌else◌, List, [], ◌∷◌, ◌++◌, length, get_or, take, drop, refl, sym, ◌∙◌, ap, subst, arith, append_assoc, length-append, length-drop, take-append-drop, drop-drop, get_or-drop, get_or-take, ne_eqb, ◌^◌, Option, IfSome, Err, length-take, take-take}
use Rattle.file_journal.specs.declared.faults.RecoverFault.TheVariants as fault
use Rattle.file_journal.proofs.Names.{common_steps, cond-true, cond-false, cases_Bool, cases_eq, cases_lt, both_ways, drop_at, drop_more, drop_all, drop-take, length-take-le, All-take, All-drop, All-head, All-tail, AllByRecursion, le16, IsOctets, BeginsRecord, HasRecord, Record, IsRecord, record_of, record_text, records_text, StartsClosed, StartsCut, Reading, whole, broken, StandsFrom, record_len, starts_whole, record_in, with_record, with_records, reading_within, reading_from, Ghosts, up_to, IsReadable, RefusesAt, Position, end_of, readable, reading_at, told_weaker}
use Rattle.file_journal.proofs.LayoutLemmas.{readable_is, readable_less}

-- what is made of what follows a gate's record
abbrev step_of : ℕ → ℕ → List ℕ → Reading → Reading
step_of place gate octets next =
    if gate == 1 then (if starts_whole octets then with_record (record_in octets) next else broken [] place) else whole []

-- more records than octets are never asked for
enough : (n m place : ℕ) (octets : List ℕ) → length octets ≤ n → length octets ≤ m → reading_within n place octets ≡ reading_within m place octets
unfolding reading_within
enough zero zero place octets hn hm = refl
enough zero (suc m) place [] hn hm = refl
enough zero (suc m) place (gate ∷ octets) hn hm = absurd (omega arith)
enough (suc n) zero place [] hn hm = refl
enough (suc n) zero place (gate ∷ octets) hn hm = absurd (omega arith)
enough (suc n) (suc m) place [] hn hm = refl
enough (suc n) (suc m) place (gate ∷ octets) hn hm =
    ap (step_of place gate octets)
    (enough n m (place + 1 + record_len octets) (drop (record_len octets) octets)
    (omega (arith, length-drop (record_len octets) octets, hn)) (omega (arith, length-drop (record_len octets) octets, hm)))

pub reading_step : (place gate : ℕ) (octets : List ℕ) → reading_from place (gate ∷ octets) ≡ step_of place gate octets (reading_from (place + 1 + record_len octets) (drop (record_len octets) octets))
unfolding reading_from reading_within
reading_step place gate octets = grind (arith, common_steps, enough, length-drop)

pub reading_none : (place : ℕ) → reading_from place [] ≡ broken [] place
unfolding reading_from reading_within
reading_none place = refl

pub reading_closed : (place gate : ℕ) (octets : List ℕ) → gate ≢ 1 → reading_from place (gate ∷ octets) ≡ whole []
reading_closed place gate octets shut = reading_step place gate octets ∙ cond-false (gate == 1) _ _ (ne_eqb gate 1 shut)

pub reading_broken : (place : ℕ) (octets : List ℕ) → starts_whole octets ≡ false → reading_from place (1 ∷ octets) ≡ broken [] place
reading_broken place octets cut = reading_step place 1 octets ∙ cond-false (starts_whole octets) _ _ cut

pub reading_whole : (place : ℕ) (octets : List ℕ) → starts_whole octets ≡ true → reading_from place (1 ∷ octets) ≡ with_record (record_in octets) (reading_from (place + 1 + record_len octets) (drop (record_len octets) octets))
reading_whole place octets is_whole = reading_step place 1 octets ∙ cond-true (starts_whole octets) _ _ is_whole

-- what the test says
whole_is : (octets : List ℕ) → (starts_whole octets ≡ true) ↔ ((le16 octets 1 ≤ 600) × (record_len octets < length octets))
whole_is octets = grind (arith, common_steps)

-- A record's text, with a gate behind it, is read as that record.
module _ (entry : Record) (is : IsRecord entry) (gate : ℕ) (later : List ℕ) where
  number : le16 (record_text entry ++ gate ∷ later) 1 ≡ length entry.content
  number = omega (arith, is.most)

  pub text_starts_whole : starts_whole (record_text entry ++ gate ∷ later) ≡ true
  text_starts_whole = (whole_is (record_text entry ++ gate ∷ later)).1 (omega (arith, number, is.most), omega (arith, number, length-append entry.content (gate ∷ later)))

  pub text_record_in : record_in (record_text entry ++ gate ∷ later) ≡ entry
  text_record_in = grind (arith, common_steps)

  pub text_rest : drop (record_len (record_text entry ++ gate ∷ later)) (record_text entry ++ gate ∷ later) ≡ gate ∷ later
  text_rest = grind (arith, common_steps)

  pub reading_text : (place : ℕ) → reading_from place (1 ∷ record_text entry ++ gate ∷ later) ≡ with_record entry (reading_from (place + 4 + length entry.content) (gate ∷ later))
  reading_text place = grind (arith, common_steps, reading_whole, text_starts_whole, text_record_in, number, text_rest)

-- the text of a record of this kind and content
three_octets : (kind low high n : ℕ) (content : List ℕ) → low < 256 → high < 256 → length content ≡ low + 256 * high
    → kind ∷ low ∷ high ∷ content ≡ record_text (record { kind = kind; content = content })
three_octets kind low high n content hl hh is = grind (arith, common_steps)

-- Octets that begin with a whole record and a gate are its text and what follows.
pub whole_text : (octets : List ℕ) → IsOctets octets → starts_whole octets ≡ true → (gate : ℕ) × (later : List ℕ) × IsRecord (record_in octets) × (octets ≡ record_text (record_in octets) ++ gate ∷ later)
whole_text [] are is_whole = absurd (let parts = (whole_is []).0 is_whole in omega (arith, parts.1))
whole_text (a ∷ []) are is_whole = absurd (let parts = (whole_is (a ∷ [])).0 is_whole in omega (arith, parts.1))
whole_text (a ∷ b ∷ []) are is_whole = absurd (let parts = (whole_is (a ∷ b ∷ [])).0 is_whole in omega (arith, parts.1))
whole_text (kind ∷ low ∷ high ∷ rest) are is_whole =
    let P : ℕ → Type 0 = λ octet. octet < 256 in
    let n = low + 256 * high in
    let parts = (whole_is (kind ∷ low ∷ high ∷ rest)).0 is_whole in
    let most : n ≤ 600 = omega (arith, parts.0) in
    let long : n < length rest = omega (arith, parts.1) in
    let size : length (take n rest) ≡ n = length-take-le n rest (omega (arith, long)) in
    let low_octet : low < 256 = All-head P low (high ∷ rest) (All-tail P kind (low ∷ high ∷ rest) are) in
    let split : rest ≡ take n rest ++ get_or rest n 0 ∷ drop (n + 1) rest = sym (take-append-drop n rest) ∙ ap (λ (l : List ℕ). take n rest ++ l) (drop_more rest n 0 long) in (
      get_or rest n 0,
      drop (n + 1) rest,
      record { kind = All-head P kind (low ∷ high ∷ rest) are; octets = All-take P n rest (All-tail P high rest (All-tail P low (high ∷ rest) (All-tail P kind (low ∷ high ∷ rest) are))); most = omega (arith, size, most) },
      ap (λ (l : List ℕ). kind ∷ low ∷ high ∷ l) split
          ∙ ap (λ (l : List ℕ). l ++ get_or rest n 0 ∷ drop (n + 1) rest) (three_octets kind low high n (take n rest) low_octet (All-head P high rest (All-tail P low (high ∷ rest) (All-tail P kind (low ∷ high ∷ rest) are))) size),
    )

-- Where no record with a gate stands at the front, none is read.
pub cut_text : (octets : List ℕ) → IsOctets octets → StartsCut octets → starts_whole octets ≡ false
cut_text octets are cut = elim (cases_Bool (starts_whole octets)) [
  | inl is_whole ↦ (let text = whole_text octets are is_whole in absurd (cut (record_in octets) text.0 text.1 text.2 text.3))
  | inr none ↦ none
]

-- and the other way round
pub text_cut : (octets : List ℕ) → starts_whole octets ≡ false → StartsCut octets
text_cut octets none entry gate later is same =
    both_ways (starts_whole octets) none (ap starts_whole same ∙ text_starts_whole entry is gate later)

-- records alone, and what ends them
pub all_whole : (entries : List Record) → with_records entries (whole []) ≡ whole entries
all_whole [] = refl
all_whole (entry ∷ entries) = ap (with_record entry) (all_whole entries)

pub all_broken : (entries : List Record) (at : ℕ) → with_records entries (broken [] at) ≡ broken entries at
all_broken [] at = refl
all_broken (entry ∷ entries) at = ap (with_record entry) (all_broken entries at)

-- one record before octets that begin with a gate
pub reading_more : (entry : Record) (place : ℕ) (next : List ℕ) → IsRecord entry → 0 < length next
    → reading_from place (1 ∷ record_text entry ++ next) ≡ with_record entry (reading_from (place + 4 + length entry.content) next)
reading_more entry place [] is some = absurd (omega (arith, some))
reading_more entry place (gate ∷ later) is some = reading_text entry is gate later place

-- The text of records, with a gate behind it, is read as them and what stands from that gate on.
pub reading_records : (entries : List Record) (place gate : ℕ) (later : List ℕ) → AllByRecursion IsRecord entries
    → reading_from place (records_text entries ++ gate ∷ later) ≡ with_records entries (reading_from (place + length (records_text entries)) (gate ∷ later))
reading_records [] place gate later are = ap (λ (n : ℕ). reading_from n (gate ∷ later)) (let same : place ≡ place + 0 = omega arith in same)
reading_records (entry ∷ entries) place gate later are =
    let at : place + 4 + length entry.content + length (records_text entries) ≡ place + length (records_text (entry ∷ entries)) =
    omega (arith, length-append entry.content (records_text entries)) in
    let some : 0 < length (records_text entries ++ gate ∷ later) = omega (arith, length-append (records_text entries) (gate ∷ later)) in
    ap (λ (l : List ℕ). reading_from place (1 ∷ l)) (append_assoc (record_text entry) (records_text entries) (gate ∷ later))
    ∙ reading_more entry place (records_text entries ++ gate ∷ later) are.0 some
    ∙ ap (with_record entry) (reading_records entries (place + 4 + length entry.content) gate later are.1)
    ∙ ap (λ (n : ℕ). with_record entry (with_records entries (reading_from n (gate ∷ later)))) at

-- octets behind others that are octets
are_behind : (front back octets : List ℕ) → octets ≡ front ++ back → IsOctets octets → IsOctets back
are_behind front back octets is are =
    let P : ℕ → Type 0 = λ octet. octet < 256 in
    subst (λ (l : List ℕ). IsOctets l) (ap (λ (l : List ℕ). drop (length front) l) is ∙ drop_at front back (length front) refl) (All-drop P (length front) octets are)

-- What octets stand for is what is read.
pub read_from_stands : (place : ℕ) (octets : List ℕ) (reading : Reading) → IsOctets octets → StandsFrom place octets reading → reading ≡ reading_from place octets
read_from_stands place octets (whole entries) are stands = closed_end stands.0 stands.2 stands.3
  where
    closed_end : (rest : List ℕ) → octets ≡ records_text entries ++ rest → StartsClosed rest → whole entries ≡ reading_from place octets
    closed_end [] is shut = absurd shut
    closed_end (gate ∷ later) is shut =
        sym (ap (reading_from place) is ∙ reading_records entries place gate later stands.1
        ∙ ap (with_records entries) (reading_closed (place + length (records_text entries)) gate later shut)
        ∙ all_whole entries)
read_from_stands place octets (broken entries at) are stands =
    let rest = stands.0 in
    sym (ap (reading_from place) stands.2 ∙ reading_records entries place 1 rest stands.1
    ∙ ap (with_records entries) (reading_broken (place + length (records_text entries)) rest (cut_text rest (are_behind (records_text entries ++ 1 ∷ []) rest octets (stands.2 ∙ sym (append_assoc (records_text entries) (1 ∷ []) rest)) are) stands.3))
    ∙ all_broken entries (place + length (records_text entries)) ∙ ap (broken entries) (sym stands.4))

-- one record more in front
stands_more : (entry : Record) (place after : ℕ) (octets next : List ℕ) (reading : Reading) → IsRecord entry → octets ≡ record_text entry ++ next
    → after ≡ place + 4 + length entry.content → StandsFrom after next reading → StandsFrom place (1 ∷ octets) (with_record entry reading)
stands_more entry place after octets next (whole entries) is same at stands = (
  stands.0,
  (is, stands.1),
  ap (λ (l : List ℕ). 1 ∷ l) (same ∙ ap (λ (l : List ℕ). record_text entry ++ l) stands.2 ∙ sym (append_assoc (record_text entry) (records_text entries) stands.0)),
  stands.3,
)
stands_more entry place after octets next (broken entries where_) is same at stands = (
  stands.0,
  (is, stands.1),
  ap (λ (l : List ℕ). 1 ∷ l) (same ∙ ap (λ (l : List ℕ). record_text entry ++ l) stands.2 ∙ sym (append_assoc (record_text entry) (records_text entries) (1 ∷ stands.0))),
  stands.3,
  omega (arith, at, stands.4, length-append entry.content (records_text entries)),
)

-- octets of which all that is shorter stands for what is read there
abbrev StandsBelow : ℕ → Type 0
StandsBelow most = (place : ℕ) (octets : List ℕ) → length octets ≤ most → IsOctets octets → 0 < length octets → StandsFrom place octets (reading_from place octets)

-- the step of the induction, behind an open gate
module _ (most place : ℕ) (octets : List ℕ) (le : length octets ≤ most) (are : IsOctets octets) (shorter : StandsBelow most) where
  behind_whole : starts_whole octets ≡ true → StandsFrom place (1 ∷ octets) (reading_from place (1 ∷ octets))
  behind_whole is_whole =
      let text = whole_text octets are is_whole in
      let entry = record_in octets in
      let next : drop (record_len octets) octets ≡ text.0 ∷ text.1 =
      ap (λ (l : List ℕ). drop (record_len l) l) text.3 ∙ text_rest entry text.2 text.0 text.1 in
      let after = place + 1 + record_len octets in
      let stands =
      shorter after (drop (record_len octets) octets) (omega (arith, length-drop (record_len octets) octets, le))
      (All-drop (λ octet. octet < 256) (record_len octets) octets are) (omega (arith, ap length next)) in
      let at : after ≡ place + 4 + length entry.content =
      omega (arith, number entry text.2 text.0 text.1, ap (λ (l : List ℕ). le16 l 1) text.3) in
      subst (λ (r : Reading). StandsFrom place (1 ∷ octets) r) (sym (reading_whole place octets is_whole))
      (stands_more entry place after octets (drop (record_len octets) octets) _ text.2 (text.3 ∙ ap (λ (l : List ℕ). record_text entry ++ l) (sym next)) at stands)

  behind_cut : starts_whole octets ≡ false → StandsFrom place (1 ∷ octets) (reading_from place (1 ∷ octets))
  behind_cut none = grind (arith, common_steps, reading_broken, text_cut)

  opened : (gate : ℕ) → gate ≡ 1 → StandsFrom place (gate ∷ octets) (reading_from place (gate ∷ octets))
  opened gate is_open = grind (arith, common_steps, behind_whole, behind_cut)

-- What is read is what octets stand for.
pub stands_from_read : (most : ℕ) → StandsBelow most
stands_from_read zero place octets le are some = absurd (omega (arith, le, some))
stands_from_read (suc most) place [] le are some = absurd (omega (arith, some))
stands_from_read (suc most) place (gate ∷ octets) le are some =
    ⊎_elim
    (opened most place octets (omega (arith, le)) (All-tail (λ octet. octet < 256) gate octets are) (stands_from_read most) gate)
    (λ shut. subst (λ (r : Reading). StandsFrom place (gate ∷ octets) r) (sym (reading_closed place gate octets shut)) (gate ∷ octets, tt, refl, shut))
    (cases_eq gate 1)

-- The gate at a place in octets, and what is read there.
module _ (place : ℕ) (octets : List ℕ) where
  pub read_past : length octets ≤ place → reading_from place (drop place octets) ≡ broken [] place
  read_past past = ap (reading_from place) (drop_all place octets past) ∙ reading_none place

  pub read_closed : place < length octets → get_or octets place 0 ≢ 1 → reading_from place (drop place octets) ≡ whole []
  read_closed there shut = ap (reading_from place) (drop_more octets place 0 there) ∙ reading_closed place (get_or octets place 0) (drop (place + 1) octets) shut

  at_gate : place < length octets → get_or octets place 0 ≡ 1 → drop place octets ≡ 1 ∷ drop (place + 1) octets
  at_gate there is_open = drop_more octets place 0 there ∙ ap (λ (n : ℕ). n ∷ drop (place + 1) octets) is_open

  pub read_cut : place < length octets → get_or octets place 0 ≡ 1 → starts_whole (drop (place + 1) octets) ≡ false → reading_from place (drop place octets) ≡ broken [] place
  read_cut there is_open cut = ap (reading_from place) (at_gate there is_open) ∙ reading_broken place (drop (place + 1) octets) cut

  -- a record of this kind and length
  pub read_one : (kind n : ℕ) → place < length octets → get_or octets place 0 ≡ 1 → kind ≡ get_or (drop (place + 1) octets) 0 0 → n ≡ le16 (drop (place + 1) octets) 1 → n ≤ 600 → place + 4 + n < length octets
      → reading_from place (drop place octets) ≡ with_record (record_of kind (take n (drop (place + 4) octets))) (reading_from (place + 4 + n) (drop (place + 4 + n) octets))
  read_one kind n there is_open is_kind is_number most long = grind (arith, common_steps, length-drop, whole_is, drop-drop, at_gate, reading_whole)

-- whether a record with a gate behind it stands at the front is seen in 604 octets
starts_whole-front : (octets : List ℕ) (n : ℕ) → n ≡ min 604 (length octets) → starts_whole (take n octets) ≡ starts_whole octets
starts_whole-front octets n is = grind (arith, common_steps)

-- What is read from a gate on, in which the record is seen.
module _ (place count : ℕ) (octets front : List ℕ) (there : place < length octets) (is_count : count ≡ min 605 (length octets - place))
    (is_front : front ≡ take count (drop place octets)) where
  front-gate : get_or front 0 0 ≡ get_or octets place 0
  front-gate = (ap (λ (l : List ℕ). get_or l 0 0) is_front ∙ get_or-take count (drop place octets) 0 0 (omega (arith, is_count)) ∙ get_or-drop place octets 0 0) ∙ ap (λ (i : ℕ). get_or octets i 0) (let same : place + 0 ≡ place = omega arith in same)

  front-size : length front ≡ count
  front-size = ap length is_front ∙ length-take-le count (drop place octets) (omega (arith, is_count, length-drop place octets))

  -- the octets from a place of it on
  front-drop : (i n : ℕ) → i + n ≤ count → take n (drop i front) ≡ take n (drop (place + i) octets)
  front-drop i n most =
      ap (λ (l : List ℕ). take n (drop i l)) is_front
      ∙ ap (λ (m : ℕ). take n (drop i (take m (drop place octets)))) (let parts : count ≡ i + (count - i) = omega arith in parts)
      ∙ ap (take n) (drop-take i (count - i) (drop place octets)) ∙ take-take n (count - i) (drop i (drop place octets)) (omega arith)
      ∙ ap (take n) (drop-drop i place octets)

  pub found-closed : get_or front 0 0 ≢ 1 → reading_from place (drop place octets) ≡ whole []
  found-closed shut = read_closed place octets there (λ is_open. shut (front-gate ∙ is_open))

  pub found-damaged : get_or front 0 0 ≡ 1 → starts_whole (drop 1 front) ≡ false → reading_from place (drop place octets) ≡ broken [] place
  found-damaged is_open cut = grind (arith, common_steps, drop-take, drop-drop, read_cut, front-gate, starts_whole-front, length-drop)

  -- an octet of what stands behind the gate
  front-rest : (i : ℕ) → i + 1 < count → get_or front (i + 1) 0 ≡ get_or (drop (place + 1) octets) i 0
  front-rest i lt = grind (arith, common_steps)

  pub found-record : (kind n : ℕ) → BeginsRecord front kind n → HasRecord place (record { kind = kind; content = take n (drop 4 front) }) octets
  found-record kind n is = grind (arith, common_steps, front-size, front-drop, length-take-le, length-drop, front-rest, read_one, front-gate)

-- a reading that begins with a record isn't one without, and begins with no other
pub no_record : (entry : Record) (reading : Reading) → with_record entry reading ≡ whole [] → ⊥
no_record entry reading is = grind arith

no_record_broken : (entry : Record) (reading : Reading) (at : ℕ) → with_record entry reading ≡ broken [] at → ⊥
no_record_broken entry reading at is = grind arith

same_record : (a b : Record) (x y : Reading) → with_record a x ≡ with_record b y → (a ≡ b) × (x ≡ y)
same_record a b x y is = grind arith

-- Where a record is read, what is behind it is read there.
pub read_on : (place : ℕ) (octets : List ℕ) (entry : Record) (next : Reading) → reading_from place (drop place octets) ≡ with_record entry next
    → (place + 4 + length entry.content < length octets) × (reading_from (place + 4 + length entry.content) (drop (place + 4 + length entry.content) octets) ≡ next)
read_on place octets entry next is = elim (cases_lt place (length octets)) [
  | inr past ↦ absurd (no_record_broken entry next place (sym is ∙ read_past place octets past))
  | inl there ↦ elim (cases_eq (get_or octets place 0) 1) [
    | inr shut ↦ absurd (no_record entry next (sym is ∙ read_closed place octets there shut))
    | inl is_open ↦ elim (cases_Bool (starts_whole (drop (place + 1) octets))) [
      | inr cut ↦ absurd (no_record_broken entry next place (sym is ∙ read_cut place octets there is_open cut))
      | inl is_whole ↦
          let rest = drop (place + 1) octets in
          let n = le16 rest 1 in
          let parts = (whole_is rest).0 is_whole in
          let long : place + 4 + n < length octets = omega (arith, parts.1, length-drop (place + 1) octets) in
          let same : (record_of (get_or rest 0 0) (take n (drop (place + 4) octets)) ≡ entry) × (reading_from (place + 4 + n) (drop (place + 4 + n) octets) ≡ next) =
          same_record _ entry _ next (sym (read_one place octets (get_or rest 0 0) n there is_open refl refl parts.0 long) ∙ is) in
          let number : n ≡ length entry.content =
          sym (length-take-le n (drop (place + 4) octets) (omega (arith, long, length-drop (place + 4) octets))) ∙ ap (λ (e : Record). length e.content) same.0 in
          (omega (arith, long, number), ap (λ (i : ℕ). reading_from (place + 4 + i) (drop (place + 4 + i) octets)) (sym number) ∙ same.1)
    ]
  ]
]

-- ---- what is answered of the record at a place

-- damage at this place
pub refuses_at : {T : Type 0} (place end : ℕ) (content : Option (List ℕ)) → IfSome content (λ octets. reading_at place (take end octets) ≡ broken [] place)
    → RefusesAt {T = T} place end content (Err (fault.Damaged place))
refuses_at place end content cut = record { damaged = λ at same. (cc same, cut); is_store = λ found same. cc same }

-- nothing is read where the octets end
pub past_end : (place end : ℕ) (octets : List ℕ) → end ≤ place → reading_at place (take end octets) ≡ broken [] place
past_end place end octets past = read_past place (take end octets) (omega (arith, past, length-take end octets))

-- What is read from a gate on, up to this end.
module _ (place count end : ℕ) (octets front : List ℕ) (there : place < end) (is_end : end ≤ length octets) (is_count : count ≡ min (end - place) 605) (is_front : front ≡ take count (drop place octets)) where
  size : length (take end octets) ≡ end
  size = length-take-le end octets is_end

  count_there : count ≡ min 605 (length (take end octets) - place)
  count_there = omega (arith, size, is_count)

  front_there : front ≡ take count (drop place (take end octets))
  front_there =
      is_front ∙ sym (take-take count (end - place) (drop place octets) (omega (arith, is_count)))
      ∙ ap (take count)
      (sym (ap (λ (n : ℕ). drop place (take n octets)) (let parts : end ≡ place + (end - place) = omega (arith, there) in parts) ∙ drop-take place (end - place) octets))

  pub closed_there : get_or front 0 0 ≢ 1 → reading_at place (take end octets) ≡ whole []
  closed_there shut = found-closed place count (take end octets) front (omega (arith, size, there)) count_there front_there shut

  pub damaged_there : get_or front 0 0 ≡ 1 → starts_whole (drop 1 front) ≡ false → reading_at place (take end octets) ≡ broken [] place
  damaged_there is_open cut = found-damaged place count (take end octets) front (omega (arith, size, there)) count_there front_there is_open cut

  pub record_there : (kind n : ℕ) → BeginsRecord front kind n → HasRecord place (record_of kind (take n (drop 4 front))) (take end octets)
  record_there kind n is = found-record place count (take end octets) front (omega (arith, size, there)) count_there front_there kind n is

-- what is read of a disk of so many octets ends where the journal's half ends, or the disk
pub readable_of : {D : Type 0} (g : Ghosts D) (journal : Position) (disk : D) (len end : ℕ) → end ≡ readable (end_of journal) len → IfSome (g.content disk) (λ octets. len ≡ length octets) → len ≤ 2 ^ 63
    → IsReadable g journal disk end
readable_of g journal disk len end is told most =
    let less = readable_less (end_of journal) len in
    record {
      octets = record { told = told_weaker (g.content disk) _ _ (λ octets is_told size. omega (arith, is, less.0, size)) told; most = omega (arith, is, less.0, most) };
      within = told_weaker (end_of journal) _ _ (λ place is_end le. omega (arith, is, le)) less.1;
      told = told_weaker (g.content disk) _ _ (λ octets is_told size. readable_is (end_of journal) len octets size ∙ ap (λ (n : ℕ). take n octets) (sym is)) told;
    }

-- it stays so where the journal moves on in its half, and the disk's octets stay
pub readable_on : {D : Type 0} (g : Ghosts D) (journal after : Position) (disk now : D) (end : ℕ) → end_of after ≡ end_of journal → g.content now ≡ g.content disk → IsReadable g journal disk end
    → IsReadable g after now end
readable_on g journal after disk now end same told is =
    record {
      octets = record { told = subst (λ (o : Option (List ℕ)). IfSome o (λ octets. end ≤ length octets)) (sym told) is.octets.told; most = is.octets.most };
      within = subst (λ (o : Option ℕ). IfSome o (λ place. end ≤ place)) (sym same) is.within;
      told =
          subst (λ (o : Option (List ℕ)). IfSome o (λ octets. up_to (end_of after) octets ≡ take end octets)) (sym told)
          (subst (λ (e : Option ℕ). IfSome (g.content disk) (λ octets. up_to e octets ≡ take end octets)) (sym same) is.told);
    }
