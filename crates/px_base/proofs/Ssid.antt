-- Lemmas on the part of a call's text that gives its SSID.
use Rattle.std.proofs.Common.{◌≡◌, ℕ, ◌+◌, ◌-◌, ◌≤◌, ◌<◌, ◌⊎◌, List, [], ◌∷◌, ◌++◌, length, take, get_or, refl, sym, ap, ◌∙◌, inl, inr, arith}
use Rattle.px_base.proofs.Names.{nat_tests, common_steps, SsidText, BeginsSsid, ReachesInSsid, ssid_digits}

-- what an SSID's digits are, by their number
digits_one : (n : ℕ) → n ≤ 9 → ssid_digits n ≡ (48 + n) ∷ []
digits_one n h = grind (arith, nat_tests)

digits_two : (n : ℕ) → 10 ≤ n → ssid_digits n ≡ 49 ∷ (38 + n) ∷ []
digits_two n h = grind (arith, nat_tests)

-- what the octets are that begin an SSID's text
pub record Front (front : List ℕ) : Type 0 where
  pub short : length front ≤ 3
  pub hyphen : 1 ≤ length front → get_or front 0 0 ≡ 45
  pub digit : 2 ≤ length front → (48 ≤ get_or front 1 0) × (get_or front 1 0 ≤ 57)
  pub first : 3 ≤ length front → get_or front 1 0 ≡ 49
  pub second : 3 ≤ length front → (48 ≤ get_or front 2 0) × (get_or front 2 0 ≤ 53)

below_or_not : (n : ℕ) → (n ≤ 9) ⊎ (10 ≤ n)
below_or_not n = grind arith

front_one : (n : ℕ) (front rest : List ℕ) → n ≤ 9 → front ++ rest ≡ 45 ∷ (48 + n) ∷ [] → Front front
front_one n [] rest h e = record { short = omega arith; hyphen = λ k. absurd (omega arith); digit = λ k. absurd (omega arith); first = λ k. absurd (omega arith); second = λ k. absurd (omega arith) }
front_one n (a ∷ []) rest h e = record { short = omega arith; hyphen = λ k. cc; digit = λ k. absurd (omega arith); first = λ k. absurd (omega arith); second = λ k. absurd (omega arith) }
front_one n (a ∷ b ∷ []) rest h e =
    let be : b ≡ 48 + n = cc in
    record { short = omega arith; hyphen = λ k. cc; digit = λ k. (omega arith, omega arith); first = λ k. absurd (omega arith); second = λ k. absurd (omega arith) }
front_one n (a ∷ b ∷ c ∷ front) rest h e = absurd (cc)

front_two : (n : ℕ) (front rest : List ℕ) → 10 ≤ n → n ≤ 15 → front ++ rest ≡ 45 ∷ 49 ∷ (38 + n) ∷ [] → Front front
front_two n [] rest g h e = record { short = omega arith; hyphen = λ k. absurd (omega arith); digit = λ k. absurd (omega arith); first = λ k. absurd (omega arith); second = λ k. absurd (omega arith) }
front_two n (a ∷ []) rest g h e = record { short = omega arith; hyphen = λ k. cc; digit = λ k. absurd (omega arith); first = λ k. absurd (omega arith); second = λ k. absurd (omega arith) }
front_two n (a ∷ b ∷ []) rest g h e =
    let be : b ≡ 49 = cc in
    record { short = omega arith; hyphen = λ k. cc; digit = λ k. (omega arith, omega arith); first = λ k. absurd (omega arith); second = λ k. absurd (omega arith) }
front_two n (a ∷ b ∷ c ∷ []) rest g h e =
    let be : b ≡ 49 = cc in
    let ce : c ≡ 38 + n = cc in
    record { short = omega arith; hyphen = λ k. cc; digit = λ k. (omega arith, omega arith); first = λ k. be; second = λ k. (omega arith, omega arith) }
front_two n (a ∷ b ∷ c ∷ d ∷ front) rest g h e = absurd (cc)

front_none : (front rest : List ℕ) → front ++ rest ≡ [] → Front front
front_none [] rest e = record { short = omega arith; hyphen = λ k. absurd (omega arith); digit = λ k. absurd (omega arith); first = λ k. absurd (omega arith); second = λ k. absurd (omega arith) }
front_none (a ∷ front) rest e = absurd (cc)

pub front_of : (n : ℕ) (front rest : List ℕ) → SsidText n (front ++ rest) → Front front
front_of n front rest h =
    elim h.1 [
      | inl e ↦ (elim (below_or_not n) [
        | inl k ↦ front_one n front rest k (e ∙ ap (λ ds. 45 ∷ ds) (digits_one n k))
        | inr k ↦ front_two n front rest k h.0 (e ∙ ap (λ ds. 45 ∷ ds) (digits_two n k))
      ])
      | inr e ↦ front_none front rest e.1
    ]

-- An octet of a front is that of the whole.
front_reads : (text : List ℕ) (n k : ℕ) → k < n → n ≤ length text → get_or (take n text) k 0 ≡ get_or text k 0
front_reads text n k h l = grind (arith, common_steps)

-- the octets that begin the text of an SSID, by their places in the whole
pub record Reads (text : List ℕ) (n : ℕ) : Type 0 where
  pub short : n ≤ 3
  pub hyphen : 1 ≤ n → get_or text 0 0 ≡ 45
  pub digit : 2 ≤ n → (48 ≤ get_or text 1 0) × (get_or text 1 0 ≤ 57)
  pub first : 3 ≤ n → get_or text 1 0 ≡ 49
  pub second : 3 ≤ n → (48 ≤ get_or text 2 0) × (get_or text 2 0 ≤ 53)

length_front : (text : List ℕ) (n : ℕ) → n ≤ length text → length (take n text) ≡ n
length_front text n l = grind (arith, common_steps)

pub reads_of : (text : List ℕ) (n : ℕ) → n ≤ length text → BeginsSsid (take n text) → Reads text n
reads_of text n l (s, rest, h) =
    let f = front_of s (take n text) rest h in
    let e = length_front text n l in
    let zero : 1 ≤ n → get_or (take n text) 0 0 ≡ get_or text 0 0 = λ k. front_reads text n 0 (omega arith) l in
    let one : 2 ≤ n → get_or (take n text) 1 0 ≡ get_or text 1 0 = λ k. front_reads text n 1 (omega arith) l in
    let two : 3 ≤ n → get_or (take n text) 2 0 ≡ get_or text 2 0 = λ k. front_reads text n 2 (omega arith) l in
    record {
      short = omega (arith, f.short);
      hyphen = λ k. sym (zero k) ∙ f.hyphen (omega arith);
      digit = λ k. (let d = (f.digit (omega arith)).0 in omega (arith, one k), let d = (f.digit (omega arith)).1 in omega (arith, one k));
      first = λ k. sym (one (omega arith)) ∙ f.first (omega arith);
      second = λ k. (let d = (f.second (omega arith)).0 in omega (arith, two k), let d = (f.second (omega arith)).1 in omega (arith, two k));
    }

front_is_one : (text : List ℕ) → 1 ≤ length text → take 1 text ≡ get_or text 0 0 ∷ []
front_is_one [] l = absurd (omega arith)
front_is_one (a ∷ text) l = refl

front_is_two : (text : List ℕ) → 2 ≤ length text → take 2 text ≡ get_or text 0 0 ∷ get_or text 1 0 ∷ []
front_is_two [] l = absurd (omega arith)
front_is_two (a ∷ []) l = absurd (omega arith)
front_is_two (a ∷ b ∷ text) l = refl

front_is_three : (text : List ℕ) → 3 ≤ length text → take 3 text ≡ get_or text 0 0 ∷ get_or text 1 0 ∷ get_or text 2 0 ∷ []
front_is_three [] l = absurd (omega arith)
front_is_three (a ∷ []) l = absurd (omega arith)
front_is_three (a ∷ b ∷ []) l = absurd (omega arith)
front_is_three (a ∷ b ∷ c ∷ text) l = refl

-- How far a text goes that begins so.
pub reach_none : (text : List ℕ) → (1 ≤ length text → get_or text 0 0 ≡ 45 → ⊥) → ReachesInSsid text 0
reach_none text h = record {
  begins = (0, [], (omega arith, inr (refl, refl)));
  inside = omega arith;
  longest = λ n k l b. h (omega arith) ((reads_of text n l b).hyphen (omega arith));
}

pub reach_hyphen : (text : List ℕ) → 1 ≤ length text → get_or text 0 0 ≡ 45 → (2 ≤ length text → 48 ≤ get_or text 1 0 → get_or text 1 0 ≤ 57 → ⊥) → ReachesInSsid text 1
reach_hyphen text l zero h = record {
  begins = (0, 48 ∷ [], (omega arith, inl (ap (λ f. f ++ 48 ∷ []) (front_is_one text l) ∙ ap (λ a. a ∷ 48 ∷ []) zero)));
  inside = l;
  longest = λ n k m b. let r = (reads_of text n m b).digit (omega arith) in h (omega arith) r.0 r.1;
}

pub reach_digit : (text : List ℕ) → 2 ≤ length text → get_or text 0 0 ≡ 45 → 48 ≤ get_or text 1 0 → get_or text 1 0 ≤ 57
    → (3 ≤ length text → get_or text 1 0 ≡ 49 → 48 ≤ get_or text 2 0 → get_or text 2 0 ≤ 53 → ⊥) → ReachesInSsid text 2
reach_digit text l zero low high h =
    let n = get_or text 1 0 - 48 in
    let e : 48 + n ≡ get_or text 1 0 = omega arith in
    record {
      begins = (n, [], (omega arith, inl (ap (λ f. f ++ []) (front_is_two text l) ∙ ap (λ a. a ∷ get_or text 1 0 ∷ []) zero ∙ ap (λ b. 45 ∷ b ∷ []) (sym e) ∙ ap (λ ds. 45 ∷ ds) (sym (digits_one n (omega arith))))));
      inside = l;
      longest = λ m k g b. let r = reads_of text m g b in h (omega arith) (r.first (omega arith)) (r.second (omega arith)).0 (r.second (omega arith)).1;
    }

pub reach_digits : (text : List ℕ) → 3 ≤ length text → get_or text 0 0 ≡ 45 → get_or text 1 0 ≡ 49 → 48 ≤ get_or text 2 0 → get_or text 2 0 ≤ 53 → ReachesInSsid text 3
reach_digits text l zero one low high =
    let n = get_or text 2 0 - 38 in
    let e : 38 + n ≡ get_or text 2 0 = omega arith in
    record {
      begins = (n, [], (omega arith, inl (ap (λ f. f ++ []) (front_is_three text l) ∙ ap (λ a. a ∷ get_or text 1 0 ∷ get_or text 2 0 ∷ []) zero ∙ ap (λ b. 45 ∷ b ∷ get_or text 2 0 ∷ []) one ∙ ap (λ c. 45 ∷ 49 ∷ c ∷ []) (sym e) ∙ ap (λ ds. 45 ∷ ds) (sym (digits_two n (omega arith))))));
      inside = l;
      longest = λ m k g b. let r = reads_of text m g b in omega (arith, r.short);
    }

-- how far a text goes in the text of an SSID
pub ruleset reaches = (reach_none, reach_hyphen, reach_digit, reach_digits)

same_digits : (m n : ℕ) → m ≤ 15 → n ≤ 15 → ssid_digits m ≡ ssid_digits n → m ≡ n
same_digits m n h k e =
    elim (below_or_not m) [
      | inl g ↦ (elim (below_or_not n) [
        | inl l ↦ (let f = sym (digits_one m g) ∙ e ∙ digits_one n l in let s : 48 + m ≡ 48 + n = cc in omega arith)
        | inr l ↦ (let f = sym (digits_one m g) ∙ e ∙ digits_two n l in absurd (cc))
      ])
      | inr g ↦ (elim (below_or_not n) [
        | inl l ↦ (let f = sym (digits_two m g) ∙ e ∙ digits_one n l in absurd (cc))
        | inr l ↦ (let f = sym (digits_two m g) ∙ e ∙ digits_two n l in let s : 38 + m ≡ 38 + n = cc in omega arith)
      ])
    ]

-- a text is that of at most one SSID
pub one_ssid : (m n : ℕ) (text : List ℕ) → SsidText m text → SsidText n text → m ≡ n
one_ssid m n text h k =
    elim h.1 [
      | inl e ↦ (elim k.1 [
        | inl f ↦ same_digits m n h.0 k.0 (cc)
        | inr f ↦ absurd (cc)
      ])
      | inr e ↦ (elim k.1 [
        | inl f ↦ absurd (cc)
        | inr f ↦ e.0 ∙ sym f.0
      ])
    ]
