-- Lemmas on the characters of a call.
use Rattle.std.proofs.Common.{◌≡◌, ℕ, zero, suc, ◌+◌, ◌-◌, ◌≤◌, ◌<◌, Bool, true, false, cond, List, [], ◌∷◌, ◌++◌, length, take, drop, replicate, Some, None, refl, sym, ap, ◌∙◌, subst, arith, take-append-drop, length-drop, length-append, length-take-le}
use Rattle.std.specs.Prelude.{◌==◌, ◌↔◌, ◌&&◌, if◌then◌else◌}
use Rattle.std.proofs.lemmas.List.Sums.{prefix_len-le-length}
use Rattle.px_base.specs.CallOctets.{are_blanks, base_count, call_in, call_octets, call_of, is_spelled}
use Rattle.px_base.proofs.Names.{IsTrue, nat_le, slice_index, AllByRecursion, nat_tests, common_steps, length-replicate, All-from_recursion, recursion_from_All, CallSign, IsBase, IsCall, IsSpelled, is_call_char, padded}

-- each of these characters may stand in a call
abbrev AllChars : List ℕ → Type 0
AllChars = AllByRecursion (λ c. IsTrue (is_call_char c))

take_more : (n c : ℕ) (text : List ℕ) → take (1 + n) (c ∷ text) ≡ c ∷ take n text
take_more n c text = let e : 1 + n ≡ suc n = omega arith in ap (λ k. take k (c ∷ text)) e

drop_more : (n c : ℕ) (text : List ℕ) → drop (1 + n) (c ∷ text) ≡ drop n text
drop_more n c text = let e : 1 + n ≡ suc n = omega arith in ap (λ k. drop k (c ∷ text)) e

-- the characters that are counted are those of a call
count_is_chars : (text : List ℕ) → AllChars (take (base_count text) text)
count_is_chars [] = tt
count_is_chars (c ∷ text) = chars_there (is_call_char c) refl (base_count text) (count_is_chars text)
  where
    chars_there : (b : Bool) → is_call_char c ≡ b → (n : ℕ) → AllChars (take n text) → AllChars (take (cond b (1 + n) 0) (c ∷ text))
    chars_there true e n h = rw (take_more n c text) (e, h)
    chars_there false e n h = tt

-- what consists of blanks alone
blanks_are : (text : List ℕ) → are_blanks text ≡ true → text ≡ replicate (length text) 32
blanks_are [] h = refl
blanks_are (c ∷ text) h = blanks_there (c == 32) refl h (λ k. blanks_are text k)
  where
    blanks_there : (b : Bool) → (c == 32) ≡ b → (b && are_blanks text) ≡ true → (are_blanks text ≡ true → text ≡ replicate (length text) 32)
        → c ∷ text ≡ replicate (suc (length text)) 32
    blanks_there true e h rest =
        let same : c ≡ 32 = grind (arith, nat_tests) in
        ap (λ (d : ℕ). d ∷ text) same ∙ ap (λ (all : List ℕ). 32 ∷ all) (rest h)
    blanks_there false e h rest = cc

all_blanks : (n : ℕ) → are_blanks (replicate n 32) ≡ true
all_blanks zero = refl
all_blanks (suc n) = all_blanks n

-- the count of a base before blanks
count_of_base : (base : List ℕ) (n : ℕ) → AllChars base → base_count (base ++ replicate n 32) ≡ length base
count_of_base [] zero h = refl
count_of_base [] (suc n) h = refl
count_of_base (c ∷ base) n h =
    let yes : is_call_char c ≡ true = h.0 in
    ap (λ b. cond b (1 + base_count (base ++ replicate n 32)) 0) yes ∙ ap (λ k. 1 + k) (count_of_base base n h.1) ∙ omega arith

take_front : (base tail : List ℕ) → take (length base) (base ++ tail) ≡ base
take_front base tail = grind (arith, common_steps)

drop_front : (base tail : List ℕ) → drop (length base) (base ++ tail) ≡ tail
drop_front base tail = grind (arith, common_steps)

both : (a b : Bool) → (a && b) ≡ true → (a ≡ true) × (b ≡ true)
both true b h = (refl, h)
both false b h = cc

some-le : (n : ℕ) → nat_le 1 n ≡ true → 1 ≤ n
some-le n h = grind (arith, nat_tests)

le-some : (n : ℕ) → 1 ≤ n → nat_le 1 n ≡ true
le-some n h = grind (arith, nat_tests)

-- six characters that are spelled so are those of a call
pub IsSpelled-from_test : (chars : List ℕ) → length chars ≡ 6 → is_spelled chars ≡ true → IsSpelled chars
IsSpelled-from_test chars six h =
    let n = base_count chars in
    let parts : (nat_le 1 (base_count chars) ≡ true) × (are_blanks (drop (base_count chars) chars) ≡ true) = both _ _ h in
    let within : base_count chars ≤ length chars = prefix_len-le-length is_call_char chars in
    let base : List ℕ = take (base_count chars) chars in
    let rest : List ℕ = drop (base_count chars) chars in
    let count : length (take (base_count chars) chars) ≡ base_count chars = length-take-le (base_count chars) chars within in
    let left : length (drop (base_count chars) chars) ≡ length chars - base_count chars = length-drop (base_count chars) chars in
    let some : 1 ≤ base_count chars = some-le _ parts.0 in
    let padding : length (drop (base_count chars) chars) ≡ 6 - length (take (base_count chars) chars) = omega arith in (
      take (base_count chars) chars,
      (omega arith, omega arith, All-from_recursion _ _ (count_is_chars chars)),
      sym (take-append-drop (base_count chars) chars)
          ∙ ap (λ (t : List ℕ). take (base_count chars) chars ++ t)
          (blanks_are (drop (base_count chars) chars) parts.1 ∙ ap (λ (k : ℕ). replicate k 32) padding),
    )

-- the characters of a call are spelled so
test-from_base : (base : List ℕ) → IsBase base → is_spelled (padded base) ≡ true
test-from_base base is =
    let k = 6 - length base in
    let count : base_count (padded base) ≡ length base = count_of_base base (6 - length base) (recursion_from_All _ base is.2) in
    let rest : drop (base_count (padded base)) (padded base) ≡ replicate (6 - length base) 32 =
    ap (λ (n : ℕ). drop n (padded base)) count ∙ drop_front base (replicate (6 - length base) 32) in
    let some : nat_le 1 (base_count (padded base)) ≡ true = ap (λ (n : ℕ). nat_le 1 n) count ∙ le-some (length base) is.0 in
    ap (λ (b : Bool). b && are_blanks (drop (base_count (padded base)) (padded base))) some
    ∙ ap are_blanks rest ∙ all_blanks (6 - length base)

pub test-from_IsSpelled : (chars : List ℕ) → IsSpelled chars → is_spelled chars ≡ true
test-from_IsSpelled chars (base, is, e) = ap is_spelled e ∙ test-from_base base is

pub length-IsSpelled : (chars : List ℕ) → IsSpelled chars → length chars ≡ 6
length-IsSpelled chars (base, is, e) =
    let most : length base ≤ 6 = is.1 in
    ap length e ∙ length-append base (replicate (6 - length base) 32)
    ∙ ap (λ (n : ℕ). length base + n) (length-replicate (6 - length base) 32) ∙ omega arith

-- seven octets are the first six and the last
seven : (octets : List ℕ) → length octets ≡ 7 → octets ≡ take 6 octets ++ slice_index octets 6 ∷ []
seven octets h = grind (arith, common_steps)

take_six : (chars : List ℕ) (ssid : ℕ) → length chars ≡ 6 → take 6 (chars ++ ssid ∷ []) ≡ chars
take_six chars ssid h = ap (λ (n : ℕ). take n (chars ++ ssid ∷ [])) (sym h) ∙ take_front chars (ssid ∷ [])

last_is : (chars : List ℕ) (ssid : ℕ) → length chars ≡ 6 → slice_index (chars ++ ssid ∷ []) 6 ≡ ssid
last_is chars ssid h = grind (arith, common_steps)

-- What the octets are read as, from the three tests of them.
pub record Passes (octets : List ℕ) : Type 0 where
  pub seven : length octets ≡ 7
  pub spelled : is_spelled (take 6 octets) ≡ true
  pub range : slice_index octets 6 ≤ 15

fifteen : (n : ℕ) → nat_le n 15 ≡ true → n ≤ 15
fifteen n h = grind (arith, nat_tests)

to_fifteen : (n : ℕ) → n ≤ 15 → nat_le n 15 ≡ true
to_fifteen n h = grind (arith, nat_tests)

is_seven : (n : ℕ) → (n == 7) ≡ true → n ≡ 7
is_seven n h = grind (arith, nat_tests)

to_seven : (n : ℕ) → n ≡ 7 → (n == 7) ≡ true
to_seven n h = grind (arith, nat_tests)

three : (a b c : Bool) → (a && b && c) ≡ true → (a ≡ true) × (b ≡ true) × (c ≡ true)
three true true c h = (refl, refl, h)
three true false c h = cc
three false b c h = cc

passes_where_some : (b : Bool) (call some : CallSign) → (if b then Some some else None) ≡ Some call → (b ≡ true) × (call ≡ some)
passes_where_some true call some h = (refl, cc)
passes_where_some false call some h = cc

pub read_where_passes : (octets : List ℕ) → Passes octets → call_in octets ≡ Some (call_of (take 6 octets) (slice_index octets 6))
unfolding call_in
read_where_passes octets p =
    let b : ((length octets == 7) && is_spelled (take 6 octets) && nat_le (slice_index octets 6) 15) ≡ true =
    ap (λ (t : Bool). t && is_spelled (take 6 octets) && nat_le (slice_index octets 6) 15) (to_seven _ p.seven)
    ∙ ap (λ (t : Bool). t && nat_le (slice_index octets 6) 15) p.spelled ∙ to_fifteen _ p.range in
    ap (λ (t : Bool). if t then Some (call_of (take 6 octets) (slice_index octets 6)) else None) b

-- octets that are read as a call are its octets
call_from_octets : (octets : List ℕ) (call : CallSign) → call_in octets ≡ Some call → IsCall call × (octets ≡ call_octets call)
unfolding call_in
call_from_octets octets call h =
    let w : (((length octets == 7) && is_spelled (take 6 octets) && nat_le (slice_index octets 6) 15) ≡ true)
    × (call ≡ call_of (take 6 octets) (slice_index octets 6)) = passes_where_some _ _ _ h in
    let t = three _ _ _ w.0 in
    let whole : length octets ≡ 7 = is_seven _ t.0 in
    let front : length (take 6 octets) ≡ 6 = length-take-le 6 octets (omega arith) in
    let is : IsCall (call_of (take 6 octets) (slice_index octets 6)) =
    record { spelled = IsSpelled-from_test _ front t.1; in_range = fifteen _ t.2 } in (
      subst (λ (c : CallSign). IsCall c) (sym w.1) is,
      seven octets whole ∙ sym (ap call_octets w.1),
    )

-- the octets of a call are read as it
octets_to_call : (call : CallSign) → IsCall call → call_in (call_octets call) ≡ Some call
octets_to_call call is =
    let six : length call.chars ≡ 6 = length-IsSpelled _ is.spelled in
    let front : take 6 (call_octets call) ≡ call.chars = take_six call.chars call.ssid six in
    let back : slice_index (call_octets call) 6 ≡ call.ssid = last_is call.chars call.ssid six in
    let whole : length (call_octets call) ≡ 7 = length-append call.chars (call.ssid ∷ []) ∙ omega arith in
    let passes : Passes (call_octets call) = record {
      seven = whole;
      spelled = ap is_spelled front ∙ test-from_IsSpelled _ is.spelled;
      range = rw back is.in_range;
    } in
    read_where_passes (call_octets call) passes
    ∙ ap (λ (c : List ℕ). Some (call_of c (slice_index (call_octets call) 6))) front
    ∙ ap (λ (n : ℕ). Some (call_of call.chars n)) back

pub law : (octets : List ℕ) (call : CallSign) → (call_in octets ≡ Some call) ↔ (IsCall call × (octets ≡ call_octets call))
law octets call = (call_from_octets octets call, λ w. ap call_in w.1 ∙ octets_to_call call w.0)

out_at : (b : Bool) (call : CallSign) → b ≡ false → None ≡ (if b then Some call else None)
out_at true call h = cc
out_at false call h = refl

fails_at : (a b c : Bool) → b ≡ false → (a && b && c) ≡ false
fails_at true b c h = ap (λ (t : Bool). t && c) h
fails_at false b c h = refl

fails_last : (a b c : Bool) → c ≡ false → (a && b && c) ≡ false
fails_last true true c h = h
fails_last true false c h = refl
fails_last false b c h = refl

no_seven : (n : ℕ) → (n ≡ 7 → ⊥) → (n == 7) ≡ false
no_seven n h = grind (arith, nat_tests)

no_fifteen : (n : ℕ) → 15 < n → nat_le n 15 ≡ false
no_fifteen n h = grind (arith, nat_tests)

-- octets of another length are no call
pub none_at_length : (octets : List ℕ) → (length octets ≡ 7 → ⊥) → None ≡ call_in octets
unfolding call_in
none_at_length octets h =
    out_at _ (call_of (take 6 octets) (slice_index octets 6))
    (ap (λ (t : Bool). t && is_spelled (take 6 octets) && nat_le (slice_index octets 6) 15) (no_seven _ h))

-- nor are octets whose first six are no characters of a call
pub none_at_chars : (octets chars : List ℕ) → chars ≡ take 6 octets → is_spelled chars ≡ false → None ≡ call_in octets
unfolding call_in
none_at_chars octets chars e h =
    out_at _ (call_of (take 6 octets) (slice_index octets 6))
    (fails_at (length octets == 7) (is_spelled (take 6 octets)) (nat_le (slice_index octets 6) 15) (ap is_spelled (sym e) ∙ h))

-- nor octets whose SSID is too high
pub none_at_ssid : (octets : List ℕ) → 15 < slice_index octets 6 → None ≡ call_in octets
unfolding call_in
none_at_ssid octets h =
    out_at _ (call_of (take 6 octets) (slice_index octets 6))
    (fails_last (length octets == 7) (is_spelled (take 6 octets)) (nat_le (slice_index octets 6) 15) (no_fifteen _ h))

-- octets that pass all tests are a call
pub read_of_chars :
    (octets chars : List ℕ) → length octets ≡ 7 → chars ≡ take 6 octets → is_spelled chars ≡ true → slice_index octets 6 ≤ 15
    → Some (call_of chars (slice_index octets 6)) ≡ call_in octets
read_of_chars octets chars whole e spelled range =
    let passes : Passes octets = record { seven = whole; spelled = ap is_spelled (sym e) ∙ spelled; range = range } in
    ap (λ (c : List ℕ). Some (call_of c (slice_index octets 6))) e ∙ sym (read_where_passes octets passes)

pub IsCall-of_chars : (octets chars : List ℕ) → length octets ≡ 7 → chars ≡ take 6 octets → is_spelled chars ≡ true → slice_index octets 6 ≤ 15
    → IsCall (call_of chars (slice_index octets 6))
IsCall-of_chars octets chars whole e spelled range =
    let front : length chars ≡ 6 = ap length e ∙ length-take-le 6 octets (omega arith) in
    record { spelled = IsSpelled-from_test chars front spelled; in_range = range }
