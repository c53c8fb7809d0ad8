-- Lemmas on the texts of calls.
use Rattle.std.proofs.Common.{◌≡◌, ℕ, zero, suc, ◌+◌, ◌-◌, ◌≤◌, ◌<◌, Bool, true, false, cond, List, [], ◌∷◌, ◌++◌, length, take, drop, replicate, filter, refl, sym, ap, ◌∙◌, subst, inl, inr, arith, append_assoc, append-nil, length-drop, take-append-drop, length-take-le}
use Rattle.std.specs.Prelude.{◌==◌, if◌then◌else◌}
use Rattle.px_base.proofs.Names.{IsTrue, AllByRecursion, prefix_len, IsAscii, nat_tests, common_steps, take-take, drop-take, All-from_recursion, recursion_from_All, filter-append, CallSign, IsCall, IsBase, CallText, BeginsCall, FailsAt, SsidText, BeginsSsid, ReachesInSsid, IsSpelled, base_length, is_call_char, is_no_blank, call_text, padded, ssid_digits, ssid_text}
use Rattle.px_base.proofs.Ssid.{one_ssid}

-- each of these characters may stand in a call
abbrev AllChars : List ℕ → Type 0
AllChars = AllByRecursion (λ c. IsTrue (is_call_char c))

-- A run that begins with a base is as long as the base, if nothing that may stand in a call follows.
run_of_base : (f : ℕ) (base tail : List ℕ) → AllChars base → length base ≤ f
    → ((k : ℕ) → prefix_len is_call_char (take k tail) ≡ 0) → prefix_len is_call_char (take f (base ++ tail)) ≡ length base
run_of_base f [] tail h l stops = stops f
run_of_base zero (c ∷ base) tail h l stops = absurd (omega arith)
run_of_base (suc f) (c ∷ base) tail h l stops =
    let e = run_of_base f base tail h.1 (omega arith) stops in
    let yes : is_call_char c ≡ true = h.0 in
    ap (λ b. cond b (1 + prefix_len is_call_char (take f (base ++ tail))) 0) yes ∙ ap (λ n. 1 + n) e ∙ omega arith

-- neither nothing nor a hyphen goes on with a base
stops_nil : (k : ℕ) → prefix_len is_call_char (take k []) ≡ 0
stops_nil zero = refl
stops_nil (suc k) = refl

stops_hyphen : (text : List ℕ) (k : ℕ) → prefix_len is_call_char (take k (45 ∷ text)) ≡ 0
stops_hyphen text zero = refl
stops_hyphen text (suc k) = refl

-- The run of a text that goes on in another way after a front is the same, if it ends inside that front.
run_agrees : (f m : ℕ) (text rest : List ℕ) → prefix_len is_call_char (take f text) < m → m ≤ length text
    → prefix_len is_call_char (take f (take m text ++ rest)) ≡ prefix_len is_call_char (take f text)
run_agrees zero m text rest h l = refl
run_agrees (suc f) m [] rest h l = absurd (omega arith)
run_agrees (suc f) zero (c ∷ text) rest h l = absurd (omega arith)
run_agrees (suc f) (suc m) (c ∷ text) rest h l =
    agrees_there (is_call_char c) (prefix_len is_call_char (take f text)) (prefix_len is_call_char (take f (take m text ++ rest))) m h
    (λ k. run_agrees f m text rest k (omega arith))
  where
    agrees_there : (b : Bool) (here there m : ℕ) → cond b (1 + here) 0 < suc m → (here < m → there ≡ here) → cond b (1 + there) 0 ≡ cond b (1 + here) 0
    agrees_there true here there m h k = ap (λ n. 1 + n) (k (omega arith))
    agrees_there false here there m h k = refl

take_more : (n c : ℕ) (text : List ℕ) → take (1 + n) (c ∷ text) ≡ c ∷ take n text
take_more n c text = let e : 1 + n ≡ suc n = omega arith in ap (λ k. take k (c ∷ text)) e

-- the run holds characters of a call alone
run_is_chars : (f : ℕ) (text : List ℕ) → AllChars (take (prefix_len is_call_char (take f text)) text)
run_is_chars zero text = tt
run_is_chars (suc f) [] = tt
run_is_chars (suc f) (c ∷ text) = chars_there (is_call_char c) refl (prefix_len is_call_char (take f text)) (run_is_chars f text)
  where
    chars_there : (b : Bool) → is_call_char c ≡ b → (n : ℕ) → AllChars (take n text) → AllChars (take (cond b (1 + n) 0) (c ∷ text))
    chars_there true e n h = rw (take_more n c text) (e, h)
    chars_there false e n h = tt

-- no run is longer than its text, or than it may be
run_within : (f : ℕ) (text : List ℕ) → (prefix_len is_call_char (take f text) ≤ length text) × (prefix_len is_call_char (take f text) ≤ f)
run_within zero text = (omega arith, omega arith)
run_within (suc f) [] = (omega arith, omega arith)
run_within (suc f) (c ∷ text) = within_there (is_call_char c) (prefix_len is_call_char (take f text)) (run_within f text)
  where
    within_there : (b : Bool) (n : ℕ) → (n ≤ length text) × (n ≤ f) → (cond b (1 + n) 0 ≤ suc (length text)) × (cond b (1 + n) 0 ≤ suc f)
    within_there true n h = (omega arith, omega arith)
    within_there false n h = (omega arith, omega arith)

take_front : (base tail : List ℕ) → take (length base) (base ++ tail) ≡ base
take_front base tail = grind (arith, common_steps)

drop_front : (base tail : List ℕ) → drop (length base) (base ++ tail) ≡ tail
drop_front base tail = grind (arith, common_steps)

-- A call's text, cut where its base ends.
pub record IsCut (call : CallSign) (text : List ℕ) : Type 0 where
  pub some : 1 ≤ base_length text
  pub spelled : call.chars ≡ padded (take (base_length text) text)
  pub ssid : SsidText call.ssid (drop (base_length text) text)

cut_at : (call : CallSign) (text base tail : List ℕ) → text ≡ base ++ tail → IsBase base → call.chars ≡ padded base
    → ((k : ℕ) → prefix_len is_call_char (take k tail) ≡ 0) → SsidText call.ssid tail → IsCut call text
cut_at call text base tail e is_base spelled stops ssid =
    let n : base_length text ≡ length base =
    ap base_length e ∙ run_of_base 6 base tail (recursion_from_All _ base is_base.2) is_base.1 stops in
    let front : take (base_length text) text ≡ base = rw (n, e) (take_front base tail) in
    let back : drop (base_length text) text ≡ tail = rw (n, e) (drop_front base tail) in
    record {
      some = rw n is_base.0;
      spelled = rw front spelled;
      ssid = rw back ssid;
    }

-- the text of a call is cut where its base ends
pub cut_of : (call : CallSign) (text : List ℕ) → CallText call text → IsCut call text
cut_of call text (base, is_base, spelled, range, cases) =
    elim cases [
      | inl e ↦ cut_at call text base (45 ∷ ssid_digits call.ssid) e is_base spelled (stops_hyphen (ssid_digits call.ssid)) (range, inl refl)
      | inr e ↦ cut_at call text base [] (e.1 ∙ sym (append-nil base)) is_base spelled stops_nil (range, inr (e.0, refl))
    ]

-- the base of a text that has one
base_is : (text : List ℕ) → 1 ≤ base_length text → IsBase (take (base_length text) text)
base_is text h =
    let w = run_within 6 text in
    let e : length (take (base_length text) text) ≡ base_length text = length-take-le (base_length text) text w.0 in
    (rw e h, rw e w.1, All-from_recursion _ _ (run_is_chars 6 text))

call_of : (call : CallSign) (base tail : List ℕ) → IsBase base → call.chars ≡ padded base → SsidText call.ssid tail → CallText call (base ++ tail)
call_of call base tail is_base spelled ssid = (
  base,
  is_base,
  spelled,
  ssid.0,
  elim ssid.1 [
    | inl e ↦ inl (ap (λ t. base ++ t) e)
    | inr e ↦ inr (e.0, ap (λ t. base ++ t) e.1 ∙ append-nil base)
  ],
)

-- a text that can be cut so is that call's
pub call_is : (call : CallSign) (text : List ℕ) → IsCut call text → CallText call text
call_is call text cut =
    subst (CallText call) (take-append-drop (base_length text) text)
    (call_of call (take (base_length text) text) (drop (base_length text) text) (base_is text cut.some) cut.spelled cut.ssid)

-- the call `A`
abbrev some_call : CallSign
some_call = record { chars = padded (65 ∷ []); ssid = 0 }

begins_nil : BeginsCall []
begins_nil = (some_call, 65 ∷ [], call_is some_call (65 ∷ []) (record { some = omega arith; spelled = refl; ssid = (omega arith, inr (refl, refl)) }))

-- A text that begins with no character of a call fails at once.
pub fails_at_once : (text : List ℕ) → base_length text ≡ 0 → FailsAt text 0
fails_at_once text h = record {
  none = λ call t. let k = (cut_of call text t).some in omega (arith, k);
  begins = begins_nil;
  inside = omega arith;
  longest = λ n k l (call, rest, t).
      let some = (cut_of call (take n text ++ rest) t).some in
      let same = run_agrees 6 n text rest (omega (arith, h)) l in
      omega (arith, some, same, h);
}

-- what goes on after the base in another way, goes on so after the same base
drop_agrees : (text rest : List ℕ) (b n : ℕ) → b ≤ n → n ≤ length text → drop b (take n text ++ rest) ≡ take (n - b) (drop b text) ++ rest
drop_agrees text rest zero n h l = let e : n - 0 ≡ n = omega arith in rw e refl
drop_agrees [] rest (suc b) n h l = absurd (omega arith)
drop_agrees (c ∷ text) rest (suc b) zero h l = absurd (omega arith)
drop_agrees (c ∷ text) rest (suc b) (suc n) h l =
    let e : suc n - suc b ≡ n - b = omega arith in
    rw e (drop_agrees text rest b n (omega arith) (omega arith))

-- a front that is longer than the base is the base and a front of what follows
take_agrees : (text : List ℕ) (b reach : ℕ) → take (b + reach) text ≡ take b text ++ take reach (drop b text)
take_agrees text b reach =
    let front = take (b + reach) text in
    sym (take-append-drop b front) ∙ ap (λ t. t ++ drop b front) (take-take b (b + reach) text (omega arith))
    ∙ ap (λ t. take b text ++ t) (drop-take b reach text)

begins_after_base : (text : List ℕ) (reach : ℕ) → 1 ≤ base_length text → BeginsSsid (take reach (drop (base_length text) text))
    → BeginsCall (take (base_length text + reach) text)
begins_after_base text reach some (ssid, rest, h) =
    let b = base_length text in
    let call : CallSign = record { chars = padded (take b text); ssid = ssid } in
    let tail = take reach (drop b text) ++ rest in
    let e : take (b + reach) text ++ rest ≡ take b text ++ tail =
    ap (λ t. t ++ rest) (take_agrees text b reach) ∙ append_assoc (take b text) (take reach (drop b text)) rest in
    (call, rest, subst (CallText call) (sym e) (call_of call (take b text) tail (base_is text some) refl h))

-- A text whose base is followed by no SSID fails where it ceases to begin one.
pub fails_after_base : (text : List ℕ) (reach : ℕ) → 1 ≤ base_length text
    → ((ssid : ℕ) → SsidText ssid (drop (base_length text) text) → ⊥)
    → ReachesInSsid (drop (base_length text) text) reach → FailsAt text (base_length text + reach)
fails_after_base text reach some none reaches =
    let b = base_length text in
    let w = run_within 6 text in
    let tail_length : length (drop b text) ≡ length text - b = length-drop b text in
    record {
      none = λ call t. none call.ssid (cut_of call text t).ssid;
      begins = begins_after_base text reach some reaches.begins;
      inside = omega (arith, reaches.inside);
      longest = λ n k l (call, rest, t).
          let cut = cut_of call (take n text ++ rest) t in
          let same : base_length (take n text ++ rest) ≡ b = run_agrees 6 n text rest (omega arith) l in
          let ssid : SsidText call.ssid (drop b (take n text ++ rest)) = rw same at cut.ssid in
          reaches.longest (n - b) (omega arith) (omega arith) (call.ssid, rest, rw (drop_agrees text rest b n (omega arith) l) at ssid);
    }

pub one_call : (text : List ℕ) (one other : CallSign) → CallText one text → CallText other text → (one.chars ≡ other.chars) × (one.ssid ≡ other.ssid)
one_call text one other s t =
    let c = cut_of one text s in
    let d = cut_of other text t in
    (c.spelled ∙ sym d.spelled, one_ssid one.ssid other.ssid (drop (base_length text) text) c.ssid d.ssid)

-- a text, cut where its base ends
pub record IsSplit (text : List ℕ) (n : ℕ) (base rest : List ℕ) : Type 0 where
  pub at : n ≡ base_length text
  pub front : base ≡ take n text
  pub back : rest ≡ drop n text

pub split_made : (text octets base rest : List ℕ) (n : ℕ) → octets ≡ text → n ≡ base_length octets → base ≡ take n octets → rest ≡ drop n octets → IsSplit text n base rest
split_made text octets base rest n e at front back =
    record { at = at ∙ ap base_length e; front = front ∙ ap (take n) e; back = back ∙ ap (drop n) e }

-- its base has so many characters
pub split_length : (text : List ℕ) (n : ℕ) (base rest : List ℕ) → IsSplit text n base rest → (length base ≡ n) × (n ≤ 6)
split_length text n base rest s =
    let w = run_within 6 text in
    let e : n ≡ base_length text = s.at in
    let l : length (take n text) ≡ n = length-take-le n text (omega (arith, w.0)) in
    (ap length s.front ∙ l, omega (arith, w.1))

-- a text without a base fails at once
pub split_fails_at_once : (text : List ℕ) (n : ℕ) (base rest : List ℕ) → IsSplit text n base rest → length base ≡ 0 → FailsAt text 0
split_fails_at_once text n base rest s h =
    fails_at_once text (sym s.at ∙ sym (split_length text n base rest s).0 ∙ h)

-- one whose base is followed by no SSID fails there
pub split_fails_after : (text : List ℕ) (n : ℕ) (base rest : List ℕ) (reach : ℕ) → IsSplit text n base rest → (length base ≡ 0 → ⊥)
    → ((ssid : ℕ) → SsidText ssid rest → ⊥) → ReachesInSsid rest reach → FailsAt text (n + reach)
split_fails_after text n base rest reach s some none reaches =
    let l = split_length text n base rest s in
    let e : rest ≡ drop (base_length text) text = s.back ∙ ap (λ k. drop k text) s.at in
    let first : 1 ≤ base_length text = omega (arith, l.0, s.at, some) in
    subst (λ k. FailsAt text (k + reach)) (sym s.at)
    (fails_after_base text reach first (λ ssid t. none ssid (subst (SsidText ssid) (sym e) t))
    (subst (λ r. ReachesInSsid r reach) e reaches))

-- and one whose base is followed by an SSID is a call
pub split_is_call : (text : List ℕ) (n : ℕ) (base rest : List ℕ) (call : CallSign) → IsSplit text n base rest → (length base ≡ 0 → ⊥)
    → call.chars ≡ padded base → SsidText call.ssid rest → CallText call text
split_is_call text n base rest call s some spelled ssid =
    let l = split_length text n base rest s in
    let e : rest ≡ drop (base_length text) text = s.back ∙ ap (λ k. drop k text) s.at in
    let f : base ≡ take (base_length text) text = s.front ∙ ap (λ k. take k text) s.at in
    call_is call text (record {
      some = omega (arith, l.0, s.at, some);
      spelled = spelled ∙ ap padded f;
      ssid = subst (SsidText call.ssid) e ssid;
    })

-- a call that has a text is valid
pub call_valid : (call : CallSign) (text : List ℕ) → CallText call text → IsCall call
call_valid call text (base, is_base, spelled, range, cases) = record { spelled = (base, is_base, spelled); in_range = range }

char_no_blank : (c : ℕ) → IsTrue (is_call_char c) → is_no_blank c ≡ true
char_no_blank c h = grind (arith, nat_tests)

no_blank_base : (base : List ℕ) → AllChars base → filter is_no_blank base ≡ base
no_blank_base [] h = refl
no_blank_base (c ∷ base) h =
    let e = no_blank_base base h.1 in
    let yes : is_no_blank c ≡ true = char_no_blank c h.0 in
    ap (λ b. cond b (c ∷ filter is_no_blank base) (filter is_no_blank base)) yes ∙ ap (λ t. c ∷ t) e

no_blank_padding : (n : ℕ) → filter is_no_blank (replicate n 32) ≡ []
no_blank_padding zero = refl
no_blank_padding (suc n) = no_blank_padding n

-- a base without its padding
base_of_padded : (base : List ℕ) → AllChars base → filter is_no_blank (padded base) ≡ base
base_of_padded base h =
    filter-append is_no_blank base (replicate (6 - length base) 32)
    ∙ ap (λ t. filter is_no_blank base ++ t) (no_blank_padding (6 - length base))
    ∙ append-nil (filter is_no_blank base) ∙ no_blank_base base h

-- what is written of an SSID
ssid_written : (n : ℕ) → n ≤ 15 → SsidText n (ssid_text n)
ssid_written zero h = (h, inr (refl, refl))
ssid_written (suc n) h = let e : (suc n == 0) ≡ false = grind (arith, nat_tests) in (h, inl (ap (λ b. if b then [] else 45 ∷ ssid_digits (suc n)) e))

-- the blanks of the padding end what no blank is in
no_blank_run : (base : List ℕ) (n : ℕ) → AllChars base → prefix_len is_no_blank (base ++ replicate n 32) ≡ length base
no_blank_run [] zero h = refl
no_blank_run [] (suc n) h = refl
no_blank_run (c ∷ base) n h =
    let e = no_blank_run base n h.1 in
    let yes : is_no_blank c ≡ true = char_no_blank c h.0 in
    ap (λ b. cond b (1 + prefix_len is_no_blank (base ++ replicate n 32)) 0) yes ∙ ap (λ k. 1 + k) e ∙ omega arith

-- the characters before the first blank are those that are no blank
pub front_is_base : (chars : List ℕ) → IsSpelled chars → take (prefix_len is_no_blank chars) chars ≡ filter is_no_blank chars
front_is_base chars (base, is_base, spelled) =
    let all = recursion_from_All _ base is_base.2 in
    let n = 6 - length base in
    let run : prefix_len is_no_blank chars ≡ length base = ap (prefix_len is_no_blank) spelled ∙ no_blank_run base n all in
    let front : take (length base) chars ≡ base = ap (take (length base)) spelled ∙ take_front base (replicate n 32) in
    let none : filter is_no_blank chars ≡ base = ap (filter is_no_blank) spelled ∙ base_of_padded base all in
    ap (λ k. take k chars) run ∙ front ∙ sym none

-- they are ASCII
pub front_is_ascii : (chars : List ℕ) → IsSpelled chars → IsAscii (take (prefix_len is_no_blank chars) chars)
front_is_ascii chars (base, is_base, spelled) =
    let all = recursion_from_All _ base is_base.2 in
    let same = front_is_base chars (base, is_base, spelled) ∙ ap (filter is_no_blank) spelled ∙ base_of_padded base all in
    subst IsAscii (sym same) (base_is_ascii base all)
  where
    char_is_ascii : (c : ℕ) → IsTrue (is_call_char c) → c < 128
    char_is_ascii c h = grind (arith, nat_tests)

    base_is_ascii : (base : List ℕ) → AllChars base → IsAscii base
    base_is_ascii [] h i = omega arith
    base_is_ascii (c ∷ base) h zero = char_is_ascii c h.0
    base_is_ascii (c ∷ base) h (suc i) = base_is_ascii base h.1 i

-- the characters and then the SSID are the text
pub text_written :
    (call : CallSign) (none base first ssid text : List ℕ) → none ≡ [] → base ≡ filter is_no_blank call.chars → first ≡ none ++ base
    → ssid ≡ ssid_text call.ssid → text ≡ first ++ ssid → text ≡ call_text call
text_written call none base first ssid text nothing chars then_base number then_ssid =
    then_ssid ∙ ap (λ (t : List ℕ). t ++ ssid) (then_base ∙ ap (λ (t : List ℕ). t ++ base) nothing ∙ chars)
    ∙ ap (λ (t : List ℕ). filter is_no_blank call.chars ++ t) number

-- the text of a valid call is a text of it
pub call_text_is : (call : CallSign) → IsCall call → CallText call (call_text call)
call_text_is call valid =
    let (base, is_base, spelled) = valid.spelled in
    let e : filter is_no_blank call.chars ≡ base = ap (filter is_no_blank) spelled ∙ base_of_padded base (recursion_from_All _ base is_base.2) in
    let tail = ssid_text call.ssid in
    subst (CallText call) (ap (λ t. t ++ tail) (sym e)) (call_of call base tail is_base spelled (ssid_written call.ssid valid.in_range))
