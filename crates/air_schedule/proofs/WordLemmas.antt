-- Lemmas on words: what they are made of, and that nothing parts one.
use Rattle.std.proofs.Common.{◌≡◌, ℕ, ◌<◌, ◌≤◌, ◌^◌, Bool, true, false, List, [], ◌∷◌, codes, decimal, refl, sym, ap, ◌∙◌, subst, inl, inr, Ok, eqb, ltb, bytes_eq, get_or, arith, ◌≢◌}
use Rattle.std.proofs.lemmas.Str.{IsUtf8-append, IsUtf8-from_ascii, IsUtf8-nil}
use Rattle.std.proofs.lemmas.Str.Ascii.{IsAscii-from_all}
use Rattle.std.proofs.lemmas.Str.Parse.{digit_at}
use Rattle.air_schedule.proofs.Names.{IsTrue, not, All, AllByRecursion, join_with_byte, list_all, IsUtf8, false≢true, ltb-true, true≢false, nat_tests, decimal_is_IsNumeral, All-append, All-cons, All-from_get_or, All-from_recursion, join_with_byte-slice_split, slice_split_none, AllPass-from_list_all, bytes_eq-Decides, decode_of, is_hex_digit, decode_of-ok, CallSign, CallText, is_call_char, ssid_digits, words_of}

-- a printing character of ASCII that isn't the blank
abbrev IsPrinting : ℕ → Type 0
IsPrinting c = (33 ≤ c) × (c < 127)

-- such characters alone
abbrev pub IsWord : List ℕ → Type 0
IsWord word = All IsPrinting word

no_blank : (c : ℕ) → IsPrinting c → eqb c 32 ≡ false
no_blank c h = grind (arith, nat_tests, h.0)

-- a word by itself is one word
pub words_of-word : (word : List ℕ) → IsWord word → words_of word ≡ word ∷ []
words_of-word word h = slice_split_none (λ c. eqb c 32) word (λ k d below. no_blank _ (h k d below))

-- and what is one word is that word
pub sole_word : (text word : List ℕ) → words_of text ≡ word ∷ [] → text ≡ word
sole_word text word h = sym (join_with_byte-slice_split 32 text) ∙ ap (join_with_byte 32) h

pub IsWord-decimal : (n : ℕ) → n < 2 ^ 64 → IsWord (decimal n)
IsWord-decimal n h = All-from_get_or IsPrinting (decimal n) 0 (λ i below.
    let digit = digit_at (decimal n) i (decimal_is_IsNumeral n h).0.1 below in
    (omega arith, omega arith))

hex_prints : (c : ℕ) → is_hex_digit c ≡ true → IsPrinting c
hex_prints c h = grind (arith, nat_tests, h)

pub IsWord-hex : (hex tokens : List ℕ) → decode_of hex ≡ Ok tokens → IsWord hex
IsWord-hex hex tokens h = λ k d below. hex_prints _ ((decode_of-ok hex tokens h).1 k d below)

call_prints : (c : ℕ) → IsTrue (is_call_char c) → IsPrinting c
call_prints c h = grind (arith, nat_tests, h)

IsWord-ssid : (ssid : ℕ) → ssid ≤ 15 → IsWord (ssid_digits ssid)
IsWord-ssid ssid h = All-from_recursion IsPrinting (ssid_digits ssid) (grind (arith, nat_tests))

pub IsWord-call : (call : CallSign) (text : List ℕ) → CallText call text → IsWord text
IsWord-call call text (base, is_base, chars, few, written) =
    let front : IsWord base = λ k d below. call_prints _ (is_base.2 k d below) in
    elim written [
      | inl e ↦ subst IsWord (sym e) (All-append IsPrinting base _ front
          (All-cons IsPrinting 45 _ (omega arith, omega arith) (IsWord-ssid call.ssid few)))
      | inr e ↦ subst IsWord (sym e.1) front
    ]

-- a word is text, and so is a line of words
abbrev pub IsText : List ℕ → Type 0
IsText = IsUtf8

text_of_word : (word : List ℕ) → IsWord word → IsText word
text_of_word word h = IsUtf8-from_ascii word (IsAscii-from_all word (λ k d below. let c = h k d below in omega arith))

pub text : (word : List ℕ) → list_all (λ c. ltb c 128) word ≡ true → IsText word
text word h = IsUtf8-from_ascii word (IsAscii-from_all word
    (λ k d below. ltb-true _ 128 (AllPass-from_list_all (λ c. ltb c 128) word h k d below)))

pub IsText-decimal : (n : ℕ) → n < 2 ^ 64 → IsText (decimal n)
IsText-decimal n h = text_of_word (decimal n) (IsWord-decimal n h)

pub IsText-hex : (hex tokens : List ℕ) → decode_of hex ≡ Ok tokens → IsText hex
IsText-hex hex tokens h = text_of_word hex (IsWord-hex hex tokens h)

pub IsText-call : (call : CallSign) (word : List ℕ) → CallText call word → IsText word
IsText-call call word h = text_of_word word (IsWord-call call word h)

pub IsUtf8-joined : (words : List (List ℕ)) → AllByRecursion IsText words → IsUtf8 (join_with_byte 32 words)
IsUtf8-joined [] h = IsUtf8-nil
IsUtf8-joined (word ∷ []) h = h.0
IsUtf8-joined (word ∷ (next ∷ words)) h =
    IsUtf8-append word (32 ∷ join_with_byte 32 (next ∷ words)) h.0
    (IsUtf8-append (32 ∷ []) (join_with_byte 32 (next ∷ words)) (text (32 ∷ []) refl) (IsUtf8-joined (next ∷ words) h.1))

-- what a comparison of two words says
pub same_words : (word other : List ℕ) → not (bytes_eq word other) ≡ false → word ≡ other
same_words word other h = (bytes_eq-Decides word other).0 (turned (bytes_eq word other) h)
  where
    turned : (b : Bool) → not b ≡ false → b ≡ true
    turned true h = refl
    turned false h = absurd (true≢false h)

pub other_words : (word other : List ℕ) → bytes_eq word other ≡ false → word ≢ other
other_words word other h = λ e. false≢true (sym h ∙ (bytes_eq-Decides word other).1 e)

-- no number is written as a station is called
pub no_station : (n : ℕ) → n < 2 ^ 64 → decimal n ≡ codes "server" → ⊥
no_station n h e =
    let numeral = (decimal_is_IsNumeral n h).0 in
    let digit = digit_at (decimal n) 0 numeral.1 numeral.0 in
    let first : get_or (decimal n) 0 0 ≡ 115 = ap (λ word. get_or word 0 0) e in
    omega arith
