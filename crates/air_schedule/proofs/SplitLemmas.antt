-- What is cut off a text or a line at its first LF or blank.
use Rattle.std.proofs.Common.{◌≡◌, ◌≢◌, ℕ, ◌+◌, ◌<◌, Bool, false, List, [], ◌∷◌, length, take, drop, Bor, Option, Some, None, refl, ap, ◌∙◌, inl, inr, eqb, get_or, arith}
use Rattle.std.proofs.lemmas.Grind.{common_steps}
use Rattle.std.proofs.lemmas.List.Quantifiers.{position-Some}
use Rattle.std.proofs.lemmas.Str.Pattern.{IsSplitOnceResult, split_parts}
use Rattle.air_schedule.proofs.Names.{MatchOption, All, position, position_or_len, cases_lt, eqb_tells, All-from_get_or, slice_split_at, slice_split_first, slice_split_none, fails_before_first, position_or_len_is, parts_of, words_of}

is_end : ℕ → Bool
is_end octet = eqb octet 10

apart : (a b : ℕ) → a ≢ b → eqb a b ≡ false
apart a b h = elim (eqb_tells a b) [ inl e ↦ absurd (h e.1) | inr e ↦ e.0 ]

lacks : (c : ℕ) (text : List ℕ) → ((i : ℕ) → i < length text → get_or text i 0 ≢ c) → All (λ octet. eqb octet c ≡ false) text
lacks c text h = All-from_get_or (λ octet. eqb octet c ≡ false) text 0 (λ i below. apart _ c (h i below))

pub first_word : (line : List ℕ) (r : Option (Bor (List ℕ) × Bor (List ℕ))) → IsSplitOnceResult 32 line r
    → MatchOption r (words_of line ≡ line ∷ []) (λ parts. words_of line ≡ parts.0.now ∷ words_of parts.1.now)
first_word line None h = slice_split_none (λ octet. eqb octet 32) line (lacks 32 line (split_parts 32 line None h (omega arith)))
first_word line (Some parts) h =
    let cut = split_parts 32 line (Some parts) h (omega arith) in
    ap words_of cut.0 ∙ slice_split_at (λ octet. eqb octet 32) parts.0.now 32 parts.1.now (lacks 32 parts.0.now cut.1) refl

-- if there is no LF
pub no_line : (text : List ℕ) → position (λ octet. eqb octet 10) text ≡ None → parts_of text ≡ text ∷ []
no_line text h = elim (cases_lt (position_or_len (λ octet. eqb octet 10) text) (length text)) [
  | inl below ↦ absurd (grind (arith, common_steps, below, h))
  | inr past ↦ slice_split_none (λ octet. eqb octet 10) text
      (λ k d below. fails_before_first (λ octet. eqb octet 10) text k d (omega arith))
]

-- if the first LF is at this place
pub first_line : (text : List ℕ) (end : ℕ) → position (λ octet. eqb octet 10) text ≡ Some end
    → (end < length text) × (parts_of text ≡ take end text ∷ parts_of (drop (end + 1) text))
first_line text end h =
    let found = position-Some (λ octet. eqb octet 10) text end 0 h in
    let place : position_or_len (λ octet. eqb octet 10) text ≡ end
    = position_or_len_is (λ octet. eqb octet 10) text end 0 (omega arith) found.2 (λ _. found.1) in
    let cut = slice_split_first (λ octet. eqb octet 10) text 0 (omega arith) in
    (found.0, rw place at cut)
