-- The token at the front of octets.
use Rattle.std.proofs.Common.{◌≡◌, ℕ, ◌+◌, ◌*◌, ◌/◌, ◌%◌, ◌<◌, ◌≤◌, ◌==◌, List, [], ◌∷◌, ◌++◌, length, take, drop, slice_index, Bool, true, false, cond, inl, inr, Option, Some, None, Result, Ok, Err, refl, sym, ap, ◌∙◌, subst, arith, length-append}
use Rattle.selection.specs.declared.token.Relation.{Relation}
use Rattle.selection.proofs.Names.{nat_le, le-leb, leb-true, leb-false, eqb-true, eq-eqb, both_ways, cases_Bool, take_at, drop-drop, take-append-drop, length-take-le, All-take, All-drop, IsOctets, EqualTo, NotEqualTo, LessThan, AtMost, GreaterThan, AtLeast, Operator, And, Or, Not, TokenFault, Unknown, Ended, ComparisonValue, IsComparison, relation_octet, operator_octet, comparison_text, StartsUnknown, StartsCut, TokenValue, Comparing, Operating, token_len, relation_of, operator_of, comparison_in, read_comparison, read_operator, read_as, token_in}

abbrev IsOctet : ℕ → Type 0
IsOctet octet = octet < 256

-- what is found under an octet is what has that octet, and where nothing is found, nothing has
abbrev pub IsKnown : {X : Type 0} → (X → ℕ) → ℕ → Option X → Type 0
IsKnown code octet (Some x) = octet ≡ code x
IsKnown {X} code octet None = (x : X) → octet ≡ code x → ⊥

known_if : {X : Type 0} (code : X → ℕ) (octet n : ℕ) (x : X) (later : Option X) → n ≡ code x
    → ((octet ≡ n → ⊥) → IsKnown code octet later) → IsKnown code octet (cond (octet == n) (Some x) later)
known_if code octet n x later e h =
    elim (cases_Bool (octet == n)) [
      | inl known ↦ subst (λ (b : Bool). IsKnown code octet (cond b (Some x) later)) (sym known) (eqb-true octet n known ∙ e)
      | inr unknown ↦ subst (λ (b : Bool). IsKnown code octet (cond b (Some x) later)) (sym unknown) (h (λ same. both_ways _ unknown (eq-eqb octet n same)))
    ]

no_relation : (octet : ℕ) → (octet ≡ 0x10 → ⊥) → (octet ≡ 0x11 → ⊥) → (octet ≡ 0x12 → ⊥) → (octet ≡ 0x13 → ⊥) → (octet ≡ 0x14 → ⊥)
    → (octet ≡ 0x15 → ⊥) → (relation : Relation) → octet ≡ relation_octet relation → ⊥
no_relation octet a b c d e f EqualTo = a
no_relation octet a b c d e f NotEqualTo = b
no_relation octet a b c d e f LessThan = c
no_relation octet a b c d e f AtMost = d
no_relation octet a b c d e f GreaterThan = e
no_relation octet a b c d e f AtLeast = f

pub known_relation : (octet : ℕ) → IsKnown relation_octet octet (relation_of octet)
known_relation octet =
    known_if relation_octet octet 0x10 EqualTo _ refl
    (λ a. known_if relation_octet octet 0x11 NotEqualTo _ refl
    (λ b. known_if relation_octet octet 0x12 LessThan _ refl
    (λ c. known_if relation_octet octet 0x13 AtMost _ refl
    (λ d. known_if relation_octet octet 0x14 GreaterThan _ refl
    (λ e. known_if relation_octet octet 0x15 AtLeast None refl (λ f. no_relation octet a b c d e f))))))

no_operator : (octet : ℕ) → (octet ≡ 0x20 → ⊥) → (octet ≡ 0x21 → ⊥) → (octet ≡ 0x22 → ⊥) → (operator : Operator)
    → octet ≡ operator_octet operator → ⊥
no_operator octet a b c And = a
no_operator octet a b c Or = b
no_operator octet a b c Not = c

pub known_operator : (octet : ℕ) → IsKnown operator_octet octet (operator_of octet)
known_operator octet =
    known_if operator_octet octet 0x20 And _ refl
    (λ a. known_if operator_octet octet 0x21 Or _ refl
    (λ b. known_if operator_octet octet 0x22 Not None refl (λ c. no_operator octet a b c)))

relation_of-octet : (relation : Relation) → relation_of (relation_octet relation) ≡ Some relation
relation_of-octet EqualTo = refl
relation_of-octet NotEqualTo = refl
relation_of-octet LessThan = refl
relation_of-octet AtMost = refl
relation_of-octet GreaterThan = refl
relation_of-octet AtLeast = refl

-- nothing is found under an octet that nothing has
none_known : {X : Type 0} (code : X → ℕ) (octet : ℕ) (found : Option X) → IsKnown code octet found → ((x : X) → octet ≡ code x → ⊥)
    → found ≡ None
none_known code octet None known h = refl
none_known code octet (Some x) known h = absurd (h x known)

-- a token's octets, and which tokens have some
abbrev pub token_text : TokenValue → List ℕ
token_text (Comparing comparison) = comparison_text comparison
token_text (Operating operator) = operator_octet operator ∷ []

abbrev pub IsToken : TokenValue → Type 0
IsToken (Comparing comparison) = IsComparison comparison
IsToken (Operating operator) = Unit {0}

pub length-token_text : (token : TokenValue) → length (token_text token) ≡ token_len token
length-token_text (Comparing comparison) = omega arith
length-token_text (Operating operator) = refl

-- what stands at the front of octets, of which there are some
abbrev pub TokenAt : List ℕ → Result TokenValue TokenFault → Type 0
TokenAt octets (Ok token) = IsToken token × (octets ≡ token_text token ++ drop (token_len token) octets)
TokenAt octets (Err Unknown) = StartsUnknown octets
TokenAt octets (Err Ended) = StartsCut octets

-- a comparison at the front that is whole
whole_front : (relation : Relation) (x y z l : ℕ) (rest : List ℕ) → x ≡ relation_octet relation → IsOctets (x ∷ (y ∷ (z ∷ (l ∷ rest)))) → l ≤ length rest
    → TokenAt (x ∷ (y ∷ (z ∷ (l ∷ rest)))) (Ok (Comparing (comparison_in relation (x ∷ (y ∷ (z ∷ (l ∷ rest)))))))
whole_front relation x y z l rest same h whole =
    let hy : y < 256 = h 1 0 (omega arith) in
    let hz : z < 256 = h 2 0 (omega arith) in
    let hl : l < 256 = h 3 0 (omega arith) in
    let low : (y + 256 * z) % 256 ≡ y = omega arith in
    let high : (y + 256 * z) / 256 % 256 ≡ z = omega arith in
    let len : length (take l rest) ≡ l = length-take-le l rest whole in
    let octets : List ℕ = x ∷ (y ∷ (z ∷ (l ∷ rest))) in
    let back : drop (4 + length (take l rest)) octets ≡ drop l rest = ap (λ (n : ℕ). drop (4 + n) octets) len ∙ sym (drop-drop l 4 octets) in
    let build : ℕ → ℕ → ℕ → ℕ → List ℕ → List ℕ = λ a b c d t. a ∷ (b ∷ (c ∷ (d ∷ t))) in (
      record { id = omega arith; octets = All-take IsOctet l rest (All-drop IsOctet 4 octets h); most = omega arith },
      sym
          (ap (λ (t : List ℕ). build (relation_octet relation) ((y + 256 * z) % 256) ((y + 256 * z) / 256 % 256) (length (take l rest)) (take l rest ++ t)) back
          ∙ ap (λ (t : List ℕ). build (relation_octet relation) ((y + 256 * z) % 256) ((y + 256 * z) / 256 % 256) (length (take l rest)) t) (take-append-drop l rest)
          ∙ ap (λ (n : ℕ). build (relation_octet relation) ((y + 256 * z) % 256) ((y + 256 * z) / 256 % 256) n rest) len
          ∙ ap (λ (n : ℕ). build (relation_octet relation) ((y + 256 * z) % 256) n l rest) high
          ∙ ap (λ (n : ℕ). build (relation_octet relation) n z l rest) low
          ∙ ap (λ (n : ℕ). build n y z l rest) (sym same)),
    )

-- the text of a comparison has a fourth octet, and as many as that says
text_whole : (comparison : ComparisonValue) (later : List ℕ)
    → 4 + slice_index (comparison_text comparison ++ later) 3 ≤ length (comparison_text comparison ++ later)
text_whole comparison later = omega (arith, length-append comparison.constant later)

-- a comparison begins that isn't whole
cut_front : (relation : Relation) (x : ℕ) (xs : List ℕ) → x ≡ relation_octet relation
    → length (x ∷ xs) < 4 + slice_index (x ∷ xs) 3 → StartsCut (x ∷ xs)
cut_front relation x xs same short = (
  relation,
  xs,
  ap (λ (n : ℕ). n ∷ xs) same,
  λ comparison others is e.
      let whole : 4 + slice_index (x ∷ xs) 3 ≤ length (x ∷ xs) =
      subst (λ (t : List ℕ). 4 + slice_index t 3 ≤ length t) (sym e) (text_whole comparison others) in
      omega arith,
)

whole_comparison : (relation : Relation) (octets : List ℕ) → IsOctets octets → (x : ℕ) (xs : List ℕ) → octets ≡ x ∷ xs → x ≡ relation_octet relation
    → 4 + slice_index octets 3 ≤ length octets → TokenAt octets (Ok (Comparing (comparison_in relation octets)))
whole_comparison relation [] h x xs e same le = absurd (omega arith)
whole_comparison relation (a ∷ []) h x xs e same le = absurd (omega arith)
whole_comparison relation (a ∷ (b ∷ [])) h x xs e same le = absurd (omega arith)
whole_comparison relation (a ∷ (b ∷ (c ∷ []))) h x xs e same le = absurd (omega arith)
whole_comparison relation (a ∷ (b ∷ (c ∷ (l ∷ rest)))) h x xs e same le =
    let first : a ≡ x = cc in
    whole_front relation a b c l rest (first ∙ same) h (omega arith)

comparison_found : (relation : Relation) (x : ℕ) (xs : List ℕ) → IsOctets (x ∷ xs) → x ≡ relation_octet relation
    → TokenAt (x ∷ xs) (read_comparison relation (x ∷ xs))
comparison_found relation x xs h same =
    let octets : List ℕ = x ∷ xs in
    elim (cases_Bool (nat_le (4 + slice_index octets 3) (length octets))) [
      | inl known ↦
          subst (λ (b : Bool). TokenAt octets (cond b (Ok (Comparing (comparison_in relation octets))) (Err Ended))) (sym known)
          (whole_comparison relation octets h x xs refl same (leb-true _ _ known))
      | inr unknown ↦
          subst (λ (b : Bool). TokenAt octets (cond b (Ok (Comparing (comparison_in relation octets))) (Err Ended))) (sym unknown)
          (cut_front relation x xs same (leb-false _ _ unknown))
    ]

operator_found : (x : ℕ) (xs : List ℕ) → ((relation : Relation) → x ≡ relation_octet relation → ⊥) → (found : Option Operator)
    → IsKnown operator_octet x found → TokenAt (x ∷ xs) (read_operator found)
operator_found x xs none (Some operator) known = (tt, ap (λ (n : ℕ). n ∷ xs) known)
operator_found x xs none None known = (x, xs, refl, record { no_relation = none; no_operator = known })

found_as : (x : ℕ) (xs : List ℕ) → IsOctets (x ∷ xs) → (found : Option Relation) → IsKnown relation_octet x found
    → TokenAt (x ∷ xs) (read_as found (x ∷ xs))
found_as x xs h (Some relation) known = comparison_found relation x xs h known
found_as x xs h None known = operator_found x xs known (operator_of x) (known_operator x)

-- what is read at the front stands there
pub token_found : (x : ℕ) (xs : List ℕ) → IsOctets (x ∷ xs) → TokenAt (x ∷ xs) (token_in (x ∷ xs))
unfolding token_in
token_found x xs h = found_as x xs h (relation_of x) (known_relation x)

abbrev comparison_record : Relation → ℕ → List ℕ → ComparisonValue
comparison_record relation id constant = record { relation = relation; id = id; constant = constant }

-- the text of a comparison is read as it
pub token_in-comparison : (comparison : ComparisonValue) (later : List ℕ) → IsComparison comparison
    → token_in (comparison_text comparison ++ later) ≡ Ok (Comparing comparison)
unfolding token_in
token_in-comparison comparison later is =
    let octets : List ℕ = comparison_text comparison ++ later in
    let below = is.id in
    let id : comparison.id % 256 + 256 * (comparison.id / 256 % 256) ≡ comparison.id = omega arith in
    let whole : nat_le (4 + slice_index octets 3) (length octets) ≡ true = le-leb _ _ (text_whole comparison later) in
    ap (λ (found : Option Relation). read_as found octets) (relation_of-octet comparison.relation)
    ∙ ap (λ (b : Bool). cond b (Ok (Comparing (comparison_in comparison.relation octets))) (Err Ended)) whole
    ∙ ap (λ (n : ℕ). Ok (Comparing (comparison_record comparison.relation n (take (length comparison.constant) (comparison.constant ++ later))))) id
    ∙ ap (λ (c : List ℕ). Ok (Comparing (comparison_record comparison.relation comparison.id c)))
    (take_at comparison.constant later (length comparison.constant) refl)

-- an operator's octet is read as it
pub token_in-operator : (operator : Operator) (later : List ℕ) → token_in (operator_octet operator ∷ later) ≡ Ok (Operating operator)
unfolding token_in
token_in-operator And later = refl
token_in-operator Or later = refl
token_in-operator Not later = refl

-- an unknown octet is read as one
pub token_in-unknown : (octets : List ℕ) → StartsUnknown octets → token_in octets ≡ Err Unknown
unfolding token_in
token_in-unknown octets h =
    let octet = h.0 in
    ap (λ (t : List ℕ). token_in t) h.2
    ∙ ap (λ (found : Option Relation). read_as found (octet ∷ h.1))
    (none_known relation_octet octet (relation_of octet) (known_relation octet) h.3.no_relation)
    ∙ ap (λ (found : Option Operator). read_operator found)
    (none_known operator_octet octet (operator_of octet) (known_operator octet) h.3.no_operator)

-- and a comparison that the octets end within as one
pub token_in-cut : (octets : List ℕ) → IsOctets octets → StartsCut octets → token_in octets ≡ Err Ended
unfolding token_in
token_in-cut octets h cut =
    let relation = cut.0 in
    let front : List ℕ = relation_octet relation ∷ cut.1 in
    let short : nat_le (4 + slice_index octets 3) (length octets) ≡ false =
    elim (cases_Bool (nat_le (4 + slice_index octets 3) (length octets))) [
      | inr unknown ↦ unknown
      | inl known ↦
          let whole = whole_comparison relation octets h (relation_octet relation) cut.1 cut.2 refl (leb-true _ _ known) in
          absurd (cut.3 (comparison_in relation octets) (drop (4 + length (comparison_in relation octets).constant) octets) whole.0 whole.1)
    ] in
    ap (λ (t : List ℕ). read_as (relation_of (slice_index t 0)) octets) cut.2
    ∙ ap (λ (found : Option Relation). read_as found octets) (relation_of-octet relation)
    ∙ ap (λ (b : Bool). cond b (Ok (Comparing (comparison_in relation octets))) (Err Ended)) short
