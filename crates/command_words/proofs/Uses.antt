-- What the words after COMMAND give, one after another: each use of an option or a place, as a name with a value.
use Rattle.std.proofs.Common.{◌≡◌, ◌≤◌, ℕ, Bool, true, false, cond, List, [], ◌∷◌, ◌++◌, length, Option, None, Some, refl, sym, ap, ◌∙◌, subst, arith, append_assoc, append-nil, length-append, true≢false, inl, inr}
use Rattle.std.proofs.lemmas.List.Concat.{flat_map-append}
use Rattle.std.proofs.lemmas.Slice.Eq.{bytes_eq-Decides}
use Rattle.command_words.proofs.Names.{flat_map, list_any, bytes_eq, cases_Bool, or_parts}

abbrev pub Text : Type 0
Text = List ℕ

abbrev pub Use : Type 0
Use = Text × Text

abbrev pub Uses : Type 0
Uses = List Use

-- a use has this name
abbrev pub has : Text → Uses → Bool
has name uses = list_any (λ u. bytes_eq u.0 name) uses

-- the value of a use, where it has this name
abbrev pub value_of : Text → Use → List Text
value_of name u = cond (bytes_eq u.0 name) (u.1 ∷ []) []

-- the values of a name
abbrev pub values : Text → Uses → List Text
values name uses = flat_map (value_of name) uses

-- one more use, of a name that has none yet
abbrev pub add : Use → Option Uses → Option Uses
add u None = None
add u (Some uses) = cond (has u.0 uses) None (Some (uses ++ u ∷ []))

-- and so of more uses, one after another
abbrev pub add_all : Option Uses → Uses → Option Uses
add_all before [] = before
add_all before (u ∷ more) = add_all (add u before) more

pub text_same : (a b : Text) → bytes_eq a b ≡ true → a ≡ b
text_same a b e = (bytes_eq-Decides a b).0 e

pub text_eq : (a b : Text) → a ≡ b → bytes_eq a b ≡ true
text_eq a b e = (bytes_eq-Decides a b).1 e

pub add_all-none : (more : Uses) → add_all None more ≡ None
add_all-none [] = refl
add_all-none (u ∷ more) = add_all-none more

-- nothing is added but the uses themselves
pub add_all-is : (more before all : Uses) → add_all (Some before) more ≡ Some all → all ≡ before ++ more
add_all-is [] before all e = let same : before ≡ all = cc in sym same ∙ sym (append-nil before)
add_all-is (u ∷ more) before all e = elim (cases_Bool (has u.0 before)) [
  | inl is ↦
      let gone : add_all None more ≡ Some all = rw is at e in
      let none : None ≡ Some all = sym (add_all-none more) ∙ gone in
      absurd cc
  | inr is ↦
      let rest : add_all (Some (before ++ u ∷ [])) more ≡ Some all = rw is at e in
      add_all-is more (before ++ u ∷ []) all rest ∙ append_assoc before (u ∷ []) more
]

-- a name that a use has, has a value
pub has-values : (name : Text) (uses : Uses) → has name uses ≡ true → 1 ≤ length (values name uses)
has-values name [] e = absurd (true≢false (sym e))
has-values name (u ∷ uses) e = elim (cases_Bool (bytes_eq u.0 name)) [
  | inl is ↦ rw is (omega arith)
  | inr is ↦
      let more : has name uses ≡ true = rw is at e in
      rw is (has-values name uses more)
]

-- and one that none has, has none
pub has-none : (name : Text) (uses : Uses) → has name uses ≡ false → values name uses ≡ []
has-none name [] e = refl
has-none name (u ∷ uses) e =
    let parts = or_parts (bytes_eq u.0 name) (has name uses) e in
    rw parts.0 (has-none name uses parts.1)

-- Uses of which no two have one name are all added.
pub add_all-some : (more before : Uses) → ((name : Text) → length (values name (before ++ more)) ≤ 1) → add_all (Some before) more ≡ Some (before ++ more)
add_all-some [] before single = ap (λ (uses : Uses). Some uses) (sym (append-nil before))
add_all-some (u ∷ more) before single = elim (cases_Bool (has u.0 before)) [
  | inl is ↦
      let one : 1 ≤ length (values u.0 before) = has-values u.0 before is in
      let other : 1 ≤ length (values u.0 (u ∷ more)) = rw (text_eq u.0 u.0 refl) (omega arith) in
      let both : length (values u.0 before ++ values u.0 (u ∷ more)) ≤ 1 =
      subst (λ (texts : List Text). length texts ≤ 1) (flat_map-append (value_of u.0) before (u ∷ more)) (single u.0) in
      absurd (omega (arith, length-append (values u.0 before) (values u.0 (u ∷ more))))
  | inr is ↦
      let shift : (before ++ u ∷ []) ++ more ≡ before ++ u ∷ more = append_assoc before (u ∷ []) more in
      rw is
      (add_all-some more (before ++ u ∷ []) (λ name. subst (λ (uses : Uses). length (values name uses) ≤ 1) (sym shift) (single name))
      ∙ ap (λ (uses : Uses). Some uses) shift)
]

-- a use of a name that has none yet, beside uses of which no two have one name
one_more : (name : Text) (uses : Uses) (u : Use) → has u.0 uses ≡ false → length (values name uses) ≤ 1 → length (values name (uses ++ u ∷ [])) ≤ 1
one_more name uses u new single = elim (cases_Bool (bytes_eq u.0 name)) [
  | inl is ↦
      let none : values name uses ≡ [] = subst (λ (text : Text). values text uses ≡ []) (text_same u.0 name is) (has-none u.0 uses new) in
      rw (flat_map-append (value_of name) uses (u ∷ []), none, is) (omega arith)
  | inr is ↦ rw (flat_map-append (value_of name) uses (u ∷ []), is, append-nil (values name uses)) single
]

-- Where all uses were added, no two have one name.
pub add_all-single : (more before all : Uses) (name : Text) → length (values name before) ≤ 1 → add_all (Some before) more ≡ Some all
    → length (values name all) ≤ 1
add_all-single [] before all name single e = let same : before ≡ all = cc in rw (← same) single
add_all-single (u ∷ more) before all name single e = elim (cases_Bool (has u.0 before)) [
  | inl is ↦
      let gone : add_all None more ≡ Some all = rw is at e in
      let none : None ≡ Some all = sym (add_all-none more) ∙ gone in
      absurd cc
  | inr is ↦
      let rest : add_all (Some (before ++ u ∷ [])) more ≡ Some all = rw is at e in
      add_all-single more (before ++ u ∷ []) all name (one_more name before u is single) rest
]
