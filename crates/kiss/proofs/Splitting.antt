-- What the parts of a list of octets are after a FEND.
use Rattle.std.proofs.Common.{◌≡◌, ◌≢◌, ℕ, List, [], ◌∷◌, ◌++◌, map, refl, sym, ap, ◌∙◌, ⊎_elim, append-nil}
use Rattle.std.proofs.lemmas.List.Splits.{slice_split-cons_no, slice_split-cons_yes}
use Rattle.kiss.proofs.Names.{slice_split, onto_first, filter, cases_Bool, ne_eqb, Part, fend, is_fend, part_of, unescape, but_last, has_octets, kiss_parts, HasNoFend}

-- the parts of pieces, of which the last isn't ended
abbrev pub parts_of_split : List (List ℕ) → List Part
parts_of_split split = map (λ piece. part_of (unescape piece)) (filter has_octets (but_last split))

-- the parts of what comes after a FEND
abbrev pub after_fend : List ℕ → List Part
after_fend later = parts_of_split (slice_split is_fend later)

pub kiss_parts-fend : (later : List ℕ) → kiss_parts (fend ∷ later) ≡ after_fend later
unfolding kiss_parts
kiss_parts-fend later = refl

-- a split has a first piece
pub split_form : (xs : List ℕ) → (piece : List ℕ) × (rest : List (List ℕ)) × (slice_split is_fend xs ≡ piece ∷ rest)
split_form [] = ([], [], refl)
split_form (x ∷ xs) = ⊎_elim
    (λ yes. ([], slice_split is_fend xs, slice_split-cons_yes is_fend x xs yes))
    (λ no. let (piece, rest, e) = split_form xs in (x ∷ piece, rest, slice_split-cons_no is_fend x xs no ∙ ap (onto_first x) e))
    (cases_Bool (is_fend x))

-- octets without a FEND go onto the first piece
pub split_front : (u later piece : List ℕ) (rest : List (List ℕ)) → HasNoFend u → slice_split is_fend later ≡ piece ∷ rest
    → slice_split is_fend (u ++ later) ≡ (u ++ piece) ∷ rest
split_front [] later piece rest none e = e
split_front (x ∷ u) later piece rest none e =
    slice_split-cons_no is_fend x (u ++ later) (ne_eqb x fend none.0) ∙ ap (onto_first x) (split_front u later piece rest none.1 e)

-- a FEND ends the piece before it
pub after_fend-piece : (x : ℕ) (u later : List ℕ) → HasNoFend (x ∷ u)
    → after_fend ((x ∷ u) ++ fend ∷ later) ≡ part_of (unescape (x ∷ u)) ∷ after_fend later
after_fend-piece x u later none =
    let (piece, rest, e) = split_form later in
    let whole : slice_split is_fend ((x ∷ u) ++ fend ∷ later) ≡ (x ∷ u) ∷ slice_split is_fend later
    = split_front (x ∷ u) (fend ∷ later) [] (slice_split is_fend later) none refl ∙ ap (λ (front : List ℕ). (x ∷ front) ∷ slice_split is_fend later) (append-nil u) in
    rw (whole, e) refl

-- what begins a piece may be replaced by what makes the same of it, however it goes on
pub after_fend-swap : (x y : ℕ) (u v later : List ℕ) → HasNoFend (x ∷ u) → HasNoFend (y ∷ v)
    → ((rest : List ℕ) → part_of (unescape ((x ∷ u) ++ rest)) ≡ part_of (unescape ((y ∷ v) ++ rest)))
    → after_fend ((x ∷ u) ++ later) ≡ after_fend ((y ∷ v) ++ later)
after_fend-swap x y u v later none none' same =
    let (piece, rest, e) = split_form later in
    ap parts_of_split (split_front (x ∷ u) later piece rest none e)
    ∙ swap piece rest
    ∙ sym (ap parts_of_split (split_front (y ∷ v) later piece rest none' e))
  where
    swap : (piece : List ℕ) (rest : List (List ℕ)) → parts_of_split (((x ∷ u) ++ piece) ∷ rest) ≡ parts_of_split (((y ∷ v) ++ piece) ∷ rest)
    swap piece [] = refl
    swap piece (next ∷ rest) = ap (λ part. part ∷ parts_of_split (next ∷ rest)) (same piece)

-- an octet before the first FEND has no part
pub kiss_parts-before : (x : ℕ) (later : List ℕ) → x ≢ fend → kiss_parts (x ∷ later) ≡ kiss_parts later
unfolding kiss_parts
kiss_parts-before x later other =
    let (piece, rest, e) = split_form later in
    rw (slice_split-cons_no is_fend x later (ne_eqb x fend other), e) refl

-- octets without a FEND are one piece
pub one_piece : (u : List ℕ) → HasNoFend u → slice_split is_fend u ≡ u ∷ []
one_piece u none = ap (slice_split is_fend) (sym (append-nil u)) ∙ split_front u [] [] [] none refl ∙ ap (λ (piece : List ℕ). piece ∷ []) (append-nil u)

-- what was ended is all there is, where nothing is kept back
pub ends_with : (parts : List Part) (heard all : List ℕ) → kiss_parts heard ≡ [] → parts ++ kiss_parts (heard ++ []) ≡ kiss_parts (all ++ []) → parts ≡ kiss_parts all
ends_with parts heard all none e =
    sym (ap (λ (rest : List Part). parts ++ rest) (ap kiss_parts (append-nil heard) ∙ none) ∙ append-nil parts) ∙ e ∙ ap kiss_parts (append-nil all)

-- octets without a FEND have no part
pub no_part : (u : List ℕ) → HasNoFend u → kiss_parts u ≡ []
unfolding kiss_parts
no_part u none = rw (one_piece u none) refl

-- nor have those after the last FEND
pub no_part_after : (u : List ℕ) → HasNoFend u → kiss_parts (fend ∷ u) ≡ []
no_part_after u none = kiss_parts-fend u ∙ rw (one_piece u none) refl

-- nor have those before the first
pub kiss_parts-first : (before later : List ℕ) → HasNoFend before → kiss_parts (before ++ later) ≡ kiss_parts later
kiss_parts-first [] later none = refl
kiss_parts-first (x ∷ before) later none = kiss_parts-before x (before ++ later) none.0 ∙ kiss_parts-first before later none.1
