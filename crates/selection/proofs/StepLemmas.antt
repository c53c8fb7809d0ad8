-- How many operands stand after a token.
use Rattle.std.proofs.Common.{◌≡◌, ℕ, zero, suc, ◌+◌, ◌-◌, ◌<◌, ◌≤◌, List, [], ◌∷◌, length, take, drop, Option, Some, None, Result, Ok, Err, refl, sym, ap, subst, ◌∙◌, arith}
use Rattle.selection.proofs.Names.{IsOk, drop-drop, take_rest, SelFault, Empty, Many, Few, Left, Operator, And, Or, Not, TokenFault, Tree, NotOf, AndOf, OrOf, operands_of, TokenValue, token_len, token_in, operated, trees_after, with_trees, step_by, go_on, trees_from, one_of, tree_in, CountsAs, LeavesAs, StepsAs}

pub operated_as : (operator : Operator) (trees : List Tree) (count : ℕ) → length trees ≡ count → operands_of operator ≤ count
    → LeavesAs (Some (count + 1 - operands_of operator)) (operated operator trees)
operated_as Not [] count e enough = absurd (omega arith)
operated_as Not (last ∷ earlier) count e enough = (NotOf last ∷ earlier, refl, omega arith)
operated_as And [] count e enough = absurd (omega arith)
operated_as And (last ∷ []) count e enough = absurd (omega arith)
operated_as And (last ∷ (first ∷ earlier)) count e enough = (AndOf first last ∷ earlier, refl, omega arith)
operated_as Or [] count e enough = absurd (omega arith)
operated_as Or (last ∷ []) count e enough = absurd (omega arith)
operated_as Or (last ∷ (first ∷ earlier)) count e enough = (OrOf first last ∷ earlier, refl, omega arith)

pub stepped : (place count : ℕ) (trees : List Tree) (token : TokenValue) (read : Result TokenValue TokenFault) → read ≡ Ok token
    → LeavesAs (Some count) (trees_after token trees) → StepsAs (Ok (token_len token, count)) (step_by place trees read)
stepped place count trees token read e after = (
  after.0,
  ap (λ (r : Result TokenValue TokenFault). step_by place trees r) e ∙ ap (λ (o : Option (List Tree)). with_trees place (token_len token) o) after.1,
  after.2,
)

pub lacked : (place : ℕ) (trees : List Tree) (token : TokenValue) (read : Result TokenValue TokenFault) → read ≡ Ok token
    → LeavesAs None (trees_after token trees) → step_by place trees read ≡ Err (Few place)
lacked place trees token read e none =
    ap (λ (r : Result TokenValue TokenFault). step_by place trees r) e ∙ ap (λ (o : Option (List Tree)). with_trees place (token_len token) o) none

pub no_operands : (operator : Operator) (trees : List Tree) → length trees < operands_of operator → operated operator trees ≡ None
no_operands Not [] few = refl
no_operands Not (last ∷ earlier) few = absurd (omega arith)
no_operands And [] few = refl
no_operands And (last ∷ []) few = refl
no_operands And (last ∷ (first ∷ earlier)) few = absurd (omega arith)
no_operands Or [] few = refl
no_operands Or (last ∷ []) few = refl
no_operands Or (last ∷ (first ∷ earlier)) few = absurd (omega arith)

pub nonempty : (xs : List ℕ) (n : ℕ) → n < length xs → 0 < length (drop n xs)
nonempty [] n h = absurd (omega arith)
nonempty (x ∷ xs) zero h = omega arith
nonempty (x ∷ xs) (suc n) h = nonempty xs n (omega arith)

pub none_left : (xs : List ℕ) (i : ℕ) → length xs ≤ i → drop i xs ≡ []
none_left [] zero h = refl
none_left [] (suc i) h = refl
none_left (x ∷ xs) zero h = absurd (omega arith)
none_left (x ∷ xs) (suc i) h = none_left xs i (omega arith)

-- what the walk gives, by the next token
walk-by : (most place : ℕ) (trees : List Tree) (rest : List ℕ) (step : Result (ℕ × List Tree) SelFault) → 0 < most → 0 < length rest
    → step_by place trees (token_in rest) ≡ step
    → trees_from most place trees rest ≡ go_on step (λ len after. trees_from (most - 1) (place + len) after (drop len rest))
unfolding trees_from
walk-by zero place trees rest step h k same = absurd (omega arith)
walk-by (suc most) place trees [] step h k same = absurd (omega arith)
walk-by (suc most) place trees (x ∷ xs) step h k same =
    let less : most ≡ suc most - 1 = omega arith in
    ap (λ (s : Result (ℕ × List Tree) SelFault). go_on s (λ len after. trees_from most (place + len) after (drop len (x ∷ xs)))) same
    ∙ ap (λ (n : ℕ). go_on step (λ len after. trees_from n (place + len) after (drop len (x ∷ xs)))) less

many : (rest : List ℕ) (trees : List Tree) (at : ℕ) → 0 < length rest → trees_from 0 at trees rest ≡ Err (Many at)
unfolding trees_from
many [] trees at h = absurd (omega arith)
many (x ∷ xs) trees at h = refl

pub ended : (most at : ℕ) (trees : List Tree) → trees_from most at trees [] ≡ Ok trees
unfolding trees_from
ended most at trees = refl

-- So many operands stand before this place, and the walk over all tokens goes on from there.
abbrev pub IsCounted : List ℕ → ℕ → ℕ → ℕ → Type 0
IsCounted tokens most operands at =
    (trees : List Tree) × (length trees ≡ operands) × (trees_from 64 0 [] tokens ≡ trees_from most at trees (drop at tokens))

pub counted-start : (tokens : List ℕ) → IsCounted tokens 64 0 0
counted-start tokens = ([], refl, refl)

pub counted-step : (tokens : List ℕ) (most operands at len count : ℕ) → 0 < most → at < length tokens → IsCounted tokens most operands at
    → ((trees : List Tree) → length trees ≡ operands → StepsAs (Ok (len, count)) (step_by at trees (token_in (take (length tokens - at) (drop at tokens)))))
    → IsCounted tokens (most - 1) count (at + len)
counted-step tokens most operands at len count some within (trees, size, walk) steps =
    let P : List ℕ → Type 0 = λ t. StepsAs (Ok (len, count)) (step_by at trees (token_in t)) in
    let stepped : P (drop at tokens) = subst P (take_rest tokens at) (steps trees size) in (
      stepped.0,
      sym stepped.2,
      walk
          ∙ walk-by most at trees (drop at tokens) (Ok (len, stepped.0)) some (nonempty tokens at within) stepped.1
          ∙ ap (λ (t : List ℕ). trees_from (most - 1) (at + len) stepped.0 t) (drop-drop len at tokens),
    )

pub counted-fault : (tokens : List ℕ) (most operands at : ℕ) (fault : SelFault) → 0 < most → at < length tokens → IsCounted tokens most operands at
    → ((trees : List Tree) → length trees ≡ operands → StepsAs (Err fault) (step_by at trees (token_in (take (length tokens - at) (drop at tokens)))))
    → trees_from 64 0 [] tokens ≡ Err fault
counted-fault tokens most operands at fault some within (trees, size, walk) steps =
    let P : List ℕ → Type 0 = λ t. StepsAs (Err fault) (step_by at trees (token_in t)) in
    walk ∙ walk-by most at trees (drop at tokens) (Err fault) some (nonempty tokens at within) (subst P (take_rest tokens at) (steps trees size))

pub counted-many : (tokens : List ℕ) (most operands at : ℕ) → most ≡ 0 → at < length tokens → IsCounted tokens most operands at
    → trees_from 64 0 [] tokens ≡ Err (Many at)
counted-many tokens most operands at none within (trees, size, walk) =
    walk ∙ ap (λ (n : ℕ). trees_from n at trees (drop at tokens)) none ∙ many (drop at tokens) trees at (nonempty tokens at within)

pub counted-end : (tokens : List ℕ) (most operands at : ℕ) → length tokens ≤ at → IsCounted tokens most operands at
    → CountsAs (Ok operands) (trees_from 64 0 [] tokens)
counted-end tokens most operands at over (trees, size, walk) =
    (trees, walk ∙ ap (λ (t : List ℕ). trees_from most at trees t) (none_left tokens at over) ∙ ended most at trees, sym size)

-- what is left at the end decides
of_walk : (tokens : List ℕ) (walk : Result (List Tree) SelFault) → trees_from 64 0 [] tokens ≡ walk → tree_in tokens ≡ one_of walk
unfolding tree_in
of_walk tokens walk e = ap one_of e

pub checks-fault : (tokens : List ℕ) (fault : SelFault) → CountsAs (Err fault) (trees_from 64 0 [] tokens) → tree_in tokens ≡ Err fault
checks-fault tokens fault e = of_walk tokens (Err fault) e

pub left_fault : (trees : List Tree) → 1 < length trees → one_of (Ok trees) ≡ Err (Left (length trees))
left_fault [] more = absurd (omega arith)
left_fault (tree ∷ []) more = absurd (omega arith)
left_fault (tree ∷ (other ∷ trees)) more = refl

none_fault : (trees : List Tree) → length trees ≡ 0 → one_of (Ok trees) ≡ Err Empty
none_fault [] none = refl
none_fault (tree ∷ trees) none = absurd (omega arith)

one_ok : (trees : List Tree) → length trees ≡ 1 → IsOk (one_of (Ok trees))
one_ok [] one = absurd (omega arith)
one_ok (tree ∷ []) one = refl
one_ok (tree ∷ (other ∷ trees)) one = absurd (omega arith)

pub checks-none : (tokens : List ℕ) (count : ℕ) → count ≡ 0 → CountsAs (Ok count) (trees_from 64 0 [] tokens) → tree_in tokens ≡ Err Empty
checks-none tokens count none (trees, walk, size) = of_walk tokens (Ok trees) walk ∙ none_fault trees (omega arith)

pub checks-one : (tokens : List ℕ) (count : ℕ) → count ≡ 1 → CountsAs (Ok count) (trees_from 64 0 [] tokens) → IsOk (tree_in tokens)
checks-one tokens count one (trees, walk, size) =
    subst (λ (r : Result Tree SelFault). IsOk r) (sym (of_walk tokens (Ok trees) walk)) (one_ok trees (omega arith))

pub checks-more : (tokens : List ℕ) (count : ℕ) → 1 < count → CountsAs (Ok count) (trees_from 64 0 [] tokens) → tree_in tokens ≡ Err (Left count)
checks-more tokens count more (trees, walk, size) =
    of_walk tokens (Ok trees) walk ∙ left_fault trees (omega arith) ∙ ap (λ (n : ℕ). Err (Left n)) (sym size)
