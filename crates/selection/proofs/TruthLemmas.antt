-- Which operands hold after each token.
use Rattle.std.proofs.Common.{◌≡◌, ℕ, zero, suc, ◌+◌, ◌-◌, ◌<◌, ◌≤◌, List, [], ◌∷◌, length, take, drop, Bool, Option, Some, None, Result, Ok, Err, refl, sym, ap, subst, ◌∙◌, arith, length-append}
use Rattle.pfh_items.specs.Layout.{ItemValue}
use Rattle.selection.proofs.Names.{IsOk, result_unwrap_or, drop-drop, take_rest, SelFault, Token, Operator, And, Or, Not, TokenFault, Tree, Compare, NotOf, AndOf, OrOf, operands_of, holds, TokenValue, Comparing, Operating, token_len, token_in, operated, trees_after, with_trees, step_by, go_on, trees_from, one_of, tree_in, ReadsAs, token_value, operands_needed, tree_of, truths_of}
use Rattle.selection.proofs.StepLemmas.{none_left, nonempty, ended}

pub length-truths_of : (items : List ItemValue) (trees : List Tree) → length (truths_of items trees) ≡ length trees
length-truths_of items [] = refl
length-truths_of items (last ∷ earlier) =
    let rest = length-truths_of items earlier in
    omega (arith, length-append (truths_of items earlier) (holds last items ∷ []))

-- a token that leaves trees had its operands, and leaves at most one more
operated_enough : (operator : Operator) (trees after : List Tree) → operated operator trees ≡ Some after
    → (operands_of operator ≤ length trees) × (length after ≤ length trees)
operated_enough Not [] after e = absurd cc
operated_enough Not (last ∷ earlier) after e = let same : after ≡ NotOf last ∷ earlier = cc in (omega arith, omega (arith, ap length same))
operated_enough And [] after e = absurd cc
operated_enough And (last ∷ []) after e = absurd cc
operated_enough And (last ∷ (first ∷ earlier)) after e =
    let same : after ≡ AndOf first last ∷ earlier = cc in (omega arith, omega (arith, ap length same))
operated_enough Or [] after e = absurd cc
operated_enough Or (last ∷ []) after e = absurd cc
operated_enough Or (last ∷ (first ∷ earlier)) after e =
    let same : after ≡ OrOf first last ∷ earlier = cc in (omega arith, omega (arith, ap length same))

after_enough : (token : TokenValue) (trees after : List Tree) → trees_after token trees ≡ Some after
    → (operands_needed token ≤ length trees) × (length after ≤ length trees + 1)
after_enough (Comparing comparison) trees after e =
    let same : after ≡ Compare comparison ∷ trees = cc in (omega arith, omega (arith, ap length same))
after_enough (Operating operator) trees after e =
    let enough = operated_enough operator trees after e in
    let more = enough.1 in
    (enough.0, omega arith)

-- So many tokens may follow, these trees stand before the place, and the walk goes on to the one tree.
pub record Evaluated (tokens : List ℕ) (items : List ItemValue) (at : ℕ) (truths : List Bool) (most : ℕ) (trees : List Tree) : Type 0 where
  pub walk : trees_from most at trees (drop at tokens) ≡ Ok (tree_of tokens ∷ [])
  pub truths_are : truths ≡ truths_of items trees
  pub few : length trees + most ≤ 64

abbrev pub IsEvaluated : List ℕ → List ItemValue → ℕ → List Bool → Type 0
IsEvaluated tokens items at truths = (most : ℕ) × (trees : List Tree) × Evaluated tokens items at truths most trees

one_tree : (walk : Result (List Tree) SelFault) (tree : Tree) → one_of walk ≡ Ok tree → walk ≡ Ok (tree ∷ [])
one_tree (Err fault) tree e = absurd cc
one_tree (Ok []) tree e = absurd cc
one_tree (Ok (one ∷ [])) tree e = let same : one ≡ tree = cc in ap (λ (t : Tree). Ok (t ∷ [])) same
one_tree (Ok (one ∷ (other ∷ trees))) tree e = absurd cc

ok_tree : (read : Result Tree SelFault) (other : Tree) → IsOk read → read ≡ Ok (result_unwrap_or read other)
ok_tree (Ok tree) other ok = refl
ok_tree (Err fault) other ok = absurd cc

pub evaluated-start : (tokens : List ℕ) (items : List ItemValue) (truths : List Bool) → IsOk (tree_in tokens) → truths ≡ []
    → IsEvaluated tokens items 0 truths
unfolding tree_in
evaluated-start tokens items truths ok none =
    (64, [], record { walk = one_tree (trees_from 64 0 [] tokens) (tree_of tokens) (ok_tree (tree_in tokens) _ ok); truths_are = none; few = omega arith })

-- what the next token is where the walk goes on to its end
record Next (most place : ℕ) (trees : List Tree) (rest : List ℕ) (final : List Tree) : Type 0 where
  left : ℕ
  token : TokenValue
  after : List Tree
  more : most ≡ suc left
  read : token_in rest ≡ Ok token
  leaves : trees_after token trees ≡ Some after
  walk : trees_from left (place + token_len token) after (drop (token_len token) rest) ≡ Ok final

next_by : (left place : ℕ) (trees : List Tree) (rest : List ℕ) (final : List Tree) (read : Result TokenValue TokenFault) → token_in rest ≡ read
    → go_on (step_by place trees read) (λ len after. trees_from left (place + len) after (drop len rest)) ≡ Ok final
    → Next (suc left) place trees rest final
next_by left place trees rest final (Err fault) e walk = absurd cc
next_by left place trees rest final (Ok token) e walk = by (trees_after token trees) refl walk
  where
    by : (found : Option (List Tree)) → trees_after token trees ≡ found
        → go_on (with_trees place (token_len token) found) (λ len after. trees_from left (place + len) after (drop len rest)) ≡ Ok final
        → Next (suc left) place trees rest final
    by None same w = absurd cc
    by (Some after) same w = record { left = left; token = token; after = after; more = refl; read = e; leaves = same; walk = w }

next : (most place : ℕ) (trees : List Tree) (rest : List ℕ) (final : List Tree) → 0 < length rest → trees_from most place trees rest ≡ Ok final
    → Next most place trees rest final
unfolding trees_from
next most place trees [] final some walk = absurd (omega arith)
next zero place trees (x ∷ xs) final some walk = absurd cc
next (suc most) place trees (x ∷ xs) final some walk = next_by most place trees (x ∷ xs) final (token_in (x ∷ xs)) refl walk

module _ (tokens : List ℕ) (items : List ItemValue) (at : ℕ) (truths : List Bool) (within : at < length tokens) where
  here : (is : IsEvaluated tokens items at truths) → Next is.0 at is.1 (drop at tokens) (tree_of tokens ∷ [])
  here is = next is.0 at is.1 (drop at tokens) (tree_of tokens ∷ []) (nonempty tokens at within) is.2.walk

  -- a token is there
  pub evaluated-reads : IsEvaluated tokens items at truths → (read : Result Token TokenFault)
      → ReadsAs read (token_in (take (length tokens - at) (drop at tokens))) → IsOk read
  evaluated-reads is (Ok token) h = refl
  evaluated-reads is (Err fault) h =
      let same : token_in (drop at tokens) ≡ Err fault = ap token_in (sym (take_rest tokens at)) ∙ h in
      let there = (here is).read in
      absurd cc

  same_token : (is : IsEvaluated tokens items at truths) (token : Token)
      → ReadsAs (Ok token) (token_in (take (length tokens - at) (drop at tokens))) → (here is).token ≡ token_value token
  same_token is token h =
      let same : token_in (drop at tokens) ≡ Ok (token_value token) = ap token_in (sym (take_rest tokens at)) ∙ h in
      let there = (here is).read in
      cc

  -- with its operands, and room for what it leaves
  pub evaluated-enough : IsEvaluated tokens items at truths → (token : Token)
      → ReadsAs (Ok token) (token_in (take (length tokens - at) (drop at tokens)))
      → (length truths < 64) × (operands_needed (token_value token) ≤ length truths)
  evaluated-enough is token h =
      let n = here is in
      let enough = (after_enough n.token is.1 n.after n.leaves).0 in
      let needed : operands_needed (token_value token) ≤ length is.1 =
      subst (λ (t : TokenValue). operands_needed t ≤ length is.1) (same_token is token h) enough in
      let size : length truths ≡ length is.1 = ap length is.2.truths_are ∙ length-truths_of items is.1 in
      let few = is.2.few in
      let more = n.more in
      (omega arith, omega arith)

  -- and the walk goes on behind it
  pub evaluated-step : IsEvaluated tokens items at truths → (token : Token) (later : List Bool) (len : ℕ)
      → ReadsAs (Ok token) (token_in (take (length tokens - at) (drop at tokens))) → len ≡ token_len (token_value token)
      → ((trees after : List Tree) → truths ≡ truths_of items trees → trees_after (token_value token) trees ≡ Some after → later ≡ truths_of items after)
      → IsEvaluated tokens items (at + len) later
  evaluated-step is token later len h size takes =
      let n = here is in
      let same : n.token ≡ token_value token = same_token is token h in
      let leaves : trees_after (token_value token) is.1 ≡ Some n.after = ap (λ (t : TokenValue). trees_after t is.1) (sym same) ∙ n.leaves in
      let length_same : token_len n.token ≡ len = ap token_len same ∙ sym size in
      let few = is.2.few in
      let more = n.more in
      let bound = (after_enough n.token is.1 n.after n.leaves).1 in (
        n.left,
        n.after,
        record {
          walk =
              ap (λ (t : List ℕ). trees_from n.left (at + len) n.after t) (sym (drop-drop len at tokens))
              ∙ ap (λ (m : ℕ). trees_from n.left (at + m) n.after (drop m (drop at tokens))) (sym length_same)
              ∙ n.walk;
          truths_are = takes is.1 n.after is.2.truths_are leaves;
          few = omega arith;
        },
      )

-- at the end the one truth is that of the tree
pub evaluated-end : (tokens : List ℕ) (items : List ItemValue) (at : ℕ) (truths : List Bool) → length tokens ≤ at → IsEvaluated tokens items at truths
    → truths ≡ holds (tree_of tokens) items ∷ []
evaluated-end tokens items at truths over (most, trees, is) =
    let left : Ok trees ≡ Ok (tree_of tokens ∷ []) =
    sym (ended most at trees) ∙ ap (λ (t : List ℕ). trees_from most at trees t) (sym (none_left tokens at over)) ∙ is.walk in
    let same : trees ≡ tree_of tokens ∷ [] = cc in
    is.truths_are ∙ ap (truths_of items) same
