-- The walk over tokens: what it finds is there, and what is there is found.
use Rattle.std.proofs.Common.{◌≡◌, ◌≢◌, ℕ, zero, suc, ◌+◌, ◌-◌, ◌<◌, ◌≤◌, List, [], ◌∷◌, ◌++◌, length, drop, get_or, Option, Some, Result, Ok, Err, refl, sym, ap, ◌∙◌, subst, arith, length-append, append_assoc, append-nil, lit<}
use Rattle.selection.specs.Laws.{IsOneTree, IsOneFault, ReadsBack}
use Rattle.selection.proofs.Names.{IsOk, result_unwrap_or, drop_at, All-drop, IsOctets, SelFault, Empty, Many, BadOp, Cut, Few, Left, EqualTo, Operator, And, Or, Not, TokenFault, Unknown, Ended, ComparisonValue, Tree, Compare, NotOf, AndOf, OrOf, IsTree, Postfix, AreTrees, comparison_text, operator_octet, operands_of, tree_text, trees_text, tokens_of, tokens_of_trees, most_tokens, TreesThen, FirstFault, TokenValue, Comparing, Operating, token_len, token_in, operated, with_trees, step_by, go_on, trees_from, one_of, tree_in, tree_of}
use Rattle.selection.proofs.StepLemmas.{left_fault, no_operands}
use Rattle.selection.proofs.TokenLemmas.{token_text, TokenAt, length-token_text, token_found, token_in-comparison, token_in-operator, token_in-unknown, token_in-cut}

abbrev IsOctet : ℕ → Type 0
IsOctet octet = octet < 256

-- The octets are the tokens of these trees, and then the rest, at this place, and so many tokens may follow.
pub record Reached (octets : List ℕ) (most place : ℕ) (trees : List Tree) (rest : List ℕ) : Type 0 where
  pub front : TreesThen trees rest octets
  pub tokens : tokens_of_trees trees + most ≡ 64
  pub at : place ≡ length (trees_text trees)

-- what the walk finds is there
abbrev IsWalked : List ℕ → Result (List Tree) SelFault → Type 0
IsWalked octets (Ok trees) = TreesThen trees [] octets × (tokens_of_trees trees ≤ 64)
IsWalked octets (Err fault) = FirstFault fault octets

-- after one more token
reach : (octets : List ℕ) (most place : ℕ) (trees after : List Tree) (rest later : List ℕ) (token : TokenValue)
    → Reached octets (suc most) place trees rest → AreTrees after → rest ≡ token_text token ++ later
    → trees_text after ≡ trees_text trees ++ token_text token → tokens_of_trees after ≡ tokens_of_trees trees + 1
    → Reached octets most (place + token_len token) after later
reach octets most place trees after rest later token r are e text tokens =
    let before = r.tokens in
    let at = r.at in
    let len : length (token_text token) ≡ token_len token = length-token_text token in
    record {
      front = record {
        are_trees = are;
        text =
            r.front.text
            ∙ ap (λ (t : List ℕ). trees_text trees ++ t) e
            ∙ sym (append_assoc (trees_text trees) (token_text token) later)
            ∙ ap (λ (t : List ℕ). t ++ later) (sym text);
      };
      tokens = omega arith;
      at = omega (arith, length-append (trees_text trees) (token_text token), ap length text);
    }

-- what comes after a step
abbrev after_step : ℕ → ℕ → List ℕ → Result (ℕ × List Tree) SelFault → Result (List Tree) SelFault
after_step most place rest step = go_on step (λ len after. trees_from most (place + len) after (drop len rest))

abbrev Walks : List ℕ → ℕ → Type 0
Walks octets most =
    (place : ℕ) (trees : List Tree) (rest : List ℕ) → IsOctets rest → Reached octets most place trees rest
    → IsWalked octets (trees_from most place trees rest)

fewer : (octets : List ℕ) (most place : ℕ) (trees : List Tree) (rest : List ℕ) → Reached octets (suc most) place trees rest
    → tokens_of_trees trees < 64
fewer octets most place trees rest r = let before = r.tokens in omega arith

lacking : (octets : List ℕ) (most place : ℕ) (trees : List Tree) (rest : List ℕ) (operator : Operator)
    → Reached octets (suc most) place trees rest → rest ≡ operator_octet operator ∷ drop 1 rest → length trees < operands_of operator
    → FirstFault (Few place) octets
lacking octets most place trees rest operator r e few =
    (trees, rest, r.front, r.at, (fewer octets most place trees rest r, (operator, drop 1 rest, e, few)))

regroup : (e f l x : List ℕ) → e ++ (f ++ (l ++ x)) ≡ ((e ++ f) ++ l) ++ x
regroup e f l x = sym (simp append_assoc)

-- an operator that has its operands, or not
operator_walked : (octets : List ℕ) (most place : ℕ) (trees : List Tree) (rest : List ℕ) (operator : Operator) → IsOctets rest
    → Reached octets (suc most) place trees rest → rest ≡ operator_octet operator ∷ drop 1 rest → Walks octets most
    → IsWalked octets (after_step most place rest (with_trees place 1 (operated operator trees)))
operator_walked octets most place [] rest Not h r e walks = lacking octets most place [] rest Not r e (lit< tt)
operator_walked octets most place [] rest And h r e walks = lacking octets most place [] rest And r e (lit< tt)
operator_walked octets most place [] rest Or h r e walks = lacking octets most place [] rest Or r e (lit< tt)
operator_walked octets most place (last ∷ []) rest And h r e walks = lacking octets most place (last ∷ []) rest And r e (lit< tt)
operator_walked octets most place (last ∷ []) rest Or h r e walks = lacking octets most place (last ∷ []) rest Or r e (lit< tt)
operator_walked octets most place (last ∷ earlier) rest Not h r e walks =
    walks (place + 1) (NotOf last ∷ earlier) (drop 1 rest) (All-drop IsOctet 1 rest h)
    (reach octets most place (last ∷ earlier) (NotOf last ∷ earlier) rest (drop 1 rest) (Operating Not) r r.front.are_trees e
    (sym (append_assoc (trees_text earlier) (tree_text last) (operator_octet Not ∷ []))) (omega arith))
operator_walked octets most place (last ∷ (first ∷ earlier)) rest And h r e walks =
    let are = r.front.are_trees in
    walks (place + 1) (AndOf first last ∷ earlier) (drop 1 rest) (All-drop IsOctet 1 rest h)
    (reach octets most place (last ∷ (first ∷ earlier)) (AndOf first last ∷ earlier) rest (drop 1 rest) (Operating And) r
    ((are.1.0, are.0), are.1.1) e (regroup (trees_text earlier) (tree_text first) (tree_text last) (operator_octet And ∷ [])) (omega arith))
operator_walked octets most place (last ∷ (first ∷ earlier)) rest Or h r e walks =
    let are = r.front.are_trees in
    walks (place + 1) (OrOf first last ∷ earlier) (drop 1 rest) (All-drop IsOctet 1 rest h)
    (reach octets most place (last ∷ (first ∷ earlier)) (OrOf first last ∷ earlier) rest (drop 1 rest) (Operating Or) r
    ((are.1.0, are.0), are.1.1) e (regroup (trees_text earlier) (tree_text first) (tree_text last) (operator_octet Or ∷ [])) (omega arith))

step_walked : (octets : List ℕ) (most place : ℕ) (trees : List Tree) (rest : List ℕ) (read : Result TokenValue TokenFault) → IsOctets rest
    → Reached octets (suc most) place trees rest → TokenAt rest read → Walks octets most
    → IsWalked octets (after_step most place rest (step_by place trees read))
step_walked octets most place trees rest (Err Unknown) h r at walks =
    (trees, rest, r.front, r.at, (fewer octets most place trees rest r, at))
step_walked octets most place trees rest (Err Ended) h r at walks =
    (trees, rest, r.front, r.at, (fewer octets most place trees rest r, at))
step_walked octets most place trees rest (Ok (Comparing comparison)) h r at walks =
    let len = 4 + length comparison.constant in
    walks (place + len) (Compare comparison ∷ trees) (drop len rest) (All-drop IsOctet len rest h)
    (reach octets most place trees (Compare comparison ∷ trees) rest (drop len rest) (Comparing comparison) r (at.0, r.front.are_trees) at.1 refl refl)
step_walked octets most place trees rest (Ok (Operating operator)) h r at walks =
    operator_walked octets most place trees rest operator h r at.1 walks

walked : (most : ℕ) (octets : List ℕ) → Walks octets most
unfolding trees_from
walked most octets place trees [] h r = (r.front, let before = r.tokens in omega arith)
walked zero octets place trees (x ∷ xs) h r = (trees, x ∷ xs, r.front, r.at, (let before = r.tokens in omega arith, λ none. cc))
walked (suc most) octets place trees (x ∷ xs) h r =
    step_walked octets most place trees (x ∷ xs) (token_in (x ∷ xs)) h r (token_found x xs h) (walked most octets)

abbrev IsRead : List ℕ → Result Tree SelFault → Type 0
IsRead octets (Ok tree) = Postfix tree octets
IsRead octets (Err fault) = FirstFault fault octets

one_read : (octets : List ℕ) (walk : Result (List Tree) SelFault) → IsWalked octets walk → IsRead octets (one_of walk)
one_read octets (Err fault) h = h
one_read octets (Ok []) h = h.0.text
one_read octets (Ok (tree ∷ [])) h = record {
  is_tree = h.0.are_trees.0;
  few = let le = h.1 in omega arith;
  text = h.0.text ∙ append-nil (tree_text tree);
}
one_read octets (Ok (tree ∷ (other ∷ trees))) h = (tree ∷ (other ∷ trees), h.0, h.1, omega arith, refl)

-- what is computed is the tree of the octets, or their first fault
pub read_is : (octets : List ℕ) → IsOctets octets → IsRead octets (tree_in octets)
unfolding tree_in
read_is octets h =
    one_read octets (trees_from most_tokens 0 [] octets)
    (walked 64 octets 0 [] octets h (record { front = record { are_trees = tt; text = refl }; tokens = refl; at = refl }))

-- The other way round.

-- the walk goes on behind a token
go : (most place : ℕ) (trees : List Tree) (x : ℕ) (xs : List ℕ)
    → trees_from (suc most) place trees (x ∷ xs) ≡ after_step most place (x ∷ xs) (step_by place trees (token_in (x ∷ xs)))
unfolding trees_from
go most place trees x xs = refl

past_comparison : (most place : ℕ) (trees : List Tree) (comparison : ComparisonValue) (later : List ℕ) → IsTree (Compare comparison)
    → trees_from (suc most) place trees (comparison_text comparison ++ later)
    ≡ trees_from most (place + (4 + length comparison.constant)) (Compare comparison ∷ trees) later
unfolding trees_from
past_comparison most place trees comparison later is =
    let octets : List ℕ = comparison_text comparison ++ later in
    let len : length (comparison_text comparison) ≡ 4 + length comparison.constant = length-token_text (Comparing comparison) in
    ap (λ (read : Result TokenValue TokenFault). after_step most place octets (step_by place trees read)) (token_in-comparison comparison later is)
    ∙ ap (λ (t : List ℕ). trees_from most (place + (4 + length comparison.constant)) (Compare comparison ∷ trees) t)
    (drop_at (comparison_text comparison) later (4 + length comparison.constant) len)

past_operator : (most place : ℕ) (trees after : List Tree) (operator : Operator) (later : List ℕ) → operated operator trees ≡ Some after
    → trees_from (suc most) place trees (operator_octet operator ∷ later) ≡ trees_from most (place + 1) after later
unfolding trees_from
past_operator most place trees after operator later e =
    let octets : List ℕ = operator_octet operator ∷ later in
    ap (λ (read : Result TokenValue TokenFault). after_step most place octets (step_by place trees read)) (token_in-operator operator later)
    ∙ ap (λ (o : Option (List Tree)). after_step most place octets (with_trees place 1 o)) e

moved : (most place other : ℕ) (trees : List Tree) (rest : List ℕ) → place ≡ other
    → trees_from most place trees rest ≡ trees_from most other trees rest
moved most place other trees rest e = ap (λ (n : ℕ). trees_from most n trees rest) e

counted : (most other place : ℕ) (trees : List Tree) (rest : List ℕ) → most ≡ other
    → trees_from most place trees rest ≡ trees_from other place trees rest
counted most other place trees rest e = ap (λ (n : ℕ). trees_from n place trees rest) e

texts : (most place : ℕ) (trees : List Tree) (rest other : List ℕ) → rest ≡ other
    → trees_from most place trees rest ≡ trees_from most place trees other
texts most place trees rest other e = ap (λ (t : List ℕ). trees_from most place trees t) e

three : (a b x rest : List ℕ) → (a ++ (b ++ x)) ++ rest ≡ a ++ (b ++ (x ++ rest))
three a b x rest = simp append_assoc

room : (n most : ℕ) → n ≤ most → (left : ℕ) × (n + left ≡ most)
room n most le = (most - n, omega arith)

-- the tokens of a tree leave it as the last one
past_tree : (tree : Tree) → IsTree tree → (n most place : ℕ) (trees : List Tree) (rest : List ℕ) → n ≡ tokens_of tree + most
    → trees_from n place trees (tree_text tree ++ rest) ≡ trees_from most (place + length (tree_text tree)) (tree ∷ trees) rest
past_tree (Compare comparison) is n most place trees rest e =
    counted n (suc most) place trees (comparison_text comparison ++ rest) (omega arith)
    ∙ past_comparison most place trees comparison rest is
    ∙ moved most _ _ (Compare comparison ∷ trees) rest (omega arith)
past_tree (NotOf tree) is n most place trees rest e =
    let end : List ℕ = operator_octet Not ∷ [] in
    texts n place trees _ _ (append_assoc (tree_text tree) end rest)
    ∙ past_tree tree is n (suc most) place trees (operator_octet Not ∷ rest) (omega arith)
    ∙ past_operator most (place + length (tree_text tree)) (tree ∷ trees) (NotOf tree ∷ trees) Not rest refl
    ∙ moved most _ _ (NotOf tree ∷ trees) rest (omega (arith, length-append (tree_text tree) end))
past_tree (AndOf first second) is n most place trees rest e =
    let end : List ℕ = operator_octet And ∷ [] in
    texts n place trees _ _ (three (tree_text first) (tree_text second) end rest)
    ∙ past_tree first is.0 n (tokens_of second + suc most) place trees (tree_text second ++ (operator_octet And ∷ rest)) (omega arith)
    ∙ past_tree second is.1 (tokens_of second + suc most) (suc most) (place + length (tree_text first)) (first ∷ trees) (operator_octet And ∷ rest) refl
    ∙ past_operator most (place + length (tree_text first) + length (tree_text second)) (second ∷ (first ∷ trees)) (AndOf first second ∷ trees) And rest refl
    ∙ moved most _ _ (AndOf first second ∷ trees) rest
    (omega (arith, length-append (tree_text first) (tree_text second ++ end), length-append (tree_text second) end))
past_tree (OrOf first second) is n most place trees rest e =
    let end : List ℕ = operator_octet Or ∷ [] in
    texts n place trees _ _ (three (tree_text first) (tree_text second) end rest)
    ∙ past_tree first is.0 n (tokens_of second + suc most) place trees (tree_text second ++ (operator_octet Or ∷ rest)) (omega arith)
    ∙ past_tree second is.1 (tokens_of second + suc most) (suc most) (place + length (tree_text first)) (first ∷ trees) (operator_octet Or ∷ rest) refl
    ∙ past_operator most (place + length (tree_text first) + length (tree_text second)) (second ∷ (first ∷ trees)) (OrOf first second ∷ trees) Or rest refl
    ∙ moved most _ _ (OrOf first second ∷ trees) rest
    (omega (arith, length-append (tree_text first) (tree_text second ++ end), length-append (tree_text second) end))

-- and those of trees leave these
past_trees : (trees : List Tree) → AreTrees trees → (n most : ℕ) (rest : List ℕ) → n ≡ tokens_of_trees trees + most
    → trees_from n 0 [] (trees_text trees ++ rest) ≡ trees_from most (length (trees_text trees)) trees rest
past_trees [] are n most rest e = counted n most 0 [] rest (omega arith)
past_trees (last ∷ earlier) are n most rest e =
    texts n 0 [] _ _ (append_assoc (trees_text earlier) (tree_text last) rest)
    ∙ past_trees earlier are.1 n (tokens_of last + most) (tree_text last ++ rest) (omega arith)
    ∙ past_tree last are.0 (tokens_of last + most) most (length (trees_text earlier)) earlier rest refl
    ∙ moved most _ _ (last ∷ earlier) rest (omega (arith, length-append (trees_text earlier) (tree_text last)))

-- the walk over octets that begin with trees
walk_past : (octets rest : List ℕ) (trees : List Tree) (most : ℕ) → TreesThen trees rest octets → tokens_of_trees trees + most ≡ 64
    → trees_from 64 0 [] octets ≡ trees_from most (length (trees_text trees)) trees rest
walk_past octets rest trees most front e =
    texts 64 0 [] octets _ front.text ∙ past_trees trees front.are_trees 64 most rest (sym e)

trees_end : (most place : ℕ) (trees : List Tree) → trees_from most place trees [] ≡ Ok trees
unfolding trees_from
trees_end most place trees = refl

-- the tree of octets is read
pub tree_read : (octets : List ℕ) (tree : Tree) → Postfix tree octets → tree_in octets ≡ Ok tree
unfolding tree_in
tree_read octets tree h =
    let few = h.few in
    let front : TreesThen (tree ∷ []) [] octets = record { are_trees = (h.is_tree, tt); text = h.text ∙ sym (append-nil (tree_text tree)) } in
    let left = room (tokens_of tree) 64 few in
    ap one_of
    (walk_past octets [] (tree ∷ []) left.0 front (omega (arith, left.1))
    ∙ trees_end left.0 (length (trees_text (tree ∷ []))) (tree ∷ []))

-- where fewer than 64 tokens stand before it, the next token is looked at
stopped : (octets rest : List ℕ) (trees : List Tree) (at : ℕ) (fault : SelFault) → TreesThen trees rest octets
    → tokens_of_trees trees < 64 → at ≡ length (trees_text trees) → rest ≢ []
    → step_by at trees (token_in rest) ≡ Err fault → trees_from 64 0 [] octets ≡ Err fault
unfolding trees_from
stopped octets [] trees at fault front few place some e = absurd (some refl)
stopped octets (x ∷ xs) trees at fault front few place some e =
    let left = room (suc (tokens_of_trees trees)) 64 (omega arith) in
    walk_past octets (x ∷ xs) trees (suc left.0) front (omega (arith, left.1))
    ∙ moved (suc left.0) _ _ trees (x ∷ xs) (sym place)
    ∙ ap (λ (step : Result (ℕ × List Tree) SelFault). after_step left.0 at (x ∷ xs) step) e

IsOctets-back : (front back : List ℕ) → IsOctets (front ++ back) → IsOctets back
IsOctets-back front back h = subst IsOctets (drop_at front back (length front) refl) (All-drop IsOctet (length front) (front ++ back) h)

not_nil : (xs : List ℕ) (x : ℕ) (later : List ℕ) → xs ≡ x ∷ later → xs ≢ []
not_nil xs x later e none = cc

-- the first fault of octets is found
walk_faults : (octets : List ℕ) (fault : SelFault) → IsOctets octets → FirstFault fault octets → one_of (trees_from 64 0 [] octets) ≡ Err fault
unfolding trees_from
walk_faults octets Empty h e = ap (λ (t : List ℕ). one_of (trees_from 64 0 [] t)) e
walk_faults octets (Many at) h (trees, rest, front, place, (full, some)) = ap one_of (many rest front some)
  where
    many : (rest : List ℕ) → TreesThen trees rest octets → rest ≢ [] → trees_from 64 0 [] octets ≡ Err (Many at)
    many [] front some = absurd (some refl)
    many (x ∷ xs) front some = walk_past octets (x ∷ xs) trees 0 front (omega arith) ∙ ap (λ (n : ℕ). Err (Many n)) (sym place)
walk_faults octets (BadOp at) h (trees, rest, front, place, (few, starts)) =
    ap one_of
    (stopped octets rest trees at (BadOp at) front few place (not_nil rest _ _ starts.2)
    (ap (λ (read : Result TokenValue TokenFault). step_by at trees read) (token_in-unknown rest starts)))
walk_faults octets (Cut at) h (trees, rest, front, place, (few, starts)) =
    ap one_of
    (stopped octets rest trees at (Cut at) front few place (not_nil rest _ _ starts.2)
    (ap (λ (read : Result TokenValue TokenFault). step_by at trees read)
    (token_in-cut rest (IsOctets-back (trees_text trees) rest (subst IsOctets front.text h)) starts)))
walk_faults octets (Few at) h (trees, rest, front, place, (few, starts)) =
    ap one_of
    (stopped octets rest trees at (Few at) front few place (not_nil rest _ _ starts.2)
    (ap (λ (t : List ℕ). step_by at trees (token_in t)) starts.2
    ∙ ap (λ (read : Result TokenValue TokenFault). step_by at trees read) (token_in-operator starts.0 starts.1)
    ∙ ap (λ (o : Option (List Tree)). with_trees at 1 o) (no_operands starts.0 trees starts.3)))
walk_faults octets (Left count) h (trees, front, le, more, same) =
    let left = room (tokens_of_trees trees) 64 le in
    ap one_of (walk_past octets [] trees left.0 front left.1 ∙ trees_end left.0 (length (trees_text trees)) trees)
    ∙ left_fault trees more
    ∙ ap (λ (n : ℕ). Err (Left n)) (sym same)

pub fault_read : (octets : List ℕ) (fault : SelFault) → IsOctets octets → FirstFault fault octets → tree_in octets ≡ Err fault
unfolding tree_in
fault_read octets fault h first = walk_faults octets fault h first

pub one_tree : IsOneTree
one_tree octets tree h = (tree_read octets tree, λ same. subst (IsRead octets) same (read_is octets h))

pub one_fault : IsOneFault
one_fault octets fault h = (fault_read octets fault h, λ same. subst (IsRead octets) same (read_is octets h))

pub reads_back : ReadsBack
reads_back tree is few = tree_read (tree_text tree) tree (record { is_tree = is; few = few; text = refl })

-- where a slice's octets are known
pub IsOctets-slice : (octets : List ℕ) → ((i : ℕ) → get_or octets i 0 < 256) → IsOctets octets
IsOctets-slice [] h k d below = absurd (omega arith)
IsOctets-slice (x ∷ xs) h zero d below = h 0
IsOctets-slice (x ∷ xs) h (suc k) d below = IsOctets-slice xs (λ i. h (suc i)) k d (omega arith)

abbrev pub tree_or : Result Tree SelFault → Tree
tree_or read = result_unwrap_or read (Compare (record { relation = EqualTo; id = 0; constant = [] }))

ok_read : (read : Result Tree SelFault) → IsOk read → read ≡ Ok (tree_or read)
ok_read (Ok tree) ok = refl
ok_read (Err fault) ok = absurd cc

-- what is read is the tree of the octets
pub accepted : (octets : List ℕ) → IsOctets octets → IsOk (tree_in octets) → Postfix (tree_of octets) octets
accepted octets h ok = subst (IsRead octets) (ok_read (tree_in octets) ok) (read_is octets h)

-- where a tree is read, no fault is there
pub no_fault : (octets : List ℕ) (fault : SelFault) → IsOctets octets → IsOk (tree_in octets) → FirstFault fault octets → ⊥
no_fault octets fault h ok first =
    let found = fault_read octets fault h first in
    let read = ok_read (tree_in octets) ok in
    cc

-- where a fault is found it is the first, the only one, and there is no tree
pub refused : (octets : List ℕ) (fault : SelFault) → IsOctets octets → tree_in octets ≡ Err fault → FirstFault fault octets
refused octets fault h e = subst (IsRead octets) e (read_is octets h)

pub only_fault : (octets : List ℕ) (fault other : SelFault) → IsOctets octets → tree_in octets ≡ Err fault → FirstFault other octets → fault ≡ other
only_fault octets fault other h e first = let found = fault_read octets other h first in cc

pub no_tree : (octets : List ℕ) (fault : SelFault) (tree : Tree) → tree_in octets ≡ Err fault → Postfix tree octets → ⊥
no_tree octets fault tree e h = let read = tree_read octets tree h in cc

-- a tree of the octets is that of the selection
pub tree_is : (octets : List ℕ) (tree : Tree) → Postfix tree octets → tree_of octets ≡ tree
tree_is octets tree h = ap tree_or (tree_read octets tree h)

not_ok : {A : Type 0} (result : Result A SelFault) (fault : SelFault) → result ≡ Err fault → IsOk result → ⊥
not_ok (Ok x) fault e ok = cc
not_ok (Err other) fault e ok = cc

-- what a refusal says
pub exit-accepts : {A : Type 0} (octets : List ℕ) (fault : SelFault) (result : Result A SelFault) → result ≡ Err fault → tree_in octets ≡ Err fault
    → (IsOk result → (tree : Tree) × Postfix tree octets) × (((tree : Tree) × Postfix tree octets) → IsOk result)
exit-accepts octets fault result e h =
    (λ ok. absurd (not_ok result fault e ok), λ some. absurd (no_tree octets fault some.0 h some.1))

same_fault : {A : Type 0} (result : Result A SelFault) (fault other : SelFault) → result ≡ Err fault → result ≡ Err other → fault ≡ other
same_fault result fault other e same = cc

pub exit-refuses : {A : Type 0} (octets : List ℕ) (fault : SelFault) (result : Result A SelFault) → IsOctets octets → result ≡ Err fault
    → tree_in octets ≡ Err fault → (other : SelFault)
    → (result ≡ Err other → FirstFault other octets) × (FirstFault other octets → result ≡ Err other)
exit-refuses octets fault result h e found other =
    let P : SelFault → Type 0 = λ f. FirstFault f octets in (
      λ same. subst P (same_fault result fault other e same) (refused octets fault h found),
      λ first. e ∙ ap Err (only_fault octets fault other h found first),
    )

-- and what a reading says
pub read-refuses : {A : Type 0} (octets : List ℕ) (x : A) → IsOctets octets → IsOk (tree_in octets) → (fault : SelFault)
    → (let result : Result A SelFault = Ok x in result ≡ Err fault → FirstFault fault octets)
    × (FirstFault fault octets → let result : Result A SelFault = Ok x in result ≡ Err fault)
read-refuses octets x h ok fault = (λ same. absurd cc, λ first. absurd (no_fault octets fault h ok first))

pub postfix_ok : (octets : List ℕ) (tree : Tree) → Postfix tree octets → IsOk (tree_in octets)
postfix_ok octets tree h = let P : Result Tree SelFault → Type 0 = λ r. IsOk r in subst P (sym (tree_read octets tree h)) refl
