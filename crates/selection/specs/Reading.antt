-- The tree of tokens and their first fault, computed from left to right.
use Rattle.std.specs.Prelude.{ℕ, zero, suc, ◌+◌, ◌==◌, List, [], ◌∷◌, length, take, drop, slice_index, nat_le, if◌then◌else◌, Option, Some, None, Result, Ok, Err}
use Rattle.px_base.specs.Numbers.{le16}
use Rattle.selection.specs.declared.fault.SelFault.{SelFault}
use Rattle.selection.specs.declared.fault.SelFault.TheVariants.{Empty, Many, BadOp, Cut, Few, Left}
use Rattle.selection.specs.declared.token.Relation.{Relation}
use Rattle.selection.specs.declared.token.Relation.TheVariants.{EqualTo, NotEqualTo, LessThan, AtMost, GreaterThan, AtLeast}
use Rattle.selection.specs.declared.token.Operator.{Operator}
use Rattle.selection.specs.declared.token.Operator.TheVariants.{And, Or, Not}
use Rattle.selection.specs.declared.token.TokenFault.{TokenFault}
use Rattle.selection.specs.declared.token.TokenFault.TheVariants.{Unknown, Ended}
use Rattle.selection.specs.Layout.{ComparisonValue, Tree, Compare, NotOf, AndOf, OrOf, most_tokens}

-- a token without where its octets lie
pub data TokenValue : Type 0 where
  Comparing : ComparisonValue → TokenValue
  Operating : Operator → TokenValue

-- how many octets it has
abbrev pub token_len : TokenValue → ℕ
token_len (Comparing comparison) = 4 + length comparison.constant
token_len (Operating operator) = 1

-- what begins with this octet
abbrev pub relation_of : ℕ → Option Relation
relation_of octet =
    if octet == 0x10 then Some EqualTo
    else if octet == 0x11 then Some NotEqualTo
    else if octet == 0x12 then Some LessThan
    else if octet == 0x13 then Some AtMost
    else if octet == 0x14 then Some GreaterThan
    else if octet == 0x15 then Some AtLeast
    else None

abbrev pub operator_of : ℕ → Option Operator
operator_of octet =
    if octet == 0x20 then Some And
    else if octet == 0x21 then Some Or
    else if octet == 0x22 then Some Not
    else None

-- the comparison at the front
abbrev pub comparison_in : Relation → List ℕ → ComparisonValue
comparison_in relation octets =
    record { relation = relation; id = le16 octets 1; constant = take (slice_index octets 3) (drop 4 octets) }

-- whether all its octets are there
abbrev pub read_comparison : Relation → List ℕ → Result TokenValue TokenFault
read_comparison relation octets =
    if nat_le (4 + slice_index octets 3) (length octets) then Ok (Comparing (comparison_in relation octets)) else Err Ended

abbrev pub read_operator : Option Operator → Result TokenValue TokenFault
read_operator (Some operator) = Ok (Operating operator)
read_operator None = Err Unknown

abbrev pub read_as : Option Relation → List ℕ → Result TokenValue TokenFault
read_as (Some relation) octets = read_comparison relation octets
read_as None octets = read_operator (operator_of (slice_index octets 0))

-- the token at the front of octets, or what is wrong there
unfoldable pub token_in : List ℕ → Result TokenValue TokenFault
token_in octets = read_as (relation_of (slice_index octets 0)) octets

-- the trees after an operator, whose operands are the last ones, if there are so many
abbrev pub operated : Operator → List Tree → Option (List Tree)
operated Not [] = None
operated Not (last ∷ earlier) = Some (NotOf last ∷ earlier)
operated And [] = None
operated And (last ∷ []) = None
operated And (last ∷ (first ∷ earlier)) = Some (AndOf first last ∷ earlier)
operated Or [] = None
operated Or (last ∷ []) = None
operated Or (last ∷ (first ∷ earlier)) = Some (OrOf first last ∷ earlier)

-- the trees after a token
abbrev pub trees_after : TokenValue → List Tree → Option (List Tree)
trees_after (Comparing comparison) trees = Some (Compare comparison ∷ trees)
trees_after (Operating operator) trees = operated operator trees

-- what a token that can't be read is called at this place
abbrev pub fault_at : ℕ → TokenFault → SelFault
fault_at place Unknown = BadOp place
fault_at place Ended = Cut place

-- the length of the token at this place, and the trees after it
abbrev pub with_trees : ℕ → ℕ → Option (List Tree) → Result (ℕ × List Tree) SelFault
with_trees place len (Some trees) = Ok (len, trees)
with_trees place len None = Err (Few place)

abbrev pub step_by : ℕ → List Tree → Result TokenValue TokenFault → Result (ℕ × List Tree) SelFault
step_by place trees (Ok token) = with_trees place (token_len token) (trees_after token trees)
step_by place trees (Err fault) = Err (fault_at place fault)

abbrev pub go_on : Result (ℕ × List Tree) SelFault → (ℕ → List Tree → Result (List Tree) SelFault) → Result (List Tree) SelFault
go_on (Ok step) later = later step.0 step.1
go_on (Err fault) later = Err fault

-- the trees after all tokens from this place on, of which there are at most so many
unfoldable pub trees_from : ℕ → ℕ → List Tree → List ℕ → Result (List Tree) SelFault
trees_from most place trees [] = Ok trees
trees_from zero place trees (octet ∷ octets) = Err (Many place)
trees_from (suc most) place trees (octet ∷ octets) =
    go_on (step_by place trees (token_in (octet ∷ octets)))
    (λ len after. trees_from most (place + len) after (drop len (octet ∷ octets)))

-- the one tree that is left
abbrev pub one_of : Result (List Tree) SelFault → Result Tree SelFault
one_of (Ok []) = Err Empty
one_of (Ok (tree ∷ [])) = Ok tree
one_of (Ok (tree ∷ (other ∷ trees))) = Err (Left (length (tree ∷ (other ∷ trees))))
one_of (Err fault) = Err fault

-- the tree of the tokens, or their first fault
unfoldable pub tree_in : List ℕ → Result Tree SelFault
tree_in octets = one_of (trees_from most_tokens 0 [] octets)
