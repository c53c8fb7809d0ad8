-- What contracts see of tokens that are lent, and of a selection.
use Rattle.std.specs.Prelude.{◌≡◌, ℕ, List, [], ◌∷◌, ◌++◌, length, Bool, Option, Some, None, Result, Ok, Err, IsOk}
use Rattle.std.specs.Result.{result_unwrap_or}
use Rattle.pfh_items.specs.Layout.{ItemValue}
use Rattle.selection.specs.declared.token.Comparison.{Comparison}
use Rattle.selection.specs.declared.token.Token.{Token}
use Rattle.selection.specs.declared.token.Token.TheVariants.{Compare as CompareToken, Operate}
use Rattle.selection.specs.declared.token.Relation.TheVariants.{EqualTo}
use Rattle.selection.specs.declared.token.TokenFault.{TokenFault}
use Rattle.selection.specs.declared.fault.SelFault.{SelFault}
use Rattle.selection.specs.Layout.{ComparisonValue, Tree, Compare, operands_of}
use Rattle.selection.specs.Meaning.{holds}
use Rattle.selection.specs.Reading.{TokenValue, Comparing, Operating, step_by, tree_in}

-- the comparison without where its constant lies
abbrev pub comparison_value : Comparison → ComparisonValue
comparison_value comparison = record { relation = comparison.relation; id = comparison.id; constant = comparison.constant.now }

-- the token without where its octets lie
abbrev pub token_value : Token → TokenValue
token_value (CompareToken comparison) = Comparing (comparison_value comparison)
token_value (Operate operator) = Operating operator

-- the tree of a selection's octets; of octets that are none, any tree
abbrev pub tree_of : List ℕ → Tree
tree_of octets = result_unwrap_or (tree_in octets) (Compare (record { relation = EqualTo; id = 0; constant = [] }))

-- which trees hold of the items, from the first to the last, where the list of trees has the last one first
abbrev pub truths_of : List ItemValue → List Tree → List Bool
truths_of items [] = []
truths_of items (last ∷ earlier) = truths_of items earlier ++ holds last items ∷ []

-- A function gave this token, or this fault, where that is read.
abbrev pub ReadsAs : Result Token TokenFault → Result TokenValue TokenFault → Type 0
ReadsAs (Ok token) read = read ≡ Ok (token_value token)
ReadsAs (Err fault) read = read ≡ Err fault

-- Where the truths before are those of trees, the truths after are those of the trees after it, if it has any.
abbrev pub Takes : List ItemValue → (List Tree → Option (List Tree)) → List Bool → List Bool → Type 0
Takes items after before later =
    (trees left : List Tree) → before ≡ truths_of items trees → after trees ≡ Some left → later ≡ truths_of items left

-- how many operands the token needs before it
abbrev pub operands_needed : TokenValue → ℕ
operands_needed (Comparing comparison) = 0
operands_needed (Operating operator) = operands_of operator

-- A function gave the number of these trees, or none where there are none.
abbrev pub LeavesAs : Option ℕ → Option (List Tree) → Type 0
LeavesAs None trees = trees ≡ None
LeavesAs (Some count) trees = (after : List Tree) × (trees ≡ Some after) × (count ≡ length after)

-- the same of a step, with the length of its token, or its fault
abbrev pub StepsAs : Result (ℕ × ℕ) SelFault → Result (ℕ × List Tree) SelFault → Type 0
StepsAs (Ok step) read = (after : List Tree) × (read ≡ Ok (step.0, after)) × (step.1 ≡ length after)
StepsAs (Err fault) read = read ≡ Err fault

-- That holds of so many operands, whatever trees they are.
abbrev pub Leaves : Option ℕ → ℕ → (List Tree → Option (List Tree)) → Type 0
Leaves result operands after = (trees : List Tree) → length trees ≡ operands → LeavesAs result (after trees)

abbrev pub Steps : Result (ℕ × ℕ) SelFault → ℕ → ℕ → Result TokenValue TokenFault → Type 0
Steps result at operands read = (trees : List Tree) → length trees ≡ operands → StepsAs result (step_by at trees read)

-- the same of all tokens
abbrev pub CountsAs : Result ℕ SelFault → Result (List Tree) SelFault → Type 0
CountsAs (Ok count) read = (after : List Tree) × (read ≡ Ok after) × (count ≡ length after)
CountsAs (Err fault) read = read ≡ Err fault

-- A function gave Ok where one tree is read, or the fault that is.
abbrev pub ChecksAs : {A : Type 0} → Result A SelFault → Result Tree SelFault → Type 0
ChecksAs (Ok done) read = IsOk read
ChecksAs (Err fault) read = read ≡ Err fault
