-- The first fault of a selection's tokens, from left to right.
use Rattle.std.specs.Prelude.{◌≡◌, ◌≢◌, ℕ, ◌<◌, ◌≤◌, List, [], ◌∷◌, ◌++◌, length}
use Rattle.selection.specs.declared.fault.SelFault.{SelFault}
use Rattle.selection.specs.declared.fault.SelFault.TheVariants.{Empty, Many, BadOp, Cut, Few, Left}
use Rattle.selection.specs.declared.token.Relation.{Relation}
use Rattle.selection.specs.declared.token.Operator.{Operator}
use Rattle.selection.specs.Layout.{ComparisonValue, Tree, IsComparison, comparison_text, relation_octet, operator_octet, operands_of, trees_text, tokens_of_trees, AreTrees, most_tokens}

-- The octets are the tokens of these trees one after another, and then the rest. So no token before the rest is at
-- fault: each operator has its operands.
pub record TreesThen (trees : List Tree) (rest octets : List ℕ) : Type 0 where
  pub are_trees : AreTrees trees
  pub text : octets ≡ trees_text trees ++ rest

-- at this place, behind trees, stands a rest of which this is so
abbrev pub FoundAt : ℕ → List ℕ → (List Tree → List ℕ → Type 0) → Type 0
FoundAt at octets Fault =
    (trees : List Tree) × (rest : List ℕ) × TreesThen trees rest octets × (at ≡ length (trees_text trees)) × Fault trees rest

-- an octet that is no token's first
pub record IsUnknown (octet : ℕ) : Type 0 where
  pub no_relation : (relation : Relation) → octet ≢ relation_octet relation
  pub no_operator : (operator : Operator) → octet ≢ operator_octet operator

-- a token begins with such an octet
abbrev pub StartsUnknown : List ℕ → Type 0
StartsUnknown rest = (octet : ℕ) × (later : List ℕ) × (rest ≡ octet ∷ later) × IsUnknown octet

-- a comparison begins, and no comparison's text stands there
abbrev pub StartsCut : List ℕ → Type 0
StartsCut rest =
    (relation : Relation) × (later : List ℕ) × (rest ≡ relation_octet relation ∷ later)
    × ((comparison : ComparisonValue) (others : List ℕ) → IsComparison comparison → rest ≢ comparison_text comparison ++ others)

-- an operator stands there, with too few trees before it
abbrev pub StartsLacking : List Tree → List ℕ → Type 0
StartsLacking trees rest =
    (operator : Operator) × (later : List ℕ) × (rest ≡ operator_octet operator ∷ later) × (length trees < operands_of operator)

-- Empty: there is no token. Many: 64 tokens are followed by more. BadOp, Cut and Few: a token begins with an unknown
-- octet, is a comparison that the tokens end within, or an operator with too few operands. Left: the tokens are those of
-- several trees.
abbrev pub FirstFault : SelFault → List ℕ → Type 0
FirstFault Empty octets = octets ≡ []
FirstFault (Many at) octets = FoundAt at octets (λ trees rest. (tokens_of_trees trees ≡ most_tokens) × (rest ≢ []))
FirstFault (BadOp at) octets = FoundAt at octets (λ trees rest. (tokens_of_trees trees < most_tokens) × StartsUnknown rest)
FirstFault (Cut at) octets = FoundAt at octets (λ trees rest. (tokens_of_trees trees < most_tokens) × StartsCut rest)
FirstFault (Few at) octets = FoundAt at octets (λ trees rest. (tokens_of_trees trees < most_tokens) × StartsLacking trees rest)
FirstFault (Left count) octets =
    (trees : List Tree) × TreesThen trees [] octets × (tokens_of_trees trees ≤ most_tokens) × (1 < length trees) × (count ≡ length trees)
