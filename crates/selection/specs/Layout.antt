-- The layout of a selection: a tree of comparisons in postfix order, each token some octets. FTL0 1990 leaves the octets
-- of selections open: these are the project's own.
use Rattle.std.specs.Prelude.{◌≡◌, ℕ, ◌+◌, ◌^◌, ◌<◌, ◌≤◌, List, [], ◌∷◌, ◌++◌, length}
use Rattle.std.specs.List.{AllByRecursion}
use Rattle.px_base.specs.Numbers.{le16_octets}
use Rattle.px_base.specs.Octets.{IsOctets}
use Rattle.selection.specs.declared.token.Relation.{Relation}
use Rattle.selection.specs.declared.token.Relation.TheVariants.{EqualTo, NotEqualTo, LessThan, AtMost, GreaterThan, AtLeast}
use Rattle.selection.specs.declared.token.Operator.{Operator}
use Rattle.selection.specs.declared.token.Operator.TheVariants.{And, Or, Not}

-- a comparison without where its octets lie: how the data of an item of this id stands to the constant
pub record ComparisonValue : Type 0 where
  pub relation : Relation
  pub id : ℕ
  pub constant : List ℕ

-- what a selection says: a comparison, the not of a tree, or the and or the or of two trees
pub data Tree : Type 0 where
  Compare : ComparisonValue → Tree
  NotOf : Tree → Tree
  AndOf : Tree → Tree → Tree
  OrOf : Tree → Tree → Tree

-- the first octet of a comparison
abbrev pub relation_octet : Relation → ℕ
relation_octet EqualTo = 0x10
relation_octet NotEqualTo = 0x11
relation_octet LessThan = 0x12
relation_octet AtMost = 0x13
relation_octet GreaterThan = 0x14
relation_octet AtLeast = 0x15

-- the octet of an operator
abbrev pub operator_octet : Operator → ℕ
operator_octet And = 0x20
operator_octet Or = 0x21
operator_octet Not = 0x22

-- how many operands it has
abbrev pub operands_of : Operator → ℕ
operands_of And = 2
operands_of Or = 2
operands_of Not = 1

-- The id is a number of two octets, and the constant at most 255 octets.
pub record IsComparison (comparison : ComparisonValue) : Type 0 where
  pub id : comparison.id < 2 ^ 16
  pub octets : IsOctets comparison.constant
  pub most : length comparison.constant ≤ 255

-- its token: the relation's octet, two octets of id, one of the constant's length, the constant
abbrev pub comparison_text : ComparisonValue → List ℕ
comparison_text comparison =
    relation_octet comparison.relation ∷ (le16_octets comparison.id ++ length comparison.constant ∷ comparison.constant)

-- the tree's comparisons have texts
abbrev pub IsTree : Tree → Type 0
IsTree (Compare comparison) = IsComparison comparison
IsTree (NotOf tree) = IsTree tree
IsTree (AndOf first second) = IsTree first × IsTree second
IsTree (OrOf first second) = IsTree first × IsTree second

-- its tokens: those of its parts, and then its own
abbrev pub tree_text : Tree → List ℕ
tree_text (Compare comparison) = comparison_text comparison
tree_text (NotOf tree) = tree_text tree ++ operator_octet Not ∷ []
tree_text (AndOf first second) = tree_text first ++ (tree_text second ++ operator_octet And ∷ [])
tree_text (OrOf first second) = tree_text first ++ (tree_text second ++ operator_octet Or ∷ [])

-- how many tokens it has
abbrev pub tokens_of : Tree → ℕ
tokens_of (Compare comparison) = 1
tokens_of (NotOf tree) = tokens_of tree + 1
tokens_of (AndOf first second) = tokens_of first + tokens_of second + 1
tokens_of (OrOf first second) = tokens_of first + tokens_of second + 1

-- how many tokens a selection has at most
abbrev pub most_tokens : ℕ
most_tokens = 64

-- the octets are the tokens of this tree, and they aren't too many
pub record Postfix (tree : Tree) (octets : List ℕ) : Type 0 where
  pub is_tree : IsTree tree
  pub few : tokens_of tree ≤ most_tokens
  pub text : octets ≡ tree_text tree

-- the tokens of trees one after another, of which the list has the last one first
abbrev pub trees_text : List Tree → List ℕ
trees_text [] = []
trees_text (last ∷ earlier) = trees_text earlier ++ tree_text last

-- how many tokens they have
abbrev pub tokens_of_trees : List Tree → ℕ
tokens_of_trees [] = 0
tokens_of_trees (last ∷ earlier) = tokens_of_trees earlier + tokens_of last

abbrev pub AreTrees : List Tree → Type 0
AreTrees trees = AllByRecursion IsTree trees
