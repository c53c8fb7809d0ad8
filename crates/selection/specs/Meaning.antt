-- What a selection says of the items of a header.
use Rattle.std.specs.Prelude.{ℕ, ◌+◌, ◌*◌, ◌==◌, List, [], ◌∷◌, length, Bool, not, ◌&&◌, ◌||◌, if◌then◌else◌}
use Rattle.std.specs.List.{list_any}
use Rattle.std.specs.declared.cmp.Ordering.{Ordering}
use Rattle.std.specs.Ordering.{nat_cmp, is_eq, is_ne, is_lt, is_le, is_gt, is_ge}
use Rattle.std.specs.Cmp.Lexicographic.{slice_cmp}
use Rattle.pfh_items.specs.Layout.{ItemValue}
use Rattle.pfh_items.specs.Table.{is_number}
use Rattle.selection.specs.declared.token.Relation.{Relation}
use Rattle.selection.specs.declared.token.Relation.TheVariants.{EqualTo, NotEqualTo, LessThan, AtMost, GreaterThan, AtLeast}
use Rattle.selection.specs.Layout.{ComparisonValue, Tree, Compare, NotOf, AndOf, OrOf}

-- whether data that compares so with the constant is in this relation to it
abbrev pub relates : Relation → Ordering → Bool
relates EqualTo order = is_eq order
relates NotEqualTo order = is_ne order
relates LessThan order = is_lt order
relates AtMost order = is_le order
relates GreaterThan order = is_gt order
relates AtLeast order = is_ge order

-- the unsigned number of these octets, least significant octet first
abbrev pub number : List ℕ → ℕ
number [] = 0
number (octet ∷ octets) = octet + 256 * number octets

-- Whether an item's data is in the relation to the constant. Numbers are compared only where they have the same length.
-- All other data is compared octet by octet, and a prefix is less.
abbrev pub data_satisfies : ComparisonValue → List ℕ → Bool
data_satisfies comparison content =
    if is_number comparison.id
    then (length content == length comparison.constant)
    && relates comparison.relation (nat_cmp (number content) (number comparison.constant))
    else relates comparison.relation (slice_cmp nat_cmp content comparison.constant)

abbrev pub satisfies : ComparisonValue → ItemValue → Bool
satisfies comparison item = (item.id == comparison.id) && data_satisfies comparison item.content

-- Whether it holds of these items: a comparison where some item of its id satisfies it. Where there is none, none does.
abbrev pub holds : Tree → List ItemValue → Bool
holds (Compare comparison) items = list_any (λ item. satisfies comparison item) items
holds (NotOf tree) items = not (holds tree items)
holds (AndOf first second) items = holds first items && holds second items
holds (OrOf first second) items = holds first items || holds second items
