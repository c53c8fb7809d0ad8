-- What shows that octets are a header in which each mandatory item occurs.
use Rattle.std.proofs.Common.{◌≡◌, ℕ, List, [], ◌∷◌, Bool, true, refl, sym, ◌∙◌, ap, subst}
use Rattle.std.specs.Prelude.{if◌then◌else◌}
use Rattle.pfh_items.specs.Layout.{HeaderText, ItemValue}
use Rattle.pfh_items.specs.Table.{mandatory_items}
use Rattle.pfh_items.specs.declared.table.MandatoryItem.{MandatoryItem}
use Rattle.pfh_items.proofs.Offered.{file_parts-text, HeaderText-FileText, once_each}
use Rattle.pfh_writer.specs.Short.{HasEachOnce}
use Rattle.file_store.proofs.Names.{AllByRecursion, list_all, and_from, eq-eqb, IsWholeHeader, header_items, parts_or_none, StandsOnce, has_none, is_one_of_len, items_with}

-- whether one item of an id occurs with its length, when one was found already or not, and these are left
abbrev pub once_still : Bool → ℕ → List ItemValue → Bool
once_still once len found = if once then has_none found else is_one_of_len len found

-- whether each mandatory item occurs once in these items, and has its length
abbrev pub has_each_once : List ItemValue → Bool
has_each_once items = list_all (λ rule. is_one_of_len rule.len (items_with rule.id items)) mandatory_items

each-test : (items : List ItemValue) (rules : List MandatoryItem) → AllByRecursion (StandsOnce items) rules → list_all (λ rule. is_one_of_len rule.len (items_with rule.id items)) rules ≡ true
each-test items [] all = refl
each-test items (rule ∷ rules) (one, all) =
    and_from _ _ (ap (is_one_of_len rule.len) one.1 ∙ eq-eqb _ _ one.2) (each-test items rules all)

-- these octets are the header with these items, and each mandatory one occurs once exactly when the test says so
module _ (items : List ItemValue) (octets : List ℕ) (text : HeaderText items octets) where
  items-are : header_items octets ≡ items
  items-are = ap (λ (p : _). (parts_or_none p).items) (file_parts-text items [] octets (HeaderText-FileText items octets text))

  pub whole-header : has_each_once items ≡ true → IsWholeHeader octets
  whole-header each = record {
    text = subst (λ (i : List ItemValue). HeaderText i octets) (sym items-are) text;
    once = subst HasEachOnce (sym items-are) (once_each items each);
  }

  pub whole-each : IsWholeHeader octets → has_each_once items ≡ true
  whole-each whole = each-test items mandatory_items (subst HasEachOnce items-are whole.once)
