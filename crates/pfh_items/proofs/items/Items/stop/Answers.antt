-- Where no items are left, the octets at the front say what ends them.
use Rattle.std.proofs.Common.{◌≡◌, [], Bool, false, cond, Option, Some, None, sym, ap, ◌∙◌}
use Rattle.std.specs.Iterator.{YieldsFirstBy}
use Rattle.pfh_items.proofs.Names.{is_some, true≢false, Item, EndItem, Ran, item_value, items_left, ItemList}
use Rattle.pfh_items.proofs.WalkLemmas.{items_from-stop}
use Rattle.pfh_items.proofs.items.Items.stop.Goals as goal

ended : (r : Option Item) (before after : ItemList) → is_some r ≡ false → YieldsFirstBy item_value items_left before r after → after.items ≡ []
ended None before after e h = h.1
ended (Some item) before after e h = absurd (true≢false e)

pub returns-then-starts_with_end : goal.returns-then-starts_with_end
returns-then-starts_with_end c =
    let none = ap items_left c.left.view_is ∙ ended c.next.result c.loop.left c.next.new.self (sym c.is_some.ensures ∙ c.loop-test.false) c.next.ensures.steps.0 in
    ap (λ (b : Bool). cond b (EndItem c.left.inside.at) (Ran c.left.inside.at)) (sym c.if-starts_with_end.true ∙ c.starts_with_end.ensures)
    ∙ sym (items_from-stop c.left.inside.at c.left.inside.rest.now none)
    ∙ ap (λ (left : ItemList). left.stop) c.left.view_is
    ∙ c.next.ensures.steps.1
    ∙ c.loop.invariant

pub returns-else-starts_with_end : goal.returns-else-starts_with_end
returns-else-starts_with_end c =
    let none = ap items_left c.left.view_is ∙ ended c.next.result c.loop.left c.next.new.self (sym c.is_some.ensures ∙ c.loop-test.false) c.next.ensures.steps.0 in
    ap (λ (b : Bool). cond b (EndItem c.left.inside.at) (Ran c.left.inside.at)) (sym c.if-starts_with_end.false ∙ c.starts_with_end.ensures)
    ∙ sym (items_from-stop c.left.inside.at c.left.inside.rest.now none)
    ∙ ap (λ (left : ItemList). left.stop) c.left.view_is
    ∙ c.next.ensures.steps.1
    ∙ c.loop.invariant
