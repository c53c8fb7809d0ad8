-- One step of the walk: the items that are left are those that are read from the next place on.
use Rattle.std.proofs.Common.{◌≡◌, ℕ, ◌+◌, ◌-◌, List, true, false, length, take, drop, refl, sym, ap, ◌∙◌, arith}
use Rattle.pfh_items.proofs.Names.{take_rest, Item, item_value, items_left, ItemList, with_item, item_in, item_len, starts_whole, starts_end, items_from}
use Rattle.pfh_items.proofs.WalkLemmas.{items_from-none, items_from-next}
use Rattle.pfh_items.proofs.items.ItemsIterator.next.Goals as goal

pub returns-in_default-clause-steps : goal.returns-in_default-clause-steps
returns-in_default-clause-steps c =
    let none = ap items_left (sym c.self.view_is) ∙ items_from-none c.self.inside.at c.self.inside.rest.now c.in_default.ensures.none in ((none, none), refl)

-- the items that are left before and after an item
walk : (now : ItemList) (place : ℕ) (octets : List ℕ) (item : Item) → items_from place octets ≡ now → starts_whole octets ≡ true
    → starts_end octets ≡ false → item_value item ≡ item_in octets → 3 + length item.bytes.now ≡ item_len octets
    → now
    ≡ with_item (item_value item)
    (items_from (place + (3 + length item.bytes.now)) (take (length octets - (3 + length item.bytes.now)) (drop (3 + length item.bytes.now) octets)))
walk now place octets item view whole end same len =
    sym view
    ∙ items_from-next place (3 + length item.bytes.now) octets (take (length octets - (3 + length item.bytes.now)) (drop (3 + length item.bytes.now) octets))
    (item_value item) whole end same len (take_rest octets (3 + length item.bytes.now))

pub returns-clause-steps : goal.returns-clause-steps
returns-clause-steps c =
    let left = walk c.args.self.now c.self.inside.at c.self.inside.rest.now c.in-Some.item c.self.view_is c.in-Some.ensures.whole c.in-Some.ensures.no_end c.in-Some.ensures.item c.in-Some.ensures.len in
    (ap items_left left, sym (ap (λ (left : ItemList). left.stop) left))

pub returns-clause-goes : goal.returns-clause-goes
returns-clause-goes c =
    let items = ap items_left (walk c.args.self.now c.self.inside.at c.self.inside.rest.now c.in-Some.item c.self.view_is c.in-Some.ensures.whole c.in-Some.ensures.no_end c.in-Some.ensures.item c.in-Some.ensures.len) in
    record {
      on = λ finite. (tt, tt, omega (arith, ap length items));
      keeps = tt;
      rests = λ finite. tt;
    }
