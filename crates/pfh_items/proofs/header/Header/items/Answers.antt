-- The items of a header are those that are read behind AA 55.
use Rattle.std.proofs.Common.{ℕ, List, drop, ap, ◌∙◌}
use Rattle.pfh_items.proofs.Names.{take_rest, ItemValue, HeaderValue, whole_items, items_from}
use Rattle.pfh_items.proofs.HeaderLemmas.{header-items}
use Rattle.pfh_items.proofs.header.Header.items.Goals as goal

pub returns : goal.returns
returns c =
    let items : List ItemValue = (items_from 0 (drop 2 c.self.inside.header.now)).items in
    c.over.ensures.read
    ∙ ap (items_from 0) (take_rest c.self.inside.header.now 2)
    ∙ ap (λ (t : List ℕ). items_from 0 (drop 2 t)) c.self.invariant.text
    ∙ header-items items c.self.invariant.are_items
    ∙ ap (λ (header : HeaderValue). whole_items header.items) c.self.view_is
