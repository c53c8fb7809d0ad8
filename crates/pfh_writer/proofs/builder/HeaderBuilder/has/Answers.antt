use Rattle.std.proofs.Common.{ℕ, ◌==◌, List, rules, tests, ap, ◌∙◌}
use Rattle.std.proofs.lemmas.Iterator.Search.{any_from_yields_List}
use Rattle.pfh_writer.proofs.Names.{ItemValue, ItemList, items_from, YieldsList-items, BuilderValue, stands}
use Rattle.pfh_writer.proofs.builder.HeaderBuilder.has.Goals as goal

pub returns : goal.returns
returns c =
    any_from_yields_List (λ (i : ItemValue). i.id == c.args.id) _ _ _ c.any.ensures.ran (YieldsList-items c.over.result) (λ x b q k. search (rules, tests))
    ∙ ap (λ (walk : ItemList). stands c.args.id walk.items) c.over.ensures.read
    ∙ ap (λ (t : List ℕ). stands c.args.id (items_from 0 t).items) c.as_slice.ensures
    ∙ ap (λ (builder : BuilderValue). stands c.args.id builder.others) c.self.view_is
