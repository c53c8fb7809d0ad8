use Rattle.std.proofs.Common.{◌∙◌, ap, List, sym, subst, get_or}
use Rattle.ftl0_session.proofs.Names.{CallerList, IsLists}
use Rattle.ftl0_session.proofs.lists.CallerLists.{left-at, left-nowhere}
use Rattle.ftl0_session.proofs.lists.lists.Lists.numbers.Goals as goal

pub returns-in-Some-clause-numbers : goal.returns-in-Some-clause-numbers
returns-in-Some-clause-numbers c =
    c.left.ensures.numbers
    ∙ left-at c.args.self.now c.args.caller c.in-Some.place (subst IsLists c.self.view_is c.self.invariant.0) (sym c.place_of.ensures ∙ c.in-Some.is) c.index.result.now
    (c.index.ensures ∙ ap (λ (ls : List CallerList). get_or ls c.in-Some.place c.index.result.now) c.self.view_is)

pub returns-in-None-clause-numbers : goal.returns-in-None-clause-numbers
returns-in-None-clause-numbers c = sym (left-nowhere c.args.self.now c.args.caller (sym c.place_of.ensures ∙ c.in-None.is))
