use Rattle.std.proofs.Common.{ℕ, ◌∙◌, ap, List, length, ◌≤◌, sym, subst, get_or, position, set}
use Rattle.ftl0_session.proofs.Names.{CallerList, IsLists, is_of}
use Rattle.ftl0_session.proofs.lists.CallerLists.{left-at}
use Rattle.ftl0_session.proofs.lists.Taking.{IsLists-taken, taken-at, taken-nowhere}
use Rattle.ftl0_session.proofs.lists.lists.Lists.take.Goals as goal

pub take-requires : goal.take-requires
take-requires c =
    subst (λ (ns : List ℕ). c.args.count ≤ length ns)
    (sym (left-at c.args.self.now c.args.caller c.in-Some.place (subst IsLists c.self.view_is c.self.invariant.0) (sym c.place_of.ensures ∙ c.in-Some.is) c.index_mut.result.now
    (c.index_mut.ensures.value ∙ ap (λ (ls : List CallerList). get_or ls c.in-Some.place c.index_mut.result.now) c.self.view_is)))
    c.requires

pub invariant_of-self : goal.invariant_of-self
invariant_of-self c =
    let made = taken-at c.args.caller c.args.count c.self.inside.lists.items c.in-Some.place c.index_mut.result.now c.take.new.self c.self.invariant.0
    (ap (λ (ls : List CallerList). position (is_of c.args.caller) ls) c.self.view_is ∙ sym c.place_of.ensures ∙ c.in-Some.is) c.index_mut.ensures.value c.take.ensures in
    (subst IsLists (sym made) (IsLists-taken c.args.caller c.args.count c.self.inside.lists.items c.self.invariant.0), c.self.invariant.1)

pub returns-in-Some : goal.returns-in-Some
returns-in-Some c =
    ap (λ (ls : List CallerList). set ls c.in-Some.place c.take.new.self) c.self.view_is
    ∙ taken-at c.args.caller c.args.count c.args.self.now c.in-Some.place c.index_mut.result.now c.take.new.self (subst IsLists c.self.view_is c.self.invariant.0)
    (sym c.place_of.ensures ∙ c.in-Some.is)
    (c.index_mut.ensures.value ∙ ap (λ (ls : List CallerList). get_or ls c.in-Some.place c.index_mut.result.now) c.self.view_is)
    c.take.ensures

pub returns-in_default : goal.returns-in_default
returns-in_default c = taken-nowhere c.args.caller c.args.count c.args.self.now (sym c.place_of.ensures ∙ c.in_default.is)
