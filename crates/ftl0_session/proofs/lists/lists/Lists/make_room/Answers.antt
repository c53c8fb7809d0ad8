use Rattle.std.proofs.Common.{◌∙◌, ap, length, List, sym, subst, arith, remove}
use Rattle.ftl0_session.proofs.Names.{CallerList, IsLists}
use Rattle.ftl0_session.proofs.lists.Selecting.{room-at, room-full, room-left}
use Rattle.ftl0_session.proofs.lists.lists.Lists.make_room.Goals as goal

pub returns-in-Some-clause-lists : goal.returns-in-Some-clause-lists
returns-in-Some-clause-lists c =
    c.remove.ensures.items ∙ ap (λ (ls : List CallerList). remove ls c.in-Some.place) c.self.view_is
    ∙ room-at c.args.self.now c.args.caller c.in-Some.place (subst IsLists c.self.view_is c.self.invariant.0) (sym c.place_of.ensures ∙ c.in-Some.is)

pub returns-in-None-clause-lists : goal.returns-in-None-clause-lists
returns-in-None-clause-lists c =
    let same = ap (λ (ls : List CallerList). length ls) c.self.view_is in
    c.remove-in-None.ensures.items ∙ ap (λ (ls : List CallerList). remove ls 0) c.self.view_is
    ∙ room-full c.args.self.now c.args.caller (sym c.place_of.ensures ∙ c.in-None.is) (omega (arith, same, c.len.ensures, c.self.inside.lists.ok.0, c.if-len-eq-MOST_LISTS.true))

pub returns-else-len-eq-MOST_LISTS-clause-lists : goal.returns-else-len-eq-MOST_LISTS-clause-lists
returns-else-len-eq-MOST_LISTS-clause-lists c =
    let same = ap (λ (ls : List CallerList). length ls) c.self.view_is in
    room-left c.args.self.now c.args.caller (sym c.place_of.ensures ∙ c.in-None.is) (omega (arith, same, c.len.ensures, c.self.inside.lists.ok.0, c.if-len-eq-MOST_LISTS.false, c.self.invariant.0.few))
