use Rattle.std.proofs.Common.{◌∙◌, ap, Bool, List, [], ◌∷◌, ◌++◌, length, sym, subst, cond, le_trans, arith}
use Rattle.ftl0_session.proofs.Names.{CallerList, IsLists, last_of, lists_of_others}
use Rattle.ftl0_session.proofs.lists.Selecting.{IsLists-selected, one-more}
use Rattle.ftl0_session.proofs.lists.lists.Lists.select.Goals as goal

pub invariant_of-self : goal.invariant_of-self
invariant_of-self c =
    let same = ap (λ (ls : List CallerList). length ls) c.self.view_is in
    let old = c.self.inside.lists in
    let ok = c.push.ensures.succeeds (omega (arith, same, c.make_room.ensures.room, old.ok.0, c.self.invariant.1)) in
    let pushed = c.push.ensures.items ∙ ap (λ (b : Bool). cond b (old.items ++ c.new-list.result ∷ []) old.items) ok in
    let made =
    pushed ∙ ap (λ (ls : List CallerList). ls ++ c.new-list.result ∷ []) (c.self.view_is ∙ c.make_room.ensures.lists)
    ∙ one-more (lists_of_others c.args.self.now c.args.caller) c.new-list.result
    ∙ ap (λ (l : CallerList). last_of 64 (lists_of_others c.args.self.now c.args.caller ++ l ∷ [])) c.new-list.ensures in
    (subst IsLists (sym made) (IsLists-selected c.args.self.now c.args.caller c.args.numbers.now c.make_room.ensures.rules c.requires), le_trans c.self.invariant.1 c.push.ensures.capacity)
