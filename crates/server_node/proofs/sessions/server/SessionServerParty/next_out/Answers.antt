-- The replies are given first, and then what is due.
use Rattle.std.proofs.Common.{◌≡◌, ◌<◌, refl, ap, ap₂, sym, ◌∙◌, subst}
use Rattle.server_node.proofs.Names.{GaveAll, GivesNext, IsReady, ServerState, SessionState, StoreState, at, caller_of, most_left, server_state, session_course, state_in}
use Rattle.server_node.proofs.sessions.CourseLemmas.{filled, gave-all, gave-last, gives-due, gives-replies, is-nil, less-left, not-empty, not-nil, server-filled}
use Rattle.server_node.proofs.sessions.server.SessionServerParty.next_out.Goals as goal

pub returns-then-not-is_empty-clause-next : goal.returns-then-not-is_empty-clause-next
returns-then-not-is_empty-clause-next g c is =
    let a = server_state c.self.inside in
    rw (sym c.self.view_is, c.put_in.ensures ∙ c.deref.ensures.0, c.clear.ensures)
    (gives-replies g.D.Disk g.met.D.Disk.lasts_same g.met.D.Disk.lasts_on a c.args.disk.now (not-nil a.replies (sym c.is_empty.ensures ∙ c.if-not-is_empty.true)))

pub returns-then-self-clause-all : goal.returns-then-self-clause-all
returns-then-self-clause-all g c is =
    rw (sym c.self.view_is)
    (gave-last g.D.Disk g.met.D.Disk.lasts_same g.met.D.Disk.lasts_on (server_state c.self.inside) c.args.disk.now (is-nil _ (sym c.is_empty.ensures ∙ c.if-not-is_empty.false)) c.if-self.true)

pub invariant_of-self-then-not-fill : goal.invariant_of-self-then-not-fill
invariant_of-self-then-not-fill g c = server-filled c.self.inside _ c.fill.ensures.store c.fill.ensures.uploads c.fill.ensures.may.due refl refl c.self.invariant

pub invariant_of-self-2 : goal.invariant_of-self-2
invariant_of-self-2 g c = server-filled c.self.inside _ c.fill.ensures.store c.fill.ensures.uploads c.fill.ensures.may.due refl refl c.self.invariant

pub returns-then-not-fill-clause-all : goal.returns-then-not-fill-clause-all
returns-then-not-fill-clause-all g c is =
    let a = server_state c.self.inside in
    let disk = c.args.disk.now in
    let none = c.fill.ensures.none c.if-not-fill.true in
    let gave = gave-all g.D.Disk g.met.D.Disk.lasts_same g.met.D.Disk.lasts_on a disk (is-nil a.replies (sym c.is_empty.ensures ∙ c.if-not-is_empty.false)) (sym c.fill.ensures.due ∙ c.if-not-fill.true) c.if-self.false in
    let state : state_in c.fill.new.store c.fill.new.self ≡ a.state = ap₂ (λ (files : StoreState) (s : SessionState). state_in files s) c.fill.ensures.store none.0 in
    let same = filled a (caller_of c.fill.new.self) c.fill.new.store (state_in c.fill.new.store c.fill.new.self) (ap (λ u. u.caller) c.fill.ensures.uploads) c.fill.ensures.store
    ∙ ap (λ s. record a { state = s }) state in
    rw (sym c.self.view_is, none.1) (subst (λ (s : ServerState). GaveAll (session_course g.D.Disk) (at a disk) (at s disk)) (sym same) gave)

pub returns-clause-next : goal.returns-clause-next
returns-clause-next g c is =
    let a = server_state c.self.inside in
    let text = (c.put_in-2).ensures ∙ (c.deref-2).ensures.0 in
    let gives = gives-due g.D.Disk g.met.D.Disk.lasts_same g.met.D.Disk.lasts_on a c.args.disk.now c.if-self.false _ _ _ _ (rw c.if-not-fill.false at c.fill.ensures.puts)
    (sym c.fill.ensures.due ∙ c.if-not-fill.false) (λ empty. not-empty _ (c.fill.ensures.some c.if-not-fill.false) empty) (subst (λ (files : StoreState). IsReady g.D.Disk files c.fill.new.disk) c.fill.ensures.store c.fill.ensures.may.ready)
    (is-nil a.replies (sym c.is_empty.ensures ∙ c.if-not-is_empty.false)) in
    let same = filled a (caller_of c.fill.new.self) c.fill.new.store (state_in c.fill.new.store c.fill.new.self) (ap (λ u. u.caller) c.fill.ensures.uploads) c.fill.ensures.store in
    rw (sym c.self.view_is, text) (subst (λ (s : ServerState). GivesNext (session_course g.D.Disk) (at a c.args.disk.now) c.fill.new.out.items (at s c.fill.new.disk)) (sym same) gives)

pub returns-clause-fewer : goal.returns-clause-fewer
returns-clause-fewer g c is =
    let a = server_state c.self.inside in
    let fewer = c.fill.ensures.fewer c.if-not-fill.false in
    let less : most_left (record a { state = state_in c.fill.new.store c.fill.new.self }) < most_left a =
    subst (λ (files : StoreState). most_left (record a { state = state_in files c.fill.new.self }) < most_left a) (sym c.fill.ensures.store) (less-left a (state_in c.self.inside.store c.fill.new.self) fewer) in
    let same = filled a (caller_of c.fill.new.self) c.fill.new.store (state_in c.fill.new.store c.fill.new.self) (ap (λ u. u.caller) c.fill.ensures.uploads) c.fill.ensures.store in
    rw (sym c.self.view_is) (subst (λ (s : ServerState). most_left s < most_left a) (sym same) less)
