-- What is due of the session is what is due of its downloading.
use Rattle.std.proofs.Common.{sym, subst}
use Rattle.ftl0_session.specs.SessionState.{SessionState}
use Rattle.ftl0_session.proofs.Names.{StoreState, store_on, Store, filled, PutsDue, session_of, state_in}
use Rattle.ftl0_session.proofs.FillLemmas.{fill-puts}
use Rattle.ftl0_session.proofs.session.Session.fill.Goals as goal

pub returns-clause-puts : goal.returns-clause-puts
returns-clause-puts g c =
    let D = g.D.Disk in
    let store = c.args.store.now in
    let disk = c.args.disk.now in
    let out = c.args.out.now.items in
    let inside = c.self.inside in
    let b = c.fill.new in
    let files : Store = store_on D store disk in
    let new : SessionState = session_of inside.uploads b.self in
    subst (λ (s : StoreState). PutsDue D files (filled disk (state_in store c.args.self.now) out) (filled b.disk (state_in s new) b.out.items) c.fill.result) (sym c.fill.ensures.store)
    (subst (λ (s : SessionState). PutsDue D files (filled disk (state_in store s) out) (filled b.disk (state_in store new) b.out.items) c.fill.result) c.self.view_is
    (fill-puts D files store inside.uploads.phase c.fill.result disk b.disk inside.downloads b.self out b.out.items c.self.invariant c.fill.ensures.puts))
