use Rattle.std.proofs.Common.{List, ℕ, sym, subst}
use Rattle.disk_model.proofs.Names.{Undoes}
use Rattle.disk_model.proofs.BeforeWrites.{undoes_failed_sync}
use Rattle.disk_model.proofs.history.History.sync.Goals as goal

pub invariant_of-self-clause-undoes : goal.invariant_of-self-clause-undoes
invariant_of-self-clause-undoes c =
    let was = c.args.self.now in
    let now = c.then-self.result in
    subst (λ (f : List ℕ). Undoes f now.calls was.synced was.writes.items was.kept.items was.present.items) (sym c.then-self.ensures.0)
    (undoes_failed_sync was.past.first was.past.calls now.calls was.synced was.writes.items was.kept.items was.present.items c.then-self.ensures.1 was.undoes)
