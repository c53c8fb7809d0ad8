use Rattle.std.proofs.Common.{List, ℕ, false, sym, refl, subst, arith}
use Rattle.disk_model.proofs.Names.{common_steps, Undoes, OpenWrite}
use Rattle.disk_model.proofs.BeforeWrites.{undoes_torn}
use Rattle.disk_model.proofs.history.History.break_off.Goals as goal

pub invariant_of-self-clause-undoes : goal.invariant_of-self-clause-undoes
invariant_of-self-clause-undoes c =
    let was = c.args.self.now in
    let torn : OpenWrite = record { at = c.args.at; count = c.args.count; found = 0; passed = false } in
    subst (λ (f : List ℕ). Undoes f c.then-self.result.calls was.synced c.push.new.self.items was.kept.items was.present.items) (sym c.then-self.ensures.0)
    (undoes_torn _ _ _ _ _ _ _ _ torn c.then-self.ensures.1 (grind (arith, common_steps)) refl was.undoes)
