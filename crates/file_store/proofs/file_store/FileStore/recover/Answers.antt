use Rattle.std.proofs.Common.{Err, ◌∙◌, ap}
use Rattle.std.proofs.lemmas.Result.{err_from_is_err_and}
use Rattle.file_store.proofs.RecoveryLemmas.{recovered_good, recovery-refuses}
use Rattle.file_store.proofs.file_store.FileStore.recover.Goals as goal

pub returns-in_err-kept-clause-refuses : goal.returns-in_err-kept-clause-refuses
returns-in_err-kept-clause-refuses g c =
    let p = err_from_is_err_and c.from_residual.result c.from_residual.ensures.1 in
    recovery-refuses c.args.limits.blocks (g.D.Disk.content c.args.disk.now) c.in_err-kept.field-0.0 c.from_residual.result (p.1 ∙ ap (λ x. Err x) p.2) c.in_err-kept.ensures.answers.refuses

pub returns-in_err-header-clause-memory : goal.returns-in_err-header-clause-memory
returns-in_err-header-clause-memory g c is = recovered_good g.D.Disk c.args.limits.blocks (g.D.Disk.content c.args.disk.now) _ c.in_ok-kept.ensures.restored.content

pub returns-clause-calls : goal.returns-clause-calls
returns-clause-calls g c = c.recover.ensures.calls

pub returns-in_err-kept-clause-calls : goal.returns-in_err-kept-clause-calls
returns-in_err-kept-clause-calls g c = c.recover.ensures.calls

pub returns-in_err-header-clause-calls : goal.returns-in_err-header-clause-calls
returns-in_err-header-clause-calls g c = c.recover.ensures.calls
