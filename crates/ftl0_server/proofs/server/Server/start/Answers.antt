-- The recovery's answer is handed on.
use Rattle.std.proofs.Common.{Err, refl, ◌∙◌, ap}
use Rattle.std.proofs.lemmas.Result.{err_from_is_err_and}
use Rattle.ftl0_server.proofs.StartLemmas.{alike-fault, alike-fine, recovered_good, refuses-other, since-other}
use Rattle.ftl0_server.proofs.server.Server.start.Goals as goal

pub returns-in_err-store-clause-refuses : goal.returns-in_err-store-clause-refuses
returns-in_err-store-clause-refuses g c =
    let p = err_from_is_err_and c.from_residual.result c.from_residual.ensures.1 in
    refuses-other _ c.from_residual.result (alike-fault _ c.from_residual.result c.in_err-store.field-0.0 refl (p.1 ∙ ap Err p.2)) c.args.limits.blocks (g.D.Disk.content c.args.disk.now) c.in_err-store.ensures.refuses

pub returns-clause-refuses : goal.returns-clause-refuses
returns-clause-refuses g c = refuses-other _ _ (alike-fine c.in_ok-store.store _) c.args.limits.blocks (g.D.Disk.content c.args.disk.now) c.in_ok-store.ensures.refuses

pub returns-clause-since_sync : goal.returns-clause-since_sync
returns-clause-since_sync g c = since-other _ _ (alike-fine c.in_ok-store.store _) c.args.limits.blocks g.D.Disk c.args.disk.now c.recover.new.disk c.in_ok-store.ensures.since_sync

pub returns-in_err-lists-clause-memory : goal.returns-in_err-lists-clause-memory
returns-in_err-lists-clause-memory g c is = recovered_good g.D.Disk c.args.limits.blocks (g.D.Disk.content c.args.disk.now) _ c.in_ok-store.ensures.recovered.content

pub returns-in_err-places-clause-memory : goal.returns-in_err-places-clause-memory
returns-in_err-places-clause-memory g c is = recovered_good g.D.Disk c.args.limits.blocks (g.D.Disk.content c.args.disk.now) _ c.in_ok-store.ensures.recovered.content
