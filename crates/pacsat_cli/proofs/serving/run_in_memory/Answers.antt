-- The session ran over the fresh disk.
use Rattle.std.proofs.Common.{refl, ap, sym, ◌∙◌, subst}
use Rattle.disk_model.specs.Calls.{content_of}
use Rattle.pacsat_cli.proofs.Names.{Some, DiskState, Status, OverMemory, status_in_memory}
use Rattle.pacsat_cli.proofs.MemorySession.{over-memory}
use Rattle.pacsat_cli.proofs.serving.run_in_memory.Goals as goal

pub returns-clause-over : goal.returns-clause-over
returns-clause-over g c =
    let ran = c.session in
    let P : Status → Type 0 = λ s. OverMemory g.A.Air g.C.Clock.given c.args.air.now ran.new.air c.args.clock.now ran.new.clock c.args.terms.now s in
    subst P (sym (c.in_memory.ensures ∙ ap status_in_memory c.status_of_ended.ensures))
    (over-memory _ g.A.Air g.C.Clock.given c.in-Ok.disk ran.new.disk c.args.air.now ran.new.air c.args.clock.now ran.new.clock c.args.terms.now ran.result (ap (λ (s : DiskState). Some (content_of s)) c.in-Ok.ensures.fresh) ran.ensures.refuses ran.ensures.counts c.in-Ok.ensures.fresh (λ d. refl) ran.ensures.ends)
