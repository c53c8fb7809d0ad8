-- What the next event needs stays when a task is started.
use Rattle.std.proofs.Common.{subst}
use Rattle.ftl0_client.proofs.Names.{ClientState, MayHear, client_state}
use Rattle.ftl0_client.proofs.KeptLemmas.{started-goes}
use Rattle.ftl0_client.proofs.StartLemmas.{start-gives}
use Rattle.ftl0_client.proofs.client.Client.start_task.Goals as goal

pub returns-clause-may : goal.returns-clause-may
returns-clause-may g c = λ fine.
    let a = c.self.inside in
    let now : ClientState = record (client_state a) { notes = c.start.new.self } in
    let P : ClientState → Type 0 = λ s. MayHear g.D.Disk s c.args.disk.now → MayHear g.D.Disk now c.start.new.disk in
    subst P c.self.view_is (λ may.
    let goes = started-goes g.D.Disk a.attempt a.notes c.start.new.self c.args.disk.now c.start.new.disk _ _ _ _ _ c.start.result
    c.start.ensures.untouched c.start.ensures.does c.start.ensures.stands_on fine (may.ready, may.notes_are) in
    record { ready = goes.0; notes_are = goes.1 })

pub returns-clause-started : goal.returns-clause-started
returns-clause-started g c =
    let a = c.self.inside in
    start-gives g.D.Disk c.started_law.ensures c.owned_law.ensures a.notes c.start.new.self c.args.disk.now c.start.new.disk a.server a.me _ _ _ c.start.result c.start.ensures.answers c.start.ensures.untouched
    c.start.ensures.does
