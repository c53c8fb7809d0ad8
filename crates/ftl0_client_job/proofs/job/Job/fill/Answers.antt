use Rattle.std.proofs.Common.{rules}
use Rattle.ftl0_client_job.proofs.Names.{PutsDue, next_due, JobState}
use Rattle.ftl0_client_job.proofs.LawLemmas.{due-goes}
use Rattle.ftl0_client_job.proofs.job.Job.fill.Goals as goal

pub returns-clause-notes_are : goal.returns-clause-notes_are
returns-clause-notes_are c lists goes =
    let now : JobState = record { work = c.fill.new.self; ending = c.self.inside.ending } in
    let puts : PutsDue (next_due c.args.self.now) c.fill.result c.args.self.now now c.args.out.now.items c.fill.new.out.items = search rules in
    due-goes lists c.args.self.now now c.fill.result c.args.out.now.items c.fill.new.out.items puts goes
