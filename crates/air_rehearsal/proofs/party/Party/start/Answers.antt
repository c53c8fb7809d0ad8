-- The name has an octet, and is that of no task: so a fresh one is begun, which is that of the world's next upload.
use Rattle.std.proofs.Common.{refl, subst, rules, arith, length, None, Ok, Err, Result, Option}
use Rattle.air_rehearsal.proofs.Names.{decimal_nonempty, StartsBy, Begun, NotesRefusal}
use Rattle.air_rehearsal.proofs.UploadLemmas.{Names, Started, cut_touches, fresh_starts, fresh_touches, started_by}
use Rattle.air_rehearsal.proofs.UploadLemmas.{lanes_asked, wants_fresh}
use Rattle.air_rehearsal.proofs.party.Party.start.Goals as goal

pub start_task-requires-clause-some : goal.start_task-requires-clause-some
start_task-requires-clause-some g c =
    let some = decimal_nonempty c.args.upload (omega (arith, c.ranges.upload.fits)) in
    search (rules, arith, decimal_nonempty)

pub returns-in-Fresh-clause-touches : goal.returns-in-Fresh-clause-touches
returns-in-Fresh-clause-touches g c = λ seat whole at_seat asked.
    let names : Names c.args.self.now.client seat c.format.result.now c.args.upload (length c.args.file.now)
    c.sum_of-digest.result c.args.file.now =
    record {
      client = at_seat.plays.client;
      name_is = c.format.ensures.text;
      length_is = refl;
      digest_is = c.sum_of-digest.ensures;
    } in
    let started =
    started_by g.D.Disk g.met.D.Disk.lasts_same c.args.self.now seat at_seat c.args.upload c.args.file.now whole asked
    c.start_task.new.self c.args.disk.now c.start_task.new.disk (Ok c.in-Ok.begun)
    c.format.result.now (length c.args.file.now) c.sum_of-digest.result names c.in-Ok.ensures.untouched
    c.in-Ok.ensures.does in
    let fresh =
    subst
    (λ (b : Begun). Started g.D.Disk g.met.D.Disk.lasts_same c.args.self.now seat at_seat c.args.upload
    c.args.file.now whole asked c.start_task.new.self c.args.disk.now c.start_task.new.disk (Ok b))
    c.in-Fresh.is started in
    record {
      lanes = lanes_asked c.args.self.now seat at_seat c.args.upload c.args.file.now whole asked;
      touches =
          fresh_touches g.D.Disk g.met.D.Disk.lasts_same c.args.self.now seat at_seat c.args.upload c.args.file.now
          whole asked c.start_task.new.self c.args.disk.now c.start_task.new.disk c.in-Fresh.task fresh;
    }

pub returns-in-Fresh-clause-starts : goal.returns-in-Fresh-clause-starts
returns-in-Fresh-clause-starts g c = λ seat whole at_seat asked.
    let names : Names c.args.self.now.client seat c.format.result.now c.args.upload (length c.args.file.now)
    c.sum_of-digest.result c.args.file.now =
    record {
      client = at_seat.plays.client;
      name_is = c.format.ensures.text;
      length_is = refl;
      digest_is = c.sum_of-digest.ensures;
    } in
    let started =
    started_by g.D.Disk g.met.D.Disk.lasts_same c.args.self.now seat at_seat c.args.upload c.args.file.now whole asked
    c.start_task.new.self c.args.disk.now c.start_task.new.disk (Ok c.in-Ok.begun)
    c.format.result.now (length c.args.file.now) c.sum_of-digest.result names c.in-Ok.ensures.untouched
    c.in-Ok.ensures.does in
    let fresh =
    subst
    (λ (b : Begun). Started g.D.Disk g.met.D.Disk.lasts_same c.args.self.now seat at_seat c.args.upload
    c.args.file.now whole asked c.start_task.new.self c.args.disk.now c.start_task.new.disk (Ok b))
    c.in-Fresh.is started in
    let wanted =
    wants_fresh c.args.self.now seat at_seat c.args.upload c.args.file.now whole asked
    (omega (arith, c.ranges.upload.fits)) c.format.result.now (length c.args.file.now) c.sum_of-digest.result names in
    let answers =
    subst (λ (b : Begun). StartsBy c.args.self.now.client.notes (Ok None) (Ok b)) c.in-Fresh.is
    (subst
    (λ (answer : Result (Option Begun) NotesRefusal). StartsBy c.args.self.now.client.notes answer
    (Ok c.in-Ok.begun)) wanted c.in-Ok.ensures.answers) in
    fresh_starts g.D.Disk g.met.D.Disk.lasts_same c.args.self.now seat at_seat c.args.upload c.args.file.now whole
    asked c.start_task.new.self c.args.disk.now c.start_task.new.disk c.in-Fresh.task fresh answers
    c.in-Ok.ensures.starts (record c.args.self.now { client = c.start_task.new.self }) refl refl

pub returns-in-Err-Disk-clause-touches : goal.returns-in-Err-Disk-clause-touches
returns-in-Err-Disk-clause-touches g c = λ seat whole at_seat asked.
    let names : Names c.args.self.now.client seat c.format.result.now c.args.upload (length c.args.file.now)
    c.sum_of-digest.result c.args.file.now =
    record {
      client = at_seat.plays.client;
      name_is = c.format.ensures.text;
      length_is = refl;
      digest_is = c.sum_of-digest.ensures;
    } in
    let started =
    started_by g.D.Disk g.met.D.Disk.lasts_same c.args.self.now seat at_seat c.args.upload c.args.file.now whole asked
    c.start_task.new.self c.args.disk.now c.start_task.new.disk (Err c.in-Err-Disk.field-0)
    c.format.result.now (length c.args.file.now) c.sum_of-digest.result names c.in-Err-Disk.ensures.untouched
    c.in-Err-Disk.ensures.does in
    let cut =
    subst
    (λ (r : NotesRefusal). Started g.D.Disk g.met.D.Disk.lasts_same c.args.self.now seat at_seat c.args.upload
    c.args.file.now whole asked c.start_task.new.self c.args.disk.now c.start_task.new.disk (Err r))
    c.in-Err-Disk.field-0-is started in
    record {
      lanes = lanes_asked c.args.self.now seat at_seat c.args.upload c.args.file.now whole asked;
      touches =
          cut_touches g.D.Disk g.met.D.Disk.lasts_same c.args.self.now seat at_seat c.args.upload c.args.file.now whole
          asked c.start_task.new.self c.args.disk.now c.start_task.new.disk cut;
    }
