-- A job takes a packet as what it does takes it.
use Rattle.std.proofs.Common.{◌≡◌, Ok, rules, sym, ◌∙◌, ap, subst, true, false}
use Rattle.ftl0_client_job.proofs.Names.{⊤, is_some, Option, Result, Err, item_of, Several-ready, Ending, Halt, GoBy, GoWith, NotesGoWith, JobState, TakesPacket, with_notes}
use Rattle.ftl0_client_job.proofs.JobLemmas.{ending-none, ending-some, goes-on, takes-ended, takes-item, takes-stop}
use Rattle.ftl0_client_job.proofs.job.Job.take.Goals as goal

pub returns-then-is_some-clause-takes : goal.returns-then-is_some-clause-takes
returns-then-is_some-clause-takes g c =
    let test : is_some c.self.inside.ending ≡ true = search rules in
    let some = ending-some c.self.inside.ending test in
    let is = ap (λ (j : JobState). j.ending) (sym c.self.view_is) ∙ some.1 in
    takes-ended g.D.Disk (item_of c.args.packet) c.args.self.now some.0 c.args.notes.now c.args.disk.now c.args.replies.now.items is c.requires.empty c.requires.may.ready
    (g.met.D.Disk.lasts_same c.args.disk.now)

pub returns-in_err-self-inside-clause-takes : goal.returns-in_err-self-inside-clause-takes
returns-in_err-self-inside-clause-takes g c =
    let job : JobState = record { work = c.self.inside.work; ending = c.self.inside.ending } in
    let now : JobState = record { work = c.take_item.new.self; ending = c.self.inside.ending } in
    let test : is_some c.self.inside.ending ≡ false = search rules in
    let is = ending-none c.self.inside.ending test in
    let why = c.in_err-self-inside.field-0.0 in
    let stops : c.from_residual.result ≡ Err why = search rules in
    let P : JobState → Result ⊤ Halt → Type 0 = λ j r. TakesPacket g.D.Disk (item_of c.args.packet) (with_notes j c.args.notes.now c.args.disk.now)
    (with_notes now c.take_item.new.notes c.take_item.new.disk) c.take_item.new.replies.items r in
    subst (λ (j : JobState). P j c.from_residual.result) c.self.view_is
    (subst (P job) (sym stops)
    (takes-stop g.D.Disk (item_of c.args.packet) job c.take_item.new.self c.args.notes.now c.take_item.new.notes c.args.disk.now c.take_item.new.disk c.take_item.new.replies.items is why
    c.in_err-self-inside.ensures.takes c.in_err-self-inside.ensures.stops))

pub returns-clause-takes : goal.returns-clause-takes
returns-clause-takes g c =
    let job : JobState = record { work = c.self.inside.work; ending = c.self.inside.ending } in
    let now : JobState = record { work = c.take_item.new.self; ending = c.in_ok-self-inside.field-0 } in
    let test : is_some c.self.inside.ending ≡ false = search rules in
    let is = ending-none c.self.inside.ending test in
    let P : JobState → Type 0 = λ j. TakesPacket g.D.Disk (item_of c.args.packet) (with_notes j c.args.notes.now c.args.disk.now) (with_notes now c.take_item.new.notes c.take_item.new.disk) c.take_item.new.replies.items (Ok tt) in
    subst P c.self.view_is
    (takes-item g.D.Disk (item_of c.args.packet) job c.take_item.new.self c.args.notes.now c.take_item.new.notes c.args.disk.now c.take_item.new.disk c.take_item.new.replies.items is
    c.in_ok-self-inside.field-0 c.in_ok-self-inside.ensures.takes)

pub returns-clause-may : goal.returns-clause-may
returns-clause-may g c =
    let job : JobState = record { work = c.self.inside.work; ending = c.self.inside.ending } in
    let test : is_some c.self.inside.ending ≡ false = search rules in
    let is = ending-none c.self.inside.ending test in
    let went = subst (λ (j : JobState). NotesGoWith c.args.notes.now.lists j) (sym c.self.view_is) c.requires.may.notes_are in
    let goes : GoWith c.args.notes.now.lists job.work = subst (λ (e : Option Ending). GoBy e c.args.notes.now.lists job.work) is went in
    record {
      ready = Several-ready g.D.Disk c.args.notes.now c.take_item.new.notes c.args.disk.now c.take_item.new.disk _ c.in_ok-self-inside.ensures.takes.noted;
      notes_are =
          goes-on g.D.Disk (item_of c.args.packet) job c.take_item.new.self c.args.notes.now c.take_item.new.notes c.args.disk.now c.take_item.new.disk c.take_item.new.replies.items is
          c.in_ok-self-inside.field-0 goes c.in_ok-self-inside.ensures.takes;
    }
