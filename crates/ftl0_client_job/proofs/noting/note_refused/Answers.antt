use Rattle.std.proofs.Common.{rules, arith, ◌≡◌, sym, subst, List, ◌∷◌, []}
use Rattle.ftl0_client_job.proofs.Names.{common_steps, NotesCommand, refused, NotesAtOnce, refusal_of}
use Rattle.ftl0_client_job.proofs.NotingLemmas.{noted-none, answers-at-once}
use Rattle.ftl0_client_job.proofs.noting.note_refused.Goals as goal

pub returns : goal.returns
returns g c =
    let same : refusal_of c.args.task c.args.code ≡ refused c.args.task c.args.code ∷ [] = grind (arith, common_steps) in
    subst (λ (cs : List NotesCommand). NotesAtOnce g.D.Disk c.args.notes.now c.refused.new.self c.args.disk.now c.refused.new.disk cs c.answer_of.result) (sym same)
    (answers-at-once g.D.Disk c.args.notes.now c.refused.new.self c.args.disk.now c.refused.new.disk (refused c.args.task c.args.code) c.refused.result c.answer_of.result c.refused.ensures
    c.answer_of.ensures)

pub returns-then-is : goal.returns-then-is
returns-then-is g c =
    let none = noted-none g.D.Disk c.args.notes.now c.args.disk.now c.requires.ready (g.met.D.Disk.lasts_same c.args.disk.now) in search rules
