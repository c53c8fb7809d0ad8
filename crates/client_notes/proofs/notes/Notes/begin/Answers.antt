use Rattle.std.proofs.Common.{◌≡◌, ℕ, ◌+◌, Err, Ok, ◌∙◌, ap, subst}
use Rattle.client_notes.specs.declared.refusals.NotesRefusal.TheVariants as refusal
use Rattle.client_notes.proofs.Names.{⊤, DiskFault, Noting, fresh_task, NotesCommand, start, task_count, NotesState}
use Rattle.client_notes.proofs.KeptLemmas.{brought-cut, brought-done}
use Rattle.client_notes.proofs.notes.Notes.begin.Goals as goal

pub returns-in-Ok-clause-noting : goal.returns-in-Ok-clause-noting
returns-in-Ok-clause-noting g c =
    let new : NotesState = record { lists = c.put.new.self.ledger.lists; journal = c.put.new.self.journal } in
    let task = c.new-task.result in
    let named : NotesCommand = start task c.args.server c.args.me c.args.name.now c.args.file_length c.args.digest.now in
    let same : named ≡ fresh_task c.args.self.now.lists c.args.server c.args.me c.args.name.now c.args.file_length c.args.digest.now =
    ap (λ (n : ℕ). start n c.args.server c.args.me c.args.name.now c.args.file_length c.args.digest.now) (c.new-task.ensures ∙ ap (λ (n : ℕ). n + 1) (c.task_count.ensures.count ∙ ap task_count c.lists.ensures)) in
    subst (λ (command : NotesCommand). Noting g.D.Disk c.args.self.now new c.args.disk.now c.put.new.disk command (Ok task)) same
    (subst (λ (s : NotesState). Noting g.D.Disk s new c.args.disk.now c.put.new.disk named (Ok task)) c.self.view_is
    (brought-done {E = DiskFault} g.D.Disk c.self.inside.kept.ledger c.bring_task.new.self c.put.new.self.ledger c.self.inside.kept.journal c.put.new.self.journal c.args.disk.now c.put.new.disk named
    c.in_ok-bring_task.ensures.ok.noted c.in-Ok.field-0 task c.in-Ok.ensures.makes (record { stands_at = c.in-Ok.ensures.stands_at; does = c.in-Ok.ensures.does })))

pub returns-in-Err-clause-noting : goal.returns-in-Err-clause-noting
returns-in-Err-clause-noting g c =
    let new : NotesState = record { lists = c.take_back.new.self.lists; journal = c.put.new.self.journal } in
    let task = c.new-task.result in
    let named : NotesCommand = start task c.args.server c.args.me c.args.name.now c.args.file_length c.args.digest.now in
    let same : named ≡ fresh_task c.args.self.now.lists c.args.server c.args.me c.args.name.now c.args.file_length c.args.digest.now =
    ap (λ (n : ℕ). start n c.args.server c.args.me c.args.name.now c.args.file_length c.args.digest.now) (c.new-task.ensures ∙ ap (λ (n : ℕ). n + 1) (c.task_count.ensures.count ∙ ap task_count c.lists.ensures)) in
    subst (λ (command : NotesCommand). Noting {T = ℕ} g.D.Disk c.args.self.now new c.args.disk.now c.put.new.disk command (Err refusal.Disk)) same
    (subst (λ (s : NotesState). Noting {T = ℕ} g.D.Disk s new c.args.disk.now c.put.new.disk named (Err refusal.Disk)) c.self.view_is
    (brought-cut {T = ⊤} g.D.Disk c.self.inside.kept.ledger c.bring_task.new.self c.put.new.self.ledger c.self.inside.kept.journal c.put.new.self.journal c.args.disk.now c.put.new.disk named
    c.in_ok-bring_task.ensures.ok.noted c.in-Err.field-0 c.take_back.new.self c.take_back.ensures.lists (record { stands_at = c.in-Err.ensures.stands_at; does = c.in-Err.ensures.does })))
