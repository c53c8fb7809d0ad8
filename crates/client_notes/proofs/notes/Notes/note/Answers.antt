use Rattle.std.proofs.Common.{◌≡◌, Err, Ok, refl, sym, ◌∙◌, ap, subst}
use Rattle.file_journal.specs.declared.faults.JournalFault.TheVariants as fault
use Rattle.client_notes.proofs.Names.{err_from_is_err_and, ⊤, DiskFault, command_value, Answers, NotesState}
use Rattle.client_notes.proofs.KeptLemmas.{put-answers}
use Rattle.client_notes.proofs.notes.Notes.note.Goals as goal

pub returns : goal.returns
returns g c =
    let new : NotesState = record { lists = c.put.new.self.ledger.lists; journal = c.put.new.self.journal } in
    subst (λ (s : NotesState). Answers g.D.Disk s new c.args.disk.now c.put.new.disk (command_value c.args.change.now.command) (Ok (tt {0}))) c.self.view_is
    (put-answers {E = DiskFault} g.D.Disk c.self.inside.kept.ledger c.put.new.self.ledger c.self.inside.kept.journal c.put.new.self.journal c.args.disk.now c.put.new.disk (command_value c.args.change.now.command) (Ok (tt {0})) (Ok (tt {0}))
    (λ is. is) (λ is. is) (λ is. cc is) c.self.invariant.1 c.in_ok-put.ensures.makes tt (record { stands_at = c.in_ok-put.ensures.stands_at; does = c.in_ok-put.ensures.does }))

pub returns-in_err-put : goal.returns-in_err-put
returns-in_err-put g c =
    let new : NotesState = record { lists = c.put.new.self.ledger.lists; journal = c.put.new.self.journal } in
    let p = err_from_is_err_and c.from_residual.result c.from_residual.ensures.1 in
    let cut : c.from_residual.result ≡ Err fault.Disk = p.1 ∙ ap Err p.2 in
    subst (λ (s : NotesState). Answers g.D.Disk s new c.args.disk.now c.put.new.disk (command_value c.args.change.now.command) c.from_residual.result) c.self.view_is
    (put-answers {U = ⊤} g.D.Disk c.self.inside.kept.ledger c.put.new.self.ledger c.self.inside.kept.journal c.put.new.self.journal c.args.disk.now c.put.new.disk (command_value c.args.change.now.command) (Err c.in_err-put.field-0.0) c.from_residual.result
    (λ is. c.from_residual.ensures.0) (λ is. refl) (λ is. cc (sym cut ∙ is)) c.self.invariant.1 tt c.in_err-put.ensures.err (record { stands_at = c.in_err-put.ensures.stands_at; does = c.in_err-put.ensures.does }))
