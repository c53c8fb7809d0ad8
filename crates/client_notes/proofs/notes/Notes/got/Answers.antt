use Rattle.std.proofs.Common.{Err, Ok, subst}
use Rattle.client_notes.specs.declared.refusals.NotesRefusal.TheVariants as refusal
use Rattle.client_notes.proofs.Names.{⊤, DiskFault, Noting, got, NotesState}
use Rattle.client_notes.proofs.KeptLemmas.{brought-cut, brought-done}
use Rattle.client_notes.proofs.notes.Notes.got.Goals as goal

pub returns-in-Ok : goal.returns-in-Ok
returns-in-Ok g c =
    let new : NotesState = record { lists = c.put.new.self.ledger.lists; journal = c.put.new.self.journal } in
    let command = got c.args.server c.args.number c.args.bytes.now in
    subst (λ (s : NotesState). Noting g.D.Disk s new c.args.disk.now c.put.new.disk command (Ok (tt {0}))) c.self.view_is
    (brought-done {E = DiskFault} g.D.Disk c.self.inside.kept.ledger c.bring_got.new.self c.put.new.self.ledger c.self.inside.kept.journal c.put.new.self.journal c.args.disk.now c.put.new.disk command
    c.in_ok-bring_got.ensures.ok.noted c.in-Ok.field-0 (tt {0}) c.in-Ok.ensures.makes (record { stands_at = c.in-Ok.ensures.stands_at; does = c.in-Ok.ensures.does }))

pub returns-in-Err : goal.returns-in-Err
returns-in-Err g c =
    let new : NotesState = record { lists = c.take_back.new.self.lists; journal = c.put.new.self.journal } in
    let command = got c.args.server c.args.number c.args.bytes.now in
    subst (λ (s : NotesState). Noting g.D.Disk s new c.args.disk.now c.put.new.disk command (Err refusal.Disk)) c.self.view_is
    (brought-cut {T = ⊤} g.D.Disk c.self.inside.kept.ledger c.bring_got.new.self c.put.new.self.ledger c.self.inside.kept.journal c.put.new.self.journal c.args.disk.now c.put.new.disk command
    c.in_ok-bring_got.ensures.ok.noted c.in-Err.field-0 c.take_back.new.self c.take_back.ensures.lists (record { stands_at = c.in-Err.ensures.stands_at; does = c.in-Err.ensures.does }))
