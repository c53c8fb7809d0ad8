use Rattle.std.proofs.Common.{rules, ◌+◌, length, Ok, refl, arith}
use Rattle.file_journal.proofs.Names.{kept_on}
use Rattle.file_journal.proofs.PuttingLemmas.{stays_other}
use Rattle.file_journal.proofs.RewriteLemmas.{anew_other}
use Rattle.file_journal.proofs.BoundLemmas.{halves_without, no_room, room_there}
use Rattle.file_journal.proofs.kept.Kept.make_room.Goals as goal

pub write_anew-requires-clause-in_halves : goal.write_anew-requires-clause-in_halves
write_anew-requires-clause-in_halves g c =
    let now = c.args.self.now in
    halves_without now.journal (4 + length now.content)
    (no_room now.journal (4 + length now.content) (omega (arith, c.len.ensures.value, c.len.ensures.most)) (omega (arith, c.if-room-len.false, c.room.ensures, c.len.ensures.value)))

pub returns-then-room-len-clause-anew : goal.returns-then-room-len-clause-anew
returns-then-room-len-clause-anew g c none =
    let now = c.args.self.now in
    absurd (none (room_there now.journal (4 + length now.content) (omega arith) (omega (arith, c.if-room-len.true, c.room.ensures, c.len.ensures.value))))

pub returns-in_err-write_anew-clause-stays : goal.returns-in_err-write_anew-clause-stays
returns-in_err-write_anew-clause-stays g c =
    let change = g.C.Change in
    let now = c.args.self.now in
    let new = c.write_anew.new in
    stays_other g.D.Disk change.steps change.seen change.form g.met.C.Change.is_seen g.met.D.Disk.earlier g.met.D.Disk.lasts_on _ _ (kept_on (change.state now.ledger) now.journal c.args.disk.now)
    (kept_on (change.state new.self.ledger) new.self.journal new.disk) (λ bad. c.from_residual.ensures.0) (λ bad. refl) c.in_err-write_anew.ensures.stays

pub returns-in_err-write_anew-clause-anew : goal.returns-in_err-write_anew-clause-anew
returns-in_err-write_anew-clause-anew g c none =
    anew_other g.D.Disk _ c.args.self.now.journal c.write_anew.new.self.journal c.args.disk.now c.write_anew.new.disk c.write_anew.result _ (λ bad. c.from_residual.ensures.0) (λ bad. search rules) c.write_anew.ensures.anew

pub returns-clause-anew : goal.returns-clause-anew
returns-clause-anew g c none =
    anew_other g.D.Disk _ c.args.self.now.journal c.write_anew.new.self.journal c.args.disk.now c.write_anew.new.disk (Ok c.in_ok-write_anew.field-0) _ (λ bad. bad) (λ bad. bad) c.in_ok-write_anew.ensures.anew
