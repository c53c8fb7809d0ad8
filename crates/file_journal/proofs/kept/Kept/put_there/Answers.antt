use Rattle.std.proofs.Common.{◌+◌, ◌∷◌, [], length, refl, sym, ◌∙◌, ap, subst, arith}
use Rattle.file_journal.proofs.Names.{done_at, octets_of, blocks_on, puts_same, knew}
use Rattle.file_journal.proofs.PuttingLemmas.{calls_both, goes_other, goes_then, turn_cut, turn_cut_first, turn_done}
use Rattle.file_journal.proofs.BoundLemmas.{moves_over}
use Rattle.file_journal.proofs.CommandLemmas.{paces_exactly}
use Rattle.file_journal.proofs.kept.Kept.put_there.Goals as goal

pub returns-in_err-put_block-clause-does : goal.returns-in_err-put_block-clause-does
returns-in_err-put_block-clause-does g c =
    let change = g.C.Change in
    let form = change.form in
    let disk = g.met.D.Disk in
    let asked = c.requires in
    let now = c.args.self.now in
    let old = c.args.disk.now in
    let turn = change.turn c.args.change.now now.ledger in
    let made = c.in_err-put_block.ensures in
    let mid = c.put_block.new in
    let failed = c.from_residual.ensures.0 in
    turn_cut_first g.D.Disk change.steps change.seen form g.met.C.Change.is_seen disk.earlier disk.lasts_on old mid.disk now.journal mid.self.journal (change.state now.ledger) (change.state mid.self.ledger) turn _
    asked.writes asked.may.stands_at asked.may.healthy asked.lets _ made.stays (done_at form (g.D.Disk.moment old) (turn.command ∷ [])) (paces_exactly form now.journal (g.D.Disk.moment old) (turn.command ∷ []))
    refl (omega (arith, made.calls.at_most, asked.writes.calls)) _ failed (puts_same g.D.Disk old mid.disk _ _ (λ bad. failed) (λ bad. refl) made.stays.goes.puts)

pub returns-in_err-put_block-clause-goes : goal.returns-in_err-put_block-clause-goes
returns-in_err-put_block-clause-goes g c =
    let mid = c.put_block.new in
    goes_other g.D.Disk _ _ c.args.self.now.journal mid.self.journal c.args.disk.now mid.disk (λ bad. c.from_residual.ensures.0) (λ bad. refl) c.in_err-put_block.ensures.stays.goes

pub put_record-requires-clause-lets : goal.put_record-requires-clause-lets
put_record-requires-clause-lets g c known =
    let made = c.in_ok-put_block.ensures in
    subst (λ ledger. (g.C.Change.turn c.args.change.now ledger).lets (blocks_on (g.D.Disk.content c.put_block.new.disk))) (sym (ap (λ k. k.ledger) made.kept))
    (g.met.C.Change.lets_same _ _ _ _ made.stays.same (c.requires.lets (knew g.C.Change.form _ _ made.stays.goes.puts.told known)))

pub returns-in-Ok-clause-does : goal.returns-in-Ok-clause-does
returns-in-Ok-clause-does g c =
    let change = g.C.Change in
    let form = change.form in
    let disk = g.met.D.Disk in
    let asked = c.requires in
    let now = c.args.self.now in
    let old = c.args.disk.now in
    let turn = change.turn c.args.change.now now.ledger in
    let block = c.in_ok-put_block.ensures in
    let mid = c.put_block.new in
    let made = c.in-Ok.ensures in
    let new = c.put_record.new in
    let kept = ap (λ k. k.ledger) block.kept in
    turn_done g.D.Disk change.steps change.seen form g.met.C.Change.is_seen disk.earlier disk.lasts_on old mid.disk now.journal mid.self.journal (change.state now.ledger) (change.state mid.self.ledger) turn _
    asked.writes asked.may.stands_at asked.may.healthy asked.lets _ block.stays (done_at form (g.D.Disk.moment old) (turn.command ∷ [])) (paces_exactly form now.journal (g.D.Disk.moment old) (turn.command ∷ []))
    new.disk new.self.journal (λ bad. cc bad) (λ known. g.met.C.Change.lets_same _ _ _ _ block.stays.same (asked.lets known)) block.there
    _ (rw kept at made.turns) made.goes (omega (arith, made.calls.at_most, block.calls.at_most, asked.writes.calls)) (λ bad. cc bad) _ (rw kept at made.state) made.stands_at made.same
    (calls_both g.D.Disk old mid.disk new.disk _ (form.calls turn.command) block.stays.goes.puts.told block.calls.each made.calls.each asked.writes.calls)
    (λ has. moves_over now.journal mid.self.journal new.self.journal (octets_of form (turn.command ∷ [])) (4 + length mid.self.content) (ap (λ k. k.journal) block.kept) made.moves
    (omega (arith, asked.writes.octets, ap (λ k. length k.content) block.kept)))

pub returns-in-Ok-clause-goes : goal.returns-in-Ok-clause-goes
returns-in-Ok-clause-goes g c =
    goes_then g.D.Disk g.met.D.Disk.lasts_on _ _ c.args.self.now.journal c.put_block.new.self.journal c.put_record.new.self.journal c.args.disk.now c.put_block.new.disk c.put_record.new.disk (λ bad. cc bad)
    c.in_ok-put_block.ensures.stays.goes c.in-Ok.ensures.goes

pub returns-in-Err-clause-does : goal.returns-in-Err-clause-does
returns-in-Err-clause-does g c =
    let change = g.C.Change in
    let form = change.form in
    let disk = g.met.D.Disk in
    let asked = c.requires in
    let now = c.args.self.now in
    let old = c.args.disk.now in
    let turn = change.turn c.args.change.now now.ledger in
    let block = c.in_ok-put_block.ensures in
    let mid = c.put_block.new in
    let made = c.in-Err.ensures in
    let new = c.put_record.new in
    let kept = ap (λ k. k.ledger) block.kept in
    turn_cut g.D.Disk change.steps change.seen form g.met.C.Change.is_seen disk.earlier disk.lasts_on old mid.disk now.journal mid.self.journal (change.state now.ledger) (change.state mid.self.ledger) turn _
    asked.writes asked.may.stands_at asked.may.healthy asked.lets _ block.stays (done_at form (g.D.Disk.moment old) (turn.command ∷ [])) (paces_exactly form now.journal (g.D.Disk.moment old) (turn.command ∷ []))
    new.disk new.self.journal (λ bad. cc bad) (λ known. g.met.C.Change.lets_same _ _ _ _ block.stays.same (asked.lets known)) block.there
    _ (rw kept at made.turns) made.goes (omega (arith, made.calls.at_most, block.calls.at_most, asked.writes.calls)) refl _ (ap change.state (made.err ∙ kept)) made.stands_at made.same

pub returns-in-Err-clause-goes : goal.returns-in-Err-clause-goes
returns-in-Err-clause-goes g c =
    goes_then g.D.Disk g.met.D.Disk.lasts_on _ _ c.args.self.now.journal c.put_block.new.self.journal c.put_record.new.self.journal c.args.disk.now c.put_block.new.disk c.put_record.new.disk (λ bad. cc bad)
    c.in_ok-put_block.ensures.stays.goes c.in-Err.ensures.goes
