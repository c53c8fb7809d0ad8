use Rattle.std.proofs.Common.{◌≡◌, ◌+◌, ◌∷◌, [], length, inl, inr, refl, sym, ap, subst, arith}
use Rattle.file_journal.proofs.Names.{octets_of, kept_on, blocks_on, HasRoom, Layout, puts_same, knew}
use Rattle.file_journal.proofs.PuttingLemmas.{does_behind, goes_then, one_paces, paced, stays_other, turn_cut_first}
use Rattle.file_journal.proofs.BoundLemmas.{made_few}
use Rattle.file_journal.proofs.CommandLemmas.{room_of}
use Rattle.file_journal.proofs.kept.Kept.put.Goals as goal

pub returns-in_err-kind-clause-does : goal.returns-in_err-kind-clause-does
returns-in_err-kind-clause-does g c =
    let change = g.C.Change in
    let form = change.form in
    let disk = g.met.D.Disk in
    let asked = c.requires in
    let now = c.args.self.now in
    let old = c.args.disk.now in
    let turn = change.turn c.args.change.now now.ledger in
    let start = c.make_room.new in
    let writes = c.write-kind.ensures.writes in
    let made = c.make_room.ensures in
    let failed = c.from_residual.ensures.0 in
    let octets : octets_of form (turn.command ∷ []) ≡ 4 + length c.write-kind.new.content = omega (arith, writes.octets) in
    let few = made_few g.D.Disk change.steps change.seen form g.met.C.Change.is_seen now.journal start.self.journal (change.state now.ledger) old start.disk _ c.make_room.result asked.stands_at asked.healthy
    (λ has. (made.untouched has).1) made.anew in
    turn_cut_first g.D.Disk change.steps change.seen form g.met.C.Change.is_seen disk.earlier disk.lasts_on old start.disk now.journal start.self.journal (change.state now.ledger) (change.state start.self.ledger) turn _
    writes asked.stands_at asked.healthy asked.lets _ c.in_err-kind.ensures.stays (paced (g.D.Disk.moment old) (g.D.Disk.moment start.disk) (form.calls turn.command))
    (one_paces form now.journal (g.D.Disk.moment old) (g.D.Disk.moment start.disk) turn.command few
    (λ has. ap g.D.Disk.moment (made.untouched (subst (HasRoom now.journal) octets (room_of form now.journal (turn.command ∷ []) asked.stands_at.layout_is has))).1))
    refl (omega arith) _ failed (puts_same g.D.Disk old start.disk _ _ (λ bad. failed) (λ bad. refl) c.in_err-kind.ensures.stays.goes.puts)

pub returns-in_err-kind-clause-room : goal.returns-in_err-kind-clause-room
returns-in_err-kind-clause-room g c none =
    let change = g.C.Change in
    let now = c.args.self.now in
    let start = c.make_room.new in
    let made = c.in_err-kind.ensures in
    let failed = c.from_residual.ensures.0 in
    let anew = made.anew (subst (λ count. ¬ HasRoom now.journal count) c.write-kind.ensures.writes.octets none) in
    inr (record {
      stopped = failed;
      stays = stays_other g.D.Disk change.steps change.seen change.form g.met.C.Change.is_seen g.met.D.Disk.earlier g.met.D.Disk.lasts_on _ _ (kept_on (change.state now.ledger) now.journal c.args.disk.now)
          (kept_on (change.state start.self.ledger) start.self.journal start.disk) (λ bad. failed) (λ bad. refl) made.stays;
      journal = anew.fails;
      since = anew.since;
      at_most = anew.calls.at_most;
    })

pub put_there-requires-clause-lets : goal.put_there-requires-clause-lets
put_there-requires-clause-lets g c known =
    let room = c.in_ok-kind.ensures in
    subst (λ ledger. (g.C.Change.turn c.args.change.now ledger).lets (blocks_on (g.D.Disk.content c.make_room.new.disk))) (sym room.ledger)
    (g.met.C.Change.lets_same _ _ _ _ room.stays.same (c.requires.lets (knew g.C.Change.form _ _ room.stays.goes.puts.told known)))

pub returns-clause-does : goal.returns-clause-does
returns-clause-does g c =
    let change = g.C.Change in
    let form = change.form in
    let disk = g.met.D.Disk in
    let asked = c.requires in
    let now = c.args.self.now in
    let old = c.args.disk.now in
    let turn = change.turn c.args.change.now now.ledger in
    let start = c.make_room.new in
    let room = c.in_ok-kind.ensures in
    let new = c.put_there.new in
    let octets : octets_of form (turn.command ∷ []) ≡ 4 + length c.write-kind.new.content = omega (arith, c.write-kind.ensures.writes.octets) in
    let octets_now : octets_of form (turn.command ∷ []) ≡ 4 + length start.self.content = omega (arith, room.writes.octets) in
    let few = made_few g.D.Disk change.steps change.seen form g.met.C.Change.is_seen now.journal start.self.journal (change.state now.ledger) old start.disk _ c.make_room.result asked.stands_at asked.healthy
    (λ has. (c.make_room.ensures.untouched has).1) c.make_room.ensures.anew in
    let does = rw room.ledger at c.put_there.ensures.does in
    does_behind g.D.Disk change.steps change.seen form g.met.C.Change.is_seen disk.earlier disk.lasts_on _ _ turn.command (kept_on (change.state now.ledger) now.journal old)
    (kept_on (change.state now.ledger) start.self.journal start.disk) (kept_on (change.state new.self.ledger) new.self.journal new.disk) (λ bad. cc bad) asked.healthy asked.stands_at.layout_is (rw room.ledger at room.stays) few
    (subst (λ (l : Layout). HasRoom (record start.self.journal { layout = l }) (octets_of form (turn.command ∷ []))) room.stays.stands_at.layout_is (subst (HasRoom start.self.journal) (sym octets_now) room.room))
    (λ has. let same = room.untouched (subst (HasRoom now.journal) octets (room_of form now.journal (turn.command ∷ []) asked.stands_at.layout_is has)) in (ap (λ k. k.journal) same.0, same.1))
    does

pub returns-clause-room : goal.returns-clause-room
returns-clause-room g c none =
    let change = g.C.Change in
    let now = c.args.self.now in
    let start = c.make_room.new in
    let room = c.in_ok-kind.ensures in
    let anew = room.anew (subst (λ count. ¬ HasRoom now.journal count) c.write-kind.ensures.writes.octets none) in
    let stays = rw room.ledger at room.stays in
    inl (record {
      between = kept_on (change.state now.ledger) start.self.journal start.disk;
      stays = stays_other g.D.Disk change.steps change.seen change.form g.met.C.Change.is_seen g.met.D.Disk.earlier g.met.D.Disk.lasts_on _ _ (kept_on (change.state now.ledger) now.journal c.args.disk.now)
          (kept_on (change.state now.ledger) start.self.journal start.disk) (λ bad. cc bad) (λ never. absurd never) stays;
      content = anew.ok;
      journal = anew.goes_on;
      calls = anew.calls.each;
      since = anew.since;
      room = subst (HasRoom start.self.journal) (sym room.writes.octets) room.room;
      does = rw room.ledger at c.put_there.ensures.does;
    })

pub returns-clause-goes : goal.returns-clause-goes
returns-clause-goes g c =
    goes_then g.D.Disk g.met.D.Disk.lasts_on _ _ c.args.self.now.journal c.make_room.new.self.journal c.put_there.new.self.journal c.args.disk.now c.make_room.new.disk c.put_there.new.disk (λ bad. cc bad)
    c.in_ok-kind.ensures.stays.goes c.put_there.ensures.goes
