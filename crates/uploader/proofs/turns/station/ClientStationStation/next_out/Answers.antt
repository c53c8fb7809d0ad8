-- A frame is given, or all was given.
use Rattle.std.proofs.Common.{sym, subst, ◌∙◌}
use Rattle.uploader.proofs.Names.{GaveAll, at, ClientState, client_course, ClientStation}
use Rattle.uploader.proofs.turns.CourseLemmas.{gave-all, gives-next, hands-none}
use Rattle.uploader.proofs.turns.station.ClientStationStation.next_out.Goals as goal

pub returns-clause-next : goal.returns-clause-next
returns-clause-next g c is =
    let out = c.next_out-given in
    let new : ClientStation = record { client = out.new.self; halted = c.args.self.now.halted } in
    gives-next g.D.Disk g.met.D.Disk.lasts_same c.args.self.now new c.args._disk.now c.if-self.false c.if-self.false out.ensures.same _ out.new.out.items out.result is out.ensures.next c.empties_law.ensures

pub returns-clause-all : goal.returns-clause-all
returns-clause-all g c is =
    let old = c.args.self.now in
    let disk = c.args._disk.now in
    let out = c.next_out-given in
    subst (λ (client : ClientState). GaveAll (client_course g.D.Disk) (at old disk) (at (record { client = client; halted = old.halted }) disk)) (sym (out.ensures.none is).0)
    (gave-all g.D.Disk old disk c.if-self.false (record { quiet = sym out.ensures.pending ∙ is; silent = hands-none old.client out.new.self _ _ out.result out.ensures.next is }))
