-- What the server sends is given, one frame after another.
use Rattle.server_node.proofs.Names.{at}
use Rattle.server_node.proofs.on_air.ServerLemmas.{gave-all, gives-next}
use Rattle.server_node.proofs.on_air.station.ServerStationStation.next_out.Goals as goal

pub returns-then-not-next_out-clause-all : goal.returns-then-not-next_out-clause-all
returns-then-not-next_out-clause-all g c is =
    let out = c.next_out.ensures in
    gave-all g.D.Disk g.met.D.Disk.lasts_same (at c.args.self.now c.args._disk.now) c.next_out.new.self _ _ c.next_out.result out.pending out.sends out.next out.same.store c.if-not-next_out.true
    (out.none c.if-not-next_out.true) (λ files. out.settles files c.if-not-next_out.true)

pub returns-clause-next : goal.returns-clause-next
returns-clause-next g c is =
    let out = c.next_out.ensures in
    gives-next g.D.Disk g.met.D.Disk.lasts_same (at c.args.self.now c.args._disk.now) c.next_out.new.self _ _ c.next_out.result out.pending out.sends out.next out.same.store c.if-not-next_out.false
    c.empties_law.ensures
