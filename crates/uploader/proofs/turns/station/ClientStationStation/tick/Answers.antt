-- A tick is taken.
use Rattle.uploader.proofs.Names.{at, ticks, may-kept, ClientStation, does-nothing}
use Rattle.uploader.proofs.turns.CourseLemmas.{event-taken}
use Rattle.uploader.proofs.turns.station.ClientStationStation.tick.Goals as goal

pub returns-clause-takes : goal.returns-clause-takes
returns-clause-takes g c =
    let old = c.args.self.now in
    let new : ClientStation = record { client = c.tick.new.self; halted = old.halted } in
    let disk = c.args._disk.now in
    let may = c.requires.may in
    let keeps = c.tick.ensures.keeps in
    event-taken g.D.Disk g.met.D.Disk.lasts_on (at old disk) (at new disk) c.requires (ticks c.args._moment) c.requires.awake (may-kept g.D.Disk old.client new.client disk keeps may)
    (λ client is. (c.tick.ensures.ticks client is, does-nothing g.D.Disk g.met.D.Disk.lasts_same old.client.notes new.client.notes disk keeps.notes may.ready))
