-- A frame that was heard is taken, or halts the station.
use Rattle.std.proofs.Common.{true, refl}
use Rattle.ax25_frames.specs.Values.{value_of}
use Rattle.turn_loop.specs.Events.{hears}
use Rattle.uploader.proofs.Names.{at, ClientStation}
use Rattle.uploader.proofs.turns.CourseLemmas.{event-halted, event-taken}
use Rattle.uploader.proofs.turns.station.ClientStationStation.hear.Goals as goal

pub returns-in-Ok-clause-takes : goal.returns-in-Ok-clause-takes
returns-in-Ok-clause-takes g c =
    let new : ClientStation = record { client = c.hear.new.self; halted = c.args.self.now.halted } in
    event-taken g.D.Disk g.met.D.Disk.lasts_on (at c.args.self.now c.args.disk.now) (at new c.hear.new.disk) c.requires.fit (hears (value_of c.args.frame.now) c.args._moment)
    c.requires.fit.awake c.in-Ok.ensures.may (λ client is. (c.in-Ok.ensures.hears client is).by)

pub returns-in-Err-clause-takes : goal.returns-in-Err-clause-takes
returns-in-Err-clause-takes g c =
    let frame = value_of c.args.frame.now in
    let old = at c.args.self.now c.args.disk.now in
    let new = at {S = ClientStation} (record { client = c.hear.new.self; halted = true }) c.hear.new.disk in (
      c.in-Err.why,
      c.from.ensures,
      (
        refl,
        λ past h.
            event-halted g.D.Disk g.met.D.Disk.lasts_same g.met.D.Disk.lasts_on c.goes_law.ensures old new c.requires.fit frame c.args._moment c.in-Err.why past h
            (c.in-Err.ensures.hears h.now h.is).by,
      ),
    )
