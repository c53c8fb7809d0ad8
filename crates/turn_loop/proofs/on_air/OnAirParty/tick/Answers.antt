-- A tick is the station's.
use Rattle.turn_loop.proofs.Names.{at}
use Rattle.turn_loop.proofs.OnAirLemmas.{ticked}
use Rattle.turn_loop.proofs.on_air.OnAirParty.tick.Goals as goal

pub returns : goal.returns
returns g c =
    record {
      takes =
          ticked g.S.Station.me g.S.Station.course (at c.args.self.now c.args.disk.now) c.tick.new.self c.tick.new.disk c.tick.ensures.me c.args.moment c.tick.result c.requires.1 c.requires.2
          c.tick.ensures.takes;
    }
