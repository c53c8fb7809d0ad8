-- The course of a station on the air is lawful as the station's own is.
use Rattle.turn_loop.proofs.OnAirLemmas.{on-air-lawful}
use Rattle.turn_loop.proofs.on_air.OnAirParty.is_lawful.Goals as goal

pub returns : goal.returns
returns g c = on-air-lawful g.S.Station.me g.S.Station.course c.some_frames_law.ensures c.is_lawful.ensures
