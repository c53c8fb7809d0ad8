-- The course of a client's station is lawful.
use Rattle.uploader.proofs.turns.CourseLemmas.{lawful}
use Rattle.uploader.proofs.turns.station.ClientStationStation.is_lawful.Goals as goal

pub returns : goal.returns
returns g c = lawful g.D.Disk
