-- The octets are those of the frame that the last octet ended.
use Rattle.turn_loop.proofs.Found.{found_in}
use Rattle.turn_loop.proofs.station_reader.StationReader.frame.Goals as goal

pub returns-clause-frame : goal.returns-clause-frame
returns-clause-frame c = found_in _ _ _ _ c.self.view_is c.frame.ensures.octets c.frame_for.ensures.found
