-- How a node stops before its turns, where what its disk keeps isn't recovered.
use Rattle.file_journal.specs.declared.faults.StoreFault.{StoreFault}
use Rattle.file_journal.specs.declared.faults.StoreFault.TheVariants as fault
use Rattle.turn_loop.specs.declared.stop.NodeStop.{NodeStop}
use Rattle.turn_loop.specs.declared.stop.NodeStop.TheVariants as stop

-- how a recovery that is refused stops it
abbrev pub stop_of_fault : StoreFault → NodeStop
stop_of_fault (fault.NotAStore found) = stop.NotAStore found
stop_of_fault (fault.Damaged at) = stop.Damaged at
stop_of_fault fault.Disk = stop.Disk
stop_of_fault fault.OutOfMemory = stop.OutOfMemory
