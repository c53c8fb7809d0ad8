-- How the stops of a command's parts stop it.
use Rattle.std.specs.Prelude.{Option, None, Some, Result, Ok, Err}
use Rattle.px_base.specs.declared.shelf.ShelfRefusal.{ShelfRefusal}
use Rattle.px_base.specs.declared.shelf.ShelfRefusal.TheVariants as shelf
use Rattle.client_notes.specs.declared.refusals.NotesRefusal.{NotesRefusal}
use Rattle.client_notes.specs.declared.refusals.NotesRefusal.TheVariants as refusal
use Rattle.client_notes.specs.StoreFault.{StoreFault}
use Rattle.client_notes.specs.StoreFault.TheVariants as fault
use Rattle.ftl0_client.specs.Outcome.{Outcome}
use Rattle.ftl0_client.specs.Outcome.TheVariants as outcome
use Rattle.turn_loop.specs.declared.finished.Finished.{Finished}
use Rattle.turn_loop.specs.declared.stop.NodeStop.{NodeStop}
use Rattle.turn_loop.specs.declared.stop.NodeStop.TheVariants as node
use Rattle.uploader.specs.declared.stop.SendStop.{SendStop}
use Rattle.uploader.specs.declared.stop.SendStop.TheVariants as stop
use Rattle.uploader.specs.declared.sum.FileSum.{FileSum}

-- a load of the shelf that is refused
abbrev pub stop_of_load : ShelfRefusal → SendStop
stop_of_load shelf.NoSuch = stop.NoSuch
stop_of_load shelf.TooLong = stop.TooLong
stop_of_load shelf.Fault = stop.Shelf
stop_of_load shelf.OutOfMemory = stop.OutOfMemory

-- a recovery of the notes that is refused
abbrev pub stop_of_fault : StoreFault → SendStop
stop_of_fault (fault.NotAStore found) = stop.NotAStore found
stop_of_fault (fault.Damaged at) = stop.Damaged at
stop_of_fault fault.Disk = stop.Disk
stop_of_fault fault.OutOfMemory = stop.OutOfMemory

-- a task that isn't started for this file
abbrev pub stop_of_start : FileSum → NotesRefusal → SendStop
stop_of_start given (refusal.Changed kept_length digest) =
    stop.Changed (record { length = kept_length; digest = digest }) given
stop_of_start given refusal.Full = stop.NotesFull
stop_of_start given refusal.Disk = stop.Disk
stop_of_start given refusal.Failed = stop.Disk
stop_of_start given refusal.OutOfMemory = stop.OutOfMemory

-- a stop of the node's turns before anything became of the job
abbrev pub stop_of_node : NodeStop → SendStop
stop_of_node node.AirRead = stop.AirRead
stop_of_node node.AirWrite = stop.AirWrite
stop_of_node node.Disk = stop.Disk
stop_of_node (node.NotAStore found) = stop.NotAStore found
stop_of_node (node.Damaged at) = stop.Damaged at
stop_of_node node.Spent = stop.Spent
stop_of_node node.OutOfMemory = stop.OutOfMemory

-- turns that ended before anything became of the job: at the end of the air, or of the link, the link is down
abbrev pub stop_of_turns : Result Finished NodeStop → SendStop
stop_of_turns (Ok finished) = stop.LinkDown
stop_of_turns (Err why) = stop_of_node why

-- what a job's outcome is to the command that asked for it: each that isn't the one that it asked for is a stop
abbrev pub by_outcome : Outcome → Result Outcome SendStop
by_outcome (outcome.Refused code) = Err (stop.Refused code)
by_outcome (outcome.BadFile code) = Err (stop.BadFile code)
by_outcome (outcome.LinkDown reason) = Err stop.LinkDown
by_outcome (outcome.Strange kind) = Err (stop.Strange kind)
by_outcome (outcome.Acked number) = Ok (outcome.Acked number)
by_outcome (outcome.Fetched number) = Ok (outcome.Fetched number)
by_outcome outcome.Listed = Ok outcome.Listed

-- what a command makes of its turns: what became of the job, or why they ended before anything did
abbrev pub answer_of : Result Finished NodeStop → Option Outcome → Result Outcome SendStop
answer_of ended None = Err (stop_of_turns ended)
answer_of ended (Some reached) = by_outcome reached
