-- The statuses of a session's or a service's end, of a stop of a client's command, of refused words, and of a file that
-- wasn't loaded.
use Rattle.std.specs.Prelude.{Result, Ok, Err}
use Rattle.px_base.specs.declared.shelf.ShelfRefusal.{ShelfRefusal}
use Rattle.px_base.specs.declared.shelf.ShelfRefusal.TheVariants as shelf
use Rattle.command_words.specs.declared.request.Refusal.{Refusal}
use Rattle.command_words.specs.declared.request.Refusal.TheVariants as refusal
use Rattle.turn_loop.specs.declared.stop.NodeStop.{NodeStop}
use Rattle.turn_loop.specs.declared.stop.NodeStop.TheVariants as node
use Rattle.server_node.specs.declared.terms.Served.{Served}
use Rattle.uploader.specs.declared.stop.SendStop.{SendStop}
use Rattle.uploader.specs.declared.stop.SendStop.TheVariants as stop
use Rattle.pacsat_cli.specs.declared.status.BadStore.TheVariants.{NotAStore, Damaged}
use Rattle.pacsat_cli.specs.declared.status.RefusedBy.TheVariants.{Fault, Server}
use Rattle.pacsat_cli.specs.declared.status.Status.{Status}
use Rattle.pacsat_cli.specs.declared.status.Status.TheVariants.{Done, Refused, Usage, AirRead, AirWrite, Disk, NoSuch, FileChanged, BadStore, OutOfMemory, Spent, Out, Shelf, LinkDown, Strange, NotesFull, TooLong}

-- the status of a session or a service that ended so
abbrev pub status_of : Result Served NodeStop → Status
status_of (Ok served) = Done
status_of (Err node.AirRead) = AirRead
status_of (Err node.AirWrite) = AirWrite
status_of (Err node.Disk) = Disk
status_of (Err (node.NotAStore found)) = BadStore (NotAStore found)
status_of (Err (node.Damaged at)) = BadStore (Damaged at)
status_of (Err node.Spent) = Spent
status_of (Err node.OutOfMemory) = OutOfMemory

-- the same over a disk in memory, whose fault is want of memory
abbrev pub status_in_memory : Status → Status
status_in_memory Disk = OutOfMemory
status_in_memory status = status

-- the status of a client's command that was stopped so
abbrev pub status_of_stop : SendStop → Status
status_of_stop (stop.Refused code) = Refused (Server code)
status_of_stop (stop.BadFile code) = Refused (Fault code)
status_of_stop stop.AirRead = AirRead
status_of_stop stop.AirWrite = AirWrite
status_of_stop stop.Disk = Disk
status_of_stop stop.NoSuch = NoSuch
status_of_stop (stop.Changed kept given) = FileChanged kept given
status_of_stop (stop.NotAStore found) = BadStore (NotAStore found)
status_of_stop (stop.Damaged at) = BadStore (Damaged at)
status_of_stop stop.OutOfMemory = OutOfMemory
status_of_stop stop.Spent = Spent
status_of_stop stop.Out = Out
status_of_stop stop.Shelf = Shelf
status_of_stop stop.LinkDown = LinkDown
status_of_stop (stop.Strange kind) = Strange kind
status_of_stop stop.NotesFull = NotesFull
status_of_stop stop.TooLong = TooLong

-- the status of a client's command that ended so, where what it shows then was shown
abbrev pub status_of_end : {T : Type 0} → Result T SendStop → Status
status_of_end (Ok value) = Done
status_of_end (Err why) = status_of_stop why

-- the status of words that were refused
abbrev pub status_of_refusal : Refusal → Status
status_of_refusal refusal.Usage = Usage
status_of_refusal refusal.OutOfMemory = OutOfMemory

-- the status of a file that the shelf didn't load
abbrev pub status_of_load : ShelfRefusal → Status
status_of_load shelf.NoSuch = NoSuch
status_of_load shelf.TooLong = TooLong
status_of_load shelf.Fault = Shelf
status_of_load shelf.OutOfMemory = OutOfMemory
