-- What a rehearsal finds that never should be, in words, and how the rehearsal ends then.
use Rattle.std.specs.Prelude.{ℕ, List, codes, Option, None, Some, Result, Ok, Err}
use Rattle.disk_model.specs.declared.halt.Halt.{Halt}
use Rattle.disk_model.specs.declared.halt.Halt.TheVariants as halt
use Rattle.air_rehearsal.specs.declared.rehearsing.RehearseStop.{RehearseStop}
use Rattle.air_rehearsal.specs.declared.rehearsing.RehearseStop.TheVariants as stop
use Rattle.air_rehearsal.specs.declared.stopped.Breach.{Breach}
use Rattle.air_rehearsal.specs.declared.stopped.Breach.TheVariants as breach
use Rattle.air_rehearsal.specs.declared.stopped.Stopped.{Stopped}
use Rattle.air_rehearsal.specs.declared.stopped.Stopped.TheVariants as stopped

abbrev pub breach_words : Breach → List ℕ
breach_words breach.NoStore = codes "the server's store isn't recovered: no store"
breach_words (breach.StoreDamaged at) = codes "the server's store isn't recovered: damaged at"
breach_words breach.StoreDisk = codes "the server's store isn't recovered: its disk failed"
breach_words breach.NoNotes = codes "a client's notes aren't recovered: no notes"
breach_words (breach.NotesDamaged at) = codes "a client's notes aren't recovered: damaged at"
breach_words breach.NotesDisk = codes "a client's notes aren't recovered: their disk failed"
breach_words breach.ServerDisk = codes "a call of the server's disk failed"
breach_words breach.ClientDisk = codes "a call of a client's disk failed"
breach_words breach.FileUnread = codes "a read of the server's disk failed"
breach_words breach.NoTask = codes "a task isn't found"
breach_words breach.NoClient = codes "a client or its disk isn't found"
breach_words breach.NotAllowed = codes "a client may not do what is asked"
breach_words breach.NotMade = codes "a file or a call isn't made"

-- the place of the damage, if it is damage
abbrev pub place_of_breach : Breach → Option ℕ
place_of_breach (breach.StoreDamaged at) = Some at
place_of_breach (breach.NotesDamaged at) = Some at
place_of_breach what = None

-- the end of the rehearsal, where a call in the event of this line failed so
abbrev pub stop_at : ℕ → Stopped → RehearseStop
stop_at line stopped.OutOfMemory = stop.OutOfMemory
stop_at line (stopped.Broken what) = stop.Broken line what

-- why a client's part came to a halt on its disk: a call of the disk failed, or nothing was done on it
abbrev pub halt_of : Stopped → Halt
halt_of stopped.OutOfMemory = halt.OutOfMemory
halt_of (stopped.Broken breach.ClientDisk) = halt.Disk
halt_of (stopped.Broken what) = halt.OutOfMemory

abbrev pub halted : {T : Type 0} → Result T Stopped → Result T Halt
halted (Ok it) = Ok it
halted (Err why) = Err (halt_of why)
