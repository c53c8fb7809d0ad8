-- What contracts see of a disk in memory.
use Rattle.std.specs.Prelude.{◌≡◌, ℕ, List, Option, Some, true}
use Rattle.disk_model.specs.Calls.{DiskState, GoesOn, content_of, images_of, images_since_of, moment_of}
use Rattle.disk_model.specs.declared.disk.Disk.{Ghosts}
use Rattle.disk_model.specs.declared.memory_disk.MemoryDisk.{MemoryDisk}

abbrev pub state : MemoryDisk → DiskState
state disk =
    record {
      first = disk.history.past.first;
      calls = disk.history.past.calls;
      down = disk.history.down;
      counter = disk.counter;
      read_faults = disk.read_faults;
      write_faults = disk.write_faults;
    }

-- it as a disk: what it tells, and when it is down
abbrev pub content : MemoryDisk → Option (List ℕ)
content disk = Some (content_of (state disk))

abbrev pub images : MemoryDisk → List ℕ → Type 0
images disk = images_of (state disk)

abbrev pub moment : MemoryDisk → ℕ
moment disk = moment_of (state disk)

abbrev pub images_since : MemoryDisk → ℕ → List ℕ → Type 0
images_since disk = images_since_of (state disk)

abbrev pub read_faults : MemoryDisk → ℕ
read_faults disk = (state disk).read_faults

abbrev pub write_faults : MemoryDisk → ℕ
write_faults disk = (state disk).write_faults

abbrev pub is_down : MemoryDisk → Type 0
is_down disk = (state disk).down ≡ true

-- what lasts through its calls: they go on
abbrev pub lasts : MemoryDisk → MemoryDisk → Type 0
lasts old new = GoesOn (state old) (state new)

-- these, as of any disk
abbrev pub ghosts : Ghosts MemoryDisk
ghosts =
    record {
      content = content;
      images = images;
      moment = moment;
      images_since = images_since;
      read_faults = read_faults;
      write_faults = write_faults;
      is_down = is_down;
      lasts = lasts;
    }
