-- What the calls of a client of the rehearsal do.
use Rattle.std.specs.Prelude.{◌≡◌, ℕ, [], Option, None, Some}
use Rattle.px_base.specs.CallSign.{CallSign}
use Rattle.disk_model.specs.Cuts.{Cuts}
use Rattle.disk_model.specs.declared.disk.Disk.{Ghosts}
use Rattle.ax25_link.specs.Window.{window_of}
use Rattle.client_notes.specs.Notes.{Lists, Task, task_of}
use Rattle.air_world.specs.Attempts.Party.{first_party}
use Rattle.air_world.specs.Cuts.{broken}
use Rattle.air_world.specs.Lawful.{last_unfinished}
use Rattle.air_rehearsal.specs.Chain.{StartsAgain}
use Rattle.air_rehearsal.specs.Stations.{client_at}
use Rattle.air_rehearsal.specs.TakingPart.{Seat}
use Rattle.air_rehearsal.specs.Worlds.{IsSteady, PlaysParty}
use Rattle.air_rehearsal.specs.declared.party.Party.{Party as StoredParty}

-- The client starts from its disk, whose notes are those of a first one where it has no octet.
pub record IsOpened {D : Type 0} (g : Ghosts D) (server me : CallSign) (k : ℕ) (disk disk_now : D)
    (party : StoredParty) : Type 0 where
  pub plays : g.content disk ≡ Some [] → PlaysParty party (first_party server (window_of k) me)
  pub again : (c : ℕ) → StartsAgain g (client_at c) disk disk_now

-- The client of the world is broken off, and started again from its disk. The cut that waits for it stays.
pub record BreaksOff {B : Type 0} (g : Ghosts B) (cuts : Cuts B) (seat : Seat) (old new : StoredParty)
    (disk disk_now : B) : Type 0 where
  pub plays : PlaysParty new (broken seat.party)
  pub cut : new.cut ≡ old.cut
  pub again : (c : ℕ) → StartsAgain g (client_at c) disk disk_now
  pub steady : IsSteady g cuts disk_now

-- the last unfinished task and its number on the server, or none where each is finished
abbrev pub IsLastGoing : Lists → Option (ℕ × ℕ) → Type 0
IsLastGoing lists None = last_unfinished lists ≡ None
IsLastGoing lists (Some going) =
    (last_unfinished lists ≡ Some going.0) × ((entry : Task) × (task_of lists going.0 ≡ Some entry)
    × (going.1 ≡ entry.number))
