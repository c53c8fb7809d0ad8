-- What the loops of a connection keep.
use Rattle.std.proofs.Common.{ℕ}
use Rattle.ftl0_server.proofs.Names.{Ok, Ghosts, at, WorkingOn, StoreState, Stays, ConnectionState, Feeds, KeepsFit, LeavesFit, QueuesDue}

-- From old to new packets were taken from the beginning of the octets, and these are left.
pub record IsTaking {D : Type 0} (g : Ghosts D) (moment : ℕ) (old new : ConnectionState) (before now : WorkingOn D) : Type 0 where
  pub feeds : Feeds g moment old new before now (Stays, Ok tt)
  pub fit : LeavesFit g (at before.store before.disk) now old.link new.link old.session new.session (Stays, Ok tt)

-- From old to now packets that were due were queued: whatever is queued of what is due from now on, with them it is
-- what was due.
pub record IsQueuing {D : Type 0} (g : Ghosts D) (old now : ConnectionState) (store store_now : StoreState) (disk disk_now : D) : Type 0 where
  pub rest : (disk_n : D) (new : ConnectionState) → QueuesDue g store disk_now disk_n now new → QueuesDue g store disk disk_n old new
  pub keeps : KeepsFit g store store_now disk disk_now old now
