-- A connection as contracts see it, which of the definitions' it stands for, and what its calls do.
use Rattle.std.specs.Prelude.{◌≡◌, ℕ, List, [], ◌++◌, Bool, true, false, Result, Ok, Err, ⊤}
use Rattle.px_base.specs.CallSign.{CallSign}
use Rattle.disk_model.specs.declared.disk.Disk.{Ghosts}
use Rattle.ax25_link.specs.Kept.{HasStations, Kept, StandsFor}
use Rattle.ax25_link.specs.Window.{Window, window_of}
use Rattle.ax25_link.specs.declared.state.LinkState.TheVariants.{Up}
use Rattle.ftl0_session.specs.Lists.Lists.{CallerList}
use Rattle.disk_model.specs.Runs.{Leaves}
use Rattle.file_store.specs.Command.{after_all}
use Rattle.file_store.specs.OnDisk.{MakesFirst}
use Rattle.file_store.specs.State.{StoreState, store_on}
use Rattle.file_store.specs.Working.{CutsOffAmongReads, DoesAmongReads}
use Rattle.ftl0_session.specs.Uploads.Failures.{Failure, failed_reads, failed_write}
use Rattle.disk_model.specs.declared.disk.DiskFault.{DiskFault}
use Rattle.ftl0_session.specs.SessionState.{SessionState, WorkingOn, new_session, state_in}
use Rattle.disk_model.specs.AtDisk.{AtDisk, at}
use Rattle.ftl0_server.specs.declared.connection.fate.Fate.{Fate}
use Rattle.ftl0_server.specs.declared.connection.fate.Fate.TheVariants.{Stays, Ends}
use Rattle.ftl0_server.specs.Connection.Connected.{Connected, answering}
use Rattle.ftl0_server.specs.Connection.Hearing.{Happened}
use Rattle.ftl0_server.specs.Connection.Taking.{fails, goes_on}

-- the link, the octets that were accepted and of which no packet was taken yet, and the session
pub record ConnectionState : Type 0 where
  pub link : Kept
  pub octets : List ℕ
  pub session : SessionState

-- The connection stands for this one, and the store says which octets of its session wait.
pub record IsConnection (w : Window) (store : StoreState) (connection : ConnectionState) (c : Connected) : Type 0 where
  pub link : StandsFor w connection.link c.end
  pub rest : connection.octets ≡ c.rest
  pub state : state_in store connection.session ≡ c.state

-- The connection over this link of a caller whose SABM with this P bit was answered at this moment; numbers are left in
-- the caller's list, or not.
pub record IsAnswered (link : Kept) (caller : CallSign) (poll : Bool) (moment : ℕ) (left : Bool)
    (connection : ConnectionState) : Type 0 where
  pub stands :
      (store : StoreState)
      → IsConnection (window_of link.k) store connection (answering link.me caller poll moment left)
  pub stations : HasStations connection.link false link.me caller link.k
  pub session : connection.session ≡ new_session caller
  pub up : connection.link.state ≡ Up

-- whether the session is over, as the code says it
abbrev pub is_over : Fate → Bool
is_over Stays = false
is_over Ends = true

-- what the connection stands for now: if its session is over, for what its link has still to send
abbrev pub StandsAfter : Window → StoreState → ConnectionState → Bool → Connected → Fate → Type 0
StandsAfter w store connection over after Stays = (over ≡ false) × IsConnection w store connection after
StandsAfter w store connection over after Ends = (over ≡ true) × StandsFor w connection.link after.end

-- the same of what an event makes, and the lists are those that it makes too
abbrev pub IsAfter : Window → StoreState → List CallerList → ConnectionState → Happened → Fate → Type 0
IsAfter w store lists connection happened fate =
    (lists ≡ happened.lists) × StandsAfter w store connection happened.over happened.after fate

-- What a frame that is heard does. `event` gives what it makes of the connection by the writes and syncs that fail in
-- it. If all was taken, none failed, and its commands are done. If the disk failed, at a write or a sync of some packet
-- and nowhere else, the commands before it are done, and it failed in one of that packet's; the replies before it and
-- code 3 are left to be sent. The count of failed reads rose by at least as many as the parts reported.
abbrev pub HearsBy :
    {D : Type 0} → Ghosts D → Window → (List Failure → Happened) → AtDisk StoreState D → WorkingOn D → ConnectionState
    → Fate → Result ⊤ DiskFault → Type 0
HearsBy g w event before now connection fate (Ok done) =
    ((event []).halt ≡ goes_on) × IsAfter w now.store now.lists connection (event []) fate
    × DoesAmongReads g ⊥ (event []).missed before.it now.store before.disk now.disk (event []).done
HearsBy g w event before now connection fate (Err fault) =
    (part : ℕ) × ((event (failed_write part)).halt ≡ fails)
    × IsAfter w now.store now.lists connection (event (failed_write part)) fate
    × CutsOffAmongReads g ⊤ (event (failed_write part)).missed before (at now.store now.disk)
    (event (failed_write part)).done (event (failed_write part)).cut

-- what an event makes by the writes and syncs that fail in it, if reads fail at these parts
abbrev pub with_reads : {X : Type 0} → (List Failure → X) → List ℕ → List Failure → X
with_reads event parts writes = event (writes ++ failed_reads parts)

-- A frame was heard, of which this is what it makes of the connection by the failures of the disk; reads failed at
-- these parts of it. Since it came each image stands for the store after the first of the commands that it has when no
-- write and no sync fails, for some number of them. If there was no stop, the store is the one after all of them.
pub record Hears {D : Type 0} (g : Ghosts D) (w : Window) (event : List Failure → Happened)
    (before : AtDisk StoreState D) (now : WorkingOn D) (connection : ConnectionState)
    (heard : Fate × Result ⊤ DiskFault) : Type 0 where
  pub parts : List ℕ
  pub by : HearsBy g w (with_reads event parts) before now connection heard.0 heard.1
  pub since :
      Leaves g before.disk now.disk
      (λ _. MakesFirst (store_on g before.it before.disk) (with_reads event parts []).done)
  pub store :
      heard.1 ≡ Ok tt
      → store_on g now.store now.disk ≡ after_all (store_on g before.it before.disk) (with_reads event parts []).done

-- the connection of this link and session, with no octets left
abbrev pub none_left : Kept → SessionState → ConnectionState
none_left link session = record { link = link; octets = []; session = session }
