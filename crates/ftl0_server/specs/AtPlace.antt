-- What an event at one place of a server needs, and what it leaves.
use Rattle.std.specs.Prelude.{◌≡◌, ◌⊎◌, ℕ, List, [], ◌∷◌, Bool, false, slice_get, None, Some, Result, Ok, Err, ⊤}
use Rattle.px_base.specs.CallSign.{CallSign}
use Rattle.disk_model.specs.declared.disk.Disk.{Ghosts}
use Rattle.ax25_frames.specs.FrameText.{FrameValue}
use Rattle.ax25_link.specs.Kept.{Fits, IsFromPeer, Kept, SameStations, is_pending}
use Rattle.ax25_link.specs.Window.{Window}
use Rattle.ax25_link.specs.declared.state.LinkState.TheVariants.{Up, Down}
use Rattle.disk_model.specs.Runs.{Leaves}
use Rattle.file_store.specs.Command.{after_all}
use Rattle.file_store.specs.EntriesKept.{KeepsComplete}
use Rattle.file_store.specs.OnDisk.{MakesFirst}
use Rattle.file_store.specs.Files.{store_of}
use Rattle.file_store.specs.State.{IsKnown, StandsOn, StoreState, store_in, store_on}
use Rattle.file_store.specs.Working.{CutsOffAmongReads, DoesAmongReads, PutsAmongReads}
use Rattle.ftl0_session.specs.Uploads.Failures.{Failure, failed_write}
use Rattle.ftl0_session.specs.Uploads.Others.{KeepsOtherCallers}
use Rattle.disk_model.specs.AtDisk.{AtDisk, at}
use Rattle.ftl0_session.specs.Uploads.SessionState.{IsHeld, IsOnlyOut, NoOtherOut, Parks}
use Rattle.ftl0_session.specs.Downloads.Needs.{IsDueIn}
use Rattle.ftl0_session.specs.SessionState.{WorkingOn, caller_of}
use Rattle.packet_link.specs.PacketLink.{PacketLinkState}
use Rattle.disk_model.specs.declared.disk.DiskFault.{DiskFault}
use Rattle.ftl0_server.specs.Connection.ConnectionState.{ConnectionState, IsAnswered, with_reads}
use Rattle.ftl0_server.specs.Connection.Connected.{Connected}
use Rattle.ftl0_server.specs.Connection.Hearing.{Happened, LooksAtNone, hearing}
use Rattle.ftl0_server.specs.Connection.Taking.{fails, goes_on}
use Rattle.ftl0_server.specs.declared.place.Place.{Place}
use Rattle.ftl0_server.specs.declared.place.Place.TheVariants.{Moving, Talking, Empty}
use Rattle.ftl0_server.specs.ServerState.{SaysAs, SendsAs}
use Rattle.ftl0_server.specs.Slots.{Slot, connected, slot_after}

-- What any event leaves of a store and its disk: no write and no sync came after one that failed, each complete entry
-- is kept, and the store is on the disk, and has failed only if this holds.
pub record KeepsStore {D : Type 0} (g : Ghosts D) (failed : Type 0) (before now : StoreState) (disk disk_now : D) :
    Type 0 where
  pub puts : PutsAmongReads g failed disk disk_now
  pub kept : KeepsComplete (store_in before) (store_in now)
  pub healthy : ¬ failed → now.journal.failed ≡ false
  pub stands_on : StandsOn g now disk_now

-- the place is that one, over this store
abbrev pub IsPlace : Window → StoreState → Place → Slot → Type 0
IsPlace w store place slot = SendsAs w place slot × SaysAs store place slot

-- The connection may take an event: nothing is pending, its link is up, and the store holds its session's upload, the
-- only one of its caller's that is out, and the complete files of which it sends.
pub record IsAwaiting (store : StoreState) (connection : ConnectionState) : Type 0 where
  pub quiet : is_pending connection.link ≡ false
  pub up : connection.link.state ≡ Up
  pub held : IsHeld store connection.session.uploads
  pub only : IsOnlyOut store connection.session.uploads
  pub due : IsDueIn (store_in store) connection.session.downloads

-- the place may take a tick
abbrev pub MayTick : StoreState → Place → Type 0
MayTick store Moving = ⊤
MayTick store (Talking connection) = IsAwaiting store connection
MayTick store (Empty link) = ⊤

-- the place has the connection of this frame's sender, which may hear it
abbrev pub MayHear : StoreState → FrameValue → Place → Type 0
MayHear store frame Moving = ⊥
MayHear store frame (Talking connection) = IsAwaiting store connection × IsFromPeer connection.link frame
MayHear store frame (Empty link) = ⊥

-- the place may begin a session: it has none, and its link is down, with nothing pending
abbrev pub MayBegin : Place → Type 0
MayBegin Moving = ⊥
MayBegin (Talking connection) = ⊥
MayBegin (Empty link) = (link.link.state ≡ Down) × (is_pending link.link ≡ false)

-- the place's link answered a SABM of this caller: the place has the caller's connection
abbrev pub HasBegun : CallSign → Bool → ℕ → Bool → Place → Place → Type 0
HasBegun caller poll moment left Moving new = ⊥
HasBegun caller poll moment left (Talking connection) new = ⊥
HasBegun caller poll moment left (Empty link) new =
    (connection : ConnectionState) × (new ≡ Talking connection)
    × IsAnswered link.link caller poll moment left connection

-- the place has a connection, and the store holds its session's upload
abbrev pub MayLeave : StoreState → Place → Type 0
MayLeave store Moving = ⊥
MayLeave store (Talking connection) = IsHeld store connection.session.uploads
MayLeave store (Empty link) = ⊥

-- The connection is of the same stations and the same caller, its link is up, and the store holds its session's upload,
-- the only one of its caller's that is out, and the complete files of which it sends.
pub record GoesOn (store : StoreState) (old new : ConnectionState) : Type 0 where
  pub stations : SameStations old.link new.link
  pub caller : caller_of new.session ≡ caller_of old.session
  pub up : new.link.state ≡ Up
  pub held : IsHeld store new.session.uploads
  pub only : IsOnlyOut store new.session.uploads
  pub due : IsDueIn (store_in store) new.session.downloads

-- The session of a connection is over: no upload of its caller is out, and its link, which is of the same stations, is
-- down, unless the store has failed.
pub record IsEmptied (store : StoreState) (old : ConnectionState) (link : Kept) : Type 0 where
  pub only : NoOtherOut store (caller_of old.session) None
  pub stations : SameStations old.link link
  pub down : store.journal.failed ≡ false → link.state ≡ Down

-- what is left at the place of this connection: the connection, or its link
abbrev pub IsLeft : StoreState → ConnectionState → Place → Type 0
IsLeft store old Moving = ⊥
IsLeft store old (Talking connection) = GoesOn store old connection
IsLeft store old (Empty link) = IsEmptied store old link.link

-- An event came at a place: the store keeps the uploads of other callers than the connection's. If there is no
-- connection, nothing changes.
abbrev pub Works : StoreState → StoreState → Place → Place → Type 0
Works before now Moving new = (now ≡ before) × (new ≡ Moving)
Works before now (Talking connection) new =
    KeepsOtherCallers before now (caller_of connection.session) × IsLeft now connection new
Works before now (Empty link) new = (now ≡ before) × (new ≡ Empty link)

-- What a frame that is heard at a place does: as the connection's call says it, except that the place is the one that
-- is left. `event` gives what it makes of the connection there by the writes and syncs that fail in it.
abbrev pub PlaceHearsBy :
    {D : Type 0} → Ghosts D → Window → (List Failure → Happened) → AtDisk StoreState D → WorkingOn D → Place
    → Result ⊤ DiskFault → Type 0
PlaceHearsBy g w event before now place (Ok done) =
    ((event []).halt ≡ goes_on) × (now.lists ≡ (event []).lists) × IsPlace w now.store place (slot_after (event []))
    × DoesAmongReads g ⊥ (event []).missed before.it now.store before.disk now.disk (event []).done
PlaceHearsBy g w event before now place (Err fault) =
    (part : ℕ) × ((event (failed_write part)).halt ≡ fails) × SendsAs w place (slot_after (event (failed_write part)))
    × CutsOffAmongReads g ⊤ (event (failed_write part)).missed before (at now.store now.disk)
    (event (failed_write part)).done (event (failed_write part)).cut

-- A frame was heard at a place, of which this is what it makes of the connection there by the failures of the disk;
-- reads failed at these parts of it. Since it came each image stands for the store after the first of the commands that
-- it has when no write and no sync fails, for some number of them. If there was no stop, the store is the one after all
-- of them.
pub record PlaceHears {D : Type 0} (g : Ghosts D) (w : Window) (event : List Failure → Happened)
    (before : AtDisk StoreState D) (now : WorkingOn D) (place : Place) (result : Result ⊤ DiskFault) : Type 0 where
  pub parts : List ℕ
  pub by : PlaceHearsBy g w (with_reads event parts) before now place result
  pub since :
      Leaves g before.disk now.disk
      (λ _. MakesFirst (store_on g before.it before.disk) (with_reads event parts []).done)
  pub store :
      result ≡ Ok tt
      → store_on g now.store now.disk ≡ after_all (store_on g before.it before.disk) (with_reads event parts []).done

-- A frame was heard at this moment, of whichever connection the place stood for: if it is known what octets the files
-- have, or no octet of a file is looked at, it is of that connection what the frame makes.
abbrev pub PlaceHearsFrame :
    {D : Type 0} → Ghosts D → ℕ → FrameValue → WorkingOn D → WorkingOn D → Place → Place → Result ⊤ DiskFault → Type 0
PlaceHearsFrame g moment frame before now old new result =
    (w : Window) (c : Connected) → IsPlace w before.store old (connected c)
    → IsKnown g before.disk ⊎ LooksAtNone w moment (store_on g before.store before.disk) before.lists c frame
    → PlaceHears g w (hearing w moment (store_on g before.store before.disk) before.lists c frame)
    (at before.store before.disk) now new result

-- An upload may have been given up, and nothing else changed of the store.
pub record GivesUp (before now : StoreState) : Type 0 where
  pub entries : store_of now.files ≡ store_of before.files
  pub journal : now.journal ≡ before.journal

-- whatever end the place's link stands for, it is one that frames can bring about
abbrev pub PlaceFits : Place → Type 0
PlaceFits Moving = ⊤
PlaceFits (Talking connection) = Fits connection.link
PlaceFits (Empty link) = Fits link.link

-- the same of each place
abbrev pub AllFit : List Place → Type 0
AllFit places = (place : ℕ) (here : Place) → slice_get places place ≡ Some here → PlaceFits here

-- the session of this connection is over: its upload is parked
pub record IsOver (before now : StoreState) (connection : ConnectionState) : Type 0 where
  pub parks : Parks before now connection.session.uploads.phase
  pub only : IsOnlyOut before connection.session.uploads → NoOtherOut now (caller_of connection.session) None
  pub others : KeepsOtherCallers before now (caller_of connection.session)

-- the session at the place is over, and its link is left
abbrev pub HasLeft : StoreState → StoreState → Place → Place → Type 0
HasLeft before now Moving new = ⊥
HasLeft before now (Talking connection) new =
    IsOver before now connection × ((link : PacketLinkState) × (new ≡ Empty link) × (link.link ≡ connection.link))
HasLeft before now (Empty link) new = ⊥

-- the place may be ended: the store holds its session's upload
abbrev pub MayEnd : StoreState → Place → Type 0
MayEnd store Moving = ⊤
MayEnd store (Talking connection) = IsHeld store connection.session.uploads
MayEnd store (Empty link) = ⊤

-- the session of the place is over, if there was one
abbrev pub HasEnded : StoreState → StoreState → Place → Type 0
HasEnded before now Moving = now ≡ before
HasEnded before now (Talking connection) = IsOver before now connection
HasEnded before now (Empty link) = now ≡ before

-- the places may be ended, one after another
abbrev pub MayAllEnd : StoreState → List Place → Type 0
MayAllEnd store [] = ⊤
MayAllEnd store (place ∷ places) =
    MayEnd store place × ((now : StoreState) → HasEnded store now place → MayAllEnd now places)
