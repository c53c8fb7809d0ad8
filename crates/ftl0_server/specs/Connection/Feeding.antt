-- How a connection takes packets, and then queues what is due, part by part; and what each part leaves for the next
-- one.
use Rattle.std.specs.Prelude.{◌≡◌, ◌⊎◌, ℕ, ◌+◌, ◌<◌, ◌≤◌, List, [], ◌∷◌, ◌++◌, length, All, Bool, true, false}
use Rattle.std.specs.Prelude.{None, Some, Result, Ok, IsErr, ⊤}
use Rattle.disk_model.specs.declared.disk.Disk.{Ghosts}
use Rattle.ax25_link.specs.declared.state.LinkState.TheVariants.{Up, Down}
use Rattle.ax25_link.specs.Calls.{after_push}
use Rattle.ax25_link.specs.Ends.{LinkEnd, free_octets}
use Rattle.ax25_frames.specs.FrameText.{FrameValue}
use Rattle.ax25_link.specs.Kept.{IsFromPeer, Kept, SameStations, StandsFor, Steps, is_pending}
use Rattle.ax25_link.specs.Queue.{room_of}
use Rattle.ax25_link.specs.Window.{Window}
use Rattle.ftl0_packets.specs.Layout.{Item, packet_text}
use Rattle.ftl0_packets.specs.Reading.{packets_of, rest_of}
use Rattle.packet_link.specs.PacketLink.{HasFront, PacketLinkState, octets_in}
use Rattle.packet_link.specs.Queuing.{enough_free}
use Rattle.file_store.specs.Command.{after_all}
use Rattle.file_store.specs.EntriesKept.{KeepsComplete}
use Rattle.ftl0_session.specs.Lists.Lists.{CallerList}
use Rattle.file_store.specs.State.{IsKnown, IsReady, StoreState, store_in, store_on}
use Rattle.file_store.specs.Working.{DoesAmongReads, PutsAmongReads, one_if}
use Rattle.ftl0_session.specs.Uploads.Failures.{Failure, failed_reads}
use Rattle.ftl0_session.specs.Uploads.Others.{KeepsOtherCallers}
use Rattle.ftl0_session.specs.Downloads.Needs.{IsDueIn, MaySend}
use Rattle.disk_model.specs.declared.disk.DiskFault.{DiskFault}
use Rattle.disk_model.specs.AtDisk.{AtDisk, at}
use Rattle.ftl0_session.specs.Run.{Session, session_over}
use Rattle.ftl0_session.specs.SessionState.{MayTake as SessionMayTake, SessionState, IsFit, WorkingOn, caller_of}
use Rattle.ftl0_session.specs.SessionState.{state_in}
use Rattle.ftl0_session.specs.Table.{DuePacket, next_due, tells_failed_read}
use Rattle.ftl0_server.specs.declared.connection.fate.Fate.{Fate}
use Rattle.ftl0_server.specs.declared.connection.fate.Fate.TheVariants.{Stays, Ends}
use Rattle.ftl0_server.specs.Connection.Connected.{Connected}
use Rattle.ftl0_server.specs.Connection.ConnectionState.{ConnectionState, Hears, HearsBy, IsConnection, with_reads}
use Rattle.ftl0_server.specs.Connection.ConnectionState.{none_left}
use Rattle.ftl0_server.specs.Connection.Hearing.{Happened, LooksAtNone, NoneDue, hearing, parts_of_frame, progressed}
use Rattle.ftl0_server.specs.Connection.Hearing.{rest_of_frame}
use Rattle.ftl0_server.specs.Connection.Taking.{LookAtNone, Progress, fails, queuing, taking}

-- what a link and a session need to take packets: the link is up, and the session may take one
pub record MayTake {D : Type 0} (g : Ghosts D) (store : StoreState) (disk : D) (lists : List CallerList) (link : Kept)
    (session : SessionState) : Type 0 where
  pub up : link.state ≡ Up
  pub may : SessionMayTake g store disk lists session

-- What a connection needs to hear this frame: it is the peer's, nothing is pending, the link is up, and the session may
-- take a packet.
pub record MayHear {D : Type 0} (g : Ghosts D) (store : StoreState) (disk : D) (lists : List CallerList)
    (connection : ConnectionState) (frame : FrameValue) : Type 0 where
  pub of_peer : IsFromPeer connection.link frame
  pub quiet : is_pending connection.link ≡ false
  pub up : connection.link.state ≡ Up
  pub may : SessionMayTake g store disk lists connection.session

-- What queuing what is due needs: the link is up, and the session may send.
pub record MayQueue {D : Type 0} (g : Ghosts D) (store : StoreState) (disk : D) (connection : ConnectionState) :
    Type 0 where
  pub up : connection.link.state ≡ Up
  pub may : MaySend g store disk connection.session.downloads

-- What packets leave of a link, a session, the store, the lists and the disk, whatever they were.
pub record LeavesFit {D : Type 0} (g : Ghosts D) (before : AtDisk StoreState D) (now : WorkingOn D)
    (link link_now : Kept) (session session_now : SessionState) (told : Fate × Result ⊤ DiskFault) : Type 0 where
  pub puts : PutsAmongReads g (IsErr told.1) before.disk now.disk
  pub kept : KeepsComplete (store_in before.it) (store_in now.store)
  pub others : KeepsOtherCallers before.it now.store (caller_of session)
  pub healthy : ¬ IsErr told.1 → now.store.journal.failed ≡ false
  pub fit : IsFit g now.store now.disk now.lists session_now
  pub up : told.0 ≡ Stays → link_now.state ≡ Up
  pub down : told.0 ≡ Ends → now.store.journal.failed ≡ false → link_now.state ≡ Down
  pub caller : caller_of session_now ≡ caller_of session
  pub stations : SameStations link link_now

-- nothing stopped the connection or the server
abbrev pub IsGoing : Fate × Result ⊤ DiskFault → Type 0
IsGoing told = told ≡ (Stays, Ok tt)

-- a connection with this link and this session, and these octets of which no packet was taken
abbrev pub carrying : Kept → List ℕ → SessionState → ConnectionState
carrying link octets session = record { link = link; octets = octets; session = session }

-- the part is one of this many, the first of which has this number
abbrev pub IsAmong : ℕ → ℕ → ℕ → Type 0
IsAmong first count part = (first ≤ part) × (part < first + count)

-- the session over these, as the definitions have it
abbrev pub session_on : {D : Type 0} → Ghosts D → SessionState → WorkingOn D → Session
session_on g session on = session_over (store_on g on.store on.disk) on.lists (state_in on.store session)

-- what these packets make of a connection with this session, if the first of them is the event's part of this number
abbrev pub taking_some :
    {D : Type 0} → Ghosts D → ℕ → SessionState → WorkingOn D → LinkEnd → List Item → ℕ → List Failure → Happened
taking_some g moment session on end items first failures =
    progressed [] (taking (caller_of session) moment (session_on g session on) end items failures first)

-- Packets were taken, of which this event is what they make, and reads failed at these of their parts. If there was no
-- stop, the store is the one after all commands.
pub record TakesPackets {D : Type 0} (g : Ghosts D) (w : Window) (event : List Failure → Happened)
    (IsPart : ℕ → Type 0) (before : AtDisk StoreState D) (now : WorkingOn D) (connection : ConnectionState)
    (told : Fate × Result ⊤ DiskFault) : Type 0 where
  pub parts : List ℕ
  pub among : All IsPart parts
  pub by : HearsBy g w (with_reads event parts) before now connection told.0 told.1
  pub store :
      told.1 ≡ Ok tt
      → store_on g now.store now.disk ≡ after_all (store_on g before.it before.disk) (with_reads event parts []).done

-- It is known what octets the files have, or it isn't, and none of them is looked at for these packets.
abbrev pub IsSeen : {D : Type 0} → Ghosts D → ℕ → SessionState → WorkingOn D → List Item → Type 0
IsSeen g moment session on items =
    IsKnown g on.disk ⊎ ((¬ IsKnown g on.disk) × LookAtNone (caller_of session) moment (session_on g session on) items)

-- So these packets of a connection were taken, whichever end its link stands for, and whichever part the first is, if
-- it is known what octets the files have, or none is looked at.
abbrev pub TakesSome :
    {D : Type 0} → Ghosts D → ℕ → ConnectionState → WorkingOn D → List Item → WorkingOn D → ConnectionState
    → (Fate × Result ⊤ DiskFault) → Type 0
TakesSome g moment old before items now new told =
    IsSeen g moment old.session before items → (w : Window) (end : LinkEnd) (first : ℕ) → StandsFor w old.link end
    → TakesPackets g w (taking_some g moment old.session before end items first) (IsAmong first (length items))
    (at before.store before.disk) now (none_left new.link new.session) told

-- So this one was.
abbrev pub TakesOne :
    {D : Type 0} → Ghosts D → ℕ → Item → ConnectionState → ConnectionState → WorkingOn D → WorkingOn D
    → (Fate × Result ⊤ DiskFault) → Type 0
TakesOne g moment item old new before now told = TakesSome g moment old before (item ∷ []) now new told

-- Packets at the beginning of the octets were taken, up to one that stops the connection, if one does: the rest are
-- those of the octets that are left now.
pub record Feeds {D : Type 0} (g : Ghosts D) (moment : ℕ) (old new : ConnectionState) (before now : WorkingOn D)
    (told : Fate × Result ⊤ DiskFault) : Type 0 where
  pub items : List Item
  pub front : HasFront old.octets new.octets items
  pub takes : TakesSome g moment old before items now new told

-- The packets of the octets were taken, up to one that stops the connection, if one does: if none does all of them, and
-- the octets now are the rest.
pub record FeedsAll {D : Type 0} (g : Ghosts D) (moment : ℕ) (old new : ConnectionState) (before now : WorkingOn D)
    (told : Fate × Result ⊤ DiskFault) : Type 0 where
  pub left : List ℕ
  pub feeds : Feeds g moment old (carrying new.link left new.session) before now told
  pub none : IsGoing told → packets_of left ≡ []
  pub rest : IsGoing told → rest_of left ≡ new.octets

-- the connection of this link and session, with the octets that the link's reader holds
abbrev pub carried : PacketLinkState → SessionState → ConnectionState
carried link session = carrying link.link (octets_in link) session

-- The parts at which reads failed are parts of the event, and whatever reads fail at later parts changes nothing of it.
pub record IsSettled (event : List Failure → Progress) (parts : List ℕ) : Type 0 where
  pub before : All (λ part. part < (event (failed_reads parts)).part) parts
  pub later :
      (more : List ℕ) → All (λ part. (event (failed_reads parts)).part ≤ part) more
      → event (failed_reads (parts ++ more)) ≡ event (failed_reads parts)

-- A frame was heard, of which this event is what its packets make, and these octets were left; what is due after them
-- isn't queued yet. If a write or a sync fails, the session is over.
pub record HearsParts {D : Type 0} (g : Ghosts D) (w : Window) (left : List ℕ) (event : List Failure → Progress)
    (before : AtDisk StoreState D) (now : WorkingOn D) (connection : ConnectionState)
    (told : Fate × Result ⊤ DiskFault) : Type 0 where
  pub hears : Hears g w (λ failures. progressed left (event failures)) before now connection told
  pub over : (failures : List Failure) → (event failures).halt ≡ fails → (event failures).over ≡ true
  pub settled : IsGoing told → IsSettled event hears.parts

-- A frame was heard at this moment, of whichever connection this stood for: if it is known what octets the files have,
-- or no octet of a file is looked at, it is of that connection what the frame makes before what is due is queued.
abbrev pub HearsFrameParts :
    {D : Type 0} → Ghosts D → ℕ → FrameValue → WorkingOn D → WorkingOn D → ConnectionState → ConnectionState
    → Fate × Result ⊤ DiskFault → Type 0
HearsFrameParts g moment frame before now old new told =
    (w : Window) (c : Connected) → IsConnection w before.store old c
    → IsKnown g before.disk ⊎ LooksAtNone w moment (store_on g before.store before.disk) before.lists c frame
    → HearsParts g w (rest_of_frame w c frame)
    (parts_of_frame w moment (store_on g before.store before.disk) before.lists c frame)
    (at before.store before.disk) now new told

-- So it is of the whole frame.
abbrev pub HearsFrame :
    {D : Type 0} → Ghosts D → ℕ → FrameValue → WorkingOn D → WorkingOn D → ConnectionState → ConnectionState
    → Fate × Result ⊤ DiskFault → Type 0
HearsFrame g moment frame before now old new told =
    (w : Window) (c : Connected) → IsConnection w before.store old c
    → IsKnown g before.disk ⊎ LooksAtNone w moment (store_on g before.store before.disk) before.lists c frame
    → Hears g w (hearing w moment (store_on g before.store before.disk) before.lists c frame)
    (at before.store before.disk) now new told

-- nothing is due, whatever reads fail
abbrev pub IsNothingDue : {D : Type 0} → Ghosts D → StoreState → D → SessionState → Type 0
IsNothingDue g store disk session =
    (fails : Bool) → next_due (store_on g store disk) (state_in store session) fails ≡ None

-- whatever end the link stands for, this is so of how many octets are free
abbrev pub AreFree : Kept → (ℕ → Type 0) → Type 0
AreFree link P = (w : Window) (end : LinkEnd) → StandsFor w link end → P (free_octets end)

-- What is due next was queued, if enough octets were free.
pub record QueuesPacket {D : Type 0} (g : Ghosts D) (store : StoreState) (disk disk_now : D) (old new : ConnectionState)
    : Type 0 where
  pub fails : Bool
  pub due : DuePacket
  pub is_due : next_due (store_on g store disk) (state_in store old.session) fails ≡ Some due
  pub enough : AreFree old.link (λ free. enough_free ≤ free)
  pub queued : Steps old.link new.link (λ w end. after_push end (packet_text due.packet))
  pub state : state_in store new.session ≡ due.state
  pub reads : DoesAmongReads g ⊥ (one_if (tells_failed_read due.packet)) store store disk disk_now []

-- the same; or nothing is due, or fewer octets are free, and it is as it was
abbrev pub QueuesBy :
    {D : Type 0} → Ghosts D → StoreState → D → D → ConnectionState → ConnectionState → Bool → Type 0
QueuesBy g store disk disk_now old new true = QueuesPacket g store disk disk_now old new
QueuesBy g store disk disk_now old new false =
    (new.link ≡ old.link) × (state_in store new.session ≡ state_in store old.session) × (disk_now ≡ disk)
    × (IsNothingDue g store disk old.session ⊎ AreFree old.link (λ free. free < enough_free))

-- So it is if it is known what octets the files have, or nothing is due. Whether or not, a packet that is queued takes
-- some of the room.
pub record QueuesNext {D : Type 0} (g : Ghosts D) (store : StoreState) (disk disk_now : D) (old new : ConnectionState)
    (queued : Bool) : Type 0 where
  pub queues : IsKnown g disk ⊎ NoneDue (state_in store old.session) → QueuesBy g store disk disk_now old new queued
  pub fewer : queued ≡ true → room_of new.link.queue < room_of old.link.queue

-- After these parts of an event, at which the session goes on, what is due was queued: reads failed at these later
-- parts, and the count of failed reads rose by at least as many as the packets report, and not if they report none.
pub record Queued {D : Type 0} (g : Ghosts D) (w : Window) (store : StoreState) (disk disk_now : D)
    (new : ConnectionState) (progress : Progress) : Type 0 where
  pub parts : List ℕ
  pub behind : All (λ part. progress.part ≤ part) parts
  pub now : Progress
  pub is_now : now ≡ queuing (free_octets progress.end) (store_on g store disk) (failed_reads parts) progress
  pub link : StandsFor w new.link now.end
  pub state : state_in store new.session ≡ now.state
  pub missed : ℕ
  pub missed_is : now.missed ≡ (progress.missed + missed)
  pub reads : DoesAmongReads g ⊥ missed store store disk disk_now []
  pub store_is : store_on g store disk_now ≡ store_on g store disk

-- the same after whichever parts, if it is known what octets the files have, or nothing is due
abbrev pub QueuesDue : {D : Type 0} → Ghosts D → StoreState → D → D → ConnectionState → ConnectionState → Type 0
QueuesDue g store disk disk_now old new =
    IsKnown g disk ⊎ NoneDue (state_in store old.session) → (w : Window) (progress : Progress)
    → StandsFor w old.link progress.end → state_in store old.session ≡ progress.state
    → Queued g w store disk disk_now new progress

-- What queuing what is due leaves for the next event.
pub record KeepsFit {D : Type 0} (g : Ghosts D) (store store_now : StoreState) (disk disk_now : D)
    (old new : ConnectionState) : Type 0 where
  pub same : store_now ≡ store
  pub puts : PutsAmongReads g ⊥ disk disk_now
  pub ready : IsReady g store disk_now
  pub due : IsDueIn (store_in store) new.session.downloads
  pub uploads : new.session.uploads ≡ old.session.uploads
  pub octets : new.octets ≡ old.octets
  pub up : new.link.state ≡ Up
  pub stations : SameStations old.link new.link
