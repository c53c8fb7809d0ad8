-- A session over events without a link. An event is a packet, which is its first part, and all that is due right after
-- the replies to it, one DATA or DATA_END a part.
use Rattle.std.specs.Prelude.{◌≡◌, ℕ, suc, List, [], ◌∷◌, ◌++◌, map, true, None, Some}
use Rattle.std.specs.List.{AllByRecursion}
use Rattle.px_base.specs.CallSign.{CallSign}
use Rattle.ftl0_packets.specs.Items.{kind_of_item}
use Rattle.ftl0_packets.specs.Layout.{Item, PacketValue}
use Rattle.ftl0_session.specs.Lists.Lists.{CallerList}
use Rattle.file_store.specs.Command.{Command, after_all}
use Rattle.file_store.specs.Store.{Store}
use Rattle.ftl0_session.specs.Uploads.Events.{Event as UploadEvent}
use Rattle.ftl0_session.specs.Uploads.Failures.{Failure}
use Rattle.ftl0_session.specs.Uploads.Run.{commands_of, replies_to, state_after, store_after}
use Rattle.ftl0_session.specs.Uploads.Session as upload
use Rattle.ftl0_session.specs.Downloads.Table.{ready}
use Rattle.ftl0_session.specs.Table.{Row, State, due_at, row_at, state_by}

-- a packet, malformed or not, the moment in which it is taken, and the disk faults of its event
pub record Event : Type 0 where
  pub moment : ℕ
  pub packet : Item
  pub failures : List Failure

-- a session between two packets: the store, the lists of all callers, and its state
pub record Session : Type 0 where
  pub store : Store
  pub lists : List CallerList
  pub state : State

-- by its parts
abbrev pub session_over : Store → List CallerList → State → Session
session_over store lists state = record { store = store; lists = lists; state = state }

-- the row of an event's packet
abbrev pub event_row : CallSign → Store → List CallerList → State → Event → Row
event_row caller store lists state event =
    row_at caller event.moment store lists state event.packet event.failures 0

-- These packets are sent from the state on, one after another, the first as the event's part of this number, up to this
-- state, in which nothing is due.
abbrev pub Sends : Store → State → List Failure → ℕ → List PacketValue → State → Type 0
Sends store state failures part [] now = (now ≡ state) × (due_at store state failures part ≡ None)
Sends store state failures part (packet ∷ packets) now =
    (next : State) × (due_at store state failures part ≡ Some (record { packet = packet; state = next }))
    × Sends store next failures (suc part) packets now

-- Over these events, of whose failures the reads alone count, the session comes from one store, lists and state to
-- another: it says these packets, all that is due right after each packet's replies, and does these commands.
abbrev pub RunsOver : CallSign → Session → List Event → List PacketValue → List Command → Session → Type 0
RunsOver caller before [] said commands now =
    (said ≡ []) × (commands ≡ []) × (now.store ≡ before.store) × (now.lists ≡ before.lists)
    × (now.state ≡ before.state)
RunsOver caller before (event ∷ events) said commands now =
    (row : Row) × (sent : List PacketValue) × (state_then : State) × (more : List PacketValue) × (others : List Command)
    × (event_row caller before.store before.lists before.state event ≡ row)
    × Sends (after_all before.store row.commands) row.state event.failures 1 sent state_then
    × (said ≡ row.replies ++ (sent ++ more)) × (commands ≡ row.commands ++ others)
    × RunsOver caller (session_over (after_all before.store row.commands) row.lists state_then) events more others now

-- the store that a session ends with is the one after its commands
abbrev pub CommandsLaw : Type 0
CommandsLaw =
    (caller : CallSign) (store : Store) (lists : List CallerList) (state : State) (events : List Event)
    (said : List PacketValue) (commands : List Command) (now : Store) (lists_now : List CallerList) (next : State)
    → RunsOver caller (session_over store lists state) events said commands (session_over now lists_now next)
    → now ≡ after_all store commands

-- what was heard of an event: its packet and its moment, whatever failed
abbrev pub heard_of : Event → UploadEvent
heard_of event = record { moment = event.moment; packet = event.packet }

-- an event of uploading, at which nothing fails
abbrev pub as_event : UploadEvent → Event
as_event event = record { moment = event.moment; packet = event.packet; failures = [] }

-- each of these events is a packet of uploading
abbrev pub AreUploads : List UploadEvent → Type 0
AreUploads events = AllByRecursion (λ event. upload.is_upload_kind (kind_of_item event.packet) ≡ true) events

-- Over packets of uploading a session that does nothing of downloading says and does what uploading says and does, and
-- leaves the lists.
abbrev pub UploadRunLaw : Type 0
UploadRunLaw =
    (caller : CallSign) (store : Store) (lists : List CallerList) (part : upload.State) (events : List UploadEvent)
    → AreUploads events
    → RunsOver caller (session_over store lists (state_by part ready)) (map as_event events)
    (replies_to caller store part events) (commands_of caller store part events)
    (session_over (store_after caller store part events) lists (state_by (state_after caller store part events) ready))
