-- A server as the definitions have it: eight places, a store, and the lists that its callers selected (AX.25 2.0, 2.4;
-- FTL0 1990).
use Rattle.std.specs.Prelude.{◌≡◌, ℕ, List, [], ◌∷◌, ◌&&◌, Bool, true, map, slice_get, slice_set}
use Rattle.std.specs.Prelude.{if◌then◌else◌, Option, None, Some}
use Rattle.px_base.specs.CallSign.{CallSign}
use Rattle.ax25_frames.specs.FrameText.{FrameValue}
use Rattle.ax25_link.specs.Refusals.{refusal_frame}
use Rattle.ax25_link.specs.Rows.{is_call}
use Rattle.ax25_link.specs.Window.{Window}
use Rattle.ax25_link.specs.declared.refusal.Refusal.{Refusal}
use Rattle.ftl0_session.specs.Lists.Lists.{CallerList, has_left}
use Rattle.file_store.specs.Command.{Command, after_all}
use Rattle.file_store.specs.Store.{Store}
use Rattle.ftl0_session.specs.Uploads.Failures.{Failure}
use Rattle.ftl0_server.specs.Connection.Connected.{answering}
use Rattle.ftl0_server.specs.Connection.Hearing.{Happened, hearing}
use Rattle.ftl0_server.specs.Connection.Taking.{Halt, goes_on}
use Rattle.ftl0_server.specs.Slots.{PlacesSend, Slot, all_freed, connected, first_empty, free, leaving, place_of}
use Rattle.ftl0_server.specs.Slots.{places_next, slot_after, slot_ticking}

-- eight free places
abbrev pub all_free : List Slot
all_free = free ∷ free ∷ free ∷ free ∷ free ∷ free ∷ free ∷ free ∷ []

-- the DM to be sent to a station without a connection: to whom, and its F bit
abbrev pub Refused : Type 0
Refused = Refusal

-- its call, the window of its links, its places, the DM that is to be sent, its store, and the lists of all callers,
-- whether they are connected or not
pub record Server : Type 0 where
  pub me : CallSign
  pub window : Window
  pub slots : List Slot
  pub stray : Option Refused
  pub store : Store
  pub lists : List CallerList

-- a server without sessions and without lists
abbrev pub new_server : CallSign → Window → Store → Server
new_server me window store =
    record { me = me; window = window; slots = all_free; stray = None; store = store; lists = [] }

-- What a frame makes of a server: what it is then; how many parts of the event reported that a read failed; the store's
-- commands that are done, and those in one of which the disk failed; and why no more of the frame was taken.
pub record ServerHappened : Type 0 where
  pub after : Server
  pub missed : ℕ
  pub done : List Command
  pub cut : List Command
  pub halt : Halt

-- the server is this one, and nothing is done to the store
abbrev pub becoming : Server → ServerHappened
becoming server = record { after = server; missed = 0; done = []; cut = []; halt = goes_on }

-- the place is this one
abbrev pub with_slot : Server → ℕ → Slot → Server
with_slot server place slot = record server { slots = slice_set server.slots place slot }

-- the DM is to be sent
abbrev pub refusing : Server → CallSign → Bool → Server
refusing server to final = record server { stray = Some (record { to = to; poll = final }) }

-- a connection at this place has heard its frame
abbrev pub heard_at : Server → ℕ → Happened → ServerHappened
heard_at server place happened =
    record {
      after =
          record (with_slot server place (slot_after happened)) {
            store = after_all server.store happened.done;
            lists = happened.lists;
          };
      missed = happened.missed;
      done = happened.done;
      cut = happened.cut;
      halt = happened.halt;
    }

-- A station without a connection says SABM with this P bit: it gets the lowest empty place, or DM with F = P if none is
-- empty (AX.25 2.0, 2.4.3.1). LOGIN_RESP says whether numbers are left in its list (FTL0 1990, LOGIN_RESP).
abbrev pub called_by : Server → CallSign → Bool → ℕ → Option ℕ → Server
called_by server caller poll moment None = refusing server caller poll
called_by server caller poll moment (Some place) =
    with_slot server place (connected (answering server.me caller poll moment (has_left server.lists caller)))

-- A frame of a station without a connection: SABM calls; any other command with P = 1 gets DM with F = 1, and the rest
-- is ignored (AX.25 2.0, 2.4.3.4).
abbrev pub hearing_stranger : Server → FrameValue → ℕ → Server
hearing_stranger server frame moment =
    if is_call frame.kind.control then called_by server frame.src frame.poll moment (first_empty server.slots)
    else if frame.command && frame.poll then refusing server frame.src true
    else server

-- the frame is heard at this place, which has the sender's connection, with these failures
abbrev pub hearing_at : Server → FrameValue → ℕ → List Failure → ℕ → Option Slot → ServerHappened
hearing_at server frame moment failures place None = becoming server
hearing_at server frame moment failures place (Some free) = becoming server
hearing_at server frame moment failures place (Some (leaving c)) = becoming server
hearing_at server frame moment failures place (Some (connected c)) =
    heard_at server place (hearing server.window moment server.store server.lists c frame failures)

-- by the place of the sender's connection, if it has one
abbrev pub hearing_by : Server → FrameValue → ℕ → List Failure → Option ℕ → ServerHappened
hearing_by server frame moment failures None = becoming (hearing_stranger server frame moment)
hearing_by server frame moment failures (Some place) =
    hearing_at server frame moment failures place (slice_get server.slots place)

-- what a frame to the server makes of it at this moment, with these failures
abbrev pub server_hearing : Server → FrameValue → ℕ → List Failure → ServerHappened
server_hearing server frame moment failures =
    hearing_by server frame moment failures (place_of frame.src server.slots)

-- what a tick makes of a server
abbrev pub server_ticking : Server → Server
server_ticking server = record server { slots = map slot_ticking server.slots }

-- a frame that a server sends, and the server then
pub record ServerSends : Type 0 where
  pub frame : FrameValue
  pub after : Server

-- the places send this, if they send anything
abbrev pub sends_of_places : Server → Option PlacesSend → Option ServerSends
sends_of_places server None = None
sends_of_places server (Some sends) =
    Some (record { frame = sends.frame; after = record server { slots = sends.after } })

-- the DM to a station without a connection comes first
abbrev pub sends_by : Server → Option Refused → Option ServerSends
sends_by server None = sends_of_places server (places_next server.window server.slots)
sends_by server (Some refused) =
    Some (record { frame = refusal_frame server.me refused; after = record server { stray = None } })

-- what the server sends next, if anything
abbrev pub server_next : Server → Option ServerSends
server_next server = sends_by server server.stray

-- nothing is to be sent
abbrev pub IsSilent : Server → Type 0
IsSilent server = server_next server ≡ None

-- places whose sessions are over, and whose links have sent all, are free
abbrev pub settled : Server → Server
settled server = record server { slots = all_freed server.slots }
