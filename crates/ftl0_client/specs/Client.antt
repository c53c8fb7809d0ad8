-- A client as the definitions have it: its notes and, once something was asked, an attempt; and what events make of it
-- (AX.25 2.0, 2.4; FTL0 1990).
use Rattle.std.specs.Prelude.{◌≡◌, List, [], Bool, if◌then◌else◌, Option, None, Some}
use Rattle.px_base.specs.CallSign.{CallSign}
use Rattle.ax25_frames.specs.FrameText.{FrameValue}
use Rattle.ax25_link.specs.Refusals.{is_answered, refusal_frame}
use Rattle.ax25_link.specs.Sending.{Sending, next_sending}
use Rattle.ax25_link.specs.Window.{Window}
use Rattle.ax25_link.specs.declared.refusal.Refusal.{Refusal}
use Rattle.client_notes.specs.Command.{NotesCommand}
use Rattle.client_notes.specs.Laws.{after_all}
use Rattle.client_notes.specs.Notes.{Lists, is_same_call}
use Rattle.ftl0_client_job.specs.Table.{JobState}
use Rattle.ftl0_client.specs.Attempt.Attempted.{Attempted, calling}
use Rattle.ftl0_client.specs.Attempt.Hearing.{hearing, ticking, with_end}
use Rattle.ftl0_client.specs.Attempt.Taking.{Happened}

-- the DM to be sent to a station with which there is no link: to whom, and its F bit
abbrev pub Refused : Type 0
Refused = Refusal

-- its call, its server's, the window of its links, its notes, the attempt of what was asked last, if anything was, and
-- the DM that is to be sent
pub record Client : Type 0 where
  pub me : CallSign
  pub server : CallSign
  pub window : Window
  pub lists : Lists
  pub attempt : Option Attempted
  pub stray : Option Refused

-- a client with these notes, of which nothing was asked
abbrev pub new_client : CallSign → CallSign → Window → Lists → Client
new_client me server window lists =
    record { me = me; server = server; window = window; lists = lists; attempt = None; stray = None }

pub data ClientEvent : Type 0 where
  -- this job is asked
  asks : JobState → ClientEvent
  -- a frame for this station is heard
  hears : FrameValue → ClientEvent
  -- the clock went on
  ticks : ClientEvent

-- what an event makes of a client, and the commands of its notes that it has, in order
pub record ClientHappened : Type 0 where
  pub after : Client
  pub noted : List NotesCommand

-- the client is this one, and nothing is noted
abbrev pub becoming : Client → ClientHappened
becoming client = record { after = client; noted = [] }

-- the attempt is this one
abbrev pub with_attempt : Client → Attempted → Client
with_attempt client a = record client { attempt = Some a }

-- Asking: a new attempt begins with a call to the server, instead of the one before.
abbrev pub asking : Client → JobState → Client
asking client job = with_attempt client (calling client.me client.server job)

-- the DM to this station is to be sent
abbrev pub refusing : Client → CallSign → Bool → Client
refusing client to final = record client { stray = Some (record { to = to; poll = final }) }

-- A frame of a station with which there is no link: the client answers as an end that is down does, by DM with F = P
-- (AX.25 2.0, 2.4.3.4).
abbrev pub hearing_stranger : Client → FrameValue → Client
hearing_stranger client frame = if is_answered frame then refusing client frame.src frame.poll else client

-- the attempt that hears a frame: the last one, whatever became of it, if the frame is the server's
abbrev pub attempt_for : Client → FrameValue → Option Attempted
attempt_for client frame = if is_same_call frame.src client.server then client.attempt else None

-- the attempt has heard its frame
abbrev pub heard_by : Client → Happened → ClientHappened
heard_by client happened =
    record {
      after = record (with_attempt client happened.after) { lists = after_all client.lists happened.noted };
      noted = happened.noted;
    }

-- by the attempt that hears the frame, if one does
abbrev pub hearing_by : Client → FrameValue → Option Attempted → ClientHappened
hearing_by client frame None = becoming (hearing_stranger client frame)
hearing_by client frame (Some a) = heard_by client (hearing client.window client.lists a frame)

-- what a frame for this station makes of a client
abbrev pub client_hearing : Client → FrameValue → ClientHappened
client_hearing client frame = hearing_by client frame (attempt_for client frame)

-- what a tick makes of a client: before anything was asked, nothing
abbrev pub ticking_by : Client → Option Attempted → Client
ticking_by client None = client
ticking_by client (Some a) = with_attempt client (ticking a)

abbrev pub client_ticking : Client → Client
client_ticking client = ticking_by client client.attempt

-- a frame that a client sends, and the client then
pub record ClientSends : Type 0 where
  pub frame : FrameValue
  pub after : Client

-- its attempt's link sends this, if it sends anything
abbrev pub sends_of_link : Client → Attempted → Option Sending → Option ClientSends
sends_of_link client a None = None
sends_of_link client a (Some sending) =
    Some (record { frame = sending.frame; after = with_attempt client (with_end a sending.after) })

abbrev pub sends_of_attempt : Client → Option Attempted → Option ClientSends
sends_of_attempt client None = None
sends_of_attempt client (Some a) = sends_of_link client a (next_sending client.window a.end)

-- the DM to a station with which there is no link comes first
abbrev pub sends_by : Client → Option Refused → Option ClientSends
sends_by client None = sends_of_attempt client client.attempt
sends_by client (Some refused) =
    Some (record { frame = refusal_frame client.me refused; after = record client { stray = None } })

-- what the client sends next, if anything
abbrev pub client_next : Client → Option ClientSends
client_next client = sends_by client client.stray

-- nothing is to be sent
abbrev pub IsSilent : Client → Type 0
IsSilent client = client_next client ≡ None
