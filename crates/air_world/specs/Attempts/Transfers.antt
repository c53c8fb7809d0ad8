-- What becomes of a client's attempts when its station or the server's has made a step.
use Rattle.std.specs.Prelude.{ℕ, List, [], ◌∷◌, ◌++◌, map, filter, find, Bool, true, false, if◌then◌else◌}
use Rattle.std.specs.Prelude.{Option, None, Some, is_some}
use Rattle.std.specs.List.{list_any}
use Rattle.std.specs.Option.{option_and_then}
use Rattle.px_base.specs.CallSign.{CallSign}
use Rattle.ax25_frames.specs.FrameText.{FrameValue}
use Rattle.ax25_link.specs.Air.{fresh}
use Rattle.ax25_link.specs.Rows.{is_call}
use Rattle.ftl0_session.specs.Lists.Lists.{has_left}
use Rattle.ftl0_session.specs.Table.{greeting}
use Rattle.ftl0_session.specs.Uploads.Session.{is_same_call}
use Rattle.ftl0_server.specs.Connection.Connected.{Connected, caller_of}
use Rattle.ftl0_server.specs.Entries as session
use Rattle.ftl0_server.specs.Server.{Server}
use Rattle.ftl0_server.specs.Slots.{Slot, connected, free, leaving, place_of}
use Rattle.ftl0_client_job.specs.declared.work.Work.{Work}
use Rattle.ftl0_client.specs.Attempt.Attempted.{Attempted}
use Rattle.ftl0_client.specs.Client.{Client, ClientEvent, asks, hears, ticks}
use Rattle.ftl0_client.specs.Entries as job
use Rattle.ftl0_client.specs.Entries.{JobEntry}
use Rattle.air_world.specs.Attempts.Attempt.{Attempt}
use Rattle.air_world.specs.Attempts.Party.{all_over, client_sends, server_sends, with_answered, with_newest}
use Rattle.air_world.specs.Attempts.Sides.{ServerSide}

-- What a server did at an event: as it was, and as it is once it has sent all, before the places of sessions that are
-- over are free; the moment; and the frames that it sent.
pub record ServerDid : Type 0 where
  pub old : Server
  pub last : Server
  pub moment : ℕ
  pub frames : List FrameValue

-- the caller's connection at a place, also one whose session is over
abbrev pub connection_at : CallSign → Slot → Option Connected
connection_at caller free = None
connection_at caller (connected c) = if is_same_call (caller_of c) caller then Some c else None
connection_at caller (leaving c) = if is_same_call (caller_of c) caller then Some c else None

-- the caller's connection, if it has one
abbrev pub connection_of : Server → CallSign → Option Connected
connection_of server caller =
    option_and_then (connection_at caller) (find (λ slot. is_some (connection_at caller slot)) server.slots)

-- whether the caller's session is up
abbrev pub has_session : Server → CallSign → Bool
has_session server caller = is_some (place_of caller server.slots)

-- a session that begins with this connection
abbrev pub begun : ServerDid → Connected → ServerSide
begun did c =
    record {
      connected = c;
      greeting = greeting did.moment (has_left did.old.lists (caller_of c));
      entries = [];
      is_up = true;
    }

-- the session goes on, or is over, with this connection, once these entries came
abbrev pub gone_on : ServerDid → Connected → List session.SessionEntry → ServerSide → ServerSide
gone_on did now entries side =
    record side {
      connected = now;
      entries = side.entries ++ entries;
      is_up = has_session did.last (caller_of now);
    }

-- the attempt with what the server sent, and its session gone on
abbrev pub served : ServerDid → Connected → List session.SessionEntry → Attempt → ServerSide → Attempt
served did now entries a side =
    server_sends did.frames (record a { server = Some (gone_on did now entries side) })

-- The SABM is answered: the current attempt has a session, and an older one's is over.
abbrev pub opened : ServerDid → Connected → List Attempt → List Attempt
opened did c [] = []
opened did c (a ∷ older) = server_sends did.frames (record a { server = Some (begun did c) }) ∷ all_over older

-- What the server did with a frame of the client, by whether it is a SABM, and by the client's connection before and
-- after. A SABM that is answered opens a session. Any other frame goes to the session that there is, which is of the
-- newest attempt that has one. What no session hears may be answered by DM, which belongs to the current attempt.
abbrev pub heard_by : Bool → Option Connected → Option Connected → ServerDid → FrameValue → List Attempt → List Attempt
heard_by true before (Some now) did frame attempts = opened did now attempts
heard_by true before None did frame attempts = with_newest (server_sends did.frames) attempts
heard_by false (Some c) (Some now) did frame attempts =
    with_answered
    (served did now (session.entries_heard did.old.window did.moment did.old.store did.old.lists c frame)) attempts
heard_by false (Some c) None did frame attempts = with_newest (server_sends did.frames) attempts
heard_by false None now did frame attempts = with_newest (server_sends did.frames) attempts

-- the attempts of the client whose frame the server heard
abbrev pub after_hearing : ServerDid → FrameValue → List Attempt → List Attempt
after_hearing did frame attempts =
    heard_by (is_call frame.kind.control) (connection_of did.old frame.src) (connection_of did.last frame.src) did frame
    attempts

-- what the server did, with the frames to this station alone
abbrev pub did_to : CallSign → ServerDid → ServerDid
did_to caller did = record did { frames = filter (λ frame. is_same_call frame.dest caller) did.frames }

-- the attempts of a client after a tick of the server: the frames to it belong to the attempt of its session
abbrev pub ticked_by : Option Connected → Option Connected → ServerDid → List Attempt → List Attempt
ticked_by (Some c) (Some now) did attempts = with_answered (served did now []) attempts
ticked_by before now did attempts = attempts

abbrev pub after_tick : ServerDid → CallSign → List Attempt → List Attempt
after_tick did caller attempts =
    ticked_by (connection_of did.old caller) (connection_of did.last caller) (did_to caller did) attempts

-- What a client did at an event: as it was and as it is, and the frames that it sent.
pub record ClientDid : Type 0 where
  pub old : Client
  pub now : Client
  pub frames : List FrameValue

-- an attempt that begins with these frames, the first of which is its SABM
abbrev pub beginning : ClientDid → Attempted → Work → Attempt
beginning did a asked =
    record {
      window = did.now.window;
      client = record { attempted = a; asked = asked; entries = [] };
      server = None;
      by_client = map fresh did.frames;
      by_server = [];
    }

-- the job goes on once these entries came, and the client sent its frames
abbrev pub job_gone_on : ClientDid → Attempted → List JobEntry → Attempt → Attempt
job_gone_on did now entries a =
    client_sends did.frames
    (record a { client = record a.client { attempted = now; entries = a.client.entries ++ entries } })

-- The timer sent a further SABM: an attempt begins with the same work, and the one before stays as it was.
abbrev pub called_again : ClientDid → Attempted → List Attempt → List Attempt
called_again did now [] = []
called_again did now (a ∷ older) = beginning did now a.client.asked ∷ a ∷ older

-- whether a SABM is among the frames
abbrev pub has_call : List FrameValue → Bool
has_call frames = list_any (λ frame. is_call frame.kind.control) frames

abbrev pub after_client_tick : ClientDid → Attempted → Attempted → List Attempt → List Attempt
after_client_tick did before now attempts =
    if has_call did.frames then called_again did now attempts
    else with_newest (job_gone_on did now (job.entries_ticked before)) attempts

-- What a client did at an event, by its link before and after. What is asked begins an attempt. A client without a
-- link may answer a frame by DM, which belongs to the current attempt.
abbrev pub did_by : ClientEvent → Option Attempted → Option Attempted → ClientDid → List Attempt → List Attempt
did_by (asks work) before (Some now) did attempts = beginning did now work.work ∷ attempts
did_by (asks work) before None did attempts = attempts
did_by (hears frame) (Some before) (Some now) did attempts =
    with_newest (job_gone_on did now (job.entries_heard did.old.window did.old.lists before frame)) attempts
did_by (hears frame) before now did attempts = with_newest (client_sends did.frames) attempts
did_by ticks (Some before) (Some now) did attempts = after_client_tick did before now attempts
did_by ticks before now did attempts = attempts

-- the attempts of a client after its event
abbrev pub after_event : ClientEvent → ClientDid → List Attempt → List Attempt
after_event coming did attempts = did_by coming did.old.attempt did.now.attempt did attempts
