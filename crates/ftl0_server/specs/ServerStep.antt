-- A step of a server: a frame or a tick comes, and all that it gives is sent.
use Rattle.std.specs.Prelude.{◌≡◌, ℕ, List, [], ◌∷◌, Option, None, Some, slice_get, ⊤}
use Rattle.ax25_frames.specs.FrameText.{FrameValue}
use Rattle.file_store.specs.Command.{Command}
use Rattle.ftl0_session.specs.Uploads.Failures.{Failure}
use Rattle.ftl0_server.specs.Connection.Hearing.{LooksAtNone}
use Rattle.ftl0_server.specs.Connection.Taking.{Halt}
use Rattle.turn_loop.specs.Events.{NodeEvent, hears, ticks}
use Rattle.ftl0_server.specs.Server.{IsSilent, Server, ServerHappened, ServerSends, becoming, server_hearing}
use Rattle.ftl0_server.specs.Server.{server_next, server_ticking, settled}
use Rattle.ftl0_server.specs.Slots.{Slot, connected, free, leaving, place_of}

-- The server sends these frames one after another, and then nothing is to be sent.
abbrev pub Empties : Server → List FrameValue → Server → Type 0
Empties server [] last = IsSilent server × (last ≡ server)
Empties server (frame ∷ frames) last =
    (sends : ServerSends) × (server_next server ≡ Some sends) × (frame ≡ sends.frame)
    × Empties sends.after frames last

-- What an event makes of a server with these failures of the disk, before it sends anything. A tick has no
-- part: it frees no octets of a link, so nothing more of what is due is queued.
abbrev pub happening : Server → NodeEvent → List Failure → ServerHappened
happening server (hears frame moment) failures = server_hearing server frame moment failures
happening server (ticks moment) failures = becoming (server_ticking server)

-- the connection at a place, if there is one, looks at no octet of a file for this frame
abbrev pub LooksAtNoneAt : Server → FrameValue → ℕ → Option Slot → Type 0
LooksAtNoneAt server frame moment None = ⊤
LooksAtNoneAt server frame moment (Some free) = ⊤
LooksAtNoneAt server frame moment (Some (connected c)) =
    LooksAtNone server.window moment server.store server.lists c frame
LooksAtNoneAt server frame moment (Some (leaving c)) = ⊤

-- so the server, if its sender's connection is at this place
abbrev pub LooksAtNoneBy : Server → FrameValue → ℕ → Option ℕ → Type 0
LooksAtNoneBy server frame moment None = ⊤
LooksAtNoneBy server frame moment (Some place) =
    LooksAtNoneAt server frame moment (slice_get server.slots place)

-- No octet of a file is looked at for the event: it is a tick, or a frame of a station without a connection, or one
-- that brings its sender's connection no packet, or packets for which none is looked at and by which none becomes held;
-- and after it nothing is due.
abbrev pub LooksAtNoFile : Server → NodeEvent → Type 0
LooksAtNoFile server (hears frame moment) = LooksAtNoneBy server frame moment (place_of frame.src server.slots)
LooksAtNoFile server (ticks moment) = ⊤

-- What a step gives: the commands that are done, and, if the disk failed, those in one of which it did; how many parts
-- reported that a read failed; why no more was taken; the frames that are sent; and the server then, or, if it stops,
-- its places.
pub record Stepped : Type 0 where
  pub done : List Command
  pub cut : List Command
  pub missed : ℕ
  pub halt : Halt
  pub frames : List FrameValue
  pub new : Server

-- by its parts
abbrev pub stepped : List Command → List Command → ℕ → Halt → List FrameValue → Server → Stepped
stepped done cut missed halt frames new =
    record { done = done; cut = cut; missed = missed; halt = halt; frames = frames; new = new }

-- Nothing is to be sent by the server as it was. The event comes, with these failures of the disk, and this is what it
-- gives.
pub record ServerStep (old : Server) (event : NodeEvent) (failures : List Failure) (gives : Stepped) : Type 0 where
  pub silent : IsSilent old
  pub done_is : gives.done ≡ (happening old event failures).done
  pub cut_is : gives.cut ≡ (happening old event failures).cut
  pub missed_is : gives.missed ≡ (happening old event failures).missed
  pub halt_is : gives.halt ≡ (happening old event failures).halt
  pub last : Server
  pub sent : Empties (happening old event failures).after gives.frames last
  pub new_is : gives.new ≡ settled last
