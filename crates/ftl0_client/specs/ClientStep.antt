-- A step of a client: a job is asked, a frame or a tick comes, and all that it gives is sent.
use Rattle.std.specs.Prelude.{◌≡◌, List, [], ◌∷◌, Some}
use Rattle.ax25_frames.specs.FrameText.{FrameValue}
use Rattle.client_notes.specs.Command.{NotesCommand}
use Rattle.ftl0_client.specs.Client.{Client, ClientEvent, ClientHappened, ClientSends, IsSilent, asking, asks, becoming}
use Rattle.ftl0_client.specs.Client.{client_hearing, client_next, client_ticking, hears, ticks}

-- The client sends these frames one after another, and then nothing is to be sent.
abbrev pub Empties : Client → List FrameValue → Client → Type 0
Empties client [] last = IsSilent client × (last ≡ client)
Empties client (frame ∷ frames) last =
    (sends : ClientSends) × (client_next client ≡ Some sends) × (frame ≡ sends.frame)
    × Empties sends.after frames last

-- What an event makes of a client, before it sends anything. Asking notes nothing: if an upload is of a fresh task, the
-- start of the task was noted before, by the call that gave it.
abbrev pub happening : Client → ClientEvent → ClientHappened
happening client (asks job) = becoming (asking client job)
happening client (hears frame) = client_hearing client frame
happening client ticks = becoming (client_ticking client)

-- Nothing is to be sent by the client as it was. The event comes. These commands are noted, these frames are sent, and
-- this is the client then.
pub record ClientStep
    (old : Client) (event : ClientEvent) (noted : List NotesCommand) (frames : List FrameValue) (new : Client)
    : Type 0 where
  pub silent : IsSilent old
  pub noted_is : noted ≡ (happening old event).noted
  pub sent : Empties (happening old event).after frames new
