-- What an event makes of the world if it isn't cut: one step of the server or of a client, whose frames are then sent.
use Rattle.std.specs.Prelude.{◌≡◌, ℕ, List, [], ◌++◌, map, if◌then◌else◌}
use Rattle.ax25_frames.specs.FrameText.{FrameValue}
use Rattle.ftl0_session.specs.Uploads.Session.{is_same_call}
use Rattle.turn_loop.specs.Events.{NodeEvent, hears, ticks}
use Rattle.ftl0_server.specs.ServerStep.{ServerStep, Stepped}
use Rattle.client_notes.specs.Command.{NotesCommand}
use Rattle.client_notes.specs.Laws.{after_all}
use Rattle.ftl0_client.specs.Client.{Client}
use Rattle.ftl0_client.specs.ClientStep.{ClientStep}
use Rattle.air_world.specs.Events.{ClientPart}
use Rattle.air_world.specs.Attempts.Party.{Party}
use Rattle.air_world.specs.Attempts.Transfers.{ClientDid, ServerDid, after_event, after_hearing, after_tick}
use Rattle.air_world.specs.World.{World, counted, next_moment, with_party}

-- a client after the server heard this frame: only the one whose frame it is has changed
abbrev pub party_heard : ServerDid → FrameValue → Party → Party
party_heard did frame party =
    if is_same_call party.client.me frame.src
    then record party { attempts = after_hearing did frame party.attempts }
    else party

-- a client after a tick of the server
abbrev pub party_ticked : ServerDid → Party → Party
party_ticked did party = record party { attempts = after_tick did party.client.me party.attempts }

-- the clients once the server did this
abbrev pub parties_after : ServerDid → NodeEvent → List Party → List Party
parties_after did (hears frame moment) parties = map (party_heard did frame) parties
parties_after did (ticks moment) parties = map (party_ticked did) parties

-- The server makes its step of the event that comes, in which no disk call fails, and its frames are sent.
pub record ServerGoes (old : World) (coming : NodeEvent) (delivered new : World) : Type 0 where
  pub gives : Stepped
  pub step : ServerStep old.server coming [] gives
  pub did : ServerDid
  pub did_is :
      did ≡ record { old = old.server; last = step.last; moment = next_moment old; frames = gives.frames }
  pub new_is :
      new ≡ counted (record delivered { server = gives.new; parties = parties_after did coming delivered.parties })

-- the client once the start of the task was noted
abbrev pub client_started : ClientPart → Client
client_started part = record part.party.client { lists = after_all part.party.client.lists part.started }

-- the party of a client that did this
abbrev pub party_after : ClientPart → ClientDid → Party
party_after part did =
    record part.party {
      client = did.now;
      uploads = part.party.uploads ++ part.begun;
      attempts = after_event part.coming did part.party.attempts;
    }

-- the world with this client, one more event, and the upload that was asked
abbrev pub with_asked : World → ℕ → ClientPart → Party → World
with_asked old c part party = counted (record (with_party old c party) { files = old.files ++ part.asked })

-- The client at this place makes its step of what comes, and its frames are sent. The start of a task is noted
-- before.
pub record ClientGoes (old : World) (c : ℕ) (part : ClientPart) (new : World) : Type 0 where
  pub noted : List NotesCommand
  pub did : ClientDid
  pub old_is : did.old ≡ client_started part
  pub step : ClientStep did.old part.coming noted did.frames did.now
  pub new_is : new ≡ with_asked old c part (party_after part did)
