-- What the disk of a station stands for: the server's disk for its store, a client's for its notes.
use Rattle.std.specs.Prelude.{◌≡◌, ℕ, List, length, Some}
use Rattle.disk_model.specs.Cuts.{Arming, Failed, Passes, Unarmed}
use Rattle.disk_model.specs.declared.disk.Disk.{Ghosts}
use Rattle.disk_model.specs.Runs.{images_now}
use Rattle.file_journal.specs.Commands.{done_within}
use Rattle.file_journal.specs.Form.{Form}
use Rattle.turn_loop.specs.Events.{NodeEvent}
use Rattle.file_store.specs.Command.{Command}
use Rattle.file_store.specs.OnDisk as store
use Rattle.file_store.specs.Store.{Store}
use Rattle.file_store.specs.Recovery as store_recovery
use Rattle.file_store.specs.State as store_state
use Rattle.file_store.specs.State.{store_form}
use Rattle.client_notes.specs.Command.{NotesCommand}
use Rattle.client_notes.specs.Notes.{Lists}
use Rattle.client_notes.specs.Records.{notes_form}
use Rattle.client_notes.specs.Recovery as notes_recovery
use Rattle.client_notes.specs.Several as notes
use Rattle.client_notes.specs.State as notes_state
use Rattle.air_world.specs.Attempts.Party.{Party}
use Rattle.air_world.specs.Cuts.{client_commands, server_commands}
use Rattle.air_world.specs.Events.{ClientPart, ClientTakes, ServerTakes}
use Rattle.air_world.specs.Schedule.{Event}
use Rattle.air_world.specs.World.{PartyAt, World, store_blocks}
use Rattle.air_rehearsal.specs.Stations.{Station, client_at, the_server}

-- the octets stand for what the station keeps in this world
abbrev pub StandsFor : Station → World → List ℕ → Type 0
StandsFor the_server world image = store_state.StandsFor image world.server.store
StandsFor (client_at c) world image =
    (party : Party) × PartyAt world c party × notes_state.StandsFor image party.client.lists

-- The octets stand for the server's store after the first of the event's commands, for some number of them: at least as
-- many as `least` says of them.
pub record StoreMakes (least : List Command → ℕ) (old : World) (event : Event) (image : List ℕ) : Type 0 where
  pub coming : NodeEvent
  pub delivered : World
  pub takes : ServerTakes old event coming delivered
  pub stands :
      store.MakesBetween (least (server_commands old coming)) (length (server_commands old coming))
      old.server.store (server_commands old coming) image

-- the same of the notes of the client at this place
pub record NotesMake (least : List NotesCommand → ℕ) (c : ℕ) (old : World) (event : Event) (image : List ℕ)
    : Type 0 where
  pub part : ClientPart
  pub takes : ClientTakes old event c part
  pub stands :
      notes.MakesBetween (least (client_commands part)) (length (client_commands part))
      part.party.client.lists (client_commands part) image

-- the one or the other, where `least` says it of the commands of any form
abbrev pub Makes : ((S C : Type 0) → Form S C → List C → ℕ) → Station → World → Event → List ℕ → Type 0
Makes least the_server old event image = StoreMakes (least Store Command store_form) old event image
Makes least (client_at c) old event image = NotesMake (least Lists NotesCommand notes_form) c old event image

-- after the first of the commands that the event has in this world, for whatever number of them
abbrev pub StandsDuring : Station → World → Event → List ℕ → Type 0
StandsDuring = Makes (λ S C form commands. 0)

-- How many of these commands stand at the least, where so many calls were to pass and the disk is armed so then: all
-- of them where no call failed by the arming, else as many as those calls carry out.
abbrev pub least_done : Arming → ℕ → (S C : Type 0) → Form S C → List C → ℕ
least_done Unarmed calls S C form commands = length commands
least_done (Passes left) calls S C form commands = length commands
least_done Failed calls S C form commands = done_within form commands calls

-- The octets stand for what those before stand for, and differ from them only as a recovery may leave them: a formatted
-- content, which has both gates, is left as it is.
abbrev pub StandsAlike : Station → List ℕ → List ℕ → Type 0
StandsAlike the_server before image = store_recovery.StandsAlike store_blocks before image
StandsAlike (client_at c) before image = notes_recovery.StandsAlike before image

-- The disk tells its content, and that, and each image that a crash since this moment might have left, stand for what
-- the station keeps in this world.
pub record StandsNow {B : Type 0} (g : Ghosts B) (station : Station) (world : World) (disk : B) : Type 0 where
  pub content : List ℕ
  pub is_content : g.content disk ≡ Some content
  pub stands : StandsFor station world content
  pub images : (image : List ℕ) → images_now g disk image → StandsFor station world image
