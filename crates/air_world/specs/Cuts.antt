-- What an event makes of the world if a power cut comes at it, and so what each event makes of the world: a cut leaves
-- the first of the event's commands done, for some number of them.
use Rattle.std.specs.Prelude.{◌≡◌, ℕ, ◌≤◌, List, [], ◌∷◌, ◌++◌, length, take, map, Bool, true, false}
use Rattle.file_store.specs.Command.{Command}
use Rattle.file_store.specs.OnDisk.{after_first}
use Rattle.turn_loop.specs.Events.{NodeEvent}
use Rattle.ftl0_server.specs.Server.{new_server}
use Rattle.ftl0_server.specs.ServerStep as server
use Rattle.client_notes.specs.Command.{NotesCommand}
use Rattle.client_notes.specs.Notes.{Lists}
use Rattle.client_notes.specs.Several as notes
use Rattle.ftl0_client.specs.Client.{Client, new_client}
use Rattle.ftl0_client.specs.ClientStep as client
use Rattle.air_world.specs.Events.{ClientPart, ClientTakes, IsPartOf, ServerTakes}
use Rattle.air_world.specs.Lawful.{IsAllowed}
use Rattle.air_world.specs.Attempts.Party.{Party, sessions_over}
use Rattle.air_world.specs.Schedule.{Event, IsSchedule, Schedule, break_client, cut_client, cut_server, tick_server}
use Rattle.air_world.specs.Schedule.{to_server}
use Rattle.air_world.specs.Step.{ClientGoes, ServerGoes, client_started, with_asked}
use Rattle.air_world.specs.World.{World, counted, first_world, with_party}

-- the commands of the store that the event has
abbrev pub server_commands : World → NodeEvent → List Command
server_commands world coming = (server.happening world.server coming []).done

-- This number of the event's commands, the first ones, are done. No frame is sent, and the server has neither sessions
-- nor lists: their ends and states stay as they were before the event. The delivery is made all the same.
pub record ServerIsCut (old : World) (coming : NodeEvent) (delivered new : World) : Type 0 where
  pub count : ℕ
  pub within : count ≤ length (server_commands old coming)
  pub new_is :
      new
      ≡ counted
      (record delivered {
        server =
            new_server old.server.me old.server.window
            (after_first count old.server.store (server_commands old coming));
        parties = map sessions_over delivered.parties;
        is_cut = false;
      })

-- a client that starts again from these notes
abbrev pub started_again : Client → Lists → Client
started_again it lists = new_client it.me it.server it.window lists

-- the commands of the notes that the event has, with the start of a task before it
abbrev pub client_commands : ClientPart → List NotesCommand
client_commands part = part.started ++ (client.happening (client_started part) part.coming).noted

-- the client that starts again from the notes after this number of these commands
abbrev pub party_cut : ClientPart → ℕ → Party
party_cut part count =
    record part.party {
      client =
          started_again part.party.client
          (notes.after_first count part.party.client.lists (client_commands part));
      uploads = part.party.uploads ++ take count part.begun;
      is_cut = false;
    }

-- The same of a client: it starts again from its notes, and its link and its job stay as they were before the event. A
-- file that was asked is that upload's, also if its task isn't noted.
pub record ClientIsCut (old : World) (c : ℕ) (part : ClientPart) (new : World) : Type 0 where
  pub count : ℕ
  pub within : count ≤ length (client_commands part)
  pub new_is : new ≡ with_asked old c part (party_cut part count)

-- by whether the station's event is to be cut
abbrev pub ServerDoes : Bool → World → NodeEvent → World → World → Type 0
ServerDoes false old coming delivered new = ServerGoes old coming delivered new
ServerDoes true old coming delivered new = ServerIsCut old coming delivered new

abbrev pub ClientDoes : Bool → World → ℕ → ClientPart → World → Type 0
ClientDoes false old c part new = ClientGoes old c part new
ClientDoes true old c part new = ClientIsCut old c part new

-- an event of the server's, and one of a client's
pub record ServerEvent (old : World) (event : Event) (new : World) : Type 0 where
  pub coming : NodeEvent
  pub delivered : World
  pub takes : ServerTakes old event coming delivered
  pub does : ServerDoes old.is_cut old coming delivered new

pub record ClientEvent (old : World) (event : Event) (new : World) : Type 0 where
  pub c : ℕ
  pub part : ClientPart
  pub takes : ClientTakes old event c part
  pub does : ClientDoes part.party.is_cut old c part new

-- the client of this number made into this, and nothing else changed
abbrev pub Changes : World → ℕ → (Party → Party) → World → Type 0
Changes old number change new =
    (c : ℕ) × (party : Party) × IsPartOf old number c (λ it. party ≡ change it)
    × (new ≡ counted (with_party old c party))

-- the client starts again from its notes, without a frame
abbrev pub broken : Party → Party
broken party = record party { client = started_again party.client party.client.lists }

-- What an event makes of the world. A break leaves the client's notes alone; a cut is noted for the next event in
-- which its station takes part, in place of an earlier note.
abbrev pub Happens : World → Event → World → Type 0
Happens old (to_server number place) new = ServerEvent old (to_server number place) new
Happens old tick_server new = ServerEvent old tick_server new
Happens old (break_client number) new = Changes old number broken new
Happens old (cut_server call choice) new = new ≡ counted (record old { is_cut = true })
Happens old (cut_client number call choice) new = Changes old number (λ party. record party { is_cut = true }) new
Happens old event new = ClientEvent old event new

-- the event may come, and makes this of the world
pub record WorldStep (old : World) (event : Event) (new : World) : Type 0 where
  pub allowed : IsAllowed old event
  pub happens : Happens old event new

-- Over these events, each of which may come in its turn, these are the worlds, one after each.
abbrev pub Plays : World → List Event → List World → Type 0
Plays world [] worlds = worlds ≡ []
Plays world (event ∷ events) worlds =
    (next : World) × (later : List World) × (worlds ≡ next ∷ later) × WorldStep world event next
    × Plays next events later

-- the schedule is lawful, and these are the worlds after its events
pub record IsRun (schedule : Schedule) (worlds : List World) : Type 0 where
  pub is_schedule : IsSchedule schedule
  pub plays : Plays (first_world schedule) schedule.events worlds
