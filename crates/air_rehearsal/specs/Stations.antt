-- The stations of a rehearsal, what an event of a schedule is for each of them, and which of their events are cut.
use Rattle.std.specs.Prelude.{ℕ, suc, ◌<◌, ◌==◌, List, [], ◌∷◌, length, map, if◌then◌else◌, Option, None, Some, ⊤}
use Rattle.std.specs.List.{range_with_len}
use Rattle.air_world.specs.Schedule.{Event, Schedule, ask_download, ask_list, ask_resume, ask_upload, break_client}
use Rattle.air_world.specs.Schedule.{cut_client, cut_server, tick_client, tick_server, to_client, to_server}
use Rattle.air_world.specs.World.{World}

pub data Station : Type 0 where
  the_server : Station
  -- the client at this place, from 0 on
  client_at : ℕ → Station

-- the station takes part in a rehearsal of the schedule
abbrev pub IsStationOf : Schedule → Station → Type 0
IsStationOf schedule the_server = ⊤
IsStationOf schedule (client_at c) = c < length schedule.calls

-- the stations of a schedule: the server, and the clients in their order
abbrev pub stations_of : Schedule → List Station
stations_of schedule = the_server ∷ map client_at (range_with_len 0 (length schedule.calls))

-- the place of the station's disk on the bench: the server's is the first one
abbrev pub place_of : Station → ℕ
place_of the_server = 0
place_of (client_at c) = suc c

-- What an event is for a station.
pub data Role : Type 0 where
  -- it takes part
  acts : Role
  -- it starts again
  breaks_off : Role
  -- the next event in which it takes part is to be cut, at the call of this number
  will_be_cut : ℕ → Role
  -- it is another station's event
  looks_on : Role

-- this is it for the client of that number, and nothing for another one
abbrev pub for_client : ℕ → ℕ → Role → Role
for_client number c role = if number == suc c then role else looks_on

abbrev pub server_role : Event → Role
server_role (to_server number place) = acts
server_role tick_server = acts
server_role (cut_server call choice) = will_be_cut call
server_role event = looks_on

abbrev pub client_role : ℕ → Event → Role
client_role c (ask_upload number count) = for_client number c acts
client_role c (ask_resume number) = for_client number c acts
client_role c (ask_list number tokens) = for_client number c acts
client_role c (ask_download number file) = for_client number c acts
client_role c (to_client number place) = for_client number c acts
client_role c (tick_client number) = for_client number c acts
client_role c (break_client number) = for_client number c breaks_off
client_role c (cut_client number call choice) = for_client number c (will_be_cut call)
client_role c event = looks_on

abbrev pub role_of : Station → Event → Role
role_of the_server event = server_role event
role_of (client_at c) event = client_role c event

-- The cut that waits for the station after an event, by the number of its call: a further one comes in place of it,
-- and an event in which the station takes part takes it away.
abbrev pub waiting_after : Role → Option ℕ → Option ℕ
waiting_after acts waiting = None
waiting_after breaks_off waiting = waiting
waiting_after (will_be_cut call) waiting = Some call
waiting_after looks_on waiting = waiting

-- the world after an event in front of these, where the event was cut
abbrev pub with_cut : Role → Option ℕ → World → List World → List World
with_cut acts (Some call) world later = world ∷ later
with_cut acts None world later = later
with_cut breaks_off waiting world later = later
with_cut (will_be_cut call) waiting world later = later
with_cut looks_on waiting world later = later

-- the worlds right after the events of the station that were cut, in order, where this cut waits at first
abbrev pub cut_worlds : Station → Option ℕ → List Event → List World → List World
cut_worlds station waiting [] worlds = []
cut_worlds station waiting (event ∷ events) [] = []
cut_worlds station waiting (event ∷ events) (world ∷ worlds) =
    with_cut (role_of station event) waiting world
    (cut_worlds station (waiting_after (role_of station event) waiting) events worlds)
