-- What a rehearsal counts, each number by itself.
use Rattle.std.specs.Prelude.{◌≡◌, ◌⊎◌, ℕ, suc, ◌+◌, List, [], ◌∷◌, length, map, Bool, ◌&&◌, true, false}
use Rattle.std.specs.Prelude.{Option, None, Some}
use Rattle.std.specs.List.{count_by, flat_map, range_with_len, sum_by, zip}
use Rattle.client_notes.specs.Notes.{task_count}
use Rattle.ftl0_client.specs.Outcome.{Outcome}
use Rattle.ftl0_client.specs.Outcome.TheVariants as outcome
use Rattle.ftl0_client.specs.Outcomes.{is_under_way, outcome_by}
use Rattle.air_world.specs.Attempts.Party.{Party}
use Rattle.air_world.specs.Files.Kept.{HoldsAck, IsTaskKept}
use Rattle.air_world.specs.Schedule.{Event, Schedule, ask_download, ask_list, ask_resume, ask_upload}
use Rattle.air_world.specs.World.{World, first_world}
use Rattle.air_rehearsal.specs.Stations.{Station, cut_worlds, stations_of}

-- How many events there were, those of cuts among them; how often clients were asked; of how many files clients hold an
-- acknowledgement, and how many of these the server's store has; how often what was asked was refused, or came with a
-- fault; how often a file came whole; and how often power was cut.
pub record Report : Type 0 where
  pub events : ℕ
  pub asked : ℕ
  pub acked : ℕ
  pub kept : ℕ
  pub refused : ℕ
  pub fetched : ℕ
  pub cuts : ℕ

-- the last one of these worlds, the first one where no other comes
abbrev pub last_world : World → List World → World
last_world first [] = first
last_world first (next ∷ later) = last_world next later

-- a client is asked
abbrev pub is_question : Event → Bool
is_question (ask_upload c count) = true
is_question (ask_resume c) = true
is_question (ask_list c tokens) = true
is_question (ask_download c number) = true
is_question event = false

-- as many of these as this have P
abbrev pub CountOf : {T : Type 0} → (T → Type 0) → List T → ℕ → Type 0
CountOf P [] count = count ≡ 0
CountOf P (it ∷ later) count =
    (P it × ((rest : ℕ) × (count ≡ suc rest) × CountOf P later rest)) ⊎ (¬ P it × CountOf P later count)

-- a task of a client, by its number
pub record ClientTask : Type 0 where
  pub party : Party
  pub task : ℕ

-- the tasks that the client's notes have
abbrev pub tasks_of : Party → List ClientTask
tasks_of party = map (λ task. record { party = party; task = task }) (range_with_len 1 (task_count party.client.lists))

-- the tasks of all clients
abbrev pub all_tasks : World → List ClientTask
all_tasks world = flat_map tasks_of world.parties

-- the client holds an acknowledgement of the task's file
abbrev pub IsAcked : ClientTask → Type 0
IsAcked it = (number : ℕ) × HoldsAck it.party it.task number

-- and the server's store has the file, under the number of the acknowledgement
abbrev pub IsAckedAndKept : World → ClientTask → Type 0
IsAckedAndKept world it =
    (number : ℕ) × HoldsAck it.party it.task number
    × IsTaskKept world.files world.server.store it.party it.task number

-- what was asked was refused, or the file that came has a fault
abbrev pub is_refusal : Option Outcome → Bool
is_refusal (Some (outcome.Refused code)) = true
is_refusal (Some (outcome.BadFile code)) = true
is_refusal it = false

-- the file came whole
abbrev pub is_fetch : Option Outcome → Bool
is_fetch (Some (outcome.Fetched number)) = true
is_fetch it = false

-- What was asked of the client was under way, and came to such an outcome. Where an event is cut the client starts
-- again without one.
abbrev pub came_to : (Option Outcome → Bool) → Party × Party → Bool
came_to is_such both = is_under_way both.0.client.attempt && is_such (outcome_by both.1.client.attempt)

-- how often it did in these events, by the world before them and those after them
abbrev pub times : (Option Outcome → Bool) → World → List World → ℕ
times is_such world [] = 0
times is_such world (next ∷ later) =
    count_by (came_to is_such) (zip world.parties next.parties) + times is_such next later

-- how many events of the station were cut
abbrev pub cuts_of : Schedule → List World → Station → ℕ
cuts_of schedule worlds station = length (cut_worlds station None schedule.events worlds)

-- The report of a schedule that these are the worlds of.
pub record IsReport (schedule : Schedule) (worlds : List World) (report : Report) : Type 0 where
  pub events : report.events ≡ length schedule.events
  pub asked : report.asked ≡ count_by is_question schedule.events
  pub acked : CountOf IsAcked (all_tasks (last_world (first_world schedule) worlds)) report.acked
  pub kept :
      CountOf (IsAckedAndKept (last_world (first_world schedule) worlds))
      (all_tasks (last_world (first_world schedule) worlds)) report.kept
  pub refused : report.refused ≡ times is_refusal (first_world schedule) worlds
  pub fetched : report.fetched ≡ times is_fetch (first_world schedule) worlds
  pub cuts : report.cuts ≡ sum_by (cuts_of schedule worlds) (stations_of schedule)
