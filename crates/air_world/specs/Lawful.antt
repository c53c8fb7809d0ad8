-- Which events may come in a world: each by its own condition, and a delivery by the air's three premises.
use Rattle.std.specs.Prelude.{◌≡◌, ℕ, ◌-◌, ◌<◌, List, reverse, false, Option, Some, ⊤}
use Rattle.std.specs.List.{position}
use Rattle.std.specs.Option.{option_map}
use Rattle.ax25_link.specs.Air.{IsLawful, Transmission}
use Rattle.client_notes.specs.Command.{is_going}
use Rattle.client_notes.specs.Limits.{most_tasks}
use Rattle.client_notes.specs.Notes.{Lists, task_count}
use Rattle.ftl0_client.specs.Outcomes.{is_under_way}
use Rattle.air_world.specs.Attempts.Attempt.{Attempt}
use Rattle.air_world.specs.Attempts.Lists.{Placed}
use Rattle.air_world.specs.Attempts.Party.{Party, newest}
use Rattle.air_world.specs.Schedule.{Event, IsInRange, ask_download, ask_list, ask_resume, ask_upload, break_client}
use Rattle.air_world.specs.Schedule.{cut_client, cut_server, tick_client, tick_server, to_client, to_server}
use Rattle.air_world.specs.World.{PartyAt, World}

-- there is a client of this number, and it is so
abbrev pub HasParty : World → ℕ → (Party → Type 0) → Type 0
HasParty world number P = Placed number (λ c. (party : Party) × PartyAt world c party × P party)

-- nothing that was asked of the client is under way
abbrev pub IsFree : Party → Type 0
IsFree party = is_under_way party.client.attempt ≡ false

-- the number of the last unfinished task, and so of the last unfinished upload
abbrev pub last_unfinished : Lists → Option ℕ
last_unfinished lists =
    option_map (λ place. task_count lists - place) (position (λ task. is_going task.progress) (reverse lists.tasks))

-- The transmission of this number may be delivered, of those that these are in the client's current attempt. It was
-- sent in that attempt; a SABM comes once; an I or S frame isn't overtaken, or by few.
abbrev pub MayCome : (Attempt → List Transmission) → ℕ → Party → Type 0
MayCome sent number party =
    (a : Attempt) × (t : Transmission) × (newest party ≡ Some a)
    × Placed number (λ place. IsLawful a.window (sent a) place t)

-- the event's own condition
abbrev pub IsPossible : World → Event → Type 0
IsPossible world (ask_upload c count) =
    HasParty world c (λ party. IsFree party × (task_count party.client.lists < most_tasks))
IsPossible world (ask_resume c) =
    HasParty world c (λ party. IsFree party × ((task : ℕ) × (last_unfinished party.client.lists ≡ Some task)))
IsPossible world (ask_list c tokens) = HasParty world c IsFree
IsPossible world (ask_download c number) = HasParty world c IsFree
IsPossible world (to_server c number) = HasParty world c (MayCome (λ a. a.by_client) number)
IsPossible world (to_client c number) = HasParty world c (MayCome (λ a. a.by_server) number)
IsPossible world tick_server = ⊤
IsPossible world (tick_client c) = HasParty world c (λ _. ⊤)
IsPossible world (break_client c) = HasParty world c (λ _. ⊤)
IsPossible world (cut_server call choice) = ⊤
IsPossible world (cut_client c call choice) = HasParty world c (λ _. ⊤)

-- Whether an event may come. Nothing else is asked of it: if it may, there is a step.
pub record IsAllowed (world : World) (event : Event) : Type 0 where
  pub in_range : IsInRange event
  pub possible : IsPossible world event
