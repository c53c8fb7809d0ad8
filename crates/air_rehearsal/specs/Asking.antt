-- Which client may be asked for a file.
use Rattle.std.specs.Prelude.{◌≡◌, ℕ, ◌<◌, Some}
use Rattle.client_notes.specs.Limits.{most_tasks}
use Rattle.client_notes.specs.Notes.{task_count}
use Rattle.air_world.specs.Attempts.Party.{Party}
use Rattle.air_world.specs.Lawful.{IsFree, last_unfinished}

-- for a new file: nothing is under way, and there is room for one more task
abbrev pub MayTakeFile : Party → Type 0
MayTakeFile party = IsFree party × (task_count party.client.lists < most_tasks)

-- for its last unfinished one again: nothing is under way, and there is such a one
abbrev pub MayResume : Party → Type 0
MayResume party = IsFree party × ((task : ℕ) × (last_unfinished party.client.lists ≡ Some task))
