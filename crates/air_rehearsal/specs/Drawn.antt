-- For which clients schedules are drawn, in which order, and which file a client may be asked to get.
use Rattle.std.specs.Prelude.{◌≡◌, ℕ, zero, suc, List, [], ◌∷◌, codes, find, reverse, Bool, true, false, Option}
use Rattle.std.specs.Option.{option_map}
use Rattle.px_base.specs.CallSign.{CallSign}
use Rattle.client_notes.specs.Notes.{Lists, Task}
use Rattle.client_notes.specs.declared.progress.Progress.{Progress}
use Rattle.client_notes.specs.declared.progress.Progress.TheVariants as progress
use Rattle.air_world.specs.Schedule.{Schedule}

-- T1AAA, T2AAA and T3AAA
abbrev pub drawn_calls : List CallSign
drawn_calls =
    record { chars = codes "T1AAA "; ssid = 0 } ∷ record { chars = codes "T2AAA "; ssid = 0 }
    ∷ record { chars = codes "T3AAA "; ssid = 0 } ∷ []

-- a window of 4, and the three clients
pub record IsDrawnFor (schedule : Schedule) : Type 0 where
  pub size_is : schedule.size ≡ 4
  pub calls_are : schedule.calls ≡ drawn_calls

-- so many rounds of the three clients' turns
abbrev pub rounds : ℕ → List ℕ
rounds zero = []
rounds (suc more) = 1 ∷ 2 ∷ 3 ∷ rounds more

abbrev pub is_acked : Progress → Bool
is_acked progress.Going = false
is_acked progress.Acked = true
is_acked (progress.Refused code) = false

-- the number on the server of the last file that was acknowledged
abbrev pub last_acked : Lists → Option ℕ
last_acked lists =
    option_map (λ (task : Task). task.number) (find (λ task. is_acked task.progress) (reverse lists.tasks))
