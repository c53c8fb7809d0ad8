-- How the calls of a form in memory are numbered.
use Rattle.std.specs.Prelude.{◌≡◌, ℕ, List, [], Contains, Bool, false, true}
use Rattle.px_base.specs.Outside.{counted}

-- how many calls were made, the numbers of the calls that are to fail, and whether a call found no memory
pub record CallCounterState : Type 0 where
  pub numbered : ℕ
  pub failing : List ℕ
  pub starved : Bool

-- before the first call
abbrev pub new_counter : List ℕ → CallCounterState
new_counter failing = record { numbered = 0; failing = failing; starved = false }

-- the next call is listed to fail
abbrev pub IsListed : CallCounterState → Type 0
IsListed counter = Contains counter.failing (counted counter.numbered)

-- after a call
abbrev pub counter_after_call : CallCounterState → CallCounterState
counter_after_call counter = record counter { numbered = counted counter.numbered }

-- after a call that found no memory
abbrev pub counter_after_starved_call : CallCounterState → CallCounterState
counter_after_starved_call counter = record counter { numbered = counted counter.numbered; starved = true }

-- Where no call is listed and none found no memory, no fault was counted.
abbrev pub HasCauses : CallCounterState → ℕ → Type 0
HasCauses counter faults = counter.failing ≡ [] → counter.starved ≡ false → faults ≡ 0
