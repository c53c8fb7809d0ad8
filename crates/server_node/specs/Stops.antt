-- How a node's session stops, and what the air counts by that.
use Rattle.std.specs.Prelude.{◌≡◌, ◌≢◌, ◌↔◌, ℕ, ◌≤◌, List, Option, IfSome, Result, Ok, Err, IsErrOf, ⊤}
use Rattle.px_base.specs.Outside.{Rose}
use Rattle.file_store.specs.Walk.{damaged_at, no_store}
use Rattle.file_store.specs.State.{standing_of}
use Rattle.turn_loop.specs.declared.finished.Finished.{Finished}
use Rattle.turn_loop.specs.declared.finished.Finished.TheVariants as finished
use Rattle.turn_loop.specs.declared.stop.NodeStop.{NodeStop}
use Rattle.turn_loop.specs.declared.stop.NodeStop.TheVariants as stop
use Rattle.server_node.specs.declared.terms.Served.{Served}

-- It took turns until the air closed, or stopped: it was never over.
abbrev pub IsNotOver : Result Finished NodeStop → Type 0
IsNotOver ended = (turns : ℕ) → ended ≢ Ok (finished.Over turns)

-- How a node's turns end a session. It is never over before them.
abbrev pub served_by : Result Finished NodeStop → Result Served NodeStop
served_by (Ok (finished.Over turns)) = Ok (record { turns = turns })
served_by (Ok (finished.Closed turns)) = Ok (record { turns = turns })
served_by (Err why) = Err why

-- The disk is why it stopped.
abbrev pub FailsBy : NodeStop → Type 0
FailsBy stop.AirRead = ⊥
FailsBy stop.AirWrite = ⊥
FailsBy stop.Disk = ⊤
FailsBy stop.Spent = ⊥
FailsBy stop.OutOfMemory = ⊥
FailsBy (stop.NotAStore found) = ⊥
FailsBy (stop.Damaged at) = ⊥

-- The air's counts of faults by how a call over it ended: where hearing or saying failed that count rose, and each
-- other is as it was. After a fault of the disk one reply more was to be said, and that may have failed too.
abbrev pub CountsBy : {T : Type 0} → Result T NodeStop → ℕ → ℕ → ℕ → ℕ → Type 0
CountsBy (Ok value) reads reads_now writes writes_now = (reads_now ≡ reads) × (writes_now ≡ writes)
CountsBy (Err stop.AirRead) reads reads_now writes writes_now = Rose reads reads_now × (writes_now ≡ writes)
CountsBy (Err stop.AirWrite) reads reads_now writes writes_now = (reads_now ≡ reads) × Rose writes writes_now
CountsBy (Err stop.Disk) reads reads_now writes writes_now = (reads_now ≡ reads) × (writes ≤ writes_now)
CountsBy (Err (stop.NotAStore found)) reads reads_now writes writes_now = (reads_now ≡ reads) × (writes_now ≡ writes)
CountsBy (Err (stop.Damaged at)) reads reads_now writes writes_now = (reads_now ≡ reads) × (writes_now ≡ writes)
CountsBy (Err stop.Spent) reads reads_now writes writes_now = (reads_now ≡ reads) × (writes_now ≡ writes)
CountsBy (Err stop.OutOfMemory) reads reads_now writes writes_now = (reads_now ≡ reads) × (writes_now ≡ writes)

-- the same of an air, before the call and now, by what it counts
abbrev pub HasAirCause : {A T : Type 0} → (A → ℕ) → (A → ℕ) → A → A → Result T NodeStop → Type 0
HasAirCause reads writes before now result = CountsBy result (reads before) (reads now) (writes before) (writes now)

-- each refusal of a recovery comes exactly where the content stands for it
pub record EndsExactly {T : Type 0} (blocks : ℕ) (before : List ℕ) (result : Result T NodeStop) : Type 0 where
  pub not_a_store :
      (found : List ℕ) → IsErrOf result (stop.NotAStore found) ↔ (standing_of blocks before ≡ no_store found)
  pub damaged : (at : ℕ) → IsErrOf result (stop.Damaged at) ↔ (standing_of blocks before ≡ damaged_at at)

-- but for a fault of the disk and want of memory, and where the content is told
abbrev pub RefusesSession : {T : Type 0} → ℕ → Option (List ℕ) → Result T NodeStop → Type 0
RefusesSession blocks content result =
    ¬ IsErrOf result stop.Disk → ¬ IsErrOf result stop.OutOfMemory
    → IfSome content (λ before. EndsExactly blocks before result)
