-- What contracts see of a shelf in memory.
use Rattle.std.specs.Prelude.{◌≡◌, ℕ, ◌⊎◌, map, List, [], Some, Result, Err, IsOk, IsErr, String}
use Rattle.std.specs.String.{string_bytes}
use Rattle.px_base.specs.declared.shelf.ShelfRefusal.TheVariants as refusal
use Rattle.px_base.specs.Counter.{CallCounterState, IsListed, counter_after_call, counter_after_starved_call, new_counter}
use Rattle.px_base.specs.Outside.{counted}
use Rattle.px_base.specs.Shelves.{Holding, LoadResult, SameOthers, content_of, load_answer}

-- a shelf in memory: what is held, how the calls are numbered, and the count of faults
pub record MemoryShelfState : Type 0 where
  pub held : Holding
  pub calls : CallCounterState
  pub faults : ℕ

-- the entries of a map by names
abbrev pub holding_of : {Y : Type 0} → List (String Y × List ℕ) → Holding
holding_of entries = map (λ entry. (string_bytes entry.0, entry.1)) entries

-- before the first call
abbrev pub new_shelf_state : List ℕ → MemoryShelfState
new_shelf_state failing = record { held = []; calls = new_counter failing; faults = 0 }

-- after a call that changed nothing else
abbrev pub shelf_state_after_call : MemoryShelfState → MemoryShelfState
shelf_state_after_call state = record state { calls = counter_after_call state.calls }

-- after a call that failed, with the calls numbered so
abbrev pub shelf_state_after_fault : MemoryShelfState → CallCounterState → MemoryShelfState
shelf_state_after_fault state calls = record state { calls = calls; faults = counted state.faults }

-- A load answers of the content of this name, or finds no memory. A call that is listed fails. Nothing held changes.
pub record IsLoading (before now : MemoryShelfState) (name : List ℕ) (most : ℕ) (result : LoadResult) : Type 0 where
  pub listed :
      IsListed before.calls
      → (result ≡ Err refusal.Fault) × (now ≡ shelf_state_after_fault before (counter_after_call before.calls))
  pub next :
      (IsListed before.calls → ⊥)
      → ((result ≡ load_answer (content_of before.held name) most) × (now ≡ shelf_state_after_call before))
      ⊎ ((result ≡ Err refusal.OutOfMemory)
      × (now ≡ record before { calls = counter_after_starved_call before.calls }))

-- after a call that put this content under this name, and changed nothing else
pub record IsKept (before now : MemoryShelfState) (name content : List ℕ) : Type 0 where
  pub this : content_of now.held name ≡ Some content
  pub others : SameOthers before.held now.held name
  pub rest : now ≡ record (shelf_state_after_call before) { held = now.held }

-- The content is kept, or, where there is no memory for it, nothing held changes. A call that is listed fails, and keeps
-- none.
pub record IsKeeping {T E : Type 0} (before now : MemoryShelfState) (name content : List ℕ) (result : Result T E) :
    Type 0 where
  pub listed :
      IsListed before.calls → IsErr result × (now ≡ shelf_state_after_fault before (counter_after_call before.calls))
  pub next :
      (IsListed before.calls → ⊥)
      → (IsOk result × IsKept before now name content)
      ⊎ (IsErr result × (now ≡ shelf_state_after_fault before (counter_after_starved_call before.calls)))
