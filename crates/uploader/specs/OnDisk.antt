-- By what the disk of the notes has a command is stopped.
use Rattle.std.specs.Prelude.{◌≡◌, ◌↔◌, ℕ, List, Option, IfSome, Result, IsErrOf}
use Rattle.client_notes.specs.Walk.{damaged_at, no_store}
use Rattle.client_notes.specs.State.{standing_of}
use Rattle.uploader.specs.declared.stop.SendStop.{SendStop}
use Rattle.uploader.specs.declared.stop.SendStop.TheVariants as stop

-- each refusal of a recovery comes exactly where the content stands for it
pub record EndsExactly {T : Type 0} (before : List ℕ) (result : Result T SendStop) : Type 0 where
  pub not_a_store : (found : List ℕ) → IsErrOf result (stop.NotAStore found) ↔ (standing_of before ≡ no_store found)
  pub damaged : (at : ℕ) → IsErrOf result (stop.Damaged at) ↔ (standing_of before ≡ damaged_at at)

-- but for a fault of the disk and want of memory, and where the content is told
abbrev pub RefusesNotes : {T : Type 0} → Option (List ℕ) → Result T SendStop → Type 0
RefusesNotes content result =
    ¬ IsErrOf result stop.Disk → ¬ IsErrOf result stop.OutOfMemory
    → IfSome content (λ before. EndsExactly before result)
