-- What is seen is known where content is told.
use Rattle.std.proofs.Common.{◌≡◌, inl, inr, List, ℕ, Option, Some, is_some, ap}
use Rattle.disk_model.specs.Runs.{TellsAlike}
use Rattle.file_journal.specs.Form.{Form}
use Rattle.file_journal.specs.Steps.{Knows}

pub known_told : {S C : Type 0} (form : Form S C) {content : Option (List ℕ)} (octets : List ℕ) → content ≡ Some octets → Knows form content
known_told form octets told = inr (ap is_some told)

-- what was known is known, and the other way round
pub knows_on : {S C : Type 0} (form : Form S C) (before now : Option (List ℕ)) → TellsAlike before now → Knows form before → Knows form now
knows_on form before now alike (inl growing) = inl growing
knows_on form before now alike (inr told) = inr (alike.1 told)

pub knew : {S C : Type 0} (form : Form S C) (before now : Option (List ℕ)) → TellsAlike before now → Knows form now → Knows form before
knew form before now alike known = knows_on form now before (alike.1, alike.0) known
