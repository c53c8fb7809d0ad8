-- What can be observed of a disk whose content can't be.
use Rattle.std.specs.Prelude.{ℕ, List, Option, None}

-- its content can't be observed
abbrev pub no_content : Option (List ℕ)
no_content = None

-- nor what a crash may leave
abbrev pub no_images : List ℕ → Type 0
no_images image = ⊥

-- nor what one might have left
abbrev pub no_past : ℕ → List ℕ → Type 0
no_past t image = ⊥

-- nor the number of its calls
abbrev pub no_moment : ℕ
no_moment = 0
