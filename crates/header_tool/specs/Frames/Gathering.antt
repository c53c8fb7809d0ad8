-- Lines that are shown together: those that were put, and those that wait.
use Rattle.std.specs.Prelude.{◌≡◌, ℕ, List, ◌++◌, Option}
use Rattle.px_base.specs.Outside.{Gains}
use Rattle.kiss.specs.Hearing.{Hearing, parts_ended}
use Rattle.kiss.specs.declared.reader.KissFed.{KissFed}
use Rattle.kiss.specs.declared.whole.Part.{Part}
use Rattle.header_tool.specs.Frames.FramesText.{LinesOf}

-- a front of the text was put, and is shown; the rest waits
pub record IsGathered (before now : Option (List ℕ)) (waiting text : List ℕ) : Type 0 where
  pub put : List ℕ
  pub whole : text ≡ put ++ waiting
  pub gains : Gains before now put

-- the lines that waited, and then those of these parts, are shown or wait
abbrev pub Gathers : List Part → Option (List ℕ) → Option (List ℕ) → List ℕ → List ℕ → Type 0
Gathers parts before now waited waiting = (lines : List ℕ) × LinesOf parts lines × IsGathered before now waiting (waited ++ lines)

-- the same of the part that a reader's last octet ended, if it ended one, and of what an output shows
abbrev pub GathersPart : {O : Type 0} → (O → Option (List ℕ)) → O → O → KissFed → Hearing → List ℕ → List ℕ → Type 0
GathersPart shown old new fed hearing = Gathers (parts_ended fed hearing) (shown old) (shown new)
