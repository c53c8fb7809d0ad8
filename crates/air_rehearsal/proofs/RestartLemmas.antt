-- A client starts from its disk.
use Rattle.std.proofs.Common.{◌≡◌, ℕ, [], refl, sym, ◌∙◌, Some, Ok}
use Rattle.client_notes.specs.Recovery.{AnswersRecovery, IsRecovered}
use Rattle.air_rehearsal.proofs.Names.{IfSome, Ghosts, journal_of, state, at_told, no_notes, NotesState, StandsFor, StartsAgain, client_at}

module _ {D T : Type 0} (g : Ghosts D) (disk disk_now : D) (notes : NotesState) (x : T)
    (recovered : IsRecovered g disk disk_now notes) (answers : AnswersRecovery {T = T} g (Ok x) disk disk_now) where
  pub starts_again : (c : ℕ) → StartsAgain g (client_at c) disk disk_now
  starts_again c = record {
    told = answers.runs.told;
    since = answers.since_start;
    quiet = recovered.quiet;
    lasts = answers.runs.lasts;
  }

  pub stands_before : IfSome (g.content disk) (λ before. StandsFor before notes.lists)
  stands_before = recovered.content

-- no octet stands for no notes
empty_stands : StandsFor [] no_notes
unfolding journal_of
empty_stands = refl

pub first_notes : {D : Type 0} (g : Ghosts D) (disk disk_now : D) (notes : NotesState)
    → IsRecovered g disk disk_now notes → g.content disk ≡ Some [] → notes.lists ≡ no_notes
first_notes g disk disk_now notes recovered is =
    let stands = at_told (λ before. StandsFor before notes.lists) [] is recovered.content in
    let same : state notes.lists ≡ state no_notes = sym stands ∙ empty_stands in
    cc
