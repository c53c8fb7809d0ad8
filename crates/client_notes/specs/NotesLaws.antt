-- Laws of what records make of notes.
use Rattle.std.specs.Prelude.{refl}
use Rattle.file_journal.specs.Form.{TellsItsNumber}
use Rattle.file_journal.specs.Steps.{IsSeenBy}
use Rattle.file_journal.proofs.Offered.{growing_seen, own_always}
use Rattle.client_notes.specs.Notes.{Lists}
use Rattle.client_notes.specs.Records.{fresh_notes, notes_form, notes_step, notes_steps}

-- Octets that stand for notes, whatever block number they are read with, stand for them.
pub notes_number : TellsItsNumber notes_form
notes_number =
    own_always fresh_notes (λ (lists : Lists). 1) notes_step notes_form refl (λ blocks octets. refl) (λ one other. refl)

-- Notes are seen as they are.
pub notes_seen : IsSeenBy notes_steps (λ held lists. lists) notes_form
notes_seen =
    growing_seen fresh_notes (λ (lists : Lists). 1) notes_step notes_form refl (λ blocks octets. refl) notes_number
    (λ before after entry is. refl)
