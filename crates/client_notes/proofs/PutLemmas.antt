-- What notes hold of their disk, and what stands there for them.
use Rattle.std.proofs.Common.{◌≡◌, ℕ, ◌+◌, false, List, [], ◌∷◌, length, Some, Result, IsErr, IfSome, IsTrue, refl, sym, ap, subst, arith}
use Rattle.file_journal.specs.Kept.{Does}
use Rattle.file_journal.specs.Steps.{WritesTurn}
use Rattle.client_notes.proofs.Names.{Ghosts, images_now, IsKept, KeptOn, StandsAt, kept_on, Position, Record, held_kept, images_here, written_step, NotesCommand, after, is_allowed, Lists, notes_number, notes_seen, turn_of, IsWritable, notes_form, notes_step, notes_steps, record_of_command, StandsFor, StandsOn}
use Rattle.client_notes.proofs.StandingLemmas.{notes_written}

-- each image of a disk on which the journal stands for notes
pub images-here : {D : Type 0} (g : Ghosts D) (position : Position) (disk : D) (lists : Lists) → position.failed ≡ false → IsKept g notes_form (kept_on lists position disk)
    → IfSome (g.content disk) (λ _. (image : List ℕ) → images_now g disk image → StandsFor image lists)
images-here g position disk lists healthy keeps = images_here notes_form g notes_number (kept_on lists position disk) keeps healthy

-- what a journal of notes holds are notes that stand on the disk
pub stands-notes : {D : Type 0} (g : Ghosts D) (journal : Position) (lists : Lists) (disk : D) → StandsAt g notes_form notes_steps journal lists disk → StandsOn g (record { lists = lists; journal = journal }) disk
stands-notes g journal lists disk at = held_kept g notes_steps (λ held now. now) notes_form notes_seen journal lists disk at

-- What was put: one command, or the disk failed in it.
pub record IsPut {D T E : Type 0} (g : Ghosts D) (command : NotesCommand) (old new : KeptOn D Lists) (result : Result T E) : Type 0 where
  pub stands_at : StandsAt g notes_form notes_steps new.journal new.now new.disk
  pub does : Does g notes_form (IsErr result) (command ∷ []) old new

-- the record of a command that the notes allow makes its change of them
pub writes-turn : (lists : Lists) (command : NotesCommand) (entry : Record) → entry ≡ record_of_command command → IsWritable command → IsTrue (is_allowed lists command)
    → WritesTurn notes_form notes_steps (λ held now. now) lists (turn_of lists command) entry
writes-turn lists command entry same writable allowed = record {
  allowed = λ held lets. allowed;
  step = λ held lets put before reached kept.
      let step = written_step notes_form notes_written lists command entry same writable allowed in
      (after lists command, subst (λ (l : Lists). notes_step l entry ≡ Some (after lists command)) (sym kept) step, refl);
  sees = λ held lets put. refl;
  reaches = tt;
  number = refl;
  calls = omega arith;
  octets = ap (λ (e : Record). 4 + length e.content) (sym same);
}
