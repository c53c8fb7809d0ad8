-- The start of a command: a recovery that is refused, or behind which there was no memory, and a start that gives no task.
use Rattle.std.proofs.Common.{◌≡◌, inl, ℕ, List, refl, sym, ◌∙◌, ap, ◌⊎◌, inr, false, [], ◌∷◌, subst, Option, None, Some, Ok}
use Rattle.file_journal.specs.Restoring.{RefusesExactly}
use Rattle.client_notes.specs.Records.{notes_form}
use Rattle.client_notes.specs.Recovery.{AnswersRecovery, Recovers}
use Rattle.client_notes.specs.StoreFault.{StoreFault}
use Rattle.client_notes.specs.StoreFault.TheVariants as fault
use Rattle.uploader.specs.declared.stop.SendStop.TheVariants as stop
use Rattle.client_notes.specs.declared.refusals.NotesRefusal.TheVariants as refusal
use Rattle.uploader.proofs.Names.{⊤, IsErrOf, Result, Err, Ghosts, NotesState, standing_of, if_told, recovers-good, runs_same, told_weaker, at_told, SendStop, EndsExactly, RefusesNotes, StopsRecovery, stop_of_fault, stop_of_start, StartsBy, NotesCommand, Lists, state, RecoversTo, Begun, NotesRefusal, FileSum, EndsAtStart, IsUnnoted}
pub use Rattle.client_notes.proofs.Offered.{IsOfTask, of_task}

-- what a recovery leaves behind which there was no memory
pub unmade_leaves : {D : Type 0} (g : Ghosts D) (old now : D) (notes : NotesState) → Recovers g old now notes → AnswersRecovery {T = ⊤} g (Err fault.OutOfMemory) old now
unmade_leaves g old now notes recovers = record {
  refuses = λ healthy room. absurd (room refl);
  untouched = λ found is. absurd (cc is);
  untouched_damage = λ at is. absurd (cc is);
  memory = λ is. recovers-good g old now notes recovers;
  runs = runs_same g _ _ old now (λ never. absurd never) (λ is. cc is) recovers.runs;
  within = if_told (g.content old) _ (λ before told in_halves. absurd (cc in_halves));
  since_start = recovers.since_start;
  since_sync = told_weaker (g.content old) _ _ (λ before told synced. inl synced) recovers.since_sync;
}

-- by what fault it is refused, it stops the command
by_fault : {T : Type 0} (before : List ℕ) (why : StoreFault) (result : Result T SendStop) → result ≡ Err (stop_of_fault why) → ¬ IsErrOf result stop.Disk → ¬ IsErrOf result stop.OutOfMemory
    → RefusesExactly {T = ⊤} notes_form 1 before (Err why) → EndsExactly before result
by_fault before (fault.NotAStore other) result is disk memory exact = record {
  not_a_store = λ found. (
    λ was. (exact.not_a_store found).0 (let both = sym is ∙ was in cc both),
    λ stands. let both = (exact.not_a_store found).1 stands in let same : other ≡ found = cc both in is ∙ ap (λ (octets : List ℕ). Err (stop.NotAStore octets)) same,
  );
  damaged = λ at. (λ was. let both = sym is ∙ was in absurd (cc both), λ stands. let both = (exact.damaged at).1 stands in absurd (cc both));
}
by_fault before (fault.Damaged place) result is disk memory exact = record {
  not_a_store = λ found. (λ was. let both = sym is ∙ was in absurd (cc both), λ stands. let both = (exact.not_a_store found).1 stands in absurd (cc both));
  damaged = λ at. (
    λ was. (exact.damaged at).0 (let both = sym is ∙ was in cc both),
    λ stands. let both = (exact.damaged at).1 stands in let same : place ≡ at = cc both in is ∙ ap (λ (k : ℕ). Err (stop.Damaged k)) same,
  );
}
by_fault before fault.Disk result is disk memory exact = absurd (disk is)
by_fault before fault.OutOfMemory result is disk memory exact = absurd (memory is)

-- each stop by what the disk has comes exactly where that is told
pub refused_exactly : {D T : Type 0} (g : Ghosts D) (old now : D) (why : SendStop) (result : Result T SendStop) → result ≡ Err why → StopsRecovery g old now why → RefusesNotes (g.content old) result
refused_exactly g old now why result is stops disk memory =
    let is_fault = is ∙ ap Err stops.1 in
    told_weaker (g.content old) _ _ (λ before told exact. by_fault before stops.0 result is_fault disk memory exact)
    (stops.2.refuses
    (λ was. let same : stops.0 ≡ fault.Disk = cc was in disk (is_fault ∙ ap (λ (r : StoreFault). Err (stop_of_fault r)) same))
    (λ was. let same : stops.0 ≡ fault.OutOfMemory = cc was in memory (is_fault ∙ ap (λ (r : StoreFault). Err (stop_of_fault r)) same)))

module _ (self : NotesState) (healthy : self.journal.failed ≡ false) where
  -- the commands in one of which the disk failed
  abbrev pub cut_of : NotesCommand → NotesRefusal → List NotesCommand
  cut_of command refusal.Disk = command ∷ []
  cut_of command refused = []

  -- none is begun
  unnoted : (command : NotesCommand) (sum : FileSum) (refused : NotesRefusal) → StartsBy self (Ok None) (Err refused) → IsUnnoted self.lists command (stop_of_start sum refused) (cut_of command refused)
  unnoted command sum (refusal.Changed kept digest) starts = absurd starts
  unnoted command sum refusal.Full starts = (starts, refl)
  unnoted command sum refusal.Failed starts = absurd (cc (sym healthy ∙ starts.1))
  unnoted command sum refusal.Disk starts = (starts.0, refl)
  unnoted command sum refusal.OutOfMemory starts = (starts.0, refl)

  none-cut : (command : NotesCommand) (refused : NotesRefusal) → IsOfTask (Err refused) → cut_of command refused ≡ []
  none-cut command refusal.Disk of = absurd of
  none-cut command refused of = refl

  pub refused-start : (command : NotesCommand) (sum : FileSum) (answer : Result (Option Begun) NotesRefusal) (refused : NotesRefusal) → IsOfTask answer → StartsBy self answer (Err refused)
      → EndsAtStart self.lists command sum answer (Err (stop_of_start sum refused)) (cut_of command refused)
  refused-start command sum (Ok None) refused of starts = unnoted command sum refused starts
  refused-start command sum (Ok (Some kept)) refused of starts = absurd (cc starts)
  refused-start command sum (Err kept) refused of starts =
      let same : kept ≡ refused = cc (sym starts) in
      subst (λ (r : NotesRefusal). EndsAtStart self.lists command sum (Err kept) (Err (stop_of_start sum r)) (cut_of command r)) same (refl, none-cut command kept of)

-- ---- notes that are told

module _ {D : Type 0} (g : Ghosts D) (disk now : D) (start : Lists) (content : List ℕ) (told : g.content disk ≡ Some content) (stands : standing_of content ≡ state start) where
  -- they are the ones that are recovered,
  pub told_recovered : (first : Lists) → RecoversTo g disk now first → first ≡ start
  told_recovered first recovers =
      let both : state first ≡ state start = sym (at_told (λ (octets : List ℕ). standing_of octets ≡ state first) content told recovers.stood) ∙ stands in
      cc both

  -- and only a fault of the disk or want of memory refuses them
  pub told_refused : (why : StoreFault) → AnswersRecovery {T = ⊤} g (Err why) disk now → (why ≡ fault.Disk) ⊎ (why ≡ fault.OutOfMemory)
  told_refused fault.Disk answers = inl refl
  told_refused fault.OutOfMemory answers = inr refl
  told_refused (fault.NotAStore found) answers =
      let exact = at_told (λ (octets : List ℕ). RefusesExactly {T = ⊤} notes_form 1 octets (Err (fault.NotAStore found))) content told (answers.refuses (λ is. cc is) (λ is. cc is)) in
      let both = sym stands ∙ (exact.not_a_store found).0 refl in
      absurd (cc both)
  told_refused (fault.Damaged at) answers =
      let exact = at_told (λ (octets : List ℕ). RefusesExactly {T = ⊤} notes_form 1 octets (Err (fault.Damaged at))) content told (answers.refuses (λ is. cc is) (λ is. cc is)) in
      let both = sym stands ∙ (exact.damaged at).0 refl in
      absurd (cc both)
