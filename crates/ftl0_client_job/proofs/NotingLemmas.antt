-- What a call of the notes does, as a job says it.
use Rattle.std.proofs.Common.{◌≡◌, ℕ, false, List, [], ◌∷◌, refl, sym, ◌∙◌, subst, inl, inr, arith}
use Rattle.std.specs.Prelude.{◌⊎◌}
use Rattle.file_journal.specs.declared.faults.JournalFault.{JournalFault}
use Rattle.file_journal.specs.declared.faults.JournalFault.TheVariants as fault
use Rattle.client_notes.specs.declared.refusals.NotesRefusal.TheVariants as refusal
use Rattle.disk_model.specs.declared.halt.Halt.TheVariants as stop
use Rattle.ftl0_client_job.proofs.Names.{⊤, Option, Result, Ok, Err, IsErr, IsErrOf, IsTrue, Ghosts, NotesRefusal, Noting, NotesCommand, Answers, Does, Untouched, DoesSeveral, IsReady, NotesState, Several-none, Several-one, Several-same, Ending, Halt, HasNoted, IsAnswer, IsAnswerOf, NotesAtOnce, Row, Gives, TakesRow, with_notes}

-- the answers by name
abbrev done : Result ⊤ Halt
done = Ok tt

abbrev stopped : Halt → Result ⊤ Halt
stopped why = Err why

module _ {D : Type 0} (g : Ghosts D) where
  -- ---- one command

  pub does-one : (P Q : Type 0) (old new : NotesState) (disk disk_now : D) (command : NotesCommand) → (P → Q) → (Q → P) → Does g P old new disk disk_now command → DoesSeveral g Q old new disk disk_now (command ∷ [])
  does-one P Q old new disk disk_now command there back does = Several-same g P Q old new disk disk_now (command ∷ []) there back (Several-one g P old new disk disk_now command does)

  pub answers-noted : (old new : NotesState) (disk disk_now : D) (command : NotesCommand) (answer : Result ⊤ JournalFault) (result : Result ⊤ Halt)
      → Answers g old new disk disk_now command answer → IsAnswer answer result → HasNoted g old new disk disk_now (command ∷ []) result
  answers-noted old new disk disk_now command (Ok x) result answers is =
      subst (λ (r : Result ⊤ Halt). HasNoted g old new disk disk_now (command ∷ []) r) (sym is)
      (does-one (IsErr {T = ⊤} {E = JournalFault} (Ok x)) ⊥ old new disk disk_now command (λ e. cc e) (λ never. absurd never) (answers.does (λ e. cc e)))
  answers-noted old new disk disk_now command (Err fault.Disk) result answers is =
      subst (λ (r : Result ⊤ Halt). HasNoted g old new disk disk_now (command ∷ []) r) (sym is)
      (does-one (IsErr {T = ⊤} {E = JournalFault} (Err fault.Disk)) ⊤ old new disk disk_now command (λ e. tt) (λ e. refl) (answers.does (λ e. cc e)))
  answers-noted old new disk disk_now command (Err fault.Failed) result answers is = absurd is

  -- and so it took no memory
  pub answers-at-once : (old new : NotesState) (disk disk_now : D) (command : NotesCommand) (answer : Result ⊤ JournalFault) (result : Result ⊤ Halt)
      → Answers g old new disk disk_now command answer → IsAnswer answer result → NotesAtOnce g old new disk disk_now (command ∷ []) result
  answers-at-once old new disk disk_now command answer result answers is = record { noted = answers-noted old new disk disk_now command answer result answers is; memory = memory answer is }
    where
      memory : (a : Result ⊤ JournalFault) → IsAnswer a result → ¬ IsErrOf result stop.OutOfMemory
      memory (Ok x) is was = cc (sym is ∙ was)
      memory (Err fault.Disk) is was = cc (sym is ∙ was)
      memory (Err fault.Failed) is was = is

  -- no command
  pub noted-none : (notes : NotesState) (disk : D) → IsReady g notes disk → g.lasts disk disk → DoesSeveral g ⊥ notes notes disk disk []
  noted-none notes disk ready lasts = Several-none g ⊥ notes disk (λ never. never) ready lasts

  pub none-by : (notes : NotesState) (disk : D) (commands : List NotesCommand) → commands ≡ [] → IsReady g notes disk → g.lasts disk disk → DoesSeveral g ⊥ notes notes disk disk commands
  none-by notes disk commands none ready lasts = subst (λ (cs : List NotesCommand). DoesSeveral g ⊥ notes notes disk disk cs) (sym none) (noted-none notes disk ready lasts)

  -- a command that takes memory
  untouched-of : (old new : NotesState) (disk disk_now : D) → IsTrue false ⊎ Untouched old new disk disk_now → Untouched old new disk disk_now
  untouched-of old new disk disk_now (inl never) = absurd (cc never)
  untouched-of old new disk disk_now (inr same) = same

  pub noting-noted : (old new : NotesState) (disk disk_now : D) (command : NotesCommand) (answer : Result ⊤ NotesRefusal) (result : Result ⊤ Halt) → IsReady g old disk
      → g.lasts disk disk → Noting g old new disk disk_now command answer → IsAnswerOf answer result → HasNoted g old new disk disk_now (command ∷ []) result
  noting-noted old new disk disk_now command (Ok x) result ready lasts noting is =
      subst (λ (r : Result ⊤ Halt). HasNoted g old new disk disk_now (command ∷ []) r) (sym is)
      (does-one (IsErr {T = ⊤} {E = NotesRefusal} (Ok x)) ⊥ old new disk disk_now command (λ e. cc e) (λ never. absurd never) (noting.does refl))
  noting-noted old new disk disk_now command (Err refusal.Disk) result ready lasts noting is =
      subst (λ (r : Result ⊤ Halt). HasNoted g old new disk disk_now (command ∷ []) r) (sym is)
      (does-one (IsErr {T = ⊤} {E = NotesRefusal} (Err refusal.Disk)) ⊤ old new disk disk_now command (λ e. tt) (λ e. refl) (noting.does refl))
  noting-noted old new disk disk_now command (Err refusal.OutOfMemory) result ready lasts noting is =
      let same = untouched-of old new disk disk_now noting.untouched in
      subst (λ (r : Result ⊤ Halt). HasNoted g old new disk disk_now (command ∷ []) r) (sym is)
      (0, omega arith, subst (λ (d : D). DoesSeveral g ⊥ old new disk d []) (sym same.same_disk) (subst (λ (n : NotesState). DoesSeveral g ⊥ old n disk disk []) (sym same.same) (noted-none old disk ready lasts)))
  noting-noted old new disk disk_now command (Err refusal.Failed) result ready lasts noting is = absurd is
  noting-noted old new disk disk_now command (Err refusal.Full) result ready lasts noting is = absurd is
  noting-noted old new disk disk_now command (Err (refusal.Changed kept_length digest)) result ready lasts noting is = absurd is

  -- ---- a row

  -- the same stop, of another type of answers
  pub noted-err : (T U : Type 0) (old new : NotesState) (disk disk_now : D) (commands : List NotesCommand) (why : Halt) → HasNoted {T = T} g old new disk disk_now commands (Err why)
      → HasNoted {T = U} g old new disk disk_now commands (Err why)
  noted-err T U old new disk disk_now commands stop.Disk noted = noted
  noted-err T U old new disk disk_now commands stop.OutOfMemory noted = noted

  -- a row without commands
  pub takes-still : {S : Type 0} (row : Row S) (before now : S) (notes : NotesState) (disk : D) (replies : List ℕ) (ending : Option Ending) → row.commands ≡ [] → IsReady g notes disk
      → g.lasts disk disk → Gives row now replies ending → TakesRow g row (with_notes before notes disk) (with_notes now notes disk) replies (Ok ending)
  takes-still row before now notes disk replies ending none ready lasts gives = record { answers = gives; noted = none-by notes disk row.commands none ready lasts }
