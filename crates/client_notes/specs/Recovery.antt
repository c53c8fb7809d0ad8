-- What a recovery of the notes makes of a disk, what it answers, and what a crash in it leaves: what file_journal says of
-- the form of the notes, whose disk is formatted with one block.
use Rattle.std.specs.Prelude.{ℕ, List, IfSome, Result}
use Rattle.disk_model.specs.declared.disk.Disk.{Ghosts}
use Rattle.disk_model.specs.Runs.{Leaves, Runs}
use Rattle.file_journal.specs.Recovery.{IsSyncedFirst}
use Rattle.file_journal.specs.Restoring as kept
use Rattle.file_journal.specs.declared.faults.StoreFault.{StoreFault}
use Rattle.client_notes.specs.Records.{notes_form}
use Rattle.client_notes.specs.Several.{notes_on}
use Rattle.client_notes.specs.State.{NotesState}

-- The notes that a recovery gives are those that the content stood for. No octet of formatted notes changed, and any
-- other content was made formatted ones. They haven't failed, and stand on the disk, which is quiet.
abbrev pub IsRecovered : {D : Type 0} → Ghosts D → D → D → NotesState → Type 0
IsRecovered g disk disk_now self = kept.IsRestored g notes_form 1 disk (notes_on self disk_now)

-- The octets stand for what these stand for, and differ from them only as the journal's recovery may leave them: 18
-- octets or more are left as they are.
abbrev pub StandsAlike : List ℕ → List ℕ → Type 0
StandsAlike = kept.StandsAlike notes_form 1

-- What a recovery answers and leaves on the disk, whether it is refused or not. But for a fault of the disk and out of
-- memory each refusal comes exactly where the content stands for it, and leaves it as it was. Out of memory comes only
-- where the content is that of notes, or of none yet. A crash since the start leaves what it might have left before, or
-- what stands for the same, and a content of 18 octets or more as it is; since the end of the first sync the latter,
-- but where that sync failed.
abbrev pub AnswersRecovery : {D T : Type 0} → Ghosts D → Result T StoreFault → D → D → Type 0
AnswersRecovery g result disk disk_now = kept.AnswersRecovery g notes_form 1 result disk disk_now

-- A recovery gave these notes. A crash since its start leaves what it might have left before, or what stands for the
-- same as the content; since the end of the first sync the latter. No call of the disk failed.
pub record Recovers {D : Type 0} (g : Ghosts D) (disk disk_now : D) (self : NotesState) : Type 0 where
  pub recovered : IsRecovered g disk disk_now self
  pub since_start : Leaves g disk disk_now StandsAlike
  pub since_sync : IfSome (g.content disk) (λ before. IsSyncedFirst g disk disk_now (StandsAlike before))
  pub runs : Runs g ⊥ disk disk_now
