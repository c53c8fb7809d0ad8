-- What a recovery of a state makes of a disk, what it answers, and what a crash in it leaves.
use Rattle.std.specs.Prelude.{◌≡◌, ◌⊎◌, ◌↔◌, ℕ, List, false, true, Option, IfSome, Result, IsErrOf}
use Rattle.disk_model.specs.declared.disk.Disk.{Ghosts}
use Rattle.file_journal.specs.Bounds.{RecoversInHalves}
use Rattle.disk_model.specs.Runs.{IsQuietNow, Leaves, Runs, TakesStep}
use Rattle.file_journal.specs.Form.{Form, standing_of}
use Rattle.file_journal.specs.Journal.{HasGoodHeader, IsAfterRecovery, journal_of}
use Rattle.file_journal.specs.Kept.{IsKept, KeptOn}
use Rattle.file_journal.specs.Recovery.{IsFailedSync, IsRecovering, IsSyncedFirst, number_in}
use Rattle.file_journal.specs.Walk.{damaged_at, no_store, state}
use Rattle.file_journal.specs.declared.faults.StoreFault.{StoreFault}
use Rattle.file_journal.specs.declared.faults.StoreFault.TheVariants as fault

-- The state that a recovery gives is the one that the content stood for. No octet of a formatted store changed, and any
-- other content was made a formatted one. The journal has the block number that the content had, or this one,
-- hasn't failed, was read to its end, and keeps the state on the disk, which is quiet.
pub record IsRestored {D S C : Type 0} (g : Ghosts D) (form : Form S C) (blocks : ℕ) (disk : D) (new : KeptOn D S)
    : Type 0 where
  pub content : IfSome (g.content disk) (λ before. standing_of form blocks before ≡ state new.now)
  pub octets : TakesStep g disk new.disk (IsAfterRecovery form.magic form.layout blocks)
  pub healthy : new.journal.failed ≡ false
  pub ended : new.journal.ended ≡ true
  pub magic_is : new.journal.magic ≡ form.magic
  pub number : IfSome (g.content disk) (λ before. new.journal.blocks ≡ number_in blocks before)
  pub keeps : IsKept g form new
  pub quiet : IsQuietNow g new.disk

-- Each refusal comes exactly where the content stands for it.
pub record RefusesExactly {S C T : Type 0} (form : Form S C) (blocks : ℕ) (before : List ℕ)
    (result : Result T StoreFault) : Type 0 where
  pub not_a_store :
      (found : List ℕ) → IsErrOf result (fault.NotAStore found) ↔ (standing_of form blocks before ≡ no_store found)
  pub damaged : (at : ℕ) → IsErrOf result (fault.Damaged at) ↔ (standing_of form blocks before ≡ damaged_at at)

-- but for a fault of the disk and want of memory, and where the content is told
abbrev pub RefusesRecovery : {S C T : Type 0} → Form S C → ℕ → Option (List ℕ) → Result T StoreFault → Type 0
RefusesRecovery form blocks content result =
    ¬ IsErrOf result fault.Disk → ¬ IsErrOf result fault.OutOfMemory
    → IfSome content (λ before. RefusesExactly form blocks before result)

-- The octets stand for what these stand for, and differ from them only as the journal's recovery may leave them: a
-- formatted store is left as it is.
pub record StandsAlike {S C : Type 0} (form : Form S C) (blocks : ℕ) (before image : List ℕ) : Type 0 where
  pub same : standing_of form blocks image ≡ standing_of form blocks before
  pub octets : IsRecovering form.magic form.layout blocks before image

-- Since the end of the first sync a crash leaves what stands for the same as the content before, and a formatted store
-- as it is; only where that sync failed, and the answer is that fault, a crash may leave what it might
-- have left before.
abbrev pub LeavesAlikeSinceSync : {D S C T : Type 0} → Ghosts D → Form S C → ℕ → Result T StoreFault → D → D → Type 0
LeavesAlikeSinceSync g form blocks result disk disk_now =
    IfSome (g.content disk) (λ before.
    IsSyncedFirst g disk disk_now (StandsAlike form blocks before)
    ⊎ (IsErrOf result fault.Disk × IsFailedSync g disk disk_now))

-- What a recovery answers and leaves on the disk, whether it is refused or not. But for a fault of the disk and want of
-- memory each refusal comes exactly where the content stands for it, and leaves it as it was. Want of memory comes only
-- where the content is that of a store, or of none yet. A crash since the start leaves what it might have left before,
-- or what stands for the same; since the end of the first sync the latter, but where that sync failed. In two halves
-- nothing is written behind the store whose block number it has, or gets.
pub record AnswersRecovery {D S C T : Type 0} (g : Ghosts D) (form : Form S C) (blocks : ℕ)
    (result : Result T StoreFault) (disk disk_now : D) : Type 0 where
  pub refuses : RefusesRecovery form blocks (g.content disk) result
  pub untouched : (found : List ℕ) → IsErrOf result (fault.NotAStore found) → g.content disk_now ≡ g.content disk
  pub untouched_damage : (at : ℕ) → IsErrOf result (fault.Damaged at) → g.content disk_now ≡ g.content disk
  pub memory :
      IsErrOf result fault.OutOfMemory
      → IfSome (g.content disk) (λ before. HasGoodHeader (journal_of form.magic form.layout before))
  pub runs : Runs g (IsErrOf result fault.Disk) disk disk_now
  pub since_start : Leaves g disk disk_now (StandsAlike form blocks)
  pub since_sync : LeavesAlikeSinceSync g form blocks result disk disk_now
  pub within : RecoversInHalves g form.layout blocks disk disk_now
