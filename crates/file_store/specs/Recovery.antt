-- What a recovery of the store makes of a disk, what it answers, and what a crash in it leaves.
use Rattle.std.specs.Prelude.{◌≡◌, ℕ, List, Option, IfSome, Result}
use Rattle.disk_model.specs.declared.disk.Disk.{Ghosts}
use Rattle.file_store_blocks.specs.PlacedFiles.{NothingOut}
use Rattle.disk_model.specs.Runs.{IsQuietNow}
use Rattle.file_journal.specs.Recovery.{number_in}
use Rattle.file_journal.specs.Restoring as restoring
use Rattle.file_journal.specs.Walk.{state}
use Rattle.file_store.specs.State.{IsReady, StoreState, standing_of, store_form, store_on}
use Rattle.file_journal.specs.declared.faults.StoreFault.{StoreFault}

-- The store that a recovery gives is the one that the content stood for, and has the block number that the content had,
-- or this one if it had none. No upload is out, and the store is ready on the disk, which is quiet.
pub record IsRecovered {D : Type 0} (g : Ghosts D) (blocks : ℕ) (disk disk_now : D) (self : StoreState) : Type 0 where
  pub content : IfSome (g.content disk) (λ before. standing_of blocks before ≡ state (store_on g self disk_now))
  pub number : IfSome (g.content disk) (λ before. self.journal.blocks ≡ number_in blocks before)
  pub nothing_out : NothingOut self.files
  pub ready : IsReady g self disk_now
  pub quiet : IsQuietNow g disk_now

-- each refusal comes exactly when the content stands for it
abbrev pub RefusesExactly : {T : Type 0} → ℕ → List ℕ → Result T StoreFault → Type 0
RefusesExactly blocks before result = restoring.RefusesExactly store_form blocks before result

-- except for a fault of the disk and being out of memory, and if the content is observed
abbrev pub RefusesRecovery : {T : Type 0} → ℕ → Option (List ℕ) → Result T StoreFault → Type 0
RefusesRecovery blocks content result = restoring.RefusesRecovery store_form blocks content result

-- The octets stand for what these stand for, and differ from them only as the journal's recovery may leave them: a
-- store formatted to its end, of 18 octets and its blocks or more, is left as it is.
abbrev pub StandsAlike : ℕ → List ℕ → List ℕ → Type 0
StandsAlike blocks before image = restoring.StandsAlike store_form blocks before image

-- Since the end of the first sync a crash leaves what stands for the same as the content before, and a store formatted
-- to its end as it is; only if that sync failed, and the answer is that fault, a crash may leave what it might have
-- left before.
abbrev pub LeavesAlikeSinceSync : {D T : Type 0} → Ghosts D → ℕ → Result T StoreFault → D → D → Type 0
LeavesAlikeSinceSync g blocks result disk disk_now =
    restoring.LeavesAlikeSinceSync g store_form blocks result disk disk_now
