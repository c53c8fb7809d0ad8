-- How long a disk gets, and what stands behind its store.
use Rattle.std.specs.Prelude.{◌≡◌, ℕ, ◌+◌, ◌*◌, ◌≤◌, List, drop, IfSome}
use Rattle.disk_model.specs.Disk.{IsTold}
use Rattle.disk_model.specs.declared.disk.Disk.{Ghosts}
use Rattle.disk_model.specs.Runs.{Leaves, images_now}
use Rattle.file_journal.specs.Layout.{first_gate, half_size}
use Rattle.file_journal.specs.Recovery.{number_in}
use Rattle.file_journal.specs.declared.layout.Layout.{Layout}
use Rattle.file_journal.specs.declared.layout.Layout.TheVariants as variant

-- the most octets that a store of so many blocks ever has where its records are in two halves
abbrev pub longest : ℕ → ℕ
longest blocks = first_gate variant.Halves blocks + 2 * half_size blocks

-- Behind so many octets stand these, and no others; none, where the list ends before.
abbrev pub EndsIn : ℕ → List ℕ → List ℕ → Type 0
EndsIn most behind octets = drop most octets ≡ behind

-- Where the content is told, these octets stand behind so many in it, and in each image that a crash since this moment
-- might have left.
abbrev pub HasBehind : {D : Type 0} → Ghosts D → ℕ → List ℕ → D → Type 0
HasBehind g most behind disk =
    IfSome (g.content disk) (λ octets.
    EndsIn most behind octets × ((image : List ℕ) → images_now g disk image → EndsIn most behind image))

-- Where these octets stood behind so many, they do so now, and a crash since then leaves them there. So where there was
-- none, the disk is no longer than so many octets, and no crash since then leaves more.
pub record KeepsBehind {D : Type 0} (g : Ghosts D) (most : ℕ) (behind : List ℕ) (old new : D) : Type 0 where
  pub told : IsTold (g.content old) → IsTold (g.content new)
  pub now : HasBehind g most behind old → HasBehind g most behind new
  pub since : HasBehind g most behind old → Leaves g old new (λ before. EndsIn most behind)

-- Nothing is written behind so many octets: the disk gets no longer than that, or than it was, and what stood behind
-- that stays.
abbrev pub StaysWithin : {D : Type 0} → Ghosts D → ℕ → D → D → Type 0
StaysWithin g most old new = (bound : ℕ) (behind : List ℕ) → most ≤ bound → KeepsBehind g bound behind old new

-- where the layout has two halves, nothing behind a store of so many blocks
abbrev pub StaysInHalves : {D : Type 0} → Ghosts D → Layout → ℕ → D → D → Type 0
StaysInHalves g layout blocks old new = layout ≡ variant.Halves → StaysWithin g (longest blocks) old new

-- the same of a recovery, by the block number of the store that the content is, or this one where it has none yet
abbrev pub RecoversInHalves : {D : Type 0} → Ghosts D → Layout → ℕ → D → D → Type 0
RecoversInHalves g layout blocks old new =
    IfSome (g.content old) (λ before. StaysInHalves g layout (number_in blocks before) old new)
