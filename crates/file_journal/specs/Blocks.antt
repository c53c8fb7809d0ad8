-- What a write of a block of a journal's store does to the octets of a disk, and what a crash in it leaves.
use Rattle.std.specs.Prelude.{◌≡◌, ℕ, ◌<◌, ◌≤◌, List, length, take, true, false, IfSome, Result, OnErr, OnOk}
use Rattle.disk_model.specs.Disk.{Writes}
use Rattle.disk_model.specs.Moments.{LeavesSince}
use Rattle.disk_model.specs.declared.disk.Disk.{Ghosts}
use Rattle.file_journal.specs.Appending.{IsTornFrom}
use Rattle.disk_model.specs.Runs.{IsQuietNow, Leaves}
use Rattle.file_journal.specs.Layout.{HasBlocks, block_in, block_place}
use Rattle.file_journal.specs.Position.{Position, left_to_read, store_in}

-- the journal's store has this block
pub record HasBlock (journal : Position) (block : ℕ) : Type 0 where
  pub has_blocks : HasBlocks journal.layout
  pub there : block < journal.blocks

-- the journal was read to its end, and so many octets may be written over the front of this block
pub record MayWriteBlock (journal : Position) (block count : ℕ) : Type 0 where
  pub ended : journal.ended ≡ true
  pub has : HasBlock journal block
  pub most : count ≤ 512

-- After `Ok` the disk is quiet, and the journal goes on; after a fault it has failed.
pub record GoesOnOrFails {D T E : Type 0} (g : Ghosts D) (old new : Position) (disk : D) (result : Result T E)
    : Type 0 where
  pub quiet : OnOk result (IsQuietNow g disk)
  pub goes_on : OnOk result (new.failed ≡ false)
  pub fails : OnErr result (new ≡ record old { failed = true })

-- What a write of octets at the front of a block makes of the content: they stand there, and all other octets and the
-- records are as they were.
pub record WritesBlock (journal : Position) (block : ℕ) (bytes before now : List ℕ) : Type 0 where
  pub octets : Writes (block_place block) bytes before now
  pub begins : take (length bytes) (block_in now block) ≡ bytes
  pub store : store_in journal now ≡ store_in journal before
  pub left : left_to_read journal now ≡ left_to_read journal before

-- What a crash in a write of so many octets at the front of a block leaves: the records from before; and outside these
-- octets those of an image from before.
pub record IsWritingBlock (journal : Position) (block count : ℕ) (images : List ℕ → Type 0) (before image : List ℕ)
    : Type 0 where
  pub store : store_in journal image ≡ store_in journal before
  pub left : left_to_read journal image ≡ left_to_read journal before
  pub beside : IsTornFrom images (block_place block) count image

-- since the write began
abbrev pub LeavesWritingBlock : {D : Type 0} → Ghosts D → Position → ℕ → ℕ → D → D → Type 0
LeavesWritingBlock g journal block count old new = Leaves g old new (IsWritingBlock journal block count (g.images old))

-- Where no write failed before, a crash since the moment in which it began leaves the records from before.
abbrev pub LeavesRecords : {D : Type 0} → Ghosts D → Position → D → D → Type 0
LeavesRecords g journal old new =
    journal.failed ≡ false
    → IfSome (g.content old) (λ before. LeavesSince (g.moment old) (g.images_since new)
    (λ image. store_in journal image ≡ store_in journal before))
