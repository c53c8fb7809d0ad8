-- What a recovery makes of a disk, what it answers, and what a crash in it leaves.
use Rattle.std.specs.Prelude.{◌≡◌, ◌⊎◌, ◌↔◌, ℕ, ◌+◌, ◌%◌, ◌<◌, ◌≤◌, List, length, take, slice_index, false, nat_le, if◌then◌else◌, Option, IfSome, Result, IsErrOf}
use Rattle.px_base.specs.Numbers.{le32}
use Rattle.px_base.specs.Outside.{Rose}
use Rattle.disk_model.specs.Moments.{LeavesSince}
use Rattle.disk_model.specs.declared.disk.Disk.{Ghosts}
use Rattle.disk_model.specs.Runs.{IsQuietNow, TakesStep}
use Rattle.file_journal.specs.Journal.{HasGoodHeader, IsAfterRecovery, IsSameStore, header_text}
use Rattle.file_journal.specs.Journal.{bad_number, journal_of, no_store, store_of}
use Rattle.file_journal.specs.Layout.{first_gate, half_in}
use Rattle.file_journal.specs.Position.{Position, StandsOn, gate_of, left_to_read}
use Rattle.file_journal.specs.declared.layout.Layout.{Layout}
use Rattle.file_journal.specs.declared.faults.RecoverFault.{RecoverFault}
use Rattle.file_journal.specs.declared.faults.RecoverFault.TheVariants as fault

-- the block number of a store of this content, or this one where it has none yet
abbrev pub number_in : ℕ → List ℕ → ℕ
number_in blocks octets = if nat_le (length octets) 16 then blocks else le32 octets 8

-- What a recovery makes of the content: the octets are those of a formatted store, with the journal's block number,
-- which is the one it had, where it had one, and their records are in the journal's half; it stands for the records
-- from before, and all of them are left to read.
pub record Recovers (magic : List ℕ) (layout : Layout) (blocks : ℕ) (journal : Position) (before now : List ℕ)
    : Type 0 where
  pub octets : IsAfterRecovery magic layout blocks before now
  pub number : journal.blocks ≡ le32 now 8
  pub same_number : journal.blocks ≡ number_in blocks before
  pub half : half_in layout now ≡ journal.half
  pub same : IsSameStore blocks (journal_of magic layout before) (journal_of magic layout now)
  pub whole : journal_of magic layout now ≡ store_of journal.blocks (left_to_read journal now)

-- The journal that a recovery gives stands at the first gate, with nothing read, on a quiet disk.
pub record IsRecovered {D : Type 0} (g : Ghosts D) (magic : List ℕ) (layout : Layout) (blocks : ℕ) (old new : D)
    (journal : Position) : Type 0 where
  pub magic_is : journal.magic ≡ magic
  pub layout_is : journal.layout ≡ layout
  pub place : journal.place ≡ gate_of journal
  pub unread : journal.ended ≡ false
  pub healthy : journal.failed ≡ false
  pub content : TakesStep g old new (Recovers magic layout blocks journal)
  pub quiet : IsQuietNow g new
  pub stands_on : StandsOn g journal new

-- Each refusal comes exactly where the content stands for it.
pub record RefusesExactly {T : Type 0} (magic : List ℕ) (layout : Layout) (before : List ℕ)
    (result : Result T RecoverFault) : Type 0 where
  pub not_a_store :
      (found : List ℕ) → IsErrOf result (fault.NotAStore found) ↔ (journal_of magic layout before ≡ no_store found)
  pub damaged :
      (at : ℕ) → IsErrOf result (fault.Damaged at) ↔ ((at ≡ 8) × (journal_of magic layout before ≡ bad_number))

-- but for a fault of the disk, and where the content is told
abbrev pub Refuses : {T : Type 0} → List ℕ → Layout → Option (List ℕ) → Result T RecoverFault → Type 0
Refuses magic layout content result =
    ¬ IsErrOf result fault.Disk → IfSome content (λ before. RefusesExactly magic layout before result)

-- the place of the first gate of that store
abbrev pub gate_in : Layout → ℕ → List ℕ → ℕ
gate_in layout blocks octets = first_gate layout (number_in blocks octets)

-- What a crash leaves of a recovery of this content: the same store. A formatted content stays as it is, and so does
-- one that is refused. Of another there are no octets behind the second gate; where they are more than 16, the first 15
-- are those of the header; where the second gate is there, octet 15 is even and the first gate closed.
pub record IsRecovering (magic : List ℕ) (layout : Layout) (blocks : ℕ) (before image : List ℕ) : Type 0 where
  pub same : IsSameStore blocks (journal_of magic layout before) (journal_of magic layout image)
  pub formatted : gate_in layout blocks before + 2 ≤ length before → image ≡ before
  pub refused : ¬ HasGoodHeader (journal_of magic layout before) → image ≡ before
  pub no_longer : length before < gate_in layout blocks before + 2 → length image ≤ gate_in layout blocks before + 2
  pub header :
      16 < length image
      → take 15 image ≡ take 15 (if nat_le (length before) 16 then header_text magic blocks else before)
  pub even :
      length before < gate_in layout blocks before + 2 → gate_in layout blocks before + 1 < length image
      → slice_index image 15 % 2 ≡ 0
  pub closed :
      length before < gate_in layout blocks before + 2 → gate_in layout blocks before + 1 < length image
      → slice_index image (gate_in layout blocks before) ≡ 0

-- The first sync passed, and a crash since its end, one moment after the start, leaves what has P.
pub record IsSyncedFirst {D : Type 0} (g : Ghosts D) (old new : D) (P : List ℕ → Type 0) : Type 0 where
  pub later : g.moment old + 1 ≤ g.moment new
  pub each : LeavesSince (g.moment old + 1) (g.images_since new) P

-- The first sync failed, and no write and no sync came after it: the count rose, and a crash leaves what it might have
-- left before.
pub record IsFailedSync {D : Type 0} (g : Ghosts D) (old new : D) : Type 0 where
  pub rose : Rose (g.write_faults old) (g.write_faults new)
  pub same : g.content new ≡ g.content old
  pub one : g.moment new ≤ g.moment old + 1
  pub each : (t : ℕ) (image : List ℕ) → t ≤ g.moment old → g.images_since new t image → g.images_since old t image

-- Since the end of the first sync a crash leaves what stands so to the content before; only where that sync failed, and
-- the answer is that fault, a crash may leave what it might have left before.
abbrev pub LeavesSinceSync :
    {D T : Type 0} → Ghosts D → Result T RecoverFault → D → D → (List ℕ → List ℕ → Type 0) → Type 0
LeavesSinceSync g result old new stands =
    IfSome (g.content old) (λ before.
    IsSyncedFirst g old new (stands before) ⊎ (IsErrOf result fault.Disk × IsFailedSync g old new))

-- A recovery makes seven writes and syncs at most, and one, its first sync, where the content is a formatted store or is
-- refused.
pub record RecoversInCalls {D : Type 0} (g : Ghosts D) (magic : List ℕ) (layout : Layout) (blocks : ℕ) (old new : D)
    : Type 0 where
  pub most : g.moment new ≤ g.moment old + 7
  pub formatted :
      IfSome (g.content old) (λ before.
      gate_in layout blocks before + 2 ≤ length before → g.moment new ≤ g.moment old + 1)
  pub refused :
      IfSome (g.content old) (λ before.
      ¬ HasGoodHeader (journal_of magic layout before) → g.moment new ≤ g.moment old + 1)
