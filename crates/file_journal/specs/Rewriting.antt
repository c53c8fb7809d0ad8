-- What a rewriting of a journal's records into its other half does to the octets of a disk, and what a crash in it
-- leaves.
use Rattle.std.specs.Prelude.{◌≡◌, ◌⊎◌, ℕ, ◌+◌, ◌<◌, ◌≤◌, List, [], ◌∷◌, ◌++◌, length, take, drop, true, false, Result}
use Rattle.std.specs.Prelude.{IsErr, OnErr, OnOk}
use Rattle.std.specs.List.{AllByRecursion}
use Rattle.disk_model.specs.Disk.{Follows, Torn, Writes}
use Rattle.disk_model.specs.declared.disk.Disk.{Ghosts}
use Rattle.file_journal.specs.Appending.{IsTornFrom, TakesCalls}
use Rattle.file_journal.specs.Bounds.{StaysWithin, longest}
use Rattle.disk_model.specs.Runs.{IsQuietNow, Leaves, Puts, TakesStep}
use Rattle.file_journal.specs.Journal.{store_of}
use Rattle.file_journal.specs.Layout.{HoldSame, block_in, half_gate, half_size, other_half, selector_of}
use Rattle.file_journal.specs.Position.{Position, StandsOn, store_in}
use Rattle.file_journal.specs.Records.{IsRecord, Record, records_text, whole}
use Rattle.file_journal.specs.declared.layout.Layout.TheVariants as layout

-- The journal has two halves and was read to its end, and these records have room in one, with a closed gate.
pub record MayRewrite (journal : Position) (entries : List Record) : Type 0 where
  pub in_halves : journal.layout ≡ layout.Halves
  pub ended : journal.ended ≡ true
  pub records : AllByRecursion IsRecord entries
  pub fits : length (records_text entries) + 1 ≤ half_size journal.blocks

-- each block of the journal's store holds what it held
abbrev pub KeepsBlocks : Position → List ℕ → List ℕ → Type 0
KeepsBlocks journal before now = HoldSame (λ block. block < journal.blocks) (block_in before) (block_in now)

-- These octets stand at this place; outside their range and before the old end all is as it was.
pub record Lays (at : ℕ) (text before now : List ℕ) : Type 0 where
  pub torn : Torn at (length text) before now
  pub there : take (length text) (drop at now) ≡ text

-- These octets stand at this place, and then octet 15 is this one.
pub record Chooses (at : ℕ) (text : List ℕ) (selector : ℕ) (before now : List ℕ) : Type 0 where
  pub staged : List ℕ
  pub lays : Lays at text before staged
  pub chosen : Writes 15 (selector ∷ []) staged now

-- While that is done: the octets in their range are torn, or they stand there and octet 15 is torn.
abbrev pub IsChoosing : ℕ → List ℕ → List ℕ → List ℕ → Type 0
IsChoosing at text before image =
    Torn at (length text) before image ⊎ ((staged : List ℕ) × Lays at text before staged × Torn 15 1 staged image)

-- the place of the first gate of the journal's other half
abbrev pub other_gate : Position → ℕ
other_gate journal = half_gate journal.layout journal.blocks (other_half journal.half)

-- what a rewriting puts there: these records, and a closed gate
abbrev pub anew_text : List Record → List ℕ
anew_text entries = records_text entries ++ 0 ∷ []

-- What a rewriting makes of the content: these records stand in place of all others. They are put in the other half,
-- with a closed gate, and then octet 15 becomes 0 or 1 and chooses that half; no other octet of the header changes, and
-- the blocks hold what they held.
pub record Rewrites (journal : Position) (entries : List Record) (before now : List ℕ) : Type 0 where
  pub store : store_in journal now ≡ store_of journal.blocks (whole entries)
  pub octets : Chooses (other_gate journal) (anew_text entries) (selector_of (other_half journal.half)) before now
  pub blocks : KeepsBlocks journal before now

-- What a crash in a rewriting leaves: the records from before, or these. The octets of the other half are torn, or they
-- stand there and octet 15 is torn; the blocks hold what they held.
pub record IsRewriting (journal : Position) (entries : List Record) (before image : List ℕ) : Type 0 where
  pub store :
      (store_in journal image ≡ store_in journal before)
      ⊎ (store_in journal image ≡ store_of journal.blocks (whole entries))
  pub octets : IsChoosing (other_gate journal) (anew_text entries) before image
  pub blocks : KeepsBlocks journal before image

-- Where nothing failed before, a crash since the rewriting began leaves the one or the other.
abbrev pub LeavesRewriting : {D : Type 0} → Ghosts D → Position → List Record → D → D → Type 0
LeavesRewriting g journal entries old new = journal.failed ≡ false → Leaves g old new (IsRewriting journal entries)

-- the journal behind these records in its other half
abbrev pub rewritten : Position → List Record → Position
rewritten journal entries =
    record journal {
      half = other_half journal.half;
      place = other_gate journal + length (records_text entries);
      failed = false;
    }

-- What a rewriting does to a journal of two halves, and to its disk: these records are put in place of all others; or
-- the disk failed, or had failed before, and so has the journal. A crash since the start leaves the one or the other.
-- It makes a call of the disk for each record, and four more, and nothing is written behind the store.
pub record WritesAnew {D T E : Type 0} (g : Ghosts D) (entries : List Record) (before now : Position) (old new : D)
    (result : Result T E) : Type 0 where
  pub stands_on : StandsOn g now new
  pub ok : OnOk result (TakesStep g old new (Rewrites before entries))
  pub quiet : OnOk result (IsQuietNow g new)
  pub goes_on : OnOk result (now ≡ rewritten before entries)
  pub fails : OnErr result (now ≡ record before { failed = true })
  pub since : LeavesRewriting g before entries old new
  pub calls : TakesCalls g (length entries + 4) old new result
  pub within : StaysWithin g (longest before.blocks) old new

-- So many writes, and no sync, put these octets at this place: each image is torn in their range from one before.
pub record Covers {D T E : Type 0} (g : Ghosts D) (count at : ℕ) (text : List ℕ) (old new : D) (result : Result T E)
    : Type 0 where
  pub ok : OnOk result (TakesStep g old new (Lays at text))
  pub torn : Follows (Torn at (length text)) (g.images old) (g.images new)
  pub since : Leaves g old new (λ _. IsTornFrom (g.images old) at (length text))
  pub puts : Puts g (IsErr result) old new
  pub calls : TakesCalls g count old new result
