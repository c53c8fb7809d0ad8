-- What a look at a disk finds of a journal, and what is owed to the formatting of its store.
use Rattle.std.specs.Prelude.{◌≡◌, ℕ, ◌+◌, ◌<◌, ◌≤◌, List, [], length, slice_index, None, Some, IfSome}
use Rattle.disk_model.specs.declared.disk.Disk.{Ghosts}
use Rattle.disk_model.specs.Runs.{IsQuietNow}
use Rattle.file_journal.specs.Header.{AreBlocks, HasHeader}
use Rattle.file_journal.specs.Journal.{store, store_of}
use Rattle.file_journal.specs.Layout.{first_gate, half_in}
use Rattle.file_journal.specs.Position.{Position, StandsOn, left_to_read, position_at_first, store_in}
use Rattle.file_journal.specs.Records.{whole}
use Rattle.file_journal.specs.declared.found.Found.{Found}
use Rattle.file_journal.specs.declared.found.Owed.{Owed}
use Rattle.file_journal.specs.declared.found.Owed.TheVariants as owed
use Rattle.file_journal.specs.declared.layout.Half.TheVariants as half
use Rattle.file_journal.specs.declared.layout.Layout.{Layout}

-- The octets are a formatted store of the journal's header. Its records are in the journal's half, and all of them are
-- left to read.
pub record IsFormatted (journal : Position) (octets : List ℕ) : Type 0 where
  pub header : HasHeader journal.magic journal.blocks octets
  pub long : first_gate journal.layout journal.blocks + 2 ≤ length octets
  pub half_is : half_in journal.layout octets ≡ journal.half
  pub store_is : store_in journal octets ≡ store_of journal.blocks (left_to_read journal octets)

-- The formatting was interrupted behind the journal's header, whose octet 15 this is: it has no records.
pub record IsInterrupted (journal : Position) (selector : ℕ) (octets : List ℕ) : Type 0 where
  pub header : HasHeader journal.magic journal.blocks octets
  pub long : 16 < length octets
  pub short : length octets < first_gate journal.layout journal.blocks + 2
  pub selector_is : selector ≡ slice_index octets 15
  pub store_is : store_in journal octets ≡ store (Some journal.blocks) (whole [])

-- the store isn't formatted yet, and has no block number
pub record IsUnformatted (journal : Position) (octets : List ℕ) : Type 0 where
  pub short : length octets ≤ 16
  pub store_is : store_in journal octets ≡ store None (whole [])

-- this is owed to the formatting of these octets
abbrev pub Owes : Position → Owed → List ℕ → Type 0
Owes journal owed.Nothing octets = IsFormatted journal octets
Owes journal owed.Formatting octets = IsUnformatted journal octets
Owes journal (owed.Gates selector) octets = IsInterrupted journal selector octets

-- where there are no records yet, these come in the first half; a store without a block number gets this one
abbrev pub Begins : ℕ → Position → Owed → Type 0
Begins blocks journal owed.Nothing = Unit {0}
Begins blocks journal owed.Formatting = (journal.blocks ≡ blocks) × (journal.half ≡ half.First)
Begins blocks journal (owed.Gates selector) = journal.half ≡ half.First

-- What is found of a journal of this magic and layout, which gets this block number where it has none yet: it is at its
-- first gate, with nothing read, and what is owed is by the content. Where nothing is, a quiet disk is read as it
-- stands.
pub record IsFound {D : Type 0} (g : Ghosts D) (magic : List ℕ) (layout : Layout) (blocks : ℕ) (disk : D)
    (found : Found) : Type 0 where
  pub at_first : found.journal ≡ position_at_first magic layout found.journal.blocks found.journal.half
  pub number : AreBlocks found.journal.blocks
  pub begins : Begins blocks found.journal found.owed
  pub owes : IfSome (g.content disk) (Owes found.journal found.owed)
  pub stands_on : found.owed ≡ owed.Nothing → IsQuietNow g disk → StandsOn g found.journal disk

-- What is owed takes six writes and syncs at most; where that is nothing, none.
pub record SettlesInCalls {D : Type 0} (g : Ghosts D) (owes : Owed) (old new : D) : Type 0 where
  pub most : g.moment new ≤ g.moment old + 6
  pub nothing : owes ≡ owed.Nothing → g.moment new ≡ g.moment old
