-- How the blocks of files are read.
use Rattle.std.specs.Prelude.{◌≡◌, ℕ, ◌*◌, ◌<◌, ◌≤◌, List, length, take, All, false, Option}
use Rattle.std.specs.List.{flat_map}
use Rattle.file_store_blocks.specs.Seen.{whole_block}
use Rattle.file_store_blocks.specs.declared.file_blocks.FileBlocks.{FileBlocks}
use Rattle.file_store_blocks.specs.BlockTable.Table.{Table, run_at}
use Rattle.disk_model.specs.declared.disk.Disk.{Ghosts}
use Rattle.file_store_model.specs.Limits.{longest_file}
use Rattle.file_journal.specs.Form.{Form}
use Rattle.file_journal.specs.Kept.{StandsAt}
use Rattle.file_journal.specs.Layout.{HasBlocks, blocks_on}
use Rattle.file_journal.specs.Position.{Position, StandsOn}
use Rattle.file_journal.specs.Steps.{Steps}

-- the 512 octets of a block, on a disk of this content
abbrev pub block_octets : Option (List ℕ) → ℕ → List ℕ
block_octets content block = whole_block (blocks_on content) block

-- A journal is on the disk, after blocks, and has not failed: the blocks may be read by it.
pub record MayRead {D : Type 0} (g : Ghosts D) (journal : Position) (disk : D) : Type 0 where
  pub stands_on : StandsOn g journal disk
  pub healthy : journal.failed ≡ false
  pub has_blocks : HasBlocks journal.layout

-- The same of a journal that holds what is kept of a state that records made.
pub record MayReadKept {D S K V C : Type 0} (g : Ghosts D) (form : Form V C) (steps : Steps S K) (journal : Position)
    (now : K) (disk : D) : Type 0 where
  pub stands_at : StandsAt g form steps journal now disk
  pub healthy : journal.failed ≡ false
  pub has_blocks : HasBlocks form.layout

-- the blocks in which the octets of a file are
abbrev pub blocks_of : Table → FileBlocks → List ℕ
blocks_of table file = (run_at table file.run).blocks

-- the octets of a file as they were uploaded, on a disk of this content
abbrev pub octets_on : Option (List ℕ) → Table → FileBlocks → List ℕ
octets_on content table file = take file.held (flat_map (whole_block (blocks_on content)) (blocks_of table file))

-- The file has a run of the table, whose blocks are among this number of blocks, and in which its octets have room; it
-- is no longer than may be.
pub record StandsIn (table : Table) (limit : ℕ) (file : FileBlocks) : Type 0 where
  pub there : file.run < length table.runs
  pub below : All (λ b. b < limit) (blocks_of table file)
  pub fits : file.held ≤ 512 * length (blocks_of table file)
  pub short : file.held ≤ longest_file
