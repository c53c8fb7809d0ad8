-- What a sealed file is, by the octets in its blocks.
use Rattle.std.specs.Prelude.{◌≡◌, ℕ, ◌≤◌, List, Option, Some}
use Rattle.file_store_blocks.specs.Checking.{IsSealable, stamp_of}
use Rattle.file_store_blocks.specs.IsPlaced.{KeepsSeals}
use Rattle.file_store_blocks.specs.Placed.{Placed, PlacedStore, Seal, placed_of, runs_of}
use Rattle.file_store_blocks.specs.Reading.{StandsIn, octets_on}
use Rattle.file_store_blocks.specs.Seen.{octets_in, stamp_at}
use Rattle.file_store_blocks.specs.declared.sealed_file.SealedFile.{SealedFile}
use Rattle.file_store_blocks.specs.declared.stored_file.SealMark.{SealMark}
use Rattle.file_store_blocks.specs.BlockTable.Table.{Table}
use Rattle.file_store_model.specs.Headers.{IsHeaderOf, IsWholeHeader}
use Rattle.file_journal.specs.Layout.{Blocks, blocks_on}
use Rattle.pfh_items.specs.Stamp.{stamped}

-- these octets, as they were uploaded, are the file's
abbrev pub IsSealedFile : SealedFile → List ℕ → Type 0
IsSealedFile file octets = IsSealable (stamp_of file.stamp) octets file.sum file.header_len

-- the octets of the file with its stamp, on a disk of this content
abbrev pub sealed_octets : Option (List ℕ) → Table → SealedFile → List ℕ
sealed_octets content table file = stamped (stamp_of file.stamp) (octets_on content table file.blocks)

-- what a file is as one with this seal, whose octets are in this run of a table
abbrev pub sealed_file : ℕ → SealMark → Placed → SealedFile
sealed_file run mark file =
    record {
      blocks = record { run = run; held = file.held };
      stamp = record { number = file.number; by = file.caller; moment = mark.moment };
      sum = mark.sum;
      header_len = mark.header_len;
    }

-- the file of this number is sealed, and this is its seal
pub record Sealed (store : PlacedStore) (number : ℕ) : Type 0 where
  pub file : Placed
  pub found : placed_of store number ≡ Some file
  pub mark : Seal
  pub is : file.seal ≡ Some mark

-- the octets of the file with its stamp
abbrev pub octets_given : {store : PlacedStore} → {number : ℕ} → Blocks → Sealed store number → List ℕ
octets_given held sealed = stamped (stamp_at sealed.mark.moment sealed.file) (octets_in held sealed.file)

-- The file keeps all rules; these octets are the header that it begins with, and nothing else, and are read as one.
pub record IsSealedHeader (file octets : List ℕ) : Type 0 where
  pub header : IsHeaderOf file octets
  pub whole : IsWholeHeader octets

-- the runs of the table are those of the store's files
abbrev pub HasRuns : Table → PlacedStore → Type 0
HasRuns table store = table.runs ≡ runs_of store.entries

-- This is the sealed file of this number, as it is read of a table that has the store's runs: it is there, its header
-- is no longer, its octets are those of a sealed file if the seals are kept, and what is given of it is what the
-- store's file is seen as.
pub record ReadsSealed (table : Table) (store : PlacedStore) (number : ℕ) (file : SealedFile) : Type 0 where
  pub stands : StandsIn table store.blocks file.blocks
  pub inside : file.header_len ≤ file.blocks.held
  pub is :
      (content : Option (List ℕ)) → KeepsSeals (blocks_on content) store
      → IsSealedFile file (octets_on content table file.blocks)
  pub held : (sealed : Sealed store number) → file.blocks.held ≡ sealed.file.held
  pub header : (sealed : Sealed store number) → file.header_len ≡ sealed.mark.header
  pub octets :
      (content : Option (List ℕ)) (sealed : Sealed store number)
      → sealed_octets content table file ≡ octets_given (blocks_on content) sealed
