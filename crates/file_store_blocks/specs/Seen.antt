-- Which files the entries are, with what the blocks of a disk hold.
use Rattle.std.specs.Prelude.{ℕ, List, ◌++◌, length, map, replicate, take, Option, None, Some}
use Rattle.std.specs.List.{flat_map}
use Rattle.file_store_blocks.specs.Placed.{Placed, PlacedStore, Seal}
use Rattle.file_store_model.specs.Headers.{header_items, header_octets}
use Rattle.file_store_model.specs.Store.{Entry, Holding, Store, complete, partial, store_from}
use Rattle.file_journal.specs.Layout.{Blocks}
use Rattle.pfh_items.specs.Stamp.{StampValue, stamped}
use Rattle.pfh_writer.specs.Given.{stamped_sum}

-- the 512 octets of a block; zeros after what it holds
abbrev pub whole_block : Blocks → ℕ → List ℕ
whole_block held block = take 512 (held block ++ replicate 512 0)

-- the octets of a file as they were uploaded
abbrev pub octets_in : Blocks → Placed → List ℕ
octets_in held file = take file.held (flat_map (whole_block held) file.blocks)

-- what a file is stamped with at this moment: its number and its caller
abbrev pub stamp_at : ℕ → Placed → StampValue
stamp_at moment file = record { number = file.number; by = file.caller; moment = moment }

-- the sum that the header of a file of these octets has with that stamp
abbrev pub sum_with : ℕ → Placed → List ℕ → ℕ
sum_with moment file octets = stamped_sum (stamp_at moment file) (header_items octets)

-- the length of the header that the octets of a file begin with
abbrev pub header_in : Blocks → Placed → ℕ
header_in held file = length (header_octets (octets_in held file))

-- how far a file of these octets has come: with its seal it is complete, and stamped
abbrev pub holding_with : Option Seal → Placed → List ℕ → Holding
holding_with None file octets = partial octets
holding_with (Some seal) file octets = complete (stamped (stamp_at seal.moment file) octets) seal.moment

-- the entry of a file that has come so far
abbrev pub entry_with : Placed → Holding → Entry
entry_with file holding =
    record {
      number = file.number;
      caller = file.caller;
      length = file.length;
      begun = file.begun;
      holding = holding;
    }

-- the entry that it is
abbrev pub seen_entry : Blocks → Placed → Entry
seen_entry held file = entry_with file (holding_with file.seal file (octets_in held file))

-- the store that all are
abbrev pub seen : Blocks → PlacedStore → Store
seen held store = store_from (map (seen_entry held) store.entries) store.next store.blocks
