-- What a journal of a store's records keeps.
use Rattle.file_store_blocks.specs.Anew.{anew_records}
use Rattle.file_store_blocks.specs.IsPlaced.{IsPlaced}
use Rattle.file_store_blocks.specs.Placed.{Decides, PlacedStore, Uses}
use Rattle.file_store_blocks.specs.PlacedRecords.{calls_for, octets_for, placed_magic, read_step}
use Rattle.file_store_blocks.specs.ReadStore.{IsReadStore, ReadStore, nothing_read}
use Rattle.file_store_blocks.specs.Seen.{seen}
use Rattle.file_store_model.specs.Command as file
use Rattle.file_store_model.specs.Command.{Command, IsAllowed}
use Rattle.file_store_model.specs.Store.{Store}
use Rattle.file_journal.specs.Form.{Form}
use Rattle.file_journal.specs.Layout.{block_in}
use Rattle.file_journal.specs.Steps.{Steps, walked}
use Rattle.file_journal.specs.Walk.{see}
use Rattle.file_journal.specs.declared.layout.Layout.TheVariants as layout

-- What the records make of a store. The store itself is kept; the least number of a further file, and whether a record
-- came yet, are asked for by the reading of records alone.
abbrev pub placed_steps : Steps ReadStore PlacedStore
placed_steps =
    record {
      fresh = nothing_read;
      step = read_step;
      is_state = IsReadStore;
      kept = λ read. read.store;
      is_kept = IsPlaced;
      number = λ store. store.blocks;
      uses = Uses;
      decides = Decides;
      anew = anew_records;
    }

-- The stores that a journal of these commands keeps: octets stand for the store of files that the records and the
-- blocks make together.
abbrev pub placed_form : Form Store Command
placed_form =
    record {
      magic = placed_magic;
      layout = layout.Halves;
      number = λ store. store.blocks;
      standing = λ blocks octets.
          see (λ read. seen (block_in octets) read.store)
          (walked placed_steps placed_magic layout.Halves blocks octets);
      allowed = IsAllowed;
      after = file.after;
      calls = calls_for;
      octets = octets_for;
    }
