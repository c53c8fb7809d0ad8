-- Which files the entries are as far as memory shows: with zeros in place of the octets that the blocks hold.
use Rattle.std.specs.Prelude.{map, replicate}
use Rattle.std.specs.Option.{option_map}
use Rattle.file_store_blocks.specs.Placed.{Placed, PlacedStore}
use Rattle.file_store_blocks.specs.Seen.{entry_with}
use Rattle.file_store_model.specs.Store.{Entry, Store, holding_of, store_from}

-- the entry of a file, with zeros for its octets
abbrev pub outlined_entry : Placed → Entry
outlined_entry file = entry_with file (holding_of (replicate file.held 0) (option_map (λ seal. seal.moment) file.seal))

-- the store that all are
abbrev pub outlined : PlacedStore → Store
outlined store = store_from (map outlined_entry store.entries) store.next store.blocks
