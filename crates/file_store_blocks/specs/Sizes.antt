-- How many octets the records have that make a store of files of which none was ever given up.
use Rattle.std.specs.Prelude.{◌≡◌, ◌⊎◌, ℕ, ◌+◌, ◌*◌, ◌%◌, ◌<◌, ◌≤◌, List, [], ◌∷◌, length, sum_by, ⊤}
use Rattle.file_store_model.specs.Limits.{most_entries}
use Rattle.file_store_model.specs.Store.{Entry, Holding, Store, blocks_for, blocks_of, complete, partial}

-- those of the blocks of a file of this length, and of its seal: 14 octets each
abbrev pub held_octets : ℕ → Holding → ℕ
held_octets file_length (partial held) = 14 * blocks_for (length held)
held_octets file_length (complete octets moment) = 14 * (blocks_for file_length + 1)

-- those of an entry: 23 octets begin it
abbrev pub entry_octets : Entry → ℕ
entry_octets entry = 23 + held_octets entry.length entry.holding

-- those of all entries
abbrev pub size_of_store : Store → ℕ
size_of_store store = sum_by entry_octets store.entries

-- what is held of a file under way is no longer than the file, and fills blocks of 512 octets, or is all of the file
abbrev pub FillsBlocks : Holding → ℕ → Type 0
FillsBlocks (partial held) file_length =
    (length held ≤ file_length) × ((length held % 512 ≡ 0) ⊎ (length held ≡ file_length))
FillsBlocks (complete octets moment) file_length = ⊤

-- the numbers of the entries rise, the first is at least `low`, and all are below `next`; each fills its blocks
abbrev pub FillBlocks : ℕ → List Entry → ℕ → Type 0
FillBlocks low [] next = ⊤
FillBlocks low (entry ∷ entries) next =
    (low ≤ entry.number) × (entry.number < next) × FillsBlocks entry.holding entry.length
    × FillBlocks (entry.number + 1) entries next

-- What is true of each store of files that are in blocks, and bounds its size.
pub record IsSized (store : Store) : Type 0 where
  pub entries : FillBlocks 1 store.entries store.next
  pub next : 1 ≤ store.next
  pub few : length store.entries ≤ most_entries
  pub blocks : blocks_of store ≤ store.blocks
