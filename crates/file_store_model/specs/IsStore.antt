-- What is true of each store that the commands make.
use Rattle.std.specs.Prelude.{◌≡◌, ℕ, ◌+◌, ◌≤◌, ◌<◌, List, [], ◌∷◌, length, ⊤}
use Rattle.std.specs.List.{AllByRecursion}
use Rattle.px_base.specs.CallSign.{IsCall}
use Rattle.file_store_model.specs.Limits.{longest_file, most_entries}
use Rattle.file_store_model.specs.Store.{Entry, Holding, partial, complete, Store, blocks_of}

-- as many octets as the file has, if it is complete, and no more before
abbrev pub FitsLength : Holding → ℕ → Type 0
FitsLength (partial held) file_length = length held ≤ file_length
FitsLength (complete octets moment) file_length = length octets ≡ file_length

-- the numbers of the entries rise, the first is at least `low`, and all are below `next`;
-- each entry's octets fit its length, which is at most the longest file's
abbrev pub AreEntries : ℕ → List Entry → ℕ → Type 0
AreEntries low [] next = ⊤
AreEntries low (entry ∷ entries) next =
    (low ≤ entry.number) × (entry.number < next) × FitsLength entry.holding entry.length × (entry.length ≤ longest_file)
    × AreEntries (entry.number + 1) entries next

-- the caller of each entry is a call
abbrev pub HaveCallers : List Entry → Type 0
HaveCallers entries = AllByRecursion (λ e. IsCall e.caller) entries

-- the numbers rise from 1 on, each file fits, each caller is a call, and there are no more entries and blocks than may
-- be
pub record IsStore (store : Store) : Type 0 where
  pub entries : AreEntries 1 store.entries store.next
  pub callers : HaveCallers store.entries
  pub next : 1 ≤ store.next
  pub count : length store.entries ≤ most_entries
  pub blocks : blocks_of store ≤ store.blocks
  pub some : 1 ≤ store.blocks
  pub most : store.blocks ≤ 65536
