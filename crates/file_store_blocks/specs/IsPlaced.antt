-- What is true of each store of placed files that the commands make.
use Rattle.std.specs.Prelude.{◌≡◌, ◌⊎◌, ℕ, ◌+◌, ◌*◌, ◌≤◌, ◌<◌, List, [], ◌∷◌, length, All, IsSome, IfSome, None, ⊤}
use Rattle.std.specs.List.{AllByRecursion}
use Rattle.file_store_blocks.specs.Placed.{Placed, PlacedStore, runs_of}
use Rattle.file_store_blocks.specs.Seen.{header_in, octets_in, sum_with}
use Rattle.file_store_blocks.specs.BlockTable.Table.{rooms_of, times_of}
use Rattle.file_store_model.specs.Limits.{longest_file, most_entries}
use Rattle.file_store_model.specs.Store.{blocks_for}
use Rattle.file_journal.specs.Layout.{Blocks}
use Rattle.pfh_items.specs.Faults.{fault_code}
use Rattle.px_base.specs.CallSign.{IsCall}

-- the numbers of the files rise, the first is at least `low`, and all are below `next`
abbrev pub Rise : ℕ → List Placed → ℕ → Type 0
Rise low [] next = ⊤
Rise low (file ∷ files) next = (low ≤ file.number) × (file.number < next) × Rise (file.number + 1) files next

-- The caller is a call. No more octets are held than the file has, all if it is sealed, and its header is no longer.
-- They take as few blocks as they may: each of these is full, unless all octets are held. The blocks are among this
-- number of them.
pub record IsPlacedFile (limit : ℕ) (file : Placed) : Type 0 where
  pub caller : IsCall file.caller
  pub short : file.length ≤ longest_file
  pub fits : file.held ≤ file.length
  pub whole : IsSome file.seal → file.held ≡ file.length
  pub header : IfSome file.seal (λ s. s.header ≤ file.held)
  pub count : length file.blocks ≡ blocks_for file.held
  pub full : (file.held ≡ file.length) ⊎ (file.held ≡ 512 * length file.blocks)
  pub below : All (λ b. b < limit) file.blocks

-- the same of each file
abbrev pub ArePlaced : ℕ → List Placed → Type 0
ArePlaced limit files = AllByRecursion (IsPlacedFile limit) files

-- The numbers rise from 1 on, each file is one, no block occurs twice, be it in one file or in two, and there are no
-- more entries and blocks than may be.
pub record IsPlaced (store : PlacedStore) : Type 0 where
  pub numbers : Rise 1 store.entries store.next
  pub files : ArePlaced store.blocks store.entries
  pub once : (block : ℕ) → times_of block (runs_of store.entries) ≤ 1
  pub next : 1 ≤ store.next
  pub few : length store.entries ≤ most_entries
  pub rooms : rooms_of (runs_of store.entries) ≤ store.blocks

-- The octets of a sealed file keep all rules of headers, and its seal has the sum of its stamped header, and the
-- header's length.
abbrev pub KeepsSeal : Blocks → Placed → Type 0
KeepsSeal held file =
    IfSome file.seal (λ s.
    (fault_code (octets_in held file) ≡ None)
    × (s.sum ≡ sum_with s.moment file (octets_in held file)) × (s.header ≡ header_in held file))

-- the same of each file
abbrev pub KeepsSeals : Blocks → PlacedStore → Type 0
KeepsSeals held store = AllByRecursion (KeepsSeal held) store.entries
