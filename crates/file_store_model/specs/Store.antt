-- What a store of files holds: its entries in rising number, the number that the next one gets, and how many
-- blocks of 512 octets it may take.
use Rattle.std.specs.Prelude.{ℕ, ◌+◌, ◌/◌, ◌==◌, List, [], ◌-◌, length, find, sum_by, Option, None, Some}
use Rattle.std.specs.Option.{option_map}
use Rattle.px_base.specs.CallSign.{CallSign}

-- how far a file has come: the octets held so far; or all of its octets, and the moment in which it was sealed
pub data Holding : Type 0 where
  partial : List ℕ → Holding
  complete : List ℕ → ℕ → Holding

-- the octets held, or all of them
abbrev pub octets_of : Holding → List ℕ
octets_of (partial held) = held
octets_of (complete octets moment) = octets

-- these octets, with the moment in which they were sealed, if they were
abbrev pub holding_of : List ℕ → Option ℕ → Holding
holding_of octets None = partial octets
holding_of octets (Some moment) = complete octets moment

-- a file: its number, whose it is, its length in octets, the moment in which it was begun, and how far it has come
pub record Entry : Type 0 where
  pub number : ℕ
  pub caller : CallSign
  pub length : ℕ
  pub begun : ℕ
  pub holding : Holding

-- the entry of a file that was just begun
abbrev pub new_entry : ℕ → CallSign → ℕ → ℕ → Entry
new_entry number caller file_length moment =
    record { number = number; caller = caller; length = file_length; begun = moment; holding = partial [] }

pub record Store : Type 0 where
  pub entries : List Entry
  pub next : ℕ
  pub blocks : ℕ

-- a store by its parts
abbrev pub store_from : List Entry → ℕ → ℕ → Store
store_from entries next blocks = record { entries = entries; next = next; blocks = blocks }

-- nothing is held yet, and the first number is 1
abbrev pub empty_store : ℕ → Store
empty_store blocks = store_from [] 1 blocks

-- how many blocks of 512 octets a file of this length takes
abbrev pub blocks_for : ℕ → ℕ
blocks_for file_length = (file_length + 511) / 512

-- how many blocks the files take together, those under way at their whole length
abbrev pub blocks_of : Store → ℕ
blocks_of store = sum_by (λ e. blocks_for e.length) store.entries

-- how many entries there are
abbrev pub entry_count : Store → ℕ
entry_count store = length store.entries

-- how many blocks are free
abbrev pub free_blocks : Store → ℕ
free_blocks store = store.blocks - blocks_of store

-- the entry of this number
abbrev pub entry_of : Store → ℕ → Option Entry
entry_of store number = find (λ e. e.number == number) store.entries

-- how far the file of this number has come
abbrev pub holding_of_number : Store → ℕ → Option Holding
holding_of_number store number = option_map (λ e. e.holding) (entry_of store number)

-- the octets of an entry, if there is one
abbrev pub octets_at : Option Entry → List ℕ
octets_at None = []
octets_at (Some entry) = octets_of entry.holding
