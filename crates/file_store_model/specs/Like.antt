-- Stores that are like each other except for the octets of their files.
use Rattle.std.specs.Prelude.{◌≡◌, List, [], ◌∷◌, length, ⊤}
use Rattle.file_store_model.specs.Store.{Entry, Holding, Store, complete, partial}

-- a file has come as far as another, whatever its octets
abbrev pub IsAsFar : Holding → Holding → Type 0
IsAsFar (partial one) (partial other) = length one ≡ length other
IsAsFar (partial one) (complete other moment) = ⊥
IsAsFar (complete one moment) (partial other) = ⊥
IsAsFar (complete one moment) (complete other then) = (length one ≡ length other) × (moment ≡ then)

-- The one entry is the other, except for its octets, which are as many.
pub record IsEntryLike (one other : Entry) : Type 0 where
  pub number : one.number ≡ other.number
  pub caller : one.caller ≡ other.caller
  pub length : one.length ≡ other.length
  pub begun : one.begun ≡ other.begun
  pub holding : IsAsFar one.holding other.holding

-- the same of all entries, in order
abbrev pub AreLike : List Entry → List Entry → Type 0
AreLike [] [] = ⊤
AreLike [] (other ∷ others) = ⊥
AreLike (one ∷ ones) [] = ⊥
AreLike (one ∷ ones) (other ∷ others) = IsEntryLike one other × AreLike ones others

-- The one store is the other, except for the octets of its entries, which are as many.
pub record IsStoreLike (one other : Store) : Type 0 where
  pub entries : AreLike one.entries other.entries
  pub next : one.next ≡ other.next
  pub blocks : one.blocks ≡ other.blocks
