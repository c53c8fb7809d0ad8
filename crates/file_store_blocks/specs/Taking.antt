-- What a taker of pieces took of a file.
use Rattle.std.specs.Prelude.{◌≡◌, ℕ, ◌+◌, ◌≤◌, List, [], length, take, Option}
use Rattle.disk_model.specs.Disk.{IsTold}
use Rattle.file_store_model.specs.Limits.{longest_file}

module _ {S T : Type 0} (took : S → T → List ℕ → Type 0) where
  -- it took nothing
  abbrev pub IsFresh : T → Type 0
  IsFresh taker = (setting : S) × took setting taker []

  -- it may take this many octets more
  pub record HasRoomFor (taker : T) (more : ℕ) : Type 0 where
    pub setting : S
    pub fed : List ℕ
    pub has : took setting taker fed
    pub most : length fed + more ≤ longest_file

  -- One that had taken nothing took this many octets: if the disk's content is observed, the first of these.
  pub record TookFront (content : Option (List ℕ)) (octets : List ℕ) (count : ℕ) (old new : T) : Type 0 where
    pub fed : List ℕ
    pub size : length fed ≡ count
    pub is : IsTold content → fed ≡ take count octets
    pub took_all : (setting : S) → took setting old [] → took setting new fed
