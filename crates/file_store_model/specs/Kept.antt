-- What each command of a store keeps.
use Rattle.std.specs.Prelude.{◌≡◌, ℕ, Some, IsTrue}
use Rattle.file_store_model.specs.Info.{is_complete}
use Rattle.file_store_model.specs.Store.{Entry, Store, entry_of}

-- each complete entry is there as it was
abbrev pub KeepsComplete : Store → Store → Type 0
KeepsComplete before now =
    (number : ℕ) (entry : Entry) → entry_of before number ≡ Some entry → IsTrue (is_complete entry.holding)
    → entry_of now number ≡ Some entry
