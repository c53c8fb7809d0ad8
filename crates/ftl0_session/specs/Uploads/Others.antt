-- What a session leaves of the files of other callers.
use Rattle.std.specs.Prelude.{◌≡◌, ◌≢◌, ℕ, Some}
use Rattle.px_base.specs.CallSign.{CallSign}
use Rattle.file_store.specs.Store.{Entry, entry_of}
use Rattle.file_store.specs.State.{StoreState, rest_in, store_in}
use Rattle.file_store.specs.Upload.{Holds, Upload}

-- Each upload of another caller that the store holds it still holds. An entry of another caller was there before, and
-- the same upload of it is out, with the same octets, or none.
pub record KeepsOtherCallers (before now : StoreState) (caller : CallSign) : Type 0 where
  pub uploads : (up : Upload) → up.caller ≢ caller → Holds before up → Holds now up
  pub entries :
      (number : ℕ) (entry : Entry) → entry.caller ≢ caller → entry_of (store_in now) number ≡ Some entry
      → (entry_of (store_in before) number ≡ Some entry) × (rest_in now number ≡ rest_in before number)
