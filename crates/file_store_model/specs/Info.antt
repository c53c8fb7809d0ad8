-- What a store reports about an entry.
use Rattle.std.specs.Prelude.{◌≡◌, ℕ, ◌≤◌, ◌<◌, length, Bool, true, false, Option, None, Some, IsTrue}
use Rattle.file_store_model.specs.declared.info.Info.{Info}
use Rattle.file_store_model.specs.Store.{Entry, Holding, partial, complete, Store, entry_of, octets_of}

-- whether the file is whole and sealed
abbrev pub is_complete : Holding → Bool
is_complete (partial held) = false
is_complete (complete octets moment) = true

-- what the entry shows
abbrev pub info_of : Entry → Info
info_of entry =
    record {
      number = entry.number;
      caller = entry.caller;
      length = entry.length;
      held = length (octets_of entry.holding);
      complete = is_complete entry.holding;
      begun = entry.begun;
    }

-- the entry of this number is complete
abbrev pub IsCompleteIn : Store → ℕ → Type 0
IsCompleteIn store number = (entry : Entry) × (entry_of store number ≡ Some entry) × IsTrue (is_complete entry.holding)

-- the least number above this one of a complete entry, or that there is none
abbrev pub IsNextComplete : Store → ℕ → Option ℕ → Type 0
IsNextComplete store above None = (number : ℕ) → above < number → IsCompleteIn store number → ⊥
IsNextComplete store above (Some next) =
    (above < next) × IsCompleteIn store next
    × ((number : ℕ) → above < number → IsCompleteIn store number → next ≤ number)
