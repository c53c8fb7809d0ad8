-- Laws of what the octets of a journal stand for.
use Rattle.std.specs.Prelude.{◌≡◌, ◌⊎◌, ◌↔◌, ℕ, ◌+◌, ◌<◌, List, length, Option, None}
use Rattle.px_base.specs.Octets.{IsOctets}
use Rattle.file_journal.specs.Ledger.{Takes}
use Rattle.file_journal.specs.Records.{Reading, Record, StandsFrom, broken, reading_from, records_text, whole, with_record, with_records}
use Rattle.file_journal.specs.Walk.{Stands, damaged_at, no_store, state, walk}

-- octets from a gate on stand for what is read there, and for nothing else
abbrev pub IsOneReading : Type 0
IsOneReading =
    (place : ℕ) (octets : List ℕ) (reading : Reading) → IsOctets octets → 0 < length octets
    → (StandsFrom place octets reading) ↔ (reading ≡ reading_from place octets)

-- behind these records, which stand from a gate at this place on, comes one that the state after them doesn't allow, and
-- its gate is there
abbrev pub IsRefusedAt :
    {S : Type 0} → (S → Record → Option S) → S → ℕ → List Record → Reading → ℕ → Type 0
IsRefusedAt step now place entries reading at =
    (entry : Record) × (later : Reading) × (reading ≡ with_records entries (with_record entry later))
    × (step now entry ≡ None) × (at ≡ place + length (records_text entries))

-- What is read from a gate at this place on comes to a state: it is records without damage behind them, each allowed, and
-- that is the state after them. It comes to damage: behind records that are allowed one isn't, or there is damage.
abbrev pub ComesTo : {S : Type 0} → (S → Record → Option S) → S → ℕ → Reading → Stands S → Type 0
ComesTo step before place reading (no_store found) = ⊥
ComesTo step before place reading (damaged_at at) =
    (entries : List Record) × (now : _) × Takes step before entries now
    × ((reading ≡ broken entries at) ⊎ IsRefusedAt step now place entries reading at)
ComesTo step before place reading (state now) =
    (entries : List Record) × (reading ≡ whole entries) × Takes step before entries now

-- what is read comes to what the walk over it gives, and to nothing else
abbrev pub IsOneWalk : {S : Type 0} → (S → Record → Option S) → Type 0
IsOneWalk {S} step =
    (before : S) (place : ℕ) (reading : Reading) (stands : Stands S)
    → (ComesTo step before place reading stands) ↔ (stands ≡ walk step before place reading)
