-- The disk faults of an event. A part of an event is one packet that is taken, or one DATA that is due; the parts are
-- numbered in order through the event, from 0 on.
use Rattle.std.specs.Prelude.{◌≡◌, ℕ, ◌==◌, List, [], ◌∷◌, Bool, true, false, ◌&&◌, map}
use Rattle.std.specs.List.{list_any}

-- what failed: a read; or a write or a sync
pub data Fault : Type 0 where
  read_fault : Fault
  write_fault : Fault

abbrev pub is_read_fault : Fault → Bool
is_read_fault read_fault = true
is_read_fault write_fault = false

abbrev pub is_write_fault : Fault → Bool
is_write_fault read_fault = false
is_write_fault write_fault = true

-- the part of this number met this fault
pub record Failure : Type 0 where
  pub part : ℕ
  pub fault : Fault

-- whether this part is listed with a read that failed
abbrev pub read_fails : List Failure → ℕ → Bool
read_fails failures part = list_any (λ failure. (failure.part == part) && is_read_fault failure.fault) failures

-- whether this part is listed with a write or a sync that failed
abbrev pub write_fails : List Failure → ℕ → Bool
write_fails failures part = list_any (λ failure. (failure.part == part) && is_write_fault failure.fault) failures

-- no part is listed with a read that failed
abbrev pub NoReadFails : List Failure → Type 0
NoReadFails failures = (part : ℕ) → read_fails failures part ≡ false

-- nothing failed except a write or a sync of this part
abbrev pub failed_write : ℕ → List Failure
failed_write part = record { part = part; fault = write_fault } ∷ []

-- reads failed at these parts, and nothing else
abbrev pub failed_reads : List ℕ → List Failure
failed_reads parts = map (λ part. record { part = part; fault = read_fault }) parts
