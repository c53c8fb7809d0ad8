-- What an append does to the octets of a disk, and what a crash in it leaves.
use Rattle.std.specs.Prelude.{◌≡◌, ◌⊎◌, ℕ, ◌+◌, ◌≤◌, List, [], ◌∷◌, ◌++◌, length, take, drop, false, IfSome, OnOk, Result}
use Rattle.disk_model.specs.Disk.{Torn}
use Rattle.disk_model.specs.Moments.{LeavesSince}
use Rattle.disk_model.specs.declared.disk.Disk.{Ghosts}
use Rattle.disk_model.specs.Runs.{Leaves}
use Rattle.file_journal.specs.Journal.{IsBeforeOrAfter, with_last}
use Rattle.file_journal.specs.Position.{Position, store_in}
use Rattle.file_journal.specs.Records.{Record, record_text}

-- torn from an image from before: any octets in this range and past the old end, the same elsewhere
abbrev pub IsTornFrom : (List ℕ → Type 0) → ℕ → ℕ → List ℕ → Type 0
IsTornFrom images at count image = (old : List ℕ) × images old × Torn at count old image

-- with this gate at this place, and a record's octets behind it
abbrev pub with_gate : ℕ → ℕ → List ℕ → List ℕ → List ℕ
with_gate place gate text octets = take place octets ++ gate ∷ text ++ drop (place + 1 + length text) octets

-- What an append makes of the content: the gate is open and the record stands behind it, with a closed gate behind that;
-- the store has one record more.
pub record Appends (journal : Position) (entry : Record) (before now : List ℕ) : Type 0 where
  pub octets : now ≡ with_gate journal.place 1 (record_text entry ++ 0 ∷ []) before
  pub store : store_in journal now ≡ with_last (store_in journal before) entry

-- What a crash in an append leaves: the records from before, or these and the new one; and outside the gate, the record
-- and the gate behind it, the octets of an image from before.
pub record IsAppending (journal : Position) (entry : Record) (images : List ℕ → Type 0) (before image : List ℕ)
    : Type 0 where
  pub store : IsBeforeOrAfter (store_in journal before) entry (store_in journal image)
  pub beside : IsTornFrom images journal.place (5 + length entry.content) image

-- since the append began
abbrev pub LeavesAppending : {D : Type 0} → Ghosts D → Position → Record → D → D → Type 0
LeavesAppending g journal entry old new = Leaves g old new (IsAppending journal entry (g.images old))

-- Where no append failed before, a crash since the moment in which it began leaves the records from before, or these and
-- the new one.
abbrev pub LeavesBeforeOrAfter : {D : Type 0} → Ghosts D → Position → Record → D → D → Type 0
LeavesBeforeOrAfter g journal entry old new =
    journal.failed ≡ false
    → IfSome (g.content old) (λ before. LeavesSince (g.moment old) (g.images_since new)
    (λ image. IsBeforeOrAfter (store_in journal before) entry (store_in journal image)))

-- It takes so many writes and syncs, where the content is told and none of them failed; and at most so many.
pub record TakesCalls {D T E : Type 0} (g : Ghosts D) (count : ℕ) (old new : D) (result : Result T E) : Type 0 where
  pub each : OnOk result (IfSome (g.content old) (λ _. g.moment new ≡ g.moment old + count))
  pub at_most : g.moment new ≤ g.moment old + count

-- these octets are put behind the gate at this place, and it is opened
abbrev pub OpensGate : ℕ → List ℕ → List ℕ → List ℕ → Type 0
OpensGate place text before now = now ≡ with_gate place 1 text before

-- A crash while a record is put behind the gate at this place: the gate is as it was in an image from before, and the
-- record torn; or the record stands whole behind whatever gate.
abbrev pub IsPutting : ℕ → List ℕ → (List ℕ → Type 0) → List ℕ → List ℕ → Type 0
IsPutting place text images before image =
    IsTornFrom images (place + 1) (length text) image ⊎ ((gate : ℕ) × (image ≡ with_gate place gate text before))
