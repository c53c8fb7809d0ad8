-- What octets stand for where each record has to be one that the state before it allows. A step gives the state after a
-- record, where the state before it allows that record.
use Rattle.std.specs.Prelude.{◌≡◌, ℕ, ◌+◌, List, [], ◌∷◌, length, true, false, Option, None, Some, IfSome}
use Rattle.disk_model.specs.declared.disk.Disk.{Ghosts}
use Rattle.disk_model.specs.Runs.{IsQuietNow}
use Rattle.file_journal.specs.Journal as journal
use Rattle.file_journal.specs.Journal.{IsSameStore, Standing, journal_of, with_last}
use Rattle.file_journal.specs.Layout.{half_gate, half_in}
use Rattle.file_journal.specs.Position.{Position, StandsOn, left_to_read}
use Rattle.file_journal.specs.Records.{Reading, Record, broken, whole}
use Rattle.file_journal.specs.declared.layout.Half.{Half}
use Rattle.file_journal.specs.declared.layout.Layout.{Layout}

-- What octets stand for: for no store, since they begin with these eight octets; for none, by what stands at this
-- place; or for this state.
pub data Stands (S : Type 0) : Type 0 where
  no_store : List ℕ → Stands S
  damaged_at : ℕ → Stands S
  state : S → Stands S

-- on from the state after the record behind the gate at this place; where there is none, that gate is damage
abbrev pub on_from : {S : Type 0} → ℕ → Option S → (S → Stands S) → Stands S
on_from place None on = damaged_at place
on_from place (Some after) on = on after

-- over these records from the gate at this place on, and then on from the state after them
abbrev pub walk_over : {S : Type 0} → (S → Record → Option S) → (S → Stands S) → S → ℕ → List Record → Stands S
walk_over step on before place [] = on before
walk_over step on before place (entry ∷ entries) =
    on_from place (step before entry) (λ after. walk_over step on after (place + 4 + length entry.content) entries)

-- The state after what was read from the gate at this place on. The first record that the state before it doesn't allow
-- is damage at its gate; where each is allowed, what ends the reading decides.
abbrev pub walk : {S : Type 0} → (S → Record → Option S) → S → ℕ → Reading → Stands S
walk step before place (whole entries) = walk_over step (λ after. state after) before place entries
walk step before place (broken entries at) = walk_over step (λ after. damaged_at at) before place entries

-- what is left to read from this state on
abbrev pub walk_left : {S : Type 0} → (S → Record → Option S) → Position → S → List ℕ → Stands S
walk_left step position before octets = walk step before position.place (left_to_read position octets)

-- the block number, or this one where there is none yet
abbrev pub number_or : ℕ → Option ℕ → ℕ
number_or blocks None = blocks
number_or blocks (Some number) = number

-- what a store of this layout stands for, whose records are in this half, and whose state before the first record is
-- the fresh one of its block number; where it has no number yet, that of the number `blocks`
abbrev pub stands_of : {S : Type 0} → (ℕ → S) → (S → Record → Option S) → Layout → Half → ℕ → Standing → Stands S
stands_of fresh step layout chosen blocks (journal.no_store found) = no_store found
stands_of fresh step layout chosen blocks journal.bad_number = damaged_at 8
stands_of fresh step layout chosen blocks (journal.store number reading) =
    walk step (fresh (number_or blocks number)) (half_gate layout (number_or blocks number) chosen) reading

-- what the octets of a disk stand for
abbrev pub stands_for : {S : Type 0} → (ℕ → S) → (S → Record → Option S) → List ℕ → Layout → ℕ → List ℕ → Stands S
stands_for fresh step magic layout blocks octets =
    stands_of fresh step layout (half_in layout octets) blocks (journal_of magic layout octets)

-- octets stand for what other octets stood for
abbrev pub StandAsBefore :
    {S : Type 0} → (ℕ → S) → (S → Record → Option S) → List ℕ → Layout → ℕ → List ℕ → List ℕ → Type 0
StandAsBefore fresh step magic layout blocks before octets =
    stands_for fresh step magic layout blocks octets ≡ stands_for fresh step magic layout blocks before

-- what octets stand for, with each state seen so
abbrev pub see : {S V : Type 0} → (S → V) → Stands S → Stands V
see seen (no_store found) = no_store found
see seen (damaged_at at) = damaged_at at
see seen (state now) = state (seen now)

-- The journal stands on its disk. It has failed; or it is read to its end, the content, where it is told, stands so,
-- and a crash since this moment leaves nothing else.
pub record KeepsStanding {D : Type 0} (g : Ghosts D) (position : Position) (stands : List ℕ → Type 0) (disk : D)
    : Type 0 where
  pub stands_on : StandsOn g position disk
  pub ended : position.failed ≡ false → position.ended ≡ true
  pub content : position.failed ≡ false → IfSome (g.content disk) stands
  pub quiet : position.failed ≡ false → IsQuietNow g disk

-- A record that the state allows, put at the end of a store, takes what it stands for to the state after it.
abbrev pub IsOneStep : {S : Type 0} → (S → Record → Option S) → Type 0
IsOneStep {S} step =
    (fresh : ℕ → S) (layout : Layout) (chosen : Half) (blocks : ℕ) (store : Standing) (before after : S)
    (entry : Record)
    → stands_of fresh step layout chosen blocks store ≡ state before → step before entry ≡ Some after
    → stands_of fresh step layout chosen blocks (with_last store entry) ≡ state after

-- The same store stands for the same, whether it had its block number already or gets it.
abbrev pub StandsForSame : {S : Type 0} → (S → Record → Option S) → Type 0
StandsForSame {S} step =
    (fresh : ℕ → S) (layout : Layout) (chosen : Half) (blocks : ℕ) (before now : Standing)
    → IsSameStore blocks before now
    → stands_of fresh step layout chosen blocks now ≡ stands_of fresh step layout chosen blocks before
