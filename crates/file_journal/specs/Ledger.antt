-- What is made of a ledger by the records of a journal.
use Rattle.std.specs.Prelude.{◌≡◌, ◌↔◌, ℕ, ◌+◌, List, [], ◌∷◌, length, Bool, true, false, Option, Some, IsSome, IfSome, Result, Ok, IsErrOf, OnOk}
use Rattle.file_journal.specs.Layout.{Blocks, block_in}
use Rattle.file_journal.specs.Position.{Position, left_to_read}
use Rattle.file_journal.specs.Records.{Reading, Record, whole, with_record, with_records}
use Rattle.file_journal.specs.Walk.{damaged_at, state, walk_left}
use Rattle.file_journal.specs.declared.faults.ReadFault.{ReadFault}
use Rattle.file_journal.specs.declared.faults.ReadFault.TheVariants as fault

-- these records, each allowed by the state before it, take the one state to the other
abbrev pub Takes : {S : Type 0} → (S → Record → Option S) → S → List Record → S → Type 0
Takes step before [] now = now ≡ before
Takes step before (entry ∷ entries) now =
    (after : _) × (step before entry ≡ Some after) × Takes step after entries now

-- the state is the one after some of the records that were left, in order from the first, each of which is allowed
abbrev pub AppliesSome : {S : Type 0} → (Blocks → S → Record → Option S) → Position → S → S → List ℕ → Type 0
AppliesSome step journal before now octets =
    (entries : List Record) × (later : Reading) × (left_to_read journal octets ≡ with_records entries later)
    × Takes (step (block_in octets)) before entries now

-- the first record of what was read is one that the state allows
abbrev pub AllowsNext : {S : Type 0} → (S → Record → Option S) → S → Reading → Type 0
AllowsNext step now reading =
    (entry : Record) × (later : Reading) × (reading ≡ with_record entry later) × IsSome (step now entry)

-- the state is the one after some of the records that were left, in order from the first, each of which is allowed, and
-- it allows the next one, for which memory may be wanted
abbrev pub WantsMemory : {S : Type 0} → (Blocks → S → Record → Option S) → Position → S → S → List ℕ → Type 0
WantsMemory step journal before now octets =
    (entries : List Record) × (later : Reading) × (left_to_read journal octets ≡ with_records entries later)
    × Takes (step (block_in octets)) before entries now × AllowsNext (step (block_in octets)) now later

-- All that is left is read and applied, and the state is the one that this comes to; or it comes to damage, and
-- `Damaged` is answered exactly there.
pub record AppliesAll {S T : Type 0}
    (step : S → Record → Option S)
    (journal : Position)
    (before now : S)
    (octets : List ℕ)
    (result : Result T ReadFault)
    : Type 0 where
  pub ok : OnOk result (walk_left step journal before octets ≡ state now)
  pub damaged :
      (at : ℕ) → IsErrOf result (fault.Damaged at) ↔ (walk_left step journal before octets ≡ damaged_at at)

-- but for a fault of the disk and want of memory, and where the content is told
abbrev pub AnswersAll :
    {S T : Type 0}
    → (Blocks → S → Record → Option S) → Position → S → S → Option (List ℕ) → Result T ReadFault → Type 0
AnswersAll step journal before now content result =
    ¬ IsErrOf result fault.Disk → ¬ IsErrOf result fault.OutOfMemory
    → IfSome content (λ octets. AppliesAll (step (block_in octets)) journal before now octets result)

-- The next record is this one, the state allows it, and it is applied and passed.
pub record AppliesOne {S : Type 0}
    (step : S → Record → Option S)
    (old new : Position)
    (before now : S)
    (octets : List ℕ)
    (entry : Record)
    : Type 0 where
  pub left : left_to_read old octets ≡ with_record entry (left_to_read new octets)
  pub place : new.place ≡ old.place + 4 + length entry.content
  pub allowed : step before entry ≡ Some now

-- The next record is applied, or there is none, or what is left comes to damage.
pub record AppliesNext {S : Type 0}
    (step : S → Record → Option S)
    (old new : Position)
    (before now : S)
    (octets : List ℕ)
    (result : Result Bool ReadFault)
    : Type 0 where
  pub some : result ≡ Ok true → (entry : Record) × AppliesOne step old new before now octets entry
  pub none : result ≡ Ok false → (left_to_read old octets ≡ whole []) × (now ≡ before)
  pub damaged : (at : ℕ) → IsErrOf result (fault.Damaged at) → walk_left step old before octets ≡ damaged_at at
