-- What a journal answers of the record at its place.
use Rattle.std.specs.Prelude.{◌≡◌, ◌↔◌, ℕ, ◌≤◌, ◌^◌, List, length, take, [], Option, None, IfOk, IfSome, Result, Ok}
use Rattle.std.specs.Prelude.{IsErrOf}
use Rattle.disk_model.specs.declared.disk.Disk.{Ghosts}
use Rattle.file_journal.specs.Layout.{up_to}
use Rattle.file_journal.specs.Position.{Position, end_of, left_to_read}
use Rattle.file_journal.specs.Records.{HasRecord, broken, reading_at, record_of, whole, with_record}
use Rattle.file_journal.specs.declared.faults.RecoverFault.{RecoverFault}
use Rattle.file_journal.specs.declared.faults.RecoverFault.TheVariants as fault

-- the disk has so many octets at least, where they are told, and 2 ^ 63 at most
pub record HasOctets {D : Type 0} (g : Ghosts D) (disk : D) (end : ℕ) : Type 0 where
  pub told : IfSome (g.content disk) (λ octets. end ≤ length octets)
  pub most : end ≤ 2 ^ 63

-- the disk has so many octets at least, and those before this place, which is in the journal's half or ends it, are
-- what the journal reads of them
pub record IsReadable {D : Type 0} (g : Ghosts D) (journal : Position) (disk : D) (end : ℕ) : Type 0 where
  pub octets : HasOctets g disk end
  pub within : IfSome (end_of journal) (λ half_end. end ≤ half_end)
  pub told : IfSome (g.content disk) (λ octets. up_to (end_of journal) octets ≡ take end octets)

-- What is left is this record and then what is left afterwards; `None` comes exactly where no record is left before the
-- first gate that isn't open, and `Damaged` exactly where none is left before damage.
pub record ReadsNext (old new : Position) (room octets : List ℕ) (result : Result (Option ℕ) RecoverFault)
    : Type 0 where
  pub found :
      IfOk result (λ next. IfSome next (λ kind.
      left_to_read old octets ≡ with_record (record_of kind room) (left_to_read new octets)))
  pub none : (result ≡ Ok None) ↔ (left_to_read old octets ≡ whole [])
  pub damaged :
      (at : ℕ) → IsErrOf result (fault.Damaged at) ↔ ((at ≡ old.place) × (left_to_read old octets ≡ broken [] at))

-- but for a fault of the disk, and where the content is told
abbrev pub AnswersNext : Position → Position → List ℕ → Option (List ℕ) → Result (Option ℕ) RecoverFault → Type 0
AnswersNext old new room content result =
    ¬ IsErrOf result fault.Disk → IfSome content (λ octets. ReadsNext old new room octets result)

-- where a record was found behind the gate at this place, before this end, it is one of this kind with what is in the
-- room
abbrev pub FindsRecord : ℕ → ℕ → List ℕ → Option (List ℕ) → Option ℕ → Type 0
FindsRecord place end room content next =
    IfSome next (λ kind. IfSome content (λ octets. HasRecord place (record_of kind room) (take end octets)))

-- A refusal is for damage at this place, before this end.
pub record RefusesAt {T : Type 0} (place end : ℕ) (content : Option (List ℕ)) (result : Result T RecoverFault)
    : Type 0 where
  pub damaged :
      (at : ℕ) → IsErrOf result (fault.Damaged at)
      → (at ≡ place) × IfSome content (λ octets. reading_at place (take end octets) ≡ broken [] place)
  pub is_store : (found : List ℕ) → ¬ IsErrOf result (fault.NotAStore found)
