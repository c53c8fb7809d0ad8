-- What a journal holds: where it is among the records of its disk, and whether it may go on.
use Rattle.std.specs.Prelude.{◌≡◌, ◌≢◌, ◌⊎◌, ℕ, ◌+◌, ◌-◌, ◌^◌, ◌≤◌, List, [], length, Bool, false, true, nat_le}
use Rattle.std.specs.Prelude.{if◌then◌else◌, Option, None, Some, IfSome}
use Rattle.px_base.specs.Octets.{IsOctets}
use Rattle.disk_model.specs.declared.disk.Disk.{Ghosts}
use Rattle.disk_model.specs.Runs.{images_now}
use Rattle.file_journal.specs.Journal.{Standing, journal_of, store_of}
use Rattle.file_journal.specs.Layout.{first_gate, half_end, half_gate, half_in, up_to}
use Rattle.file_journal.specs.declared.layout.Half.{Half}
use Rattle.file_journal.specs.Records.{Record, Reading, whole, records_text, with_records, reading_at}
use Rattle.file_journal.specs.declared.layout.Layout.{Layout}
use Rattle.file_journal.specs.declared.layout.Layout.TheVariants as layout

-- A journal: the magic, the layout and the block number of its store, in which half its records are, the place of the
-- next gate, whether it was read as one that isn't open, and whether a write or a sync of the journal failed.
pub record Position : Type 0 where
  pub magic : List ℕ
  pub layout : Layout
  pub blocks : ℕ
  pub half : Half
  pub place : ℕ
  pub ended : Bool
  pub failed : Bool

-- the place of the first gate of the journal's records
abbrev pub gate_of : Position → ℕ
gate_of journal = half_gate journal.layout journal.blocks journal.half

-- where the journal's records end, if they do
abbrev pub end_of : Position → Option ℕ
end_of journal = half_end journal.layout journal.blocks journal.half

-- There is room for so many octets behind the gate at the journal's place.
abbrev pub HasRoom : Position → ℕ → Type 0
HasRoom journal count = IfSome (end_of journal) (λ end. journal.place + 1 + count ≤ end)

-- how many octets there is room for behind that gate; 2 ^ 62 where the records have no end
abbrev pub room_in : ℕ → Option ℕ → ℕ
room_in place None = 2 ^ 62
room_in place (Some end) = end - place - 1

-- what is read of so many octets ends there
abbrev pub readable : Option ℕ → ℕ → ℕ
readable None len = len
readable (Some end) len = if nat_le len end then len else end

-- But for its half and its place there, and whether it failed, a journal is as it was; and where there are no two
-- halves, it stays in its half.
pub record IsSameJournal (old new : Position) : Type 0 where
  pub same : new ≡ record old { half = new.half; place = new.place; failed = new.failed }
  pub half : old.layout ≢ layout.Halves → new.half ≡ old.half

-- It goes on in its half, so many octets behind its place.
pub record MovesOn (count : ℕ) (old new : Position) : Type 0 where
  pub half : new.half ≡ old.half
  pub place : new.place ≡ old.place + count

-- a journal at the first gate of this half, with nothing read
abbrev pub position_at_first : List ℕ → Layout → ℕ → Half → Position
position_at_first magic layout blocks chosen =
    record {
      magic = magic;
      layout = layout;
      blocks = blocks;
      half = chosen;
      place = half_gate layout blocks chosen;
      ended = false;
      failed = false;
    }

-- what stands in the octets of a disk, read as the journal's store
abbrev pub store_in : Position → List ℕ → Standing
store_in journal octets = journal_of journal.magic journal.layout octets

-- what stands in the octets from the journal's place on, up to the end of its half
abbrev pub left_to_read : Position → List ℕ → Reading
left_to_read journal octets = reading_at journal.place (up_to (end_of journal) octets)

-- The octets are the journal's store, whose records are in its half, and it has passed these of them; what is left from
-- its place on are the others, and none where the end was read.
pub record IsAt (journal : Position) (passed : List Record) (octets : List ℕ) : Type 0 where
  pub are_octets : IsOctets octets
  pub formatted : first_gate journal.layout journal.blocks + 2 ≤ length octets
  pub half : half_in journal.layout octets ≡ journal.half
  pub place : journal.place ≡ gate_of journal + length (records_text passed)
  pub records : store_in journal octets ≡ store_of journal.blocks (with_records passed (left_to_read journal octets))
  pub ended : journal.ended ≡ true → left_to_read journal octets ≡ whole []

-- The journal has failed; or the content, where it is told, and each image stand for the same records, and the
-- journal's magic, block number, place and end are theirs.
abbrev pub StandsAmong : Position → Option (List ℕ) → (List ℕ → Type 0) → Type 0
StandsAmong journal content images =
    (journal.failed ≡ true)
    ⊎ IfSome content (λ octets. (passed : List Record) × IsAt journal passed octets
    × ((image : List ℕ) → images image
    → IsAt journal passed image × (left_to_read journal image ≡ left_to_read journal octets)))

-- the same of a disk, with what a crash since this moment might have left
abbrev pub StandsOn : {D : Type 0} → Ghosts D → Position → D → Type 0
StandsOn g journal disk = StandsAmong journal (g.content disk) (images_now g disk)
