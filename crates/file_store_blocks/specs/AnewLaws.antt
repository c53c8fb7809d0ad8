-- The records that rebuild a store are records, have room in a half with one more, and make it.
use Rattle.std.proofs.Common.{◌≡◌, ℕ, ◌+◌, ◌-◌, ◌*◌, ◌≤◌, List, [], ◌∷◌, ◌++◌, length, min, Option, None, Some}
use Rattle.std.proofs.Common.{refl, ap, ◌∙◌, subst, arith, length-append}
use Rattle.std.specs.Prelude.{sum_by}
use Rattle.std.specs.List.{AllByRecursion}
use Rattle.std.proofs.lemmas.List.{map-append}
use Rattle.std.proofs.lemmas.List.Sums.{sum_by-cons}
use Rattle.file_store_blocks.specs.Anew.{anew_records, commands_in, commands_of, grows_in, seals_in, written}
use Rattle.file_store_blocks.specs.IsPlaced.{ArePlaced, IsPlaced, IsPlacedFile}
use Rattle.file_store_blocks.specs.KeptLaws.{room_at, rooms_files}
use Rattle.file_store_blocks.specs.MadeLaws.{all_blocks, all_made, nothing_made}
use Rattle.file_store_blocks.specs.Placed.{Placed, PlacedStore, Seal}
use Rattle.file_store_blocks.specs.PlacedCommand.{PlacedCommand, begin, grow, seen_command}
use Rattle.file_store_blocks.specs.PlacedForm.{placed_steps}
use Rattle.file_store_blocks.specs.PlacedRecords.{read_step, record_of_placed, record_of_recorded}
use Rattle.file_store_blocks.specs.ReadLaws.{read_placed}
use Rattle.file_store_blocks.specs.ReadStore.{next_is, nothing_read}
use Rattle.file_store_blocks.specs.RecordLaws.{any_record, begin_len, next_is_record}
use Rattle.file_store_blocks.specs.WalkedLaws.{makes_anew}
use Rattle.file_store_model.specs.Command.{HasCall}
use Rattle.file_journal.specs.Layout.{half_size}
use Rattle.file_journal.specs.Ledger.{Takes}
use Rattle.file_journal.specs.Records.{IsRecord, Record, record_text, records_text}
use Rattle.file_journal.specs.Steps.{MakesAnew}

-- ---- they have room

length_texts :
    (one other : List Record)
    → length (records_text (one ++ other)) ≡ length (records_text one) + length (records_text other)
length_texts [] other = omega arith
length_texts (entry ∷ entries) other =
    omega (
      arith,
      length_texts entries other,
      length-append (record_text entry) (records_text (entries ++ other)),
      length-append (record_text entry) (records_text entries),
    )

pub length_record :
    (entry : Record) (entries : List Record)
    → length (records_text (entry ∷ entries)) ≡ 4 + length entry.content + length (records_text entries)
length_record entry entries =
    omega (arith, length-append (record_text entry) (records_text entries))

grows_octets :
    (number count : ℕ) (blocks : List ℕ)
    → length (records_text (written (grows_in number count blocks))) ≡ 14 * length blocks
grows_octets number count [] = refl
grows_octets number count (block ∷ blocks) =
    omega (
      arith,
      length_record (record_of_placed (grow number block (min 512 count)))
          (written (grows_in number (count - 512) blocks)),
      grows_octets number (count - 512) blocks,
    )

seals_octets : (number : ℕ) (mark : Option Seal) → length (records_text (written (seals_in number mark))) ≤ 14
seals_octets number None = omega arith
seals_octets number (Some mark) = omega arith

-- the octets of records that are written one after another
written_octets :
    (one other : List PlacedCommand)
    → length (records_text (written (one ++ other)))
    ≡ length (records_text (written one)) + length (records_text (written other))
written_octets one other =
    ap (λ (entries : List Record). length (records_text entries)) (map-append record_of_placed one other)
    ∙ length_texts (written one) (written other)

-- how many blocks a file has
abbrev pub block_count : Placed → ℕ
block_count f = length f.blocks

-- the records of a file have at most 37 octets, and 14 more for each block
file_octets :
    (limit : ℕ) (f : Placed) → IsPlacedFile limit f
    → length (records_text (written (commands_of f))) ≤ 37 + 14 * block_count f
file_octets limit f is =
    let rest = grows_in f.number f.held f.blocks ++ seals_in f.number f.seal in
    omega (
      arith,
      length_record (record_of_placed (begin f.number f.caller f.length f.begun)) (written rest),
      begin_len f.number f.caller f.length f.begun is.caller,
      written_octets (grows_in f.number f.held f.blocks) (seals_in f.number f.seal),
      grows_octets f.number f.held f.blocks,
      seals_octets f.number f.seal,
    )

files_octets :
    (limit : ℕ) (files : List Placed) → ArePlaced limit files
    → length (records_text (written (commands_in files))) ≤ 37 * length files + 14 * sum_by block_count files
files_octets limit [] are = omega arith
files_octets limit (f ∷ fs) are =
    omega (
      arith,
      written_octets (commands_of f) (commands_in fs),
      file_octets limit f are.0,
      files_octets limit fs are.1,
      sum_by-cons block_count f fs,
    )

-- a file has no more blocks than it may
pub blocks_rooms :
    (limit : ℕ) (files : List Placed) → ArePlaced limit files → sum_by block_count files ≤ sum_by room_at files
blocks_rooms limit [] are = omega arith
blocks_rooms limit (f ∷ fs) are =
    omega (
      arith,
      are.0.count,
      are.0.fits,
      blocks_rooms limit fs are.1,
      sum_by-cons block_count f fs,
      sum_by-cons room_at f fs,
    )

-- The records of a store have at most 8 octets, 37 for each entry, and 14 for each block that is used.
pub anew_octets :
    (store : PlacedStore) → IsPlaced store
    → length (records_text (anew_records store))
    ≤ 8 + 37 * length store.entries + 14 * sum_by block_count store.entries
anew_octets store is =
    omega (
      arith,
      length_record (record_of_recorded (next_is store.next)) (written (commands_in store.entries)),
      files_octets store.blocks store.entries is.files,
    )

anew_fits :
    (store : PlacedStore) → IsPlaced store
    → length (records_text (anew_records store)) + 605 ≤ half_size store.blocks
anew_fits store is =
    omega (
      arith,
      anew_octets store is,
      is.few,
      is.rooms,
      rooms_files store.entries,
      blocks_rooms store.blocks store.entries is.files,
    )

-- ---- they are records

-- the caller that it names is a call
abbrev NamesCall : PlacedCommand → Type 0
NamesCall command = HasCall (seen_command (λ b. []) command)

all_then :
    {A : Type 0} (P : A → Type 0) (one other : List A) → AllByRecursion P one → AllByRecursion P other
    → AllByRecursion P (one ++ other)
all_then P [] other all later = later
all_then P (x ∷ xs) other all later = (all.0, all_then P xs other all.1 later)

grows_name :
    (number count : ℕ) (blocks : List ℕ) → AllByRecursion NamesCall (grows_in number count blocks)
grows_name number count [] = tt
grows_name number count (block ∷ blocks) = (tt, grows_name number (count - 512) blocks)

seals_name : (number : ℕ) (mark : Option Seal) → AllByRecursion NamesCall (seals_in number mark)
seals_name number None = tt
seals_name number (Some mark) = (tt, tt)

files_name : (limit : ℕ) (files : List Placed) → ArePlaced limit files → AllByRecursion NamesCall (commands_in files)
files_name limit [] are = tt
files_name limit (f ∷ fs) are =
    all_then NamesCall (commands_of f) (commands_in fs) (
      are.0.caller,
      all_then NamesCall (grows_in f.number f.held f.blocks) (seals_in f.number f.seal)
          (grows_name f.number f.held f.blocks) (seals_name f.number f.seal),
    )
    (files_name limit fs are.1)

written_are :
    (commands : List PlacedCommand) → AllByRecursion NamesCall commands
    → AllByRecursion IsRecord (written commands)
written_are [] all = tt
written_are (command ∷ commands) all = (any_record (λ b. []) command all.0, written_are commands all.1)

-- ---- they make it

pub placed_anew : MakesAnew placed_steps
placed_anew =
    record {
      are_records =
          λ store is. (
            next_is_record store.next,
            written_are (commands_in store.entries)
                (files_name store.blocks store.entries is.files),
          );
      fits = anew_fits;
      makes = λ held blocks entries now are takes.
          let made = all_made held entries (nothing_read blocks) now (nothing_made held blocks) are takes in
          let rules = read_placed now made.is in
          let same : now.store.blocks ≡ blocks = all_blocks held entries (nothing_read blocks) now takes in
          let anew = makes_anew held now.store rules made.keeps made.fits in (
            anew.0,
            subst (λ (n : ℕ). Takes (read_step held) (nothing_read n) (anew_records now.store) anew.0) same
                anew.1,
            anew.2,
          );
    }
