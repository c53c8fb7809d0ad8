-- What is true of each store that records made, if the blocks hold what they held.
use Rattle.std.proofs.Common.{◌≡◌, ℕ, ◌≤◌, ◌++◌, ◌∷◌, List, [], not, Some, ap, sym, ◌∙◌, subst}
use Rattle.std.proofs.Common.{arith}
use Rattle.std.specs.Prelude.{IsTrue}
use Rattle.std.specs.List.{AllByRecursion}
use Rattle.std.proofs.Math.Nat.{max-le}
use Rattle.file_store_blocks.specs.FilesLaws.{all_changed, all_filter, all_push, found_holds}
use Rattle.file_store_blocks.specs.IsPlaced.{IsPlaced, KeepsSeal, KeepsSeals}
use Rattle.file_store_blocks.specs.KeptLaws.{begin_may, none_is_placed}
use Rattle.file_store_blocks.specs.Placed.{Placed, PlacedStore, has_number, new_placed, with_next}
use Rattle.file_store_blocks.specs.PlacedCommand.{PlacedCommand, after, begin, can_seal, drop_entry, grow, grown}
use Rattle.file_store_blocks.specs.PlacedCommand.{header_at, is_allowed, seal, seal_with, sealed, seen_command}
use Rattle.file_store_blocks.specs.PlacedRecords.{CanRecord, IsNumber, IsWritable, read_step, recorded_in}
use Rattle.file_store_blocks.specs.ReadLaws.{made_for, may_for, recorded_blocks, recorded_rules, rules_for, store_for}
use Rattle.file_store_blocks.specs.ReadStore.{IsReadStore, ReadStore, Recorded, after_recorded, change, is_recordable}
use Rattle.file_store_blocks.specs.ReadStore.{may_change, next_is, nothing_read, store_after}
use Rattle.file_store_blocks.specs.RecordLaws.{recorded_says}
use Rattle.file_store_blocks.specs.SealLaws.{after_seals}
use Rattle.file_store_blocks.specs.TestLaws.{may_grow, may_take, passed}
use Rattle.file_store_blocks.specs.WalkedLaws.{FitsOctets, FitsRecords}
use Rattle.file_store_model.specs.Command.{HasCall}
use Rattle.file_store_model.specs.Limits.{last_next}
use Rattle.file_journal.specs.Layout.{Blocks}
use Rattle.file_journal.specs.Ledger.{Takes}
use Rattle.file_journal.specs.Records.{IsRecord, Record}
use Rattle.file_journal.proofs.Offered.{stepped}

-- what is true of each store that records made, if the blocks hold what they held
pub record IsMade (held : Blocks) (read : ReadStore) : Type 0 where
  pub is : IsReadStore read
  pub keeps : KeepsSeals held read.store
  pub fits : FitsRecords read.store

all_blocks_push :
    (blocks : List ℕ) (block : ℕ) → AllByRecursion IsNumber blocks → IsNumber block
    → AllByRecursion IsNumber (blocks ++ block ∷ [])
all_blocks_push [] block all here = (here, tt)
all_blocks_push (b ∷ bs) block all here = (all.0, all_blocks_push bs block all.1 here)

-- the numbers of each file fit after a command
files_fit :
    (held : Blocks) (store : PlacedStore) (command : PlacedCommand) → IsPlaced store → IsWritable command
    → IsTrue (is_allowed held store command) → AllByRecursion FitsOctets store.entries
    → AllByRecursion FitsOctets (after held store command).entries
files_fit held store (begin number caller file_length moment) is writable ok all =
    all_push FitsOctets store.entries (new_placed number caller file_length moment) all
    (record { begun = writable.3; blocks = tt; mark = tt })
files_fit held store (grow number block used) is writable ok all =
    let grows = may_take held store number block used ok in
    let one = grows.passes.file in
    let none = (may_grow one used grows.passes.test_is).partial in
    let here = found_holds FitsOctets number store.entries one all grows.passes.found in
    all_changed FitsOctets number (grown block used) one
    (record { begun = here.begun; blocks = all_blocks_push one.blocks block here.blocks writable.1; mark = here.mark })
    1 store.next store.entries is.numbers grows.passes.found all
files_fit held store (seal number moment sum) is writable ok all =
    let passes = passed store number (λ f. can_seal held f moment sum) ok in
    let here = found_holds FitsOctets number store.entries passes.file all passes.found in
    all_changed FitsOctets number (sealed (seal_with moment sum (header_at held store number))) passes.file
    (record { begun = here.begun; blocks = here.blocks; mark = (writable.1, writable.2) })
    1 store.next store.entries is.numbers passes.found all
files_fit held store (drop_entry number) is writable ok all =
    all_filter FitsOctets (λ f. not (has_number number f)) store.entries all

module _ (held : Blocks) (read : ReadStore) where
  -- what is true of each file, with no regard to the next number
  same_files :
      (P : Placed → Type 0) (command : PlacedCommand) → AllByRecursion P read.store.entries
      → AllByRecursion P (store_for read command).entries
  same_files P (begin number caller file_length moment) all = all
  same_files P (grow number block used) all = all
  same_files P (seal number moment sum) all = all
  same_files P (drop_entry number) all = all

  back_files :
      (P : Placed → Type 0) (command : PlacedCommand)
      → AllByRecursion P (after held (store_for read command) command).entries
      → AllByRecursion P (store_after held read.store command).entries
  back_files P command all =
      subst (λ (s : PlacedStore). AllByRecursion P s.entries) (sym (made_for held read command)) all

  -- a record keeps the seals
  pub recorded_seals :
      IsReadStore read → (recorded : Recorded) → IsTrue (is_recordable held read recorded) → KeepsSeals held read.store
      → KeepsSeals held (after_recorded held read recorded).store
  recorded_seals is (next_is number) ok keeps = keeps
  recorded_seals is (change command) ok keeps =
      back_files (KeepsSeal held) command
      (after_seals held (store_for read command) command (rules_for held read command is ok)
      (may_for held read command ok) (same_files (KeepsSeal held) command keeps))

module _ (held : Blocks) (read : ReadStore) (made : IsMade held read) where
  next_fits :
      (command : PlacedCommand) → IsTrue (may_change held read command)
      → (store_after held read.store command).next ≤ last_next
  next_fits (begin number caller file_length moment) ok =
      let comes =
      begin_may held (with_next number read.store) number caller file_length moment
      (may_for held read (begin number caller file_length moment) ok) in
      max-le made.fits.next (omega (arith, comes.left))
  next_fits (grow number block used) ok = made.fits.next
  next_fits (seal number moment sum) ok = made.fits.next
  next_fits (drop_entry number) ok = made.fits.next

  recorded_made :
      (recorded : Recorded) → CanRecord recorded → IsTrue (is_recordable held read recorded)
      → IsMade held (after_recorded held read recorded)
  recorded_made (next_is number) writable ok = record {
    is = recorded_rules held read made.is (next_is number) tt ok;
    keeps = made.keeps;
    fits = record { files = made.fits.files; next = omega (arith, writable) };
  }
  recorded_made (change command) writable ok =
      let rules = rules_for held read command made.is ok in
      let allowed = may_for held read command ok in
      record {
        is = recorded_rules held read made.is (change command) (names_call command writable) ok;
        keeps = recorded_seals held read made.is (change command) ok made.keeps;
        fits = record {
          files =
              back_files held read FitsOctets command
              (files_fit held (store_for read command) command rules writable allowed
              (same_files held read FitsOctets command made.fits.files));
          next = next_fits command ok;
        };
      }
    where
      names_call : (command : PlacedCommand) → IsWritable command → HasCall (seen_command held command)
      names_call (begin number caller file_length moment) w = w.1
      names_call (grow number block used) w = tt
      names_call (seal number moment sum) w = tt
      names_call (drop_entry number) w = tt

  pub step_made :
      (now : ReadStore) (entry : Record) → IsRecord entry → read_step held read entry ≡ Some now → IsMade held now
  step_made now entry rules is =
      let step = stepped (is_recordable held) (after_recorded held) read now (recorded_in entry) is in
      let says = recorded_says entry step.0 rules step.1 in
      subst (IsMade held) (sym step.3) (recorded_made step.0 says.0 step.2)

pub all_made :
    (held : Blocks) (entries : List Record) (before now : ReadStore) → IsMade held before
    → AllByRecursion IsRecord entries → Takes (read_step held) before entries now → IsMade held now
all_made held [] before now made are takes = subst (IsMade held) (sym takes) made
all_made held (entry ∷ entries) before now made are takes =
    all_made held entries takes.0 now (step_made held before made takes.0 entry are.0 takes.1) are.1 takes.2

-- no record leaves another number of blocks
pub all_blocks :
    (held : Blocks) (entries : List Record) (before now : ReadStore) → Takes (read_step held) before entries now
    → now.store.blocks ≡ before.store.blocks
all_blocks held [] before now takes = ap (λ (r : ReadStore). r.store.blocks) takes
all_blocks held (entry ∷ entries) before now takes =
    let step = stepped (is_recordable held) (after_recorded held) before takes.0 (recorded_in entry) takes.1 in
    all_blocks held entries takes.0 now takes.2 ∙ ap (λ (r : ReadStore). r.store.blocks) step.3
    ∙ recorded_blocks held before step.0

pub nothing_made : (held : Blocks) (blocks : ℕ) → IsMade held (nothing_read blocks)
nothing_made held blocks = record {
  is = record { rules = none_is_placed blocks; least = omega arith };
  keeps = tt;
  fits = record { files = tt; next = omega arith };
}
