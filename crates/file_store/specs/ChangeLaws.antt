-- What blocks hold that the entries don't use doesn't matter to a change of them.
use Rattle.std.proofs.Common.{◌≡◌, ℕ, ◌≤◌, List, [], ◌∷◌, Option, None, Some, refl, sym, ap, subst, arith, inl, inr}
use Rattle.std.specs.Prelude.{IfSome, find, sum_by}
use Rattle.std.proofs.lemmas.Bool.Decides.{eqb_tells}
use Rattle.std.proofs.lemmas.List.Sums.{sum_by-cons}
use Rattle.file_store_blocks.specs.Checking.{IsSealable}
use Rattle.file_store_blocks.specs.KeptLaws.{times_at, times_files}
use Rattle.file_store_blocks.specs.Placed.{Placed, Uses, has_number, placed_of}
use Rattle.file_store_blocks.specs.PlacedFiles.{PlacedFiles, store_of}
use Rattle.file_store_blocks.specs.SameLaws.{octets_same}
use Rattle.file_store_blocks.specs.Seen.{octets_in, stamp_at}
use Rattle.file_journal.specs.Layout.{Blocks, HoldSame}
use Rattle.file_store.specs.Changes.{LetsBy}
use Rattle.file_store.specs.declared.change.EntriesChange.{EntriesChange}
use Rattle.file_store.specs.declared.change.EntriesChange.TheVariants as change

-- a block occurs in a file no more often than in all
found_times :
    (block number : ℕ) (files : List Placed) (f : Placed) → find (has_number number) files ≡ Some f
    → times_at block f ≤ sum_by (times_at block) files
found_times block number [] f found = absurd (cc)
found_times block number (x ∷ xs) f found =
    elim (eqb_tells x.number number) [
      | inl w ↦
          let same : x ≡ f = cc (ap (λ (b : _). b) w.0, found) in
          omega (arith, sum_by-cons (times_at block) x xs, ap (times_at block) same)
      | inr w ↦ omega (arith, sum_by-cons (times_at block) x xs, found_times block number xs f (cc))
    ]

pub lets_same :
    (change : EntriesChange) (files : PlacedFiles) (one other : Blocks)
    → HoldSame (Uses (store_of files)) one other → LetsBy change files one → LetsBy change files other
lets_same (change.Begin caller file_length moment) files one other same lets = lets
lets_same (change.Hold number block count) files one other same lets = lets
lets_same (change.Seal number moment header) files one other same lets =
    by (placed_of (store_of files) number) refl lets
  where
    by :
        (o : Option Placed) → placed_of (store_of files) number ≡ o
        → IfSome o (λ f. IsSealable (stamp_at moment f) (octets_in one f) header.sum header.len)
        → IfSome o (λ f. IsSealable (stamp_at moment f) (octets_in other f) header.sum header.len)
    by None is lets = lets
    by (Some f) is lets =
        subst (λ (octets : List ℕ). IsSealable (stamp_at moment f) octets header.sum header.len)
        (sym
        (octets_same one other f
        (λ block some.
        same block
        (omega (
          arith,
          some,
          times_files block (store_of files).entries,
          found_times block number (store_of files).entries f is,
        )))))
        lets
lets_same (change.Drop number) files one other same lets = lets
