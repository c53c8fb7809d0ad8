-- Each command keeps the seals.
use Rattle.std.proofs.Common.{◌≡◌, List, ℕ, length, None, not}
use Rattle.std.specs.Prelude.{IsTrue}
use Rattle.file_store_blocks.specs.FilesLaws.{all_changed, all_filter, all_push}
use Rattle.file_store_blocks.specs.IsPlaced.{IsPlaced, KeepsSeal, KeepsSeals}
use Rattle.file_store_blocks.specs.KeptLaws.{header_found, none_keeps}
use Rattle.file_store_blocks.specs.Placed.{Placed, PlacedStore, Seal, has_number, new_placed}
use Rattle.file_store_blocks.specs.PlacedCommand.{PlacedCommand, after, begin, can_seal, drop_entry, grow, grown}
use Rattle.file_store_blocks.specs.PlacedCommand.{header_at, is_allowed, seal, seal_with, sealed}
use Rattle.file_store_blocks.specs.Seen.{octets_in, sum_with}
use Rattle.file_store_blocks.specs.TestLaws.{may_grow, may_seal, may_take, passed}
use Rattle.file_store_model.specs.Headers.{header_octets}
use Rattle.file_journal.specs.Layout.{Blocks}
use Rattle.pfh_items.specs.Faults.{fault_code}

-- what a seal says of octets of a file
abbrev pub SaysIn : Placed → List ℕ → Seal → Type 0
SaysIn f octets s =
    (fault_code octets ≡ None) × (s.sum ≡ sum_with s.moment f octets) × (s.header ≡ length (header_octets octets))

pub after_seals :
    (held : Blocks) (store : PlacedStore) (command : PlacedCommand) → IsPlaced store
    → IsTrue (is_allowed held store command)
    → KeepsSeals held store → KeepsSeals held (after held store command)
after_seals held store (begin number caller file_length moment) is ok keeps =
    all_push (KeepsSeal held) store.entries (new_placed number caller file_length moment) keeps tt
after_seals held store (grow number block used) is ok keeps =
    let grows = may_take held store number block used ok in
    let one = grows.passes.file in
    let none = (may_grow one used grows.passes.test_is).partial in
    all_changed (KeepsSeal held) number (grown block used) one
    (none_keeps one.seal (SaysIn (grown block used one) (octets_in held (grown block used one))) none)
    1 store.next store.entries is.numbers grows.passes.found keeps
after_seals held store (seal number moment sum) is ok keeps =
    let passes = passed store number (λ f. can_seal held f moment sum) ok in
    let may = may_seal held passes.file moment sum passes.test_is in
    all_changed (KeepsSeal held) number (sealed (seal_with moment sum (header_at held store number))) passes.file
    (may.faultless, may.sum_is, header_found held store number passes.file passes.found) 1 store.next store.entries
    is.numbers passes.found keeps
after_seals held store (drop_entry number) is ok keeps =
    all_filter (KeepsSeal held) (λ f. not (has_number number f)) store.entries keeps
