use Rattle.std.proofs.Common.{◌≡◌, ◌≤◌, ◌-◌, ℕ, List, Option, true, false, length, take, drop, rules, ap, sym, ◌∙◌, subst, length-drop}
use Rattle.std.proofs.lemmas.Fn.{always_returns_same}
use Rattle.file_store_blocks.proofs.Names.{find, nat_le, IsPartitionPoint, IsPartitionedBy, option_map, take-length, placed_from, EntriesState, IsNextSealed, PlacedFile, entries_of, in_runs, is_sealed_file, store_of}
use Rattle.file_store_blocks.proofs.NextLemmas.{next_at, numbers_parted}
use Rattle.file_store_blocks.proofs.RunsLemmas.{rise_in_runs}
use Rattle.file_store_blocks.proofs.entries.Entries.next_complete.Goals as goal

-- a slice from a place on
rest_of : (files : List PlacedFile) (place : ℕ) → take (length files - place) (drop place files) ≡ drop place files
rest_of files place = ap (λ (n : ℕ). take n (drop place files)) (sym (length-drop place files)) ∙ take-length (drop place files)

pub returns : goal.returns
returns c =
    let facts = c.partition_point-place.ensures in
    let files = c.self.inside.files.items in
    let runs = c.self.inside.table.runs in
    let place = c.partition_point-place.result in
    let above = c.args.above in
    let kept = c.self.invariant.0 in
    let are = rise_in_runs 1 c.self.inside.next runs files kept.count kept.rules.numbers in
    let at-slice = facts.partitioned (λ (f : PlacedFile). nat_le f.entry.number c.args.above) (always_returns_same _ _ _ (λ a r g called. (search rules, search rules))) in
    let at-files = subst (λ (fs : List PlacedFile). IsPartitionedBy (λ (f : PlacedFile). nat_le f.entry.number above) fs
    → IsPartitionPoint (λ (f : PlacedFile). nat_le f.entry.number above ≡ true) (λ (f : PlacedFile). nat_le f.entry.number above ≡ false) fs place) c.deref.ensures.value at-slice in
    let inside : place ≤ length files = subst (λ (fs : List PlacedFile). place ≤ length fs) c.deref.ensures.value facts.bound in
    let next = next_at c.self.inside.next c.self.inside.table.limit above place runs files kept.count kept.rules.numbers inside
    (at-files (numbers_parted 1 c.self.inside.next above files are)) in
    let first : c.first_complete.result ≡ option_map (λ (f : PlacedFile). f.entry.number) (find is_sealed_file (drop place files)) =
    c.first_complete.ensures
    ∙ ap (λ (fs : List PlacedFile). option_map (λ (f : PlacedFile). f.entry.number) (find is_sealed_file (take (length fs - place) (drop place fs)))) c.deref-2.ensures.value
    ∙ ap (λ (fs : List PlacedFile). option_map (λ (f : PlacedFile). f.entry.number) (find is_sealed_file fs)) (rest_of files place) in
    subst (λ (s : EntriesState). IsNextSealed (store_of s.files) above c.first_complete.result) c.self.view_is
    (subst (λ (o : Option ℕ). IsNextSealed (placed_from (entries_of (in_runs runs files)) c.self.inside.next c.self.inside.table.limit) above o) (sym first) next)
