use Rattle.std.proofs.Common.{◌≡◌, ℕ, List, Option, None, length, rules, sym, subst}
use Rattle.std.proofs.lemmas.List.Sorted.{answers_always}
use Rattle.file_store_blocks.proofs.Names.{IfNone, IfSome, IsBinarySearchResult, IsSearchInRange, nat_cmp, result_ok, EntriesState, IsPlace, PlacedFile, file_of}
use Rattle.file_store_blocks.proofs.HalvingLemmas.{searched}
use Rattle.file_store_blocks.proofs.RunsLemmas.{found_in_runs, rise_in_runs}
use Rattle.file_store_blocks.proofs.entries.Entries.place_of.Goals as goal

found : (c : goal.After-ok) → IfSome c.ok.result (IsPlace c.args.self.now.files.files c.args.number) × IfNone c.ok.result (file_of c.args.self.now.files.files c.args.number ≡ None)
found c =
    let facts = c.binary_search_by_key.ensures in
    let kept = c.self.invariant.0 in
    let items = c.self.inside.files.items in
    let by_number = facts.position (λ (f : PlacedFile). f.entry.number) (answers_always _ _ _ (λ f a r g called. search rules)) in
    let at = searched 1 c.self.inside.next items (rise_in_runs 1 c.self.inside.next c.self.inside.table.runs items kept.count kept.rules.numbers) c.args.number c.binary_search_by_key.result
    (subst (λ (fs : List PlacedFile). IsSearchInRange c.binary_search_by_key.result (length fs)) c.deref.ensures.value facts.bound)
    (subst (λ (fs : List PlacedFile). IsBinarySearchResult (λ f. nat_cmp f.entry.number c.args.number) fs c.binary_search_by_key.result) c.deref.ensures.value
    (subst (λ (n : ℕ). IsBinarySearchResult (λ (f : PlacedFile). nat_cmp f.entry.number n) c.deref.result.now c.binary_search_by_key.result) c.get.ensures by_number)) in
    let whole = found_in_runs c.self.inside.table.runs items c.args.number (result_ok c.binary_search_by_key.result) kept.count at in
    let P : List PlacedFile → Option ℕ → Type 0 = λ fs o. IfSome o (IsPlace fs c.args.number) × IfNone o (file_of fs c.args.number ≡ None) in
    subst (λ (o : Option ℕ). P c.args.self.now.files.files o) (sym c.ok.ensures.value)
    (subst (λ (s : EntriesState). P s.files.files (result_ok c.binary_search_by_key.result)) c.self.view_is whole)

pub returns-clause-some : goal.returns-clause-some
returns-clause-some c = (found c).0

pub returns-clause-none : goal.returns-clause-none
returns-clause-none c = (found c).1
