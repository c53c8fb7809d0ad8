-- The tree of a SELECT_CMD's tokens, or their fault.
use Rattle.std.proofs.Common.{◌≡◌, ◌≤◌, ℕ, List, [], ◌∷◌, length, true, false, Result, Ok, Err, refl, ap, sym, ◌∙◌, arith}
use Rattle.std.specs.Prelude.{◌↔◌}
use Rattle.std.specs.Result.{result_ok}
use Rattle.px_base.specs.Octets.{IsOctets}
use Rattle.selection.specs.Faults.{FirstFault}
use Rattle.ftl0_session.proofs.Names.{IfNone, IfOk, IfSome, nat_lt, nat_tests, CallSign, dl_error_resp, select_resp, Store, CallerList, SelFault, Postfix, Tree, tree_of, one_fault, one_tree, DownloadRow, chosen, chosen_row, refused_row, select_row, tree_row, SelectsBy, SelectsNone}

within : (tokens : List ℕ) → length tokens ≤ 2047 → nat_lt 2047 (length tokens) ≡ false
within tokens few = grind (arith, nat_tests)

module _ (tokens : List ℕ) (octets : IsOctets tokens) (few : length tokens ≤ 2047) where
  pub selects-some : (r : Result (List ℕ) SelFault) → IfOk r (λ s. Postfix (tree_of s) tokens) → IfSome (result_ok r) (λ s. SelectsBy tokens (tree_of s))
  selects-some (Ok s) postfix = λ caller store lists fails.
      rw (within tokens few) (ap (tree_row caller store lists fails) ((one_tree tokens (tree_of s) octets).0 postfix))
  selects-some (Err fault) postfix = tt

  pub selects-none : (r : Result (List ℕ) SelFault) → ((fault : SelFault) → (r ≡ Err fault) ↔ FirstFault fault tokens) → IfNone (result_ok r) (SelectsNone tokens)
  selects-none (Ok s) refuses = tt
  selects-none (Err fault) refuses = λ caller store lists fails.
      rw (within tokens few) (ap (tree_row caller store lists fails) ((one_fault tokens fault octets).0 ((refuses fault).0 refl)))

-- if headers are read, the row isn't the same if that fails
pub selects-differ : (tokens : List ℕ) (tree : Tree) → SelectsBy tokens tree → (caller : CallSign) (store : Store) (lists : List CallerList)
    → select_row caller store lists tokens true ≡ select_row caller store lists tokens false → ⊥
selects-differ tokens tree selects caller store lists same =
    let rows : refused_row lists 3 ≡ chosen_row caller lists (chosen tree store.entries) = sym (selects caller store lists true) ∙ same ∙ selects caller store lists false in
    let replies : dl_error_resp 3 ∷ [] ≡ select_resp (length (chosen tree store.entries)) ∷ [] = ap (λ (r : DownloadRow). r.replies) rows in
    cc replies
