-- The names of specs, and of the crates below, that proofs use, in one place.
pub use Rattle.px_base.specs.Octets.{IsOctets}
pub use Rattle.selection.specs.Faults.{FirstFault, FoundAt, IsUnknown, StartsCut, StartsLacking, StartsUnknown, TreesThen}
pub use Rattle.selection.specs.Layout.{AndOf, AreTrees, Compare, ComparisonValue, IsComparison, IsTree, NotOf, OrOf, Postfix, Tree, comparison_text, most_tokens, operands_of, operator_octet, relation_octet, tokens_of, tokens_of_trees, tree_text, trees_text}
pub use Rattle.selection.specs.Meaning.{holds, number, satisfies}
pub use Rattle.selection.specs.Reading.{Comparing, Operating, TokenValue, comparison_in, fault_at, go_on, one_of, operated, operator_of, read_as, read_comparison, read_operator, relation_of, step_by, token_len, trees_after, with_trees}
unfoldable pub use Rattle.selection.specs.Reading.{token_in, tree_in, trees_from}
pub use Rattle.selection.specs.Values.{CountsAs, LeavesAs, ReadsAs, StepsAs, comparison_value, operands_needed, token_value, tree_of, truths_of}
pub use Rattle.selection.specs.declared.fault.SelFault.{SelFault}
pub use Rattle.selection.specs.declared.fault.SelFault.TheVariants.{BadOp, Cut, Empty, Few, Left, Many}
pub use Rattle.selection.specs.declared.token.Operator.{Operator}
pub use Rattle.selection.specs.declared.token.Operator.TheVariants.{And, Not, Or}
pub use Rattle.selection.specs.declared.token.Relation.TheVariants.{AtLeast, AtMost, EqualTo, GreaterThan, LessThan, NotEqualTo}
pub use Rattle.selection.specs.declared.token.Token.{Token}
pub use Rattle.selection.specs.declared.token.TokenFault.{TokenFault}
pub use Rattle.selection.specs.declared.token.TokenFault.TheVariants.{Ended, Unknown}
pub use Rattle.std.proofs.lemmas.Bool.{both_ways, cases_Bool, cases_order, eq-eqb, eqb-true, false≢true, le-leb, leb-false, leb-true, lt-leb}
pub use Rattle.std.proofs.lemmas.List.{drop-drop, drop_at, length-take-le, take-append-drop, take_at, take_rest}
pub use Rattle.std.proofs.lemmas.List.Elements.{All-drop, All-take}
pub use Rattle.std.proofs.lemmas.Result.{err_from_is_err_and}
pub use Rattle.std.specs.Ordering.{nat_cmp, ordering_then}
pub use Rattle.std.specs.Prelude.{IsOk, IsSome, nat_le, slice_get}
pub use Rattle.std.specs.Result.{result_unwrap_or}
