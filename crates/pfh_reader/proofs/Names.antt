-- The names of specs, and of the crates below, that proofs use, in one place.
pub use Rattle.pfh_items.proofs.Offered.{BeginsHeader-begins_header, BeginsHeader-text, FitsFile-fits_file, IsChosen, IsFound-chosen, IsOctets-slice, ItemsFrom-items_from, begins_header-BeginsHeader, body_test, chosen-by, fault_of-is, file_parts-ran, first_fault-none, first_fault-text, header_test, item_at, items_from-ran, none-FileText, once_each, one_header, short-StartsCut}
pub use Rattle.pfh_items.specs.Faults.{BeginsHeader, FirstFault, IsFaultless, IsFound, begins_header, code_of, content_of, fault_code, fault_of, fault_of_parts, file_parts, fits_file, has_mandatory, has_none, header_sum, is_one_of_len, items_with, with_content}
unfoldable pub use Rattle.pfh_items.specs.Faults.{first_fault}
pub use Rattle.pfh_items.specs.Layout.{AreItems, FileText, IsItem, ItemValue, end_item, header_start, header_text, item_text, items_text}
pub use Rattle.pfh_items.specs.Table.{mandatory_items}
pub use Rattle.pfh_items.specs.Values.{item_value}
pub use Rattle.pfh_items.specs.Walk.{ItemList, StopsAt, item_len, items_from}
pub use Rattle.pfh_items.specs.declared.fault.FileFault.TheVariants.{NoEndItem, NoHeader}
pub use Rattle.pfh_items.specs.declared.items.Stop.TheVariants.{EndItem, Ran}
pub use Rattle.pfh_items.specs.declared.table.MandatoryItem.{MandatoryItem}
pub use Rattle.pfh_reader.specs.Check.{IsSums, joined}
pub use Rattle.pfh_reader.specs.Claims.{IsClaims, Says16, Says32, is_missing, is_once, noted, standing_after, standing_of, standing_with, standings}
pub use Rattle.pfh_reader.specs.Feed.{CheckerValue, Extends, HasFed, IsCutItem, KeepsClaims, StandsAmong, StandsAt, StandsBehind, TakesEnd, TakesItems, fed_len}
pub use Rattle.pfh_reader.specs.Measures.{IsMeasured, at_end, with_header}
pub use Rattle.pfh_reader.specs.declared.checker.Stage.{Stage}
pub use Rattle.pfh_reader.specs.declared.claims.Claims.{Claims}
pub use Rattle.pfh_reader.specs.declared.claims.Standing.{Standing}
pub use Rattle.pfh_reader.specs.declared.claims.Standing.TheVariants.{Missing, Once, Wrong}
pub use Rattle.pfh_reader.specs.declared.measures.Measures.{Measures}
pub use Rattle.px_base.specs.Numbers.{le16, le32, sum16}
pub use Rattle.px_base.specs.Octets.{IsOctets}
pub use Rattle.std.proofs.lemmas.Bool.{and_parts, both_ways, cases_eq, eq-eqb, false_from_ne_true, leb-false, lt-leb, ne_eqb}
pub use Rattle.std.proofs.lemmas.List.{append-nil, drop_at, nil_from_length, same_lists, take-append-drop, take_all, take_at, take_rest}
pub use Rattle.std.proofs.lemmas.List.Elements.{All-append, All-drop, All-from_recursion, filter-append}
pub use Rattle.std.specs.List.{AllByRecursion, list_all}
