-- The names of specs, and of the crates below, that proofs use, in one place.
pub use Rattle.pfh_items.specs.Faults.{BeginsHeader, FirstFault, FitsFile, HasMandatory, IsFaultless, IsFound, Stands, StandsOnce, begins_header, content_of, fault_of, fault_of_parts, field_of, fits_file, has_mandatory, has_none, header_before, header_sum, is_one_of_len, items_with, with_content}
unfoldable pub use Rattle.pfh_items.specs.Faults.{file_parts, first_fault}
pub use Rattle.pfh_items.specs.Laws.{HasNoFault, HasNoFront, IsOctetsAsBody, IsOneFault, IsOneHeader, IsOneStamp, IsOneWalk}
pub use Rattle.pfh_items.specs.Layout.{AreItems, FileText, HeaderText, HeaderValue, IsItem, ItemValue, end_item, header_start, header_text, item_text, items_text}
pub use Rattle.pfh_items.specs.Table.{extended_items, mandatory_items}
pub use Rattle.pfh_items.specs.Values.{GivesItem, item_value, items_left, whole_items}
pub use Rattle.pfh_items.specs.Walk.{ItemList, ItemsFrom, StartsCut, StopsAt, item_in, item_len, starts_end, starts_whole, with_item}
unfoldable pub use Rattle.pfh_items.specs.Walk.{items_from, items_within}
pub use Rattle.pfh_items.specs.declared.items.Item.{Item}
pub use Rattle.pfh_items.specs.declared.items.Stop.{Stop}
pub use Rattle.pfh_items.specs.declared.items.Stop.TheVariants.{EndItem, Ran}
pub use Rattle.pfh_items.specs.declared.table.MandatoryItem.{MandatoryItem}
pub use Rattle.px_base.specs.Numbers.{le16, le16_octets, le32, le32_octets, sum16}
pub use Rattle.px_base.specs.Octets.{IsOctets}
pub use Rattle.std.proofs.lemmas.Bool.{and_from, and_parts, and_right, both_ways, cases_Bool, eq-eqb, eqb-true, false_from_ne_true, false≢true, le-leb, leb-true, or_cases, true≢false}
pub use Rattle.std.proofs.lemmas.Iterator.{YieldsList, YieldsList-from_slice}
pub use Rattle.std.proofs.lemmas.Iterator.Search.{find_from_yields_List}
pub use Rattle.std.proofs.lemmas.List.{append-nil, drop-drop, drop_at, length-replicate, length-take-le, nil_from_length, take-append-drop, take_at, take_rest}
pub use Rattle.std.proofs.lemmas.List.Elements.{All-append, All-cons, All-drop, All-from_recursion, All-nil, All-replicate, All-take}
pub use Rattle.std.specs.Prelude.{is_some, nat_le, replicate}
