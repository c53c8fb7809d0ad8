-- The names of specs, and of the crates below, that proofs use, in one place.
pub use Rattle.arrayvec.specs.ArrayVec.{array_vec_len}
pub use Rattle.pfh_items.proofs.Offered.{AreItems-stamped_items, IsOctets-le16, YieldsList-items, after_start, begins_header-front, body_test, chosen-by, drop-text, first_fault-none, fits_file-FitsFile, header_test, item_at, item_in-text, items_from-ran, items_from-whole, length-chars, length-item_text, no_fault, one_stamp, stamped-text, starts_end-text, starts_whole-text}
pub use Rattle.pfh_items.specs.Faults.{IsFaultless, Stands, StandsOnce, begins_header, code_of, content_of, fault_code, fault_of, fault_of_parts, field_of, fits_file, has_mandatory, header_before, header_sum, items_with, with_content}
unfoldable pub use Rattle.pfh_items.specs.Faults.{file_parts, first_fault}
pub use Rattle.pfh_items.specs.Layout.{AreItems, HeaderText, HeaderValue, IsItem, ItemValue, end_item, header_start, header_text, item_text, items_text}
pub use Rattle.pfh_items.specs.Stamp.{StampValue, is_number_item, is_server_item, is_upload_time_item, is_uploader_item, renewed, stamped_item, stamped_items, stamped_parts}
unfoldable pub use Rattle.pfh_items.specs.Stamp.{stamped}
pub use Rattle.pfh_items.specs.Table.{fixed_len, is_mandatory, is_single, mandatory_items}
pub use Rattle.pfh_items.specs.Walk.{ItemList, item_in, item_len, starts_end, starts_whole, with_item}
unfoldable pub use Rattle.pfh_items.specs.Walk.{items_from, items_within}
pub use Rattle.pfh_items.specs.declared.fault.FileFault.{FileFault}
pub use Rattle.pfh_items.specs.declared.table.Form.TheVariants.{Number, Text}
pub use Rattle.pfh_items.specs.declared.table.MandatoryItem.{MandatoryItem}
pub use Rattle.pfh_writer.specs.Built.{AreOthers, BuilderValue, built_file_len, built_items, built_len, fits_len, item, items_saying, put_refusal, stands}
unfoldable pub use Rattle.pfh_writer.specs.Built.{mandatory_saying}
pub use Rattle.pfh_writer.specs.Filling.{FillsFront, FillsItem, StaysAtEnd, sum_place_after, with_sum_changed}
pub use Rattle.pfh_writer.specs.Given.{stamped_sum}
pub use Rattle.pfh_writer.specs.Short.{HasEachOnce, IsRule, short_item}
pub use Rattle.pfh_writer.specs.Stamping.{HasStamped, IsCutData, PassesItems, StamperValue, StandsAt, fixed_data, given_data, given_item, server_data, stamp_of}
pub use Rattle.pfh_writer.specs.Sums.{data_sum, filled_item}
pub use Rattle.pfh_writer.specs.declared.stamper.Stage.{Stage}
pub use Rattle.pfh_writer.specs.declared.stamper.Stage.TheVariants.{Begun, Body, IdCut, IdRead, InData, ItemStart, Start}
pub use Rattle.px_base.specs.CallSign.{CallSign, IsCall}
pub use Rattle.px_base.specs.Numbers.{le16, le16_octets, le32, le32_octets, sum16}
pub use Rattle.px_base.specs.Octets.{IsOctets}
pub use Rattle.std.proofs.lemmas.Bool.{and_from, and_parts, eq-eqb, eqb-false, eqb-true, false_from_ne_true, false≢true, leb-true, ltb-false, ltb-true}
pub use Rattle.std.proofs.lemmas.List.{append-nil, append_cancel_right, drop-set-lt, drop_all, drop_at, drop_more, flat_map_more, get_or-append_right, get_or_append_left, get_or_default, length-replicate, length-take-le, length_push, map-append, map_push, nil_from_length, take-append-drop, take-append-le, take_all, take_at, take_more, take_more_set, with_items_is}
pub use Rattle.std.specs.List.{AllByRecursion, flat_map}
pub use Rattle.std.specs.Option.{unwrap_or}
pub use Rattle.std.specs.Prelude.{option_map}
