-- The lemmas that crates above may use.
pub use Rattle.pfh_items.proofs.ChainLemmas.{YieldsList-items}
pub use Rattle.pfh_items.proofs.FaultLemmas.{body_test, chosen-by, fault_of-is, first_fault-from, first_fault-none, first_fault-text, fits_file-FitsFile, FitsFile-fits_file, header_test, IsChosen, IsFound-chosen, no_fault, once_each}
pub use Rattle.pfh_items.proofs.FrontLemmas.{no_front, octets_as_body}
pub use Rattle.pfh_items.proofs.HeaderLemmas.{after_start, begins_header-BeginsHeader, begins_header-front, BeginsHeader-begins_header, BeginsHeader-text, file_parts-ran, file_parts-text, FileText-file_parts, HeaderText-FileText, none-FileText, one_header}
pub use Rattle.pfh_items.proofs.StampLemmas.{AreItems-stamped_items, IsOctets-chars, IsOctets-le16, IsOctets-le32, length-chars, one_stamp, stamped-text}
pub use Rattle.pfh_items.proofs.TextLemmas.{drop-text, item_at, item_in-text, length-item_text, starts_end-text, starts_whole-text}
pub use Rattle.pfh_items.proofs.WalkLemmas.{IsOctets-slice, items_from-ran, items_from-whole, ItemsFrom-items_from, short-StartsCut}
