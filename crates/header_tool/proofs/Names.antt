-- The names of specs, and of the crates below, that proofs use, in one place.
pub use Rattle.ax25_frames.specs.Laws.{IsFrameOrFault, IsNoFrame, IsOneFault, IsOneFrame}
pub use Rattle.header_tool.specs.Frames.FrameLine.{fault_line, frame_line}
pub use Rattle.header_tool.specs.Frames.FramesText.{FramesText, LineOf, LinesOf, line_feed}
pub use Rattle.header_tool.specs.Laws.{ChecksFault, IsBodyBehind, IsBodyOfMade, IsOneBody, ShowsFault, ShowsItems}
pub use Rattle.header_tool.specs.Lines.{item_lines, items_in, last_line, shown_text}
pub use Rattle.kiss.specs.KissText.{kiss_parts}
pub use Rattle.kiss.specs.declared.whole.Part.{Part}
pub use Rattle.kiss.specs.declared.whole.Part.TheVariants.{Dropped, Frame, Passed}
pub use Rattle.pfh_items.proofs.Offered.{FileText-file_parts, file_parts-text, first_fault-from, first_fault-none, one_header}
pub use Rattle.pfh_items.specs.Layout.{AreItems, FileText, HeaderValue, ItemValue, header_text}
pub use Rattle.std.proofs.lemmas.List.{drop_all, length-append, take_all}
pub use Rattle.std.proofs.lemmas.List.Elements.{All-from_get_or, recursion_from_All}
pub use Rattle.std.specs.Prelude.{Err, IsErr, MatchResult, Ok, OnErr, OnOk, Option, Result, codes}
