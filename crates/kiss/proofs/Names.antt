-- The names of specs, and of the crates below, that proofs use, in one place.
pub use Rattle.kiss.specs.KissText.{HasNoFend, but_last, data_on_port_0, escape, escape_octet, fend, fesc, frame_of, from_last_fend, has_octets, is_fend, kiss_text, most_octets, part_of, part_of_text, pieces, tfend, tfesc, unescape, with_front}
unfoldable pub use Rattle.kiss.specs.KissText.{kiss_frames, kiss_parts}
pub use Rattle.kiss.specs.Laws.{AllFramesReadBack, AllReadBack, EscapesOneWay, FramesGoOn, FramesHaveOctets, HasOctets, PartsGoOn, ReadsBack}
pub use Rattle.kiss.specs.ReaderMemory.{IsPlain, IsStep, heard_in, hearing, parts_of_text}
pub use Rattle.kiss.specs.declared.reader.State.{State}
pub use Rattle.kiss.specs.declared.whole.Part.{Part}
pub use Rattle.kiss.specs.declared.whole.Part.TheVariants.{Dropped, Frame, Passed}
pub use Rattle.std.proofs.lemmas.Bool.{cases_Bool, cases_eq, eq-eqb, le-ltb, lt-ltb, ne_eqb, or_parts}
pub use Rattle.std.proofs.lemmas.List.{drop-drop, take-take, take_all, take_rest}
pub use Rattle.std.proofs.lemmas.List.Elements.{All-from_recursion, All-tail, All-take, recursion_from_All}
pub use Rattle.std.specs.List.{AllByRecursion, cons_option, filter, filter_map, flat_map, list_any, onto_first, slice_split}
pub use Rattle.std.specs.Option.{option_map, option_to_list}
