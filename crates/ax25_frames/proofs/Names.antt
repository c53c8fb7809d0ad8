-- The names of specs, and of the crates below, that proofs use, in one place.
pub use Rattle.ax25_frames.specs.Addresses.{AreEntries, BeginsUnended, Entry, IsAddressField, IsEntry, address_field, character_octets, entry_octets, is_none, ssid_octet, unended}
pub use Rattle.ax25_frames.specs.Faults.{BeginsFrame, FailsAt, FaultAt, IsRestFault}
pub use Rattle.ax25_frames.specs.FrameText.{FrameText, FrameValue, IsFrame, canonical}
pub use Rattle.ax25_frames.specs.Kinds.{CanWrite, FitsControl, FitsKind, IsNoControl, KindValue, SaysControl, bit, control_octet, fields_of, information_fields, kind_octets, kind_row, poll_bit}
pub use Rattle.ax25_frames.specs.Laws.{IsCanonical, IsFrameOrFault, IsNoFrame, IsOneFault, IsOneFrame}
pub use Rattle.ax25_frames.specs.Reading.{AddressesAt, EntryAt, RepeatersAt, is_blank, is_character, run_length}
unfoldable pub use Rattle.ax25_frames.specs.Reading.{characters_begun}
pub use Rattle.ax25_frames.specs.Values.{bare_value, kind_value, value_of}
pub use Rattle.ax25_frames.specs.declared.control.Control.{Control}
pub use Rattle.ax25_frames.specs.declared.frame.FrameFault.{FrameFault}
pub use Rattle.ax25_frames.specs.declared.frame.FrameFault.TheVariants.{BadAddress, BadControl, LongInfo, Short, TooManyAddresses}
pub use Rattle.px_base.specs.CallSign.{CallSign, IsBase, IsCall, is_call_char, padded}
pub use Rattle.px_base.specs.Octets.{IsOctets}
pub use Rattle.std.proofs.lemmas.Bool.{cases_Bool, cases_lt, eq-eqb, eqb-false, eqb-true, le-leb, lt-leb, ne_eqb}
pub use Rattle.std.proofs.lemmas.Grind.{common_steps}
pub use Rattle.std.proofs.lemmas.List.{append_cancel_right, drop-drop, length-replicate, length-take, map-append, nil_from_length, take-take, take_all, take_at}
pub use Rattle.std.proofs.lemmas.List.Elements.{All-append, All-cons, All-drop, All-from_get_or, All-from_recursion, All-head, All-nil, All-replicate, All-tail, All-take, recursion_from_All}
pub use Rattle.std.specs.Prelude.{IsTrue}
