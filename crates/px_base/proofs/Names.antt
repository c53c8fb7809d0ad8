-- The names of specs, and of the crates below, that proofs use, in one place.
pub use Rattle.px_base.specs.CallSign.{BeginsCall, BeginsSsid, CallSign, CallText, FailsAt, IsBase, IsCall, IsSpelled, ReachesInSsid, SsidText, base_length, call_text, is_call_char, is_no_blank, padded, ssid_digits, ssid_text}
pub use Rattle.std.proofs.lemmas.Bool.Decides.{nat_tests}
pub use Rattle.std.proofs.lemmas.Grind.{common_steps}
pub use Rattle.std.proofs.lemmas.List.{drop-take, length-replicate, take-append-drop, take-take}
pub use Rattle.std.proofs.lemmas.List.Elements.{All-from_recursion, filter-append, recursion_from_All}
pub use Rattle.std.specs.List.{AllByRecursion, prefix_len}
pub use Rattle.std.specs.Prelude.{IsTrue, None, Option, Some, nat_le, slice_index}
pub use Rattle.std.specs.Str.{IsAscii, bytes_eq}
