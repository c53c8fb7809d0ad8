-- The names of specs, and of the crates below, that proofs use, in one place.
pub use Rattle.air_schedule.specs.Causes.{IsCause, fault_of_hex}
pub use Rattle.air_schedule.specs.Events.{IsNoEvent, event_value}
pub use Rattle.air_schedule.specs.Schedule.{AreDistinct, AreTokens, Event, IsInRange, IsSchedule, Schedule, ask_download, ask_list, ask_resume, ask_upload, break_client, cut_client, cut_server, tick_client, tick_server, to_client, to_server}
pub use Rattle.air_schedule.specs.Text.{BeginSchedule, BeginsWell, EventText, EventWords, FirstBadLine, Line, LineText, LineWords, LinesThen, ScheduleText, client_line, event_line, lines_of, parts_of, window_line, words_of}
pub use Rattle.air_schedule.specs.declared.fault.LineFault.{LineFault}
pub use Rattle.air_schedule.specs.declared.fault.LineFault.TheVariants.{NoLine, OutOfMemory}
pub use Rattle.hex.proofs.HexLemmas.{decode_of-ok, decode_of-same}
pub use Rattle.hex.specs.Hex.{decode_of, is_hex_digit}
pub use Rattle.px_base.specs.CallSign.{CallSign, CallText, IsCall, is_call_char, ssid_digits}
pub use Rattle.std.proofs.lemmas.Bool.{cases_lt, eqb-false, eqb-true, false≢true, ltb-true, or_cases, or_parts, true≢false}
pub use Rattle.std.proofs.lemmas.Bool.Decides.{Decides-and, Decides-eqb, Decides-like, eqb_tells, nat_tests}
pub use Rattle.std.proofs.lemmas.Fmt.{decimal_injective, decimal_is_IsNumeral, parse-decimal}
pub use Rattle.std.proofs.lemmas.List.{length-map, map-append, take_all}
pub use Rattle.std.proofs.lemmas.List.Elements.{All-append, All-cons, All-from_get_or, All-from_recursion}
pub use Rattle.std.proofs.lemmas.List.Splits.{join_with_byte-slice_split, length-slice_split, slice_split_at, slice_split_first, slice_split_none}
pub use Rattle.std.proofs.lemmas.List.Sums.{AllPass-from_list_all, fails_before_first, position_or_len_is}
pub use Rattle.std.proofs.lemmas.Slice.Eq.{bytes_eq-Decides}
pub use Rattle.std.specs.List.{All, AllByRecursion, join_with_byte, list_all, list_any, position, position_or_len}
pub use Rattle.std.specs.Prelude.{IsTrue, MatchOption, not}
pub use Rattle.std.specs.Str.{IsUtf8}
