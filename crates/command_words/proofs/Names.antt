-- The names of specs, and of the crates below, that proofs use, in one place.
pub use Rattle.clap.specs.Faults.{built_fault, check_fault, fault_of, is_free_app, is_simple_and_free, level_fault, long_fault, option_fault, settle_fault, stray_fault, turn_fault, use_fault}
unfoldable pub use Rattle.clap.specs.Faults.{flags_fault, walk_fault}
pub use Rattle.clap.specs.Kinds.{Kinds, or_else}
pub use Rattle.clap.specs.Lexer.{has_byte, long_of, short_of, usize_max}
pub use Rattle.clap.specs.Simple.{App, HasMatchesOf, Shape, built, filled_from, is_buildable, is_ready, is_ready_leaf, is_simple, matches_of, names_of, new_rule, new_shape, with_rule}
pub use Rattle.clap.specs.Takes.{built_takes, default_passes, is_given, is_valid, level_passes, settle_passes, takes, turn_passes, use_passes}
unfoldable pub use Rattle.clap.specs.Takes.{walk_passes}
pub use Rattle.clap.specs.Walk.{Held, Row, Rule, Waiting, Walk, arg_by_id, arg_by_index, arg_by_long, arg_by_short, at_row, finished, first_of, has_row, idle, is_early_multiple, more_values, nothing_held, option, rows_after, rows_of, settled_rows, used, with_default, with_values, without}
unfoldable pub use Rattle.clap.specs.Walk.{walked}
pub use Rattle.clap.specs.Words.{app_of}
pub use Rattle.command_words.specs.Asked.{AsksFor, AsksRehearseFor, IsRehearseText}
pub use Rattle.command_words.specs.Clients.{AreTermsInRange, ClientText, FetchText, HexText, ListText, SendText, TermsText, client_options}
pub use Rattle.command_words.specs.Commands.{AsksBy, IsCommandOf, client_word, word_of}
pub use Rattle.command_words.specs.Disks.{IsDiskOf}
pub use Rattle.command_words.specs.Grammar.{IsDashed, IsPart, Line, Part, Reading, joined, line_places, line_value, place, place_in, spaced, value_in, values_of, words_of, words_of_end}
pub use Rattle.command_words.specs.Laws.{AsksFrames, AsksServe, AsksSession, Determined, OnlyBody, OnlyMake, OnlyOne}
pub use Rattle.command_words.specs.Lines.{ClientLine, DrawnLine, IsFound, IsLine, MakeLine, ServeLine, SessionLine, are_apart, are_places, body_app, client_app, client_places, command_of, drawn_app, fetch_app, fetch_places, is_option_name, make_app, option_of, options_added, options_read, place_of, serve_app, session_app}
pub use Rattle.command_words.specs.Making.{MakeOptions, MakeSays, MakeText, make_options, options_given}
pub use Rattle.command_words.specs.Numbers.{GivesNumber, IsDigit, IsNumberOr, NumberText, default_blocks, default_k, default_polls, number_after}
pub use Rattle.command_words.specs.Rehearsals.{AreDrawable, DrawnText, rehearse_options}
pub use Rattle.command_words.specs.Words.{AreInRange, AsksClient, AsksHeader, AsksRehearse, BodyText, CallGiven, InSet, IsAir, IsBody, IsHostPort, IsMake, IsNamed, IsServe, IsSession, IsUsage, NameText, NeedsAir, NeedsNeither, ServeText, SessionText, commands, serve_options, session_options}
pub use Rattle.command_words.specs.declared.air.AirWord.TheVariants.{HostPort, Nothing, Standard}
pub use Rattle.command_words.specs.declared.command.ClientCommand.{ClientCommand}
pub use Rattle.command_words.specs.declared.command.CommandWord.{CommandWord}
pub use Rattle.command_words.specs.declared.command.FileCommand.{FileCommand}
pub use Rattle.command_words.specs.declared.command.FileCommand.TheVariants.{Check, Frames, Show}
pub use Rattle.command_words.specs.declared.disk.DiskWord.{DiskWord}
pub use Rattle.command_words.specs.declared.disk.DiskWord.TheVariants.{Fresh, Named}
pub use Rattle.header_tool.specs.Made.{MakeValue, make_value, spec_refusal}
pub use Rattle.px_base.proofs.Calls.{call_is, cut_of, one_call}
pub use Rattle.px_base.specs.CallSign.{CallSign, CallText, SsidText, base_length, padded, ssid_digits}
pub use Rattle.std.proofs.lemmas.Bool.{and_from, and_parts, and_right, cases_Bool, cases_eq, cases_lt, ltb-true, not-false, not-true, or_parts, or_right}
pub use Rattle.std.proofs.lemmas.Result.{IfOk-weaker, err_from_is_err_and}
pub use Rattle.std.specs.List.{AllByRecursion, AllZip, after_first, before_first, list_all, list_any, position_or_len}
pub use Rattle.std.specs.Prelude.{Contains, IfNone, IfOk, IfSome, count_by, flat_map, fold, is_some, slice_get}
pub use Rattle.std.specs.Str.{IsUtf8, bytes_eq, chars}
pub use Rattle.std.specs.declared.string.String.{String}
