-- The names of specs, and of the crates below, that proofs use, in one place.
pub use Rattle.client_notes.specs.Answers.{IsFull, Noting, StartsBy, answer_at, answer_by, answer_last, answer_of, fresh_task, noted_as, noted_at, noted_by}
pub use Rattle.client_notes.specs.Applied.{cut_to}
pub use Rattle.client_notes.specs.Command.{NotesCommand, acked, after, changed_at, forgot, got, got_file, is_allowed, is_going, is_got_len, is_numbered, is_unnumbered, numbered, passes, refused, set_some, start, with_got, with_got_at, with_octets, with_task, without_got}
pub use Rattle.client_notes.specs.Commands.{command_value}
pub use Rattle.client_notes.specs.Laws.{AreAllowed, IsNotesAfter, after_all}
pub use Rattle.client_notes.specs.Limits.{longest_file}
pub use Rattle.client_notes.specs.Notes.{GotFile, Lists, Task, got_of, is_file_of, is_of_file, is_same_call, last_task, octets_or_none, task_count, task_of}
pub use Rattle.client_notes.specs.NotesLaws.{notes_number, notes_seen}
pub use Rattle.client_notes.specs.Noting.{lists_of, turn_of, without}
pub use Rattle.client_notes.specs.OnDisk.{Answers, Does, EachImage, IsBeforeOrAfter}
pub use Rattle.client_notes.specs.Records.{IsWritable, Writes, acked_in, forgot_by, forgot_in, fresh_notes, got_by, got_in, is_start_len, notes_form, notes_step, notes_steps, numbered_in, record_of_command, refused_in, start_by, start_content, start_in}
unfoldable pub use Rattle.client_notes.specs.Records.{command_of}
pub use Rattle.client_notes.specs.Recovery.{AnswersRecovery, IsRecovered, Recovers, StandsAlike}
pub use Rattle.client_notes.specs.Several.{CutsOff, DoesSeveral, MakesBetween, MakesFirst, after_first, notes_on}
pub use Rattle.client_notes.specs.State.{IsReady, NotesState, StandsFor, StandsOn}
pub use Rattle.client_notes.specs.declared.progress.Progress.{Progress}
pub use Rattle.disk_model.proofs.Offered.{alike_on, at_told, if_told, stops_on, told_before, told_weaker, weaker}
pub use Rattle.disk_model.specs.Runs.{CountsFault, Runs, images_now}
pub use Rattle.disk_model.specs.declared.disk.Disk.{Ghosts}
pub use Rattle.disk_model.specs.declared.disk.DiskFault.{DiskFault}
pub use Rattle.file_journal.proofs.Offered.{Written, after_all_append, after_stands, allowed_append, allowed_first, allowed_split, does_longer, does_none, does_same, does_then, eight, first_then, four, held_kept, if_some, images_here, le32_below, makes_first, makes_within, map_some, number_at, number_front, octet_at, octets_call, octets_drop, octets_joined, octets_le32, octets_one, octets_part, paced_always, paces_exactly, room_always, runs_same, stands_after, stepped, steps, written_step}
pub use Rattle.file_journal.specs.Commands.{StayDone, done_at}
pub use Rattle.file_journal.specs.Kept.{IsKept, KeptOn, StandsAt, alone, kept_on}
pub use Rattle.file_journal.specs.Position.{Position}
pub use Rattle.file_journal.specs.Records.{IsRecord, Record, record_of}
pub use Rattle.px_base.specs.CallSign.{CallSign}
pub use Rattle.px_base.specs.Octets.{IsFront, IsOctets}
pub use Rattle.std.proofs.Math.ListN.{set}
pub use Rattle.std.proofs.lemmas.Bool.{and_parts, eq-eqb, eqb-true, le-leb, leb-true, lt-ltb, ltb-true, ne_eqb}
pub use Rattle.std.proofs.lemmas.Bool.Decides.{eqb_tells, leb_tells, nat_tests}
pub use Rattle.std.proofs.lemmas.Grind.{common_steps}
pub use Rattle.std.proofs.lemmas.List.{drop-append-le, drop-drop, drop_all, get_or-drop, get_or-set_other, get_or-set_same, get_or_append_left, length-set, length-take-le, set-get_or, set-set, take-append-le, take_all}
pub use Rattle.std.proofs.lemmas.List.Elements.{All-from_get_or}
pub use Rattle.std.proofs.lemmas.List.Folds.{find-append, find_at}
pub use Rattle.std.proofs.lemmas.List.Quantifiers.{position-Some}
pub use Rattle.std.proofs.lemmas.Option.{get_or_from_slice_get, same_Some, slice_get-get_or, slice_get_past, slice_get_within}
pub use Rattle.std.proofs.lemmas.Result.{err_from_is_err_and}
pub use Rattle.std.proofs.lemmas.Slice.Eq.{bytes_eq-Decides}
pub use Rattle.std.specs.List.{position, position_or_len}
pub use Rattle.std.specs.Option.{option_map, option_or}
pub use Rattle.std.specs.Prelude.{Err, IsTrue, Ok, Result, bytes_eq, find, nat_le, nat_lt, not, slice_get, slice_index, slice_set, ⊤}
