-- The names of specs, and of the crates below, that proofs use, in one place.
pub use Rattle.disk_model.proofs.Offered.{alike_on, alike_same, among_on, at_ok, at_told, changes_none, changes_on, content_now, counts_on, counts_same, either_way, err_there, goes_on, if_told, joined, kept_back, kept_behind, makes_failed, makes_on, makes_weaker, ok_there, on_err, on_ok_both, once, puts_among, puts_among_reads, puts_among_same, puts_among_then, puts_none, puts_on, puts_once, puts_same, quiet_by_sync, quiet_images, reads, reads_none, reads_now, reads_on, reads_same, some_one, some_still, started, stops_on, stops_reads, three_parts, told_before, told_weaker, torn_by, torn_front, torn_length, torn_none, torn_octet, torn_on, torn_wider, torn_within, weaker, written}
pub use Rattle.disk_model.specs.Disk.{AreAmong, Follows, HasContent, IsTold, Only, Torn, Writes}
pub use Rattle.disk_model.specs.Moments.{LeavesOnly, LeavesSince, SinceNow, TakesOneMoment, TimePasses}
pub use Rattle.disk_model.specs.Runs.{ChangesReads, CountsFault, CountsSome, EachImage, IsQuietNow, Leaves, Makes, Puts, PutsAmongReads, Reads, Runs, TakesStep, TellsAlike, images_now, one_if}
pub use Rattle.disk_model.specs.declared.disk.Disk.{Ghosts}
pub use Rattle.disk_model.specs.declared.disk.DiskFault.{DiskFault}
pub use Rattle.file_journal.proofs.ToldLemmas.{knew, known_told, knows_on}
pub use Rattle.file_journal.specs.AmongReads.{DoesAmongReads, among_reads}
pub use Rattle.file_journal.specs.Appending.{Appends, IsAppending, IsPutting, IsTornFrom, LeavesAppending, OpensGate, TakesCalls, with_gate}
pub use Rattle.file_journal.specs.Blocks.{HasBlock, IsWritingBlock, LeavesWritingBlock, WritesBlock}
pub use Rattle.file_journal.specs.Bounds.{EndsIn, HasBehind, RecoversInHalves, StaysInHalves, StaysWithin, longest}
pub use Rattle.file_journal.specs.Commands.{AreAllowed, MakesBetween, MakesFirst, StayDone, after_all, after_first, calls_of, done_at, done_within, octets_of}
pub use Rattle.file_journal.specs.Finding.{BeginsRecord}
pub use Rattle.file_journal.specs.Form.{Form, StandsFor, TellsItsNumber, record_calls, standing_of}
pub use Rattle.file_journal.specs.Formatting.{IsFinishing, IsMakingEven, IsMakingGates, MakesEven, MakesGates}
pub use Rattle.file_journal.specs.Header.{HasHeader}
pub use Rattle.file_journal.specs.Journal.{HasGates, HasGoodHeader, IsAfterFinishing, IsAfterRecovery, IsBeforeOrAfter, IsSameStore, Standing, bad_number, even_header, even_selector, header_text, is_block_number, no_store, read_half, store, store_of, with_last}
unfoldable pub use Rattle.file_journal.specs.Journal.{journal_of}
pub use Rattle.file_journal.specs.Kept.{Course, Does, DoesInTurn, HasRoomFor, IsCut, IsKept, KeptOn, Paces, StandsAt, alone, kept_on}
pub use Rattle.file_journal.specs.Laws.{ComesTo, IsOneWalk, IsRefusedAt}
pub use Rattle.file_journal.specs.Layout.{Blocks, HasBlocks, HoldSame, block_in, block_place, blocks_on, first_gate, half_by, half_end, half_gate, half_in, half_size, other_half, rewriting_calls, selector_of, up_to}
pub use Rattle.file_journal.specs.Ledger.{AnswersAll, AppliesAll, AppliesOne, Takes}
pub use Rattle.file_journal.specs.Next.{IsReadable, ReadsNext, RefusesAt}
pub use Rattle.file_journal.specs.Position.{HasRoom, IsAt, IsSameJournal, MovesOn, Position, StandsAmong, StandsOn, end_of, gate_of, left_to_read, position_at_first, readable, room_in, store_in}
pub use Rattle.file_journal.specs.Putting.{GoesOn, StandsForEither, StaysKept, TurnsInto, seen_on}
pub use Rattle.file_journal.specs.Records.{HasRecord, IsRecord, Reading, Record, StandsFrom, StartsClosed, StartsCut, broken, reading_at, record_in, record_len, record_of, record_text, records_text, starts_whole, whole, with_end, with_record, with_records}
unfoldable pub use Rattle.file_journal.specs.Records.{reading_from, reading_within}
pub use Rattle.file_journal.specs.Recovery.{IsRecovered, IsRecovering, IsSyncedFirst, Recovers, RefusesExactly, gate_in, number_in}
pub use Rattle.file_journal.specs.Restoring.{AnswersRecovery, IsRestored, StandsAlike}
pub use Rattle.file_journal.specs.Rewriting.{Chooses, Covers, IsChoosing, IsRewriting, KeepsBlocks, Lays, LeavesRewriting, MayRewrite, Rewrites, WritesAnew, anew_text, other_gate, rewritten}
pub use Rattle.file_journal.specs.Steps.{HasPut, Holds, IsSeenBy, Knows, MayPut, PutBlock, StandsAs, Steps, Turn, WritesTurn, growing_steps, put_of, walked}
pub use Rattle.file_journal.specs.Walk.{IsOneStep, Stands, StandsForSame, damaged_at, number_or, on_from, see, stands_for, stands_of, state, walk, walk_left, walk_over}
pub use Rattle.file_journal.specs.declared.faults.ReadFault.{ReadFault}
pub use Rattle.file_journal.specs.declared.faults.RecoverFault.{RecoverFault}
pub use Rattle.file_journal.specs.declared.header.Header.{Header}
pub use Rattle.file_journal.specs.declared.layout.Half.{Half}
pub use Rattle.file_journal.specs.declared.layout.Half.TheVariants.{First, Second}
pub use Rattle.file_journal.specs.declared.layout.Layout.{Layout}
pub use Rattle.file_journal.specs.declared.layout.Layout.TheVariants.{Blocks as InBlocks, Growing, Halves}
pub use Rattle.px_base.specs.Numbers.{le16, le32, le32_octets}
pub use Rattle.px_base.specs.Octets.{IsOctets}
pub use Rattle.std.proofs.Math.Seq.{take-append-add}
pub use Rattle.std.proofs.lemmas.Bool.{and_from, both_ways, cases_Bool, cases_eq, cases_lt, cond-false, cond-true, false_from_ne_true, le-leb, le-ltb, leb-true, lt-leb, lt-ltb, ne_eqb, not_from_false, not_from_true}
pub use Rattle.std.proofs.lemmas.Bool.Decides.{leb_tells, nat_tests}
pub use Rattle.std.proofs.lemmas.Grind.{common_steps}
pub use Rattle.std.proofs.lemmas.List.{drop-take, drop_all, drop_at, drop_more, get_or-append-add, get_or-drop, get_or_at, get_or_past, length-take, length-take-le, places, same_lists, take-append-drop, take-append-le, take-take, take_all, take_at, take_rest}
pub use Rattle.std.proofs.lemmas.List.Elements.{All-append, All-cons, All-drop, All-from_get_or, All-from_recursion, All-head, All-nil, All-replicate, All-tail, All-take}
pub use Rattle.std.proofs.lemmas.Result.{IfOk-weaker, err_from_is_err_and, on_ok_weaker}
pub use Rattle.std.specs.List.{AllByRecursion}
pub use Rattle.std.specs.Option.{option_and_then, option_map}
pub use Rattle.std.specs.Prelude.{IsTrue, Result, replicate, slice_get, slice_index, ⊤}
pub use Rattle.std.specs.Str.{bytes_eq}
