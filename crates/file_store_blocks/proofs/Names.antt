-- The names of specs, and of the crates below, that proofs use, in one place.
pub use Rattle.file_store_blocks.specs.Anew.{IsAt, command_in, commands_in, commands_of, grows_in, left_from, left_in, seals_in, written}
pub use Rattle.file_store_blocks.specs.Applied.{Applied, AppliesRecord, TakesNext, TellsSeal}
pub use Rattle.file_store_blocks.specs.Checking.{ChecksFile, HasChecked, IsFaultCode, IsSealable, StampSetting, stamp_of}
pub use Rattle.file_store_blocks.specs.FilesLaws.{changed_past, found_holds, sum_changed, sum_without}
pub use Rattle.file_store_blocks.specs.IsPlaced.{ArePlaced, IsPlaced, IsPlacedFile, KeepsSeal, KeepsSeals, Rise}
pub use Rattle.file_store_blocks.specs.KeptLaws.{after_placed, begin_placed, blocks_seen, drop_placed, grow_placed, grows_full, header_found, header_within, none_is_placed, rooms_files, seal_placed, sum_map, times_at}
pub use Rattle.file_store_blocks.specs.MadeLaws.{IsMade, all_made, nothing_made, recorded_seals, step_made}
pub use Rattle.file_store_blocks.specs.Placed.{Decides, Placed, PlacedStore, Seal, has_number, is_sealed, new_placed, placed_from, placed_of, run_of, runs_of, times_sealed, with_next}
pub use Rattle.file_store_blocks.specs.PlacedCommand.{PlacedCommand, after, begin, can_grow, can_seal, changed, drop_entry, grow, grown, header_at, is_allowed, is_free, is_partial, is_whole, passes_at, seal, seal_with, sealed, seen_command, with_changed, with_grown, with_new, with_sealed, without_file}
pub use Rattle.file_store_blocks.specs.PlacedCommands.{placed_value}
pub use Rattle.file_store_blocks.specs.PlacedFiles.{AreKept, Becomes, ChangesRest, EntriesState, IsLowest, IsNextSealed, IsPlace, IsSealedIn, KeepsReading, KeepsRests, PlacedFile, PlacedFiles, Waits, entries_of, file_of, files_from, in_runs, is_sealed_file, lacks_octets, octets_or_none, placed_info, read_of, rest_of, seal_of, seal_value, store_of, with_run}
pub use Rattle.file_store_blocks.specs.PlacedForm.{placed_form, placed_steps}
pub use Rattle.file_store_blocks.specs.PlacedLaws.{nothing_is, placed_seen, step_state}
pub use Rattle.file_store_blocks.specs.PlacedRecords.{CanRecord, IsWritable, octets_for, placed_after, placed_magic, read_step, record_of_placed, record_of_recorded, recorded_in}
pub use Rattle.file_store_blocks.specs.ReadLaws.{kept_after, kept_allowed, may_number, next_placed, read_placed, recorded_blocks}
pub use Rattle.file_store_blocks.specs.ReadStore.{IsReadStore, ReadStore, Recorded, after_recorded, change, is_recordable, may_change, may_have, next_is, nothing_read, with_later}
pub use Rattle.file_store_blocks.specs.Reading.{StandsIn, block_octets, blocks_of, octets_on}
pub use Rattle.file_store_blocks.specs.RecordLaws.{begin_len, of_command_kind, of_kind_1, of_kind_2, of_kind_3, of_kind_4, of_next_kind, of_other_kind, placed_records, recorded_record, recorded_says, recorded_written, says_recorded, written_record}
pub use Rattle.file_store_blocks.specs.SealLaws.{SaysIn, after_seals}
pub use Rattle.file_store_blocks.specs.Sealed.{HasRuns, IsSealedHeader, ReadsSealed, Sealed, octets_given, sealed_file, sealed_octets}
pub use Rattle.file_store_blocks.specs.Seen.{entry_with, holding_with, octets_in, seen, seen_entry, stamp_at, sum_with, whole_block}
pub use Rattle.file_store_blocks.specs.Sizes.{FillBlocks, FillsBlocks, IsSized, entry_octets, held_octets, size_of_store}
pub use Rattle.file_store_blocks.specs.Taking.{TookFront}
pub use Rattle.file_store_blocks.specs.TestLaws.{Grows, MayGrow, Passes, TakesSeal, may_grow, may_seal, may_take, partial_none, passed, passes_found, seals_whole, whole_is}
pub use Rattle.file_store_blocks.specs.declared.file_blocks.FileBlocks.{FileBlocks}
pub use Rattle.file_store_blocks.specs.declared.file_check.FileCheck.{FileCheck}
pub use Rattle.file_store_blocks.specs.declared.stored_file.SealMark.{SealMark}
pub use Rattle.file_store_blocks.specs.BlockTable.Table.{Run, Table, new_run, rooms_of, run_at, times_of, with_block}
pub use Rattle.disk_model.proofs.Offered.{reads_on, reads_same, told_weaker}
pub use Rattle.disk_model.specs.Disk.{FillsRoom, IsTold}
pub use Rattle.disk_model.specs.Runs.{Reads, images_now}
pub use Rattle.disk_model.specs.declared.disk.Disk.{Ghosts}
pub use Rattle.file_store_model.proofs.Offered.{begin-allowed, blocks-map-changed, both-true, faultless-code, good-partial, grow-is_allowed, grow-takes, header-of, header_short, items-text, passes-entry, whole-of}
pub use Rattle.file_store_model.specs.Command.{AreAllowed, Command, DropsNothing, KeepsFile, MayBegin, after_all, can_begin, can_take, is_good, kept_with, passes, with_holding, with_more}
pub use Rattle.file_store_model.specs.Headers.{header_items, header_octets, parts_or_none}
pub use Rattle.file_store_model.specs.IsStore.{AreEntries, FitsLength, HaveCallers, IsStore}
pub use Rattle.file_store_model.specs.Limits.{last_next, longest_file, most_entries}
pub use Rattle.file_store_model.specs.Store.{Entry, Holding, Store, blocks_for, complete, entry_of, holding_of, new_entry, octets_of, partial, store_from}
pub use Rattle.file_store_model.specs.declared.info.Info.{Info}
pub use Rattle.file_journal.proofs.Offered.{Written, after_stands, are_made, octets_joined, octets_part, room_within, stands_after, stepped, steps}
pub use Rattle.file_journal.specs.Kept.{HasRoomFor, StandsAt}
pub use Rattle.file_journal.specs.Layout.{Blocks, HasBlocks, HoldSame, block_in, blocks_on, half_in, half_size}
pub use Rattle.file_journal.specs.Position.{Position, StandsAmong}
pub use Rattle.file_journal.specs.Records.{IsRecord, Reading, Record, broken, records_text, whole}
pub use Rattle.file_journal.specs.Steps.{HasPut, StandsAs, walked}
pub use Rattle.pfh_items.proofs.Offered.{after_start, file_parts-text, item_at, items_from-ran, items_from-whole, no_fault, stamped-text}
pub use Rattle.pfh_items.specs.Faults.{IsFaultless, code_of, fault_code, first_fault, items_with, with_content}
pub use Rattle.pfh_items.specs.Layout.{AreItems, FileText, HeaderText, HeaderValue, ItemValue, end_item, header_start, header_text, items_text}
pub use Rattle.pfh_items.specs.Stamp.{StampValue, is_number_item, is_upload_time_item, is_uploader_item, stamped, stamped_item, stamped_items}
pub use Rattle.pfh_writer.proofs.StampedLemmas.{length-stamped, no_fault-code}
pub use Rattle.pfh_writer.specs.Given.{IsFaultlessFile, stamped_sum}
pub use Rattle.pfh_writer.specs.Stamping.{HasStamped, IsCutData, PassesItems, StamperValue, given_item}
pub use Rattle.px_base.specs.CallSign.{CallSign, IsCall}
pub use Rattle.px_base.specs.Octets.{IsOctets}
pub use Rattle.std.proofs.Math.Nat.{le-max_right}
pub use Rattle.std.proofs.Math.Seq.{take-append-add, take-length}
pub use Rattle.std.proofs.lemmas.Bool.{and_parts, cases_lt, eq-eqb, eqb-true, false≢true, le-leb, leb-true, lt-ltb, ltb-true}
pub use Rattle.std.proofs.lemmas.Bool.Decides.{eqb_tells, nat_tests}
pub use Rattle.std.proofs.lemmas.Grind.{common_steps, flat_map-append}
pub use Rattle.std.proofs.lemmas.List.{append-nil, append_assoc, append_cancel_left, drop-append-le, drop-drop, drop-take, drop_at, get_or-drop, get_or-take, get_or_append_left, length-map, length-replicate, length-set, length-take, length-take-le, map-append, places, replicate-append-replicate, same_lists, set-get_or, take-append-drop, take-append-le, take-take, take_at, with_items_is}
pub use Rattle.std.proofs.lemmas.List.Sums.{sum_by-append, sum_by-cons, sum_by_push}
pub use Rattle.std.proofs.lemmas.Option.{slice_get-get_or}
pub use Rattle.std.proofs.lemmas.Result.{on_ok_weaker}
pub use Rattle.std.specs.List.{AllByRecursion, flat_map, remove}
pub use Rattle.std.specs.List.Sorted.{IsBinarySearchResult, IsNonDecreasingBy, IsPartitionPoint, IsPartitionedBy, IsSearchInRange}
pub use Rattle.std.specs.Option.{option_and_then, option_map, unwrap_or}
pub use Rattle.std.specs.Ordering.{nat_cmp, ordering_index}
pub use Rattle.std.specs.Prelude.{All, IfNone, IfOk, IfSome, IsErrOf, IsSome, IsTrue, find, is_none, is_some, nat_le, nat_lt, slice_get, sum_by}
pub use Rattle.std.specs.Result.{is_err, result_ok}
