-- The names of specs, and of the crates below, that proofs use, in one place.
pub use Rattle.file_store_blocks.proofs.Offered.{changed_is, changed_leaves, entry_seen, found_length, given_length, grows_allowed, kept_seals, kept_step, new_is_found, none_past, octets_written, outlined_found, outlined_grown, outlined_info, outlined_new, outlined_next, outlined_rules, outlined_sealed, placed_stands, room_for_commands, seal_step, seen_after, seen_allowed, seen_like, seen_may_grow, seen_put, seen_sealed, seen_store, stands_placed, without_is, without_leaves}
pub use Rattle.file_store_blocks.specs.Checking.{ChecksFile, HasFault, IsFaultCode, IsSealable}
pub use Rattle.file_store_blocks.specs.IsPlaced.{ArePlaced, IsPlaced, IsPlacedFile, KeepsSeals}
pub use Rattle.file_store_blocks.specs.KeptLaws.{after_placed, blocks_seen, drop_placed, grow_placed, rooms_files, seal_placed, sum_map}
pub use Rattle.file_store_blocks.specs.Outlined.{outlined, outlined_entry}
pub use Rattle.file_store_blocks.specs.Placed.{Placed, PlacedStore, Seal, new_placed, placed_of}
pub use Rattle.file_store_blocks.specs.PlacedCommand.{PlacedCommand, can_grow, is_partial, is_whole, seal_with, sealed, with_grown, with_new, with_sealed, without_file}
pub use Rattle.file_store_blocks.specs.PlacedFiles.{Becomes, ChangesRest, EntriesState, IsLowest, IsSealedIn, KeepsRests, PlacedFile, PlacedFiles, entries_of, file_of, lacks_octets, octets_or_none, placed_info, rest_of, rest_with, store_of}
pub use Rattle.file_store_blocks.specs.PlacedForm.{placed_form, placed_steps}
pub use Rattle.file_store_blocks.specs.PlacedLaws.{placed_seen}
pub use Rattle.file_store_blocks.specs.PlacedRecords.{IsWritable, placed_after, record_of_placed}
pub use Rattle.file_store_blocks.specs.Sealed.{Sealed, octets_given}
pub use Rattle.file_store_blocks.specs.Seen.{entry_with, holding_with, octets_in, seen, seen_entry, stamp_at, whole_block}
pub use Rattle.file_store_blocks.specs.TestLaws.{Grows, Passes, TakesSeal, passes_found}
pub use Rattle.disk_model.proofs.Offered.{puts_among, puts_among_then, puts_none, reads_same, told_weaker}
pub use Rattle.disk_model.specs.AtDisk.{AtDisk, at}
pub use Rattle.disk_model.specs.Disk.{FillsRoom, IsTold}
pub use Rattle.disk_model.specs.Runs.{Leaves, Reads, TellsAlike, images_now, one_if}
pub use Rattle.disk_model.specs.declared.disk.Disk.{Ghosts}
pub use Rattle.disk_model.specs.declared.disk.DiskFault.{DiskFault}
pub use Rattle.file_store_model.proofs.Offered.{AreAllowed-append, Told, after-other, after_all-append, begin-KeepsComplete, both-true, find-append_found, find-map-changed, find-map-changed_other, find-push, find_past, found-fits, found-number, found-passes, good-partial, grow-allowed, grows-after, grows-allowed, has_number, last_grow-after, last_grow-allowed, never-both, partial-held, room-partial, told, told-held}
pub use Rattle.file_store_model.specs.Command.{AreAllowed, Command, DropsNothing, MayBegin, after, after_all, begin, can_begin, changed, drop_entry, grow, grown, grows, has_room, is_allowed, is_good, last_grow, passes, seal, unfilled_block, whole_grows, with_holding, with_more}
pub use Rattle.file_store_model.specs.Faults.{fault_code}
pub use Rattle.file_store_model.specs.Headers.{IsHeaderOf, IsWholeHeader, body_octets, header_items, parts_or_none}
pub use Rattle.file_store_model.specs.Info.{IsCompleteIn, IsNextComplete, info_of, is_complete}
pub use Rattle.file_store_model.specs.IsStore.{IsStore}
pub use Rattle.file_store_model.specs.Kept.{KeepsComplete}
pub use Rattle.file_store_model.specs.Limits.{last_next, longest_file, most_entries}
pub use Rattle.file_store_model.specs.Store.{Entry, Holding, Store, blocks_for, blocks_of, complete, entry_count, entry_of, free_blocks, holding_of, new_entry, octets_at, octets_of, partial, store_from}
pub use Rattle.file_journal.proofs.Offered.{among_does, among_same, among_then, does_longer, does_none, does_same, does_then, first_all, first_then, good_header, held_kept, images_here, knew, knows_on, makes_first, makes_within, reads_only, same_on, stands_through}
pub use Rattle.file_journal.specs.AmongReads.{among_reads}
pub use Rattle.file_journal.specs.Kept.{HasRoomFor, IsKept, KeptOn, StandsAt, kept_on}
pub use Rattle.file_journal.specs.Layout.{Blocks, blocks_on}
pub use Rattle.file_journal.specs.Records.{Record, record_of}
pub use Rattle.file_store.specs.Answers.{RefusesBegin, seal_commands, seal_missed}
pub use Rattle.file_store.specs.Changes.{HasFor, LetsBy, MakesOf, MayMake, placed_by, turn_by, waiting_in}
pub use Rattle.file_store.specs.Ending.{EndsFile, EndsInOrder, IsSealedAt, IsWhole, LeavesOthers}
pub use Rattle.file_store.specs.Kept.{ChangesEntry, KeepsOtherFiles, KeepsOthers, KeepsUploads, OnlyChanges}
pub use Rattle.file_store.specs.Laws.{HoldsInEach, IsKeptInEach, IsKeptOn, ReceiptLaw, StandsInEach}
pub use Rattle.file_store.specs.OnDisk.{Does, DoesTo, MakesBetween, after_first, kept_at, outlined_all, outlined_command}
pub use Rattle.file_store.specs.Recovery.{RefusesRecovery, StandsAlike}
pub use Rattle.file_store.specs.State.{IsKnown, IsReady, StandsFor, StandsOn, StoreState, placed_in, rest_in, standing_of, state_from, store_form, store_in, store_layout, store_magic, store_on}
pub use Rattle.file_store.specs.Upload.{FillsBlock, FitsBytes, FitsWaiting, HasEntry, Holds, IsWholeWaiting, Upload, appended, appending, came, come_of, ending, entry_for, held_whole, kept_file, new_upload, octets_come, sealing, upload_from, upload_of, upload_stamp, waiting, waiting_with, with_bytes}
pub use Rattle.file_store.specs.Working.{CutsOffAmongReads, DoesAmongReads, PutsAmongReads}
pub use Rattle.file_store.specs.declared.change.EntriesChange.{EntriesChange}
pub use Rattle.file_store.specs.declared.refusals.BeginRefusal.{BeginRefusal}
pub use Rattle.pfh_items.specs.Faults.{StandsOnce, has_none, is_one_of_len, items_with}
unfoldable pub use Rattle.pfh_items.specs.Faults.{file_parts}
pub use Rattle.px_base.specs.CallSign.{CallSign}
pub use Rattle.std.proofs.lemmas.Bool.{and_from, and_parts, eq-eqb, eqb-true, ltb-true}
pub use Rattle.std.proofs.lemmas.Bool.Decides.{eqb_tells, nat_tests}
pub use Rattle.std.proofs.lemmas.List.{append-nil, drop-map, length-map, length-replicate, length-take-le, map-append, replicate-append-replicate, take-map, take-replicate}
pub use Rattle.std.specs.List.{AllByRecursion, flat_map, list_all}
pub use Rattle.std.specs.Option.{option_and_then, option_map}
pub use Rattle.std.specs.Prelude.{IfErr, IfNone, IfSome, IsErrAnd, IsSome, IsSomeAnd, IsTrue, find, is_none, is_some, not, replicate}
