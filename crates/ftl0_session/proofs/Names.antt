-- The names of specs, and of the crates below, that proofs use, in one place.
pub use Rattle.disk_model.specs.AtDisk.{AtDisk, at}
pub use Rattle.disk_model.specs.Runs.{ChangesReads, Reads, TellsAlike}
pub use Rattle.disk_model.specs.declared.disk.Disk.{Ghosts}
pub use Rattle.disk_model.specs.declared.disk.DiskFault.{DiskFault}
pub use Rattle.file_store.proofs.Offered.{AreAllowed-split, Does-moved, Does-none, Does-same, after_all-append, after_first-then, among-at, among-parked, among-same, at_told, does-among, find-map-changed, find-push, find_past, found-fits, found-number, grows-after, has_number, in_parked, known_on, last_grow-after, like_bars, like_can_begin, like_complete, like_entry, like_is_complete, like_next, like_none, like_octets_length, like_partial, like_same, like_whole, on_like, on_rules, on_same, puts-among, puts-among-same, reads-only, reads_none, reads_on, reads_same, stands_parked, stays, told_weaker}
pub use Rattle.file_store.specs.Answers.{IsShort, IsTooMuch, RefusesBegin, begin_reaches}
pub use Rattle.file_store.specs.Bars.{Bars}
pub use Rattle.file_store.specs.BeginBar.{BeginBar}
pub use Rattle.file_store.specs.Command.{AreAllowed, Command, DoesAll, MayBegin, after, after_all, begin, can_begin, grown, has_room, last_grow, passes, seal, sealed, stamp_of, unfilled_block, whole_grows}
pub use Rattle.file_store.specs.EntriesKept.{KeepsComplete}
pub use Rattle.file_store.specs.Files.{ChangesRest, KeepsRests}
pub use Rattle.file_store.specs.Headers.{IsHeaderOf, body_octets, header_items, header_octets}
pub use Rattle.file_store.specs.Info.{IsCompleteIn, IsNextComplete, is_complete}
pub use Rattle.file_store.specs.IsStore.{AreEntries, IsStore}
pub use Rattle.file_store.specs.Kept.{ChangesEntry, KeepsOthers, KeepsUploads}
pub use Rattle.file_store.specs.Like.{IsStoreLike}
pub use Rattle.file_store.specs.OnDisk.{Does, after_first, outlined_all}
pub use Rattle.file_store.specs.Reads.{OnlyReads}
pub use Rattle.file_store.specs.State.{IsKnown, IsReady, StandsOn, StoreState, rest_in, store_in, store_on}
pub use Rattle.file_store.specs.Store.{Entry, Holding, Store, blocks_for, blocks_of, complete, entry_of, new_entry, octets_at, octets_of, partial}
pub use Rattle.file_store.specs.Upload.{Holds, Upload, appending, came, ending, entry_for, octets_come, sealing, with_bytes}
pub use Rattle.file_store.specs.Working.{CountsSome, CutsOffAmongReads, DoesAmongReads, PutsAmongReads, one_if}
pub use Rattle.ftl0_packets.specs.Items.{kind_of_item, texts}
pub use Rattle.ftl0_packets.specs.Layout.{Item, PacketValue, data_end, data_part, dir_long_cmd, dir_short_cmd, dl_aborted_resp, dl_ack_cmd, dl_completed_resp, dl_error_resp, dl_nak_cmd, download_cmd, kind_of, packet_text, select_cmd, select_resp, ul_ack_resp, ul_error_resp, ul_go_resp, ul_nak_resp, upload_cmd}
pub use Rattle.ftl0_packets.specs.Values.{item_of, value_of}
pub use Rattle.ftl0_session.specs.Causes.{HasCause, Says}
pub use Rattle.ftl0_session.specs.Downloads.Filling.{filled}
pub use Rattle.ftl0_session.specs.Downloads.Laws.{BeginWithHeaders, IsSent, Sends, SendsAll}
pub use Rattle.ftl0_session.specs.Downloads.Needs.{AreComplete, AreFiles, AreStored, IsDueIn, IsStored, KeepsFiles, LiesIn}
pub use Rattle.ftl0_session.specs.Downloads.Sending.{after_octets, due_len, due_octets, is_due, is_read, is_stored, joined, most_data, moved, octets_due, octets_left, state_after, state_at_end}
pub use Rattle.ftl0_session.specs.Downloads.Spans.{due_of}
pub use Rattle.ftl0_session.specs.Downloads.Table.{DownloadRow, DownloadState, Due, asked_file, asked_row, chosen, chosen_row, complete_octets, directory_row, download_cmd_row, ended_row, file_of, file_row, files_row, has_file, header_due, is_chosen, kept, listed_files, listing, lists_after, long_due, octets_in, ready, refused_row, reply_sending, reply_waiting, select_row, sending, short_due, short_octets, stored, tree_row, waiting}
unfoldable pub use Rattle.ftl0_session.specs.Downloads.Table.{command_row, download_row}
pub use Rattle.ftl0_session.specs.Downloads.Taking.{IsRow, Made, MakesRow, SelectsBy, SelectsNone, TakesByRow, due_by, made, made_by}
pub use Rattle.ftl0_session.specs.Downloads.View.{}
pub use Rattle.ftl0_session.specs.Filling.{IsDue, PutsDue}
pub use Rattle.ftl0_session.specs.Laws.{AcknowledgedLaw, AcknowledgedStandsLaw, Acknowledges, DueFaultLaw, FaultCodeLaw, GrantedLaw, HoldsAll, ResumedLaw, StandsAcknowledged, UnreadLaw, UploadsLaw}
pub use Rattle.ftl0_session.specs.Lists.Lists.{CallerList, IsLists, after_taking, is_of, is_same_call, last_of, left_of, list_of, lists_of_others, numbers_or_none, selected, shortened}
pub use Rattle.ftl0_session.specs.Run.{CommandsLaw, RunsOver, Session, UploadRunLaw, as_event, event_row, session_over}
pub use Rattle.ftl0_session.specs.SessionState.{DoesOne, MayTake, caller_of, session_of, state_in, working_on}
pub use Rattle.ftl0_session.specs.Table.{DuePacket, Row, State, by_download, by_upload, download_part, downloading, due_at, error_by, error_row, failed_reads_told, in_session, next_due, row_among, row_at, state_by, tells_failed_read, upload_part, upload_row}
pub use Rattle.ftl0_session.specs.Taking.{Answers, IsStopped, PutsRow, Taken, TakenOver, TellsRead, Working, at_work, download_row_of, lent, packet_row, row_over, working}
pub use Rattle.ftl0_session.specs.Uploads.Events.{Brings, CallerPacket, Event, at_moment, packet_of, packets_in}
pub use Rattle.ftl0_session.specs.Uploads.Failures.{Failure, NoReadFails, failed_reads, failed_write, is_read_fault, is_write_fault, read_fails, write_fails}
pub use Rattle.ftl0_session.specs.Uploads.Laws.{IsNoFault, RowsLaw}
pub use Rattle.ftl0_session.specs.Uploads.Others.{KeepsOtherCallers}
pub use Rattle.ftl0_session.specs.Uploads.Run.{CommandsOfLaw, commands_of, on_row, replies_to, store_after}
pub use Rattle.ftl0_session.specs.Uploads.Session.{aborting, begin_row, command, continue_row, fault_reply, granted_row, is_all, is_theirs, is_upload_kind, receiving, resumed_row, row_by_read, row_unread, silent_row, taken_row, unread_row, whole_row}
unfoldable pub use Rattle.ftl0_session.specs.Uploads.Session.{session_row}
pub use Rattle.ftl0_session.specs.Uploads.SessionState.{IsHeld, IsOnlyOut, NoOtherOut, PhaseIsHeld, SessionState, number_of, receiving_of, state_of}
pub use Rattle.ftl0_session.specs.Uploads.Taking.{Answered, AnsweredAlone, AnswersRefusal, LooksAtNone, MakesAnyway, TakesPacket, row_of, working_at}
pub use Rattle.ftl0_session.specs.declared.downloads.downloads.Phase.{}
pub use Rattle.ftl0_session.specs.declared.downloads.span.Span.{Span}
pub use Rattle.ftl0_session.specs.declared.uploads.phase.Phase.{Phase}
pub use Rattle.pfh_items.specs.Faults.{code_of, fault_code, first_fault}
pub use Rattle.px_base.specs.CallSign.{CallSign}
pub use Rattle.selection.proofs.ReadLemmas.{IsOctets-slice, one_fault, one_tree}
pub use Rattle.selection.specs.Layout.{Postfix, Tree}
pub use Rattle.selection.specs.Meaning.{holds}
pub use Rattle.selection.specs.Values.{tree_of}
pub use Rattle.selection.specs.declared.fault.SelFault.{SelFault}
pub use Rattle.std.proofs.Math.Seq.{drop-append-add, drop-length, drop-nil, take-append-add, take-append_seam, take-length}
pub use Rattle.std.proofs.lemmas.Bool.{cases_Bool, cases_eq, cases_lt, cond_both, false_from_ne_true, ltb-false, not-false, not_from_false, true≢false}
pub use Rattle.std.proofs.lemmas.Bool.Decides.{Decides-and, Decides-eqb, Decides-like, eqb_tells, leb_tells, nat_tests}
pub use Rattle.std.proofs.lemmas.List.{append-nil, drop-append-le, drop-drop, drop-take, flat_map_more, get_or-drop, get_or-map, length-append, length-drop, length-map, length-take, map-append, take-append-drop, take-append-le, take_all, take_min, take_more}
pub use Rattle.std.proofs.lemmas.List.Elements.{All-append, All-cons, All-drop, All-filter, All-from_recursion, All-head, All-map, All-nil, All-push, All-tail, All-weaker, filter-append, recursion_from_All}
pub use Rattle.std.proofs.lemmas.List.Filters.{length-filter_both}
pub use Rattle.std.proofs.lemmas.List.Folds.{find-append, find_at, list_any-append}
pub use Rattle.std.proofs.lemmas.List.Quantifiers.{all_pairs_push, position-Some}
pub use Rattle.std.proofs.lemmas.Option.{IfSome_then, none-some, same_Some, slice_get_past}
pub use Rattle.std.proofs.lemmas.Slice.Eq.{bytes_eq-Decides}
pub use Rattle.std.specs.List.{AllByRecursion, flat_map, list_all, list_any, position_or_len}
pub use Rattle.std.specs.Option.{option_and_then, option_map, option_or}
pub use Rattle.std.specs.Prelude.{Err, IfNone, IfOk, IfSome, IsErr, IsErrOf, IsSomeAnd, IsTrue, Ok, Result, bytes_eq, false, filter, find, is_some, nat_eq, nat_le, nat_lt, true, ⊤}
