-- The names of specs, and of the crates below, that proofs use, in one place.
pub use Rattle.air_world.proofs.attempts.Offered.{all-by, due-none, each-append, each-at, each-from, each-weaker, flat_map-one, has-at, one-cases, one-last, one-left, one-map, one-placed, one-right, reaches-by, reaches-then, some-at, some-from, some-weaker}
pub use Rattle.air_world.specs.Attempts.Attempt.{Attempt}
pub use Rattle.air_world.specs.Attempts.Laws.{ClientTookFront, ServerTookFront}
pub use Rattle.air_world.specs.Attempts.Lists.{AreFirstOf, Has, OneIs}
pub use Rattle.air_world.specs.Attempts.Party.{AreOver, Asked, EachAttempt, EachSide, IsFileOf, Party, all_over, first_party, newest, over, sessions_over, upload_of}
pub use Rattle.air_world.specs.Attempts.Said.{Acknowledges, Answers, AsksUpload, Grants, IsAnswer, IsTaken, Offers, SaysComplete, Took, octets_come, octets_of_data, octets_of_item, octets_said, octets_taken, said_behind_server}
pub use Rattle.air_world.specs.Attempts.Sides.{ClientSide, IsGreeting, JobReaches, ServerSide, said_by_client, said_by_server}
pub use Rattle.air_world.specs.Files.Dialogue.{IsDueNow, IsListSaid, IsOfListing, Says, Serves, ServesList}
pub use Rattle.air_world.specs.Files.DownloadDialogue.{AreAllSent, AreSent, AreSentFrom, Fetching, IsFetchingFile, IsLast, IsSendingState, IsWord, SaysDownload, Sending, ServesDownload, asked, ended, fetching_said, refused, sending_items, sending_said, sends, silent, told, waits}
pub use Rattle.air_world.specs.Files.Facts.{AreFirstIfAny, AskedWithin, Fetches, FetchesBy, FetchesIn, GoesOnWithTask, HasFacts, HasFetched, HasGotFacts, HasNumber, HasSessionFacts, HasTaskFacts, IsBegun, IsFetching, IsGrantKept, IsGranted, IsNumbered, IsOfferKept, NotesGrant, Receives, coming_by, got}
pub use Rattle.air_world.specs.Files.Kept.{HoldsAck, HoldsTo, IsFileAt, IsKept, IsTaskKept, IsUnderWay, WhereStands}
pub use Rattle.air_world.specs.Files.Laws.{AreNewGrants, GrantedAt, GrantsOnce, IsBeginning, IsDirectoryOf, IsDownloadOf, IsGreeted, IsOne, IsSameParty, IsServed, IsUploadOf, IsWorking, JobKeeps, JobLaw, JobTasksLaw, JobTookFront, LeftIn, LookLike, LooksLike, LooksLikeSession, LooksServed, SessionGoes, SessionKeeps, SessionLaw, SessionLawOf, Stands, TookFront, job_gone, session_gone, started_with, with_attempt, with_job}
pub use Rattle.air_world.specs.Files.SoundStore.{IsSoundStore}
pub use Rattle.air_world.specs.Files.Tasks.{AreTasks, IsTaskFor, IsWork}
pub use Rattle.air_world.specs.Files.UploadDialogue.{AnsweredFirst, GoesOnWith, IsOfferFor, IsOfferedBy, IsReceivingState, IsSendingFile, Receiving, SaysUpload, ServesUpload, answered_by, answered_in, data_items, received_items, receives, receiving_said, unasked}
pub use Rattle.air_world.specs.Files.Uploads.{IsGoodFile}
pub use Rattle.ax25_link.proofs.Offered.{slice_get-set_other, slice_get-set_same}
pub use Rattle.ax25_link.specs.declared.state.Why.{Why}
pub use Rattle.client_notes.proofs.Offered.{after_first-then, got-append, task-after, task-at, task-more, tasks_law}
pub use Rattle.client_notes.specs.Answers.{noted_as, noted_at, noted_by}
pub use Rattle.client_notes.specs.Command.{NotesCommand, acked, changed_at, forgot, new_task, numbered, set_some, start, with_task}
pub use Rattle.client_notes.specs.Laws.{after_all}
pub use Rattle.client_notes.specs.Notes.{GotFile, Lists, Task, got_of, is_same_call, no_notes, task_of}
pub use Rattle.file_store_model.proofs.Offered.{AreAllowed-append, AreAllowed-first, follows_law, grows-allowed, last_grow-allowed}
pub use Rattle.file_store_model.specs.Follows.{AreOf, BringsOctets, FollowsBy, FollowsLaw, HaveFiles, IsOf, KeepsEntries}
pub use Rattle.file_store.proofs.Offered.{after_all-append, after_first-all, find-filter_other, find-map-changed, find-map-changed_other, find-push, find_past, found-fits, found-number, grows-after, has_number, last_grow-after}
pub use Rattle.file_store.specs.Command.{AreAllowed, Command, DoesAll, DropsNothing, HasCall, HaveCalls, KeepsFile, after, begin, can_begin, drop_entry, grow, grown, grows, has_room, is_good, is_partial, last_grow, passes, seal, sealed, unfilled_block, whole_grows, with_holding, with_more}
pub use Rattle.file_store.specs.Headers.{KeepsRules, header_items, parts_or_none}
pub use Rattle.file_store.specs.Info.{IsCompleteIn, is_complete}
pub use Rattle.file_store.specs.IsStore.{AreEntries, FitsLength, IsStore}
pub use Rattle.file_store.specs.OnDisk.{after_first}
pub use Rattle.file_store.specs.Store.{Entry, Holding, Store, complete, empty_store, entry_of, new_entry, octets_at, octets_of, partial}
pub use Rattle.ftl0_client.specs.Attempt.Attempted.{Attempted, outcome_by, outcome_of}
pub use Rattle.ftl0_client.specs.Entries.{GoesBy, JobEntry, after_losing, lost, packets_said, passed, queued, said_in, took}
pub use Rattle.ftl0_client_job.specs.Directory.{Directory, empty_row, is_empty_code, longest_listing, new_directory}
unfoldable pub use Rattle.ftl0_client_job.specs.Directory.{directory_row}
pub use Rattle.ftl0_client_job.specs.Download.{Download, done_row, error_row, fetching_row, gots, last_got, login_row, new_download, unnoted, whole_gots, whole_row}
unfoldable pub use Rattle.ftl0_client_job.specs.Download.{download_row}
pub use Rattle.ftl0_client_job.specs.Due.{DuePacket, due_by, due_from, due_in, in_job, in_work}
pub use Rattle.ftl0_client_job.specs.JobState.{GoBy, HasTask, IsCheckedIn, IsNotBegun}
pub use Rattle.ftl0_client_job.specs.Promises.{EndPromises, JobStands}
pub use Rattle.ftl0_client_job.specs.Row.{Row, ends, ends_later, goes_on, strange, strange_ending}
pub use Rattle.ftl0_client_job.specs.Table.{JobState, item_row, job_after, new_job, row_by, row_of}
unfoldable pub use Rattle.ftl0_client_job.specs.Table.{job_row}
pub use Rattle.ftl0_client_job.specs.Upload.{Upload, ack_row, go_row, may_go, new_upload, number_commands, refusal_of, sending_row}
unfoldable pub use Rattle.ftl0_client_job.specs.Upload.{upload_row}
pub use Rattle.ftl0_client_job.specs.declared.ending.Ending.{Ending}
pub use Rattle.ftl0_client_job.specs.declared.ending.Outcome.{Outcome}
pub use Rattle.ftl0_client_job.specs.declared.phases.DownloadPhase.{DownloadPhase}
pub use Rattle.ftl0_client_job.specs.declared.phases.UploadPhase.{UploadPhase}
pub use Rattle.ftl0_client_job.specs.declared.work.Work.{Work}
pub use Rattle.ftl0_packets.specs.Items.{kind_of_item}
pub use Rattle.ftl0_packets.specs.Layout.{Fits, Item, PacketValue, data_end, data_part, dir_short_cmd, dl_aborted_resp, dl_ack_cmd, dl_completed_resp, dl_error_resp, dl_nak_cmd, download_cmd, kind_of, login_resp, select_cmd, select_resp, ul_ack_resp, ul_error_resp, ul_go_resp, ul_nak_resp, upload_cmd}
pub use Rattle.ftl0_server.specs.Entries.{SessionEntry, after_row}
pub use Rattle.ftl0_session.proofs.downloads.DueLemmas.{joined-after, stored-after, take-all}
pub use Rattle.ftl0_session.proofs.downloads.FileLemmas.{all-complete, file-complete}
pub use Rattle.ftl0_session.specs.DownloadLaws.{DownloadsLaw}
pub use Rattle.ftl0_session.specs.Downloads.Laws.{DueStaysLaw, ListsStayLaw}
pub use Rattle.ftl0_session.specs.Downloads.Needs.{AreComplete, AreFiles, AreStored, IsDueIn, LiesIn}
pub use Rattle.ftl0_session.specs.Downloads.Sending.{after_octets, joined, most_data, octets_due}
pub use Rattle.ftl0_session.specs.Downloads.Table.{DownloadRow, Due, asked_file, asked_row, chosen, complete_octets, ended_row, file_of, file_row, files_row, has_file, is_chosen, listed_files, lists_after, octets_in, refused_row, select_row, short_due, short_octets, tree_row}
pub use Rattle.ftl0_session.specs.Laws.{AcknowledgedLaw, UploadsLaw}
pub use Rattle.ftl0_session.specs.Lists.Lists.{CallerList, after_taking, is_of, lists_of_others, selected, shortened}
pub use Rattle.ftl0_session.specs.Run.{Session}
pub use Rattle.ftl0_session.specs.Table.{State, by_download, by_upload, command, download_part, greeting, listing, next_due, receiving, sending, waiting}
unfoldable pub use Rattle.ftl0_session.specs.Table.{session_row}
pub use Rattle.ftl0_session.specs.Uploads.Session.{begin_row, continue_row, data_row, end_row, granted_row, is_all, is_theirs, resumed_row, taken_row}
pub use Rattle.pfh_items.proofs.Offered.{IsOctets-le16, file_parts-text, no_fault, no_front}
pub use Rattle.pfh_items.specs.Faults.{IsFaultless, content_of, fault_code, header_sum, with_content}
pub use Rattle.pfh_writer.proofs.StampedLemmas.{no_fault-code}
pub use Rattle.px_base.specs.CallSign.{CallSign, IsCall}
pub use Rattle.px_base.specs.Octets.{IsFront, IsOctets}
pub use Rattle.selection.specs.Layout.{Tree}
pub use Rattle.ftl0_server.specs.StepLaws.Rows.{CallerLaw}
pub use Rattle.std.proofs.Math.Seq.{drop-append-add}
pub use Rattle.std.proofs.lemmas.Bool.{cases_eq, cases_lt}
pub use Rattle.std.proofs.lemmas.Bool.Decides.{Decides-eqb, eqb_tells, nat_tests}
pub use Rattle.std.proofs.lemmas.List.{drop-append-le, drop-drop, drop_at, length-drop, length-map, length-set, length-take, length-take-le, map-append, nil_from_length, take-append-le, take_all, take_at}
pub use Rattle.std.proofs.lemmas.List.Concat.{flat_map-append}
pub use Rattle.std.proofs.lemmas.List.Elements.{All-append, All-cons, All-drop, All-filter, All-from_recursion, All-head, All-map, All-nil, All-tail, All-take, All-weaker, recursion_from_All}
pub use Rattle.std.proofs.lemmas.Option.{same_Some, slice_get_within}
pub use Rattle.std.specs.List.{AllByRecursion, concat, flat_map, list_all}
pub use Rattle.std.specs.Option.{option_and_then, option_map}
pub use Rattle.std.specs.Prelude.{Err, IfSome, IsTrue, List, Ok, Result, Some, drop, filter, find, length, nat_le, nat_lt, slice_get, slice_set, take, unwrap_or, ℕ, ⊤}
