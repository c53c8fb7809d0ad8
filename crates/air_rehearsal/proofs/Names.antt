-- The names of specs, and of the crates below, that proofs use, in one place.
pub use Rattle.air_world.proofs.attempts.Offered.{all-at, all-by, each-map, old-connection, old-none, place-of-is, place-of-not, some-at}
pub use Rattle.air_world.specs.Attempts.Attempt.{Attempt, IsAnsweredBy, IsAttempt, IsEndOf, IsFromTo, IsOneCall, IsRefusal}
pub use Rattle.air_world.specs.Attempts.Laws.{AreAttempts, IsBetween, IsSeatedIn}
pub use Rattle.air_world.specs.Attempts.Lists.{Placed}
pub use Rattle.air_world.specs.Attempts.Party.{Asked, IsFileOf, IsLinkOf, all_over, client_sends, file_of_task, first_party, newest, newest_side, over, server_sends, sessions_over, to_client_delivered, to_server_delivered, upload_of, with_answered, with_newest}
pub use Rattle.air_world.specs.Attempts.Sides.{ServerSide}
pub use Rattle.air_world.specs.Attempts.Transfers.{ClientDid, ServerDid, after_event, after_hearing, begun, called_again, connection_at, connection_of, did_by, did_to, has_call, heard_by, job_gone_on, served, ticked_by}
pub use Rattle.air_world.specs.Files.Kept.{HoldsAck, IsKept}
pub use Rattle.air_world.specs.Files.SoundStore.{NoneGone}
pub use Rattle.air_world.specs.Files.Uploads.{IsGoodFile, body_octets, file_ext, file_header, file_name, upload_name}
unfoldable pub use Rattle.air_world.specs.Files.Uploads.{upload_file}
pub use Rattle.air_rehearsal.specs.Asking.{MayResume, MayTakeFile}
pub use Rattle.air_rehearsal.specs.Breaches.{halt_of, halted, stop_at}
pub use Rattle.air_rehearsal.specs.Chain.{CarriesOut, DiskStep, Follow, IsCutOff, Stage, StartsAgain, StepBy, last_stage}
pub use Rattle.air_rehearsal.specs.Counting.{EndsSo, Tells, TellsThen, acked_more, asked_more, cut_more, kept_more, no_counts, one_if, outcome_more, told}
pub use Rattle.air_rehearsal.specs.Course.{HasPlayed, Path, counts_to}
pub use Rattle.air_rehearsal.specs.Drawn.{drawn_calls, is_acked, last_acked, rounds}
pub use Rattle.air_rehearsal.specs.Driving.{Comes, Driven, Drives, IsDraw, IsReadyBench, PlaysEach, delivery_of, driven_by}
pub use Rattle.air_rehearsal.specs.Ending.{CountsAcked, IsAtEnd, IsStampedFor, IsUpload, LooksOnly, moment_in, number_in}
pub use Rattle.air_rehearsal.specs.Generator.{Answers, Carries, CarriesOne, Draw, Drawing, DrivenBy, Exchange, Exchanges, IsClosed, IsClosedBy, IsDown, IsDrawnBy, Takes, Tries, TriesIf, TriesTimes, Turn, Turns, attempts_of, between, drawn, ending, fate_of, is_none_of, next_fate, next_number, next_state, none_drawn, none_looked, party_of, put_off, question, sent_of, state_after, still_looked, times_of, wish, wish_by, wish_of}
pub use Rattle.air_rehearsal.specs.LaneCalls.{MayDeliver, is_numbered, overtakes}
pub use Rattle.air_rehearsal.specs.LaneLaws.{ClientLanesLaw, HearingLanesLaw, TickingLanesLaw}
pub use Rattle.air_rehearsal.specs.Lanes.{AreSentAs, HasLanes, IsLane, IsSentAs, Lanes, beginning, is_ua, lanes_by, lanes_of, replying, replying_each, sending, sending_each, sort_of, timing, timing_each}
pub use Rattle.air_rehearsal.specs.NotedTasks.{number_if_acked, number_if_going}
pub use Rattle.air_rehearsal.specs.Numbers.{numbered, place_numbered}
pub use Rattle.air_rehearsal.specs.Opening.{Opened, OpensAll, OpensClient, OpensFirst}
pub use Rattle.air_rehearsal.specs.PartCalls.{ActsPart, BeCut, BeginsPart, KeepsButNotes, KeepsOthers, Restarts, SaysAll, StartsTask, TouchesDisk, TouchesPart, uploads_by, uploads_then}
pub use Rattle.air_rehearsal.specs.PartyCalls.{BreaksOff, IsLastGoing}
pub use Rattle.air_rehearsal.specs.Played.{BenchPlayed, EndsWhole, Opens, PlayedAt, StandInTurn, StaysSo, TellsCuts, first_stage}
pub use Rattle.air_rehearsal.specs.Playing.{Bench, GoesOn, IsBench, IsPlaying, IsStage, PlaysEvent, bench_of, came_in, client_count, counts_with, cuts_in, waiting_in}
pub use Rattle.air_rehearsal.specs.Ready.{AreReady, IsReadyParty, IsReadyServer, IsTheirs, IsUp, KeepParties, KeepsAllButLanes, KeepsClients, KeepsParty}
pub use Rattle.air_rehearsal.specs.Rehearsed.{IsUnlawful, KeepsPromise, PromisedInImages, PromisedSince, Rehearsed, TellAllCuts, lines_before, until}
pub use Rattle.air_rehearsal.specs.Report.{ClientTask, CountOf, IsAcked, IsAckedAndKept, IsReport, Report, all_tasks, came_to, cuts_of, is_fetch, is_question, is_refusal, last_world, tasks_of, times}
pub use Rattle.air_rehearsal.specs.Seats.{BrokeOff, ChangesAt, Clients, ComesAlways, ComesTo, CountsCut, CountsEvent, GoesApart, IsSeated, MayTake, TookPart, clients_of, with_server}
pub use Rattle.air_rehearsal.specs.ServerCalls.{AnswersEvent, AreTimed, ArmsFor, IsCutSo, IsStarted, IsTaken, IsTimed, RepliesAt, SendsByTimer, SendsReplies, event_of}
pub use Rattle.air_rehearsal.specs.ServerEvents.{AwaitsServer, CanCount, CountsOn, ServesEvent, Serving, TellsFailure, server_stage, serving, waiting_of}
pub use Rattle.air_rehearsal.specs.Standing.{Makes, StandsAlike, StandsDuring, StandsNow, least_done}
pub use Rattle.air_rehearsal.specs.Stations.{IsStationOf, Role, Station, acts, breaks_off, client_at, cut_worlds, for_client, looks_on, place_of, role_of, stations_of, the_server, waiting_after, will_be_cut, with_cut}
pub use Rattle.air_rehearsal.specs.Strikes.{Strikes}
pub use Rattle.air_rehearsal.specs.TakingPart.{AreNamed, AsksNext, CarriesPart, DoesPart, HasAll, HasDone, IsPart, IsSeat, PartyGoes, Seat, TakesPart}
pub use Rattle.air_rehearsal.specs.Worlds.{IsSteady, PlayParties, PlaysParty, PlaysStations, PlaysWorld, asked_from}
pub use Rattle.air_rehearsal.specs.declared.asking.Upload.{Upload}
pub use Rattle.air_rehearsal.specs.declared.attempt.Attempt.{}
pub use Rattle.air_rehearsal.specs.declared.cuts.Cut.{Cut}
pub use Rattle.air_rehearsal.specs.declared.generator.Fate.{Fate}
pub use Rattle.air_rehearsal.specs.declared.generator.Looked.{Looked}
pub use Rattle.air_rehearsal.specs.declared.lane.Lane.{Lane}
pub use Rattle.air_rehearsal.specs.declared.lane.Sent.{Sent}
pub use Rattle.air_rehearsal.specs.declared.part.Part.{Part}
pub use Rattle.air_rehearsal.specs.declared.party.Party.{Party}
pub use Rattle.air_rehearsal.specs.declared.report.Report.{}
pub use Rattle.air_rehearsal.specs.declared.stations.Stations.{Stations}
pub use Rattle.air_schedule.specs.Events.{event_value}
pub use Rattle.air_schedule.specs.declared.event.Event.{}
pub use Rattle.air_world.specs.Cuts.{ClientDoes, ClientEvent, Happens, IsRun, Plays, ServerDoes, ServerEvent, WorldStep, broken, client_commands, party_cut, server_commands, started_again}
pub use Rattle.air_world.specs.Events.{ClientPart, ClientTakes, DeliversToClient, DeliversToServer, IsPartOf, IsResuming, ServerTakes, asking_file, next_upload, part_with, with_current}
pub use Rattle.air_world.specs.Headline.{HeadlineIn, HeadlineStays}
pub use Rattle.air_world.specs.Lawful.{HasParty, IsAllowed, IsFree, IsPossible, MayCome, last_unfinished}
pub use Rattle.air_world.specs.Laws.{PartsLaw, ScheduleLaw, SoundLaw, StoresLaw}
pub use Rattle.air_world.specs.Schedule.{Event, IsInRange, IsSchedule, Schedule, ask_download, ask_list, ask_resume, ask_upload, break_client, cut_client, cut_server, tick_client, tick_server, to_client, to_server}
pub use Rattle.air_world.specs.Sound.{IsParty, IsSideAt, Sound}
pub use Rattle.air_world.specs.Step.{ClientGoes, ServerGoes, client_started, parties_after, party_after, party_heard, party_ticked, with_asked}
pub use Rattle.air_world.specs.World.{PartyAt, World, counted, first_world, next_moment, pacsat, store_blocks, with_party}
pub use Rattle.ax25_frames.specs.FrameText.{FrameText, FrameValue}
pub use Rattle.ax25_frames.specs.declared.control.Control.{Control}
pub use Rattle.ax25_frames.specs.declared.control.Control.TheVariants.{Disc, Dm, Frmr, I, Rej, Rnr, Rr, Sabm, Ua, Ui}
pub use Rattle.ax25_link.proofs.Offered.{slice_get-set_other, slice_get-set_same, stations_law}
pub use Rattle.ax25_link.specs.Air.{IsAt, IsLawful, NoneLater, Transmission, control_of, delivering, fresh, sending_all}
pub use Rattle.ax25_link.specs.Ends.{LinkEnd, accept, answering_end, free_octets}
pub use Rattle.ax25_link.specs.Rows.{is_call, outcome, passed_over, row, row_of_state, up_row}
pub use Rattle.ax25_link.specs.Sending.{Drains, Sending, next_sending, sending_after, sends_reply}
pub use Rattle.ax25_link.specs.Stations.{IsFrameOf}
pub use Rattle.ax25_link.specs.Window.{IsGoodK, IsWindow, Window, window_of}
pub use Rattle.ax25_link.specs.declared.state.LinkState.{LinkState}
pub use Rattle.ax25_link.specs.declared.state.LinkState.TheVariants.{Calling, Down, Ending, Up}
pub use Rattle.client_notes.proofs.Offered.{Several-one, one-half}
pub use Rattle.client_notes.specs.Answers.{StartsBy, answer_last, answer_of, fresh_task, noted_as, noted_at, noted_by, start_reaches}
pub use Rattle.client_notes.specs.Command.{NotesCommand, after, is_going, new_task}
pub use Rattle.client_notes.specs.Limits.{longest_file, most_tasks}
pub use Rattle.client_notes.specs.Notes.{Lists, Task, got_of, is_task_for, last_task, no_notes, place_from_end, task_count, task_of}
pub use Rattle.client_notes.specs.Records.{notes_form}
pub use Rattle.client_notes.specs.State.{NotesState, StandsFor}
pub use Rattle.client_notes.specs.declared.answers.Begun.{Begun}
pub use Rattle.client_notes.specs.declared.progress.Progress.{Progress}
pub use Rattle.client_notes.specs.declared.refusals.NotesRefusal.{NotesRefusal}
pub use Rattle.disk_model.proofs.Offered.{alike_on, alike_same, at_told, changes_none, if_told, joined, reads, reads_now, started, told_weaker, weaker}
pub use Rattle.disk_model.specs.AtDisk.{AtDisk, at}
pub use Rattle.disk_model.specs.Cuts.{AreFresh, Arming, ArmsOnly, Cuts, Failed, FailsSo, IsFresh, LastsSo, Passes, Unarmed, UsesUp, cut_state, cuts_by}
pub use Rattle.disk_model.specs.Disk.{IsTold}
pub use Rattle.disk_model.specs.Moments.{LeavesOnly}
pub use Rattle.disk_model.specs.Runs.{ChangesReads, CountsSome, EachImage, IsQuietNow, Leaves, TellsAlike, images_now}
pub use Rattle.disk_model.specs.declared.disk.Disk.{Ghosts}
pub use Rattle.disk_model.specs.declared.disk.DiskFault.{DiskFault}
pub use Rattle.disk_model.specs.declared.halt.Halt.{Halt}
pub use Rattle.file_store_model.specs.Command.{Command, DropsNothing, after_all, begin, drop_entry, grow, seal}
pub use Rattle.file_store_model.specs.Follows.{Follows, FollowsLaw}
pub use Rattle.file_journal.proofs.Offered.{cut_makes, first_all, makes_within, room_always, within_most}
pub use Rattle.file_journal.specs.Form.{Form}
unfoldable pub use Rattle.file_journal.specs.Journal.{journal_of}
pub use Rattle.file_journal.specs.Kept.{HasRoomFor, alone}
pub use Rattle.file_journal.specs.Walk.{state}
pub use Rattle.file_store.proofs.Offered.{after_first-all, cuts-among-all, known_on, like_back, like_entry, like_is_complete, like_octets_length, makes-first, makes-within, on_same, room_for, stands-each}
pub use Rattle.file_store.specs.EntriesInfo.{Info}
pub use Rattle.file_store.specs.OnDisk.{MakesBetween, MakesFirst, after_first, kept_at}
pub use Rattle.file_store.specs.State.{IsKnown, IsReady, StoreState, standing_of, store_form, store_in, store_on}
pub use Rattle.file_store.specs.Store.{Entry, Holding, Store, empty_store, entry_of, octets_at, octets_of}
pub use Rattle.ftl0_client.specs.Attempt.AttemptState.{AttemptState, PutsBy}
pub use Rattle.ftl0_client.specs.Attempt.Attempted.{Attempted, calling}
pub use Rattle.ftl0_client.specs.Calls.{Becomes, HandsOut, HearsBy, SameAttempt, SameButFrames}
pub use Rattle.ftl0_client.specs.Client.{Client, ClientSends, IsSilent, Refused, asking, asks, client_hearing, client_next, new_client, sends_by, sends_of_attempt, sends_of_link, ticking_by, with_attempt}
pub use Rattle.ftl0_client.specs.ClientState.{ClientState, GoWithAttempt, IsAttemptOf, IsClient, attempt_closed, attempt_pending, client_closed, client_most}
pub use Rattle.ftl0_client.specs.ClientStep.{ClientStep}
pub use Rattle.ftl0_client.specs.Outcome.{Outcome}
pub use Rattle.ftl0_client.specs.Outcomes.{is_under_way, outcome_by}
pub use Rattle.ftl0_client_job.specs.Download.{new_download}
pub use Rattle.ftl0_client_job.specs.JobState.{NotesGoWith}
pub use Rattle.ftl0_client_job.specs.Table.{JobState, new_job}
pub use Rattle.ftl0_client_job.specs.Upload.{new_upload}
pub use Rattle.ftl0_server.specs.Calls.{HandsOutNext, Hears, HearsEvent, SameStore}
pub use Rattle.ftl0_server.specs.Connection.Connected.{Connected, caller_of, greeted}
pub use Rattle.ftl0_server.specs.Connection.Hearing.{Happened, hearing, parts_as, progressed, rest_as, ticking}
pub use Rattle.ftl0_server.specs.Server.{Server, ServerHappened, ServerSends, called_by, hearing_at, hearing_by, hearing_stranger, new_server, sends_of_places, server_hearing, server_next, settled}
pub use Rattle.ftl0_server.specs.ServerState.{IsServer, ServerState, server_most}
pub use Rattle.ftl0_server.specs.ServerStep.{Empties, ServerStep, Stepped, happening, stepped}
pub use Rattle.ftl0_server.specs.Slots.{PlacesSend, Slot, all_freed, connected, first_empty, free, freed, leaving, left_by, places_next, slot_ticking}
pub use Rattle.ftl0_session.proofs.uploads.UploadRows.{same_call-decides}
pub use Rattle.ftl0_session.specs.Uploads.Failures.{Failure, NoReadFails, failed_reads, failed_write}
pub use Rattle.ftl0_session.specs.Uploads.Session.{is_same_call}
pub use Rattle.turn_loop.specs.Events.{IsFor, NodeEvent, hears, ticks}
pub use Rattle.pfh_items.proofs.Offered.{AreItems-stamped_items, one_header, stamped-text}
pub use Rattle.pfh_items.specs.Faults.{fault_code, field_of, file_parts}
pub use Rattle.pfh_items.specs.Layout.{FileText, HeaderValue, ItemValue, header_text}
pub use Rattle.pfh_items.specs.Stamp.{StampValue, is_number_item, is_upload_time_item, is_uploader_item, renewed, stamped_item, stamped_items, stamped_parts}
unfoldable pub use Rattle.pfh_items.specs.Stamp.{stamped}
pub use Rattle.pfh_writer.specs.Built.{BuilderValue, built_items, item}
unfoldable pub use Rattle.pfh_writer.specs.Built.{mandatory_saying}
pub use Rattle.px_base.specs.CallSign.{CallSign, CallText, IsBase, IsCall, OneCall, is_call_char}
pub use Rattle.px_base.specs.Numbers.{le32, le32_octets}
pub use Rattle.ftl0_server.specs.StepLaws.Misses.{FrontOfEventLaw, MissesLaw, begun_in}
pub use Rattle.ftl0_server.specs.StepLaws.Places.{SlotDrains, SlotsDrain, StepLaw, refusals}
pub use Rattle.std.proofs.Math.Seq.{take-length}
pub use Rattle.std.proofs.lemmas.Bool.{and_parts, both_ways, cases_Bool, cases_lt, cond-false, cond-true, cond_both, eq-eqb, le-ltb, lt-ltb, ne_eqb, not-true, not_from_false, or_cases, or_from, or_left, or_parts, or_right}
pub use Rattle.std.proofs.lemmas.Bool.Decides.{Decides-eqb, Decides-ltb, eqb_tells, nat_tests}
pub use Rattle.std.proofs.lemmas.Fmt.{decimal_injective, decimal_nonempty}
pub use Rattle.std.proofs.lemmas.Grind.{common_steps}
pub use Rattle.std.proofs.lemmas.List.{append-nil, flat_map_more, get_or-reverse, get_or-set_same, length-map, length-reverse, length-set, length-take-le, take_all}
pub use Rattle.std.proofs.lemmas.List.Elements.{All-from_recursion, All-get_or, filter-append}
pub use Rattle.std.proofs.lemmas.List.FromFn.{map-range_with_len_more, sum_by-map-range_with_len_more}
pub use Rattle.std.proofs.lemmas.List.Sums.{fails_before_first, passes_at_first, sum_by-append, sum_by-cons}
pub use Rattle.std.proofs.lemmas.Option.{get_or_from_slice_get, none-some, same_Some, slice_get-get_or, slice_get-map, slice_get_cases, slice_get_past, slice_get_read, slice_get_within}
pub use Rattle.std.proofs.lemmas.Result.{IfOk-weaker, on_ok_weaker}
pub use Rattle.std.proofs.lemmas.Slice.Eq.{bytes_eq-Decides}
pub use Rattle.std.proofs.lemmas.Slice.Zip.{AllZip-long, all_zipped_more}
pub use Rattle.std.specs.List.{AllByRecursion, AllZip, count_by, find, flat_map, list_any, position, position_or_len, range_with_len, sum_by, zip}
pub use Rattle.std.specs.Option.{option_and_then, option_map, option_map_or, option_or}
pub use Rattle.std.specs.Prelude.{All, Bool, Err, IfOk, IfSome, IsErr, IsErrOf, IsTrue, List, None, Ok, OnErr, OnOk, Option, Result, Some, [], cond, decimal, drop, false, filter, get_or, is_ok, is_some, length, map, min, nat_lt, not, option_copied, refl, slice_get, slice_index_or, slice_set, suc, take, true, zero, ℕ, ⊤}
pub use Rattle.std.specs.Str.{bytes_eq}
