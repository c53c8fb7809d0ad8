-- The names of specs, and of the crates below, that proofs use, in one place.
pub use Rattle.air_world.specs.Attempts.Attempt.{AreFromTo, Attempt, IsAnswered, IsAnsweredBy, IsAttempt, IsEndOf, IsFromTo, IsOneCall, IsRefusal, IsUnanswered, client_station, server_station}
pub use Rattle.air_world.specs.Attempts.Laws.{AreAttempts, Calls, ClientLaw, CurrentLaw, DeliversToClient, DeliversToServer, FrontLaw, GoesWith, HeardFrontLaw, HeardLaw, IsBetween, IsKnown, IsNewestSession, IsSeatedIn, LeftLaw, MayComeTo, MaySay, MaySayAt, SaysFit, ServerHearsLaw, ServerTicksLaw, SessionHears, SitsBy, StaysServer, WorkFits, did_in}
pub use Rattle.air_world.specs.Attempts.Lists.{AreFirstOf, Has, OneIs}
pub use Rattle.air_world.specs.Attempts.Party.{AreOver, IsLinkOf, OnlyNewestUp, all_over, newest_side, over, server_sends, to_client_delivered, to_server_delivered, with_answered, with_newest}
pub use Rattle.air_world.specs.Attempts.Sides.{ClientSide, IsJob, IsJobRow, IsSession, JobReaches, ServerSide, SessionReaches, said_by_client, said_by_server}
pub use Rattle.air_world.specs.Attempts.Transfers.{ClientDid, ServerDid, after_event, after_hearing, called_again, connection_at, connection_of, did_by, did_to, has_call, has_session, heard_by, job_gone_on, served, ticked_by}
pub use Rattle.ax25_frames.specs.FrameText.{FrameValue}
pub use Rattle.ax25_frames.specs.declared.control.Control.{Control}
pub use Rattle.ax25_frames.specs.declared.control.Control.TheVariants.{Disc, Dm, Frmr, I, Rej, Rnr, Rr, Sabm, Ua, Ui}
pub use Rattle.ax25_link.proofs.Offered.{acknowledging-keeps, concat-append_one, prefix_law, slice_get-set_other, slice_get-set_same, stations_law}
pub use Rattle.ax25_link.specs.Acknowledging.{Meaning, applying, bad, good, is_bad, is_good, meaning_of, stale, with_timer_anew}
pub use Rattle.ax25_link.specs.Air.{IsAt, IsLawful, Transmission, control_of, delivering, fresh, is_numbered, sending_all}
pub use Rattle.ax25_link.specs.Calls.{DoesAll, Doing, abandon, after_doing, after_hang_up, after_push, hang_up, push}
pub use Rattle.ax25_link.specs.Ends.{Farewell, LinkEnd, Reply, answering_end, call, calling_end, free_octets, oldest, outstanding, ready, refuse}
pub use Rattle.ax25_link.specs.Frames.{frame_of_reply, receive_number}
pub use Rattle.ax25_link.specs.Laws.{AreAnswers, HasNoCall, IsOpening, IsUnused}
pub use Rattle.ax25_link.specs.LinkStep.{Coming, LinkStep, after_coming, frame, heard_of_coming, heard_of_tick, tick}
pub use Rattle.ax25_link.specs.Linked.{AreLinked, Station, ack_number, send_number}
pub use Rattle.ax25_link.specs.Refusals.{is_answered, refusal_frame}
pub use Rattle.ax25_link.specs.Rows.{Outcome, accepting, after_frame, calling_row, closing, down_row, ending_row, entering, heard_of, information_row, is_call, numbered_row, out_of_sequence, outcome, passed_over, refusing, replying, row, row_of_state, sending_again, supervisory_row, unless_oldest, up_row, with_busy}
pub use Rattle.ax25_link.specs.Sending.{Drains, IsQuiet, Sending, has_new, is_empty, last_sending, later_sending, next_sending, sending_after, sends_again, sends_farewell, sends_new, sends_reply, with_piece}
pub use Rattle.ax25_link.specs.Stations.{IsFrameOf, SendsOwn, Stations, stations_of}
pub use Rattle.ax25_link.specs.Timer.{after_count, after_tick, is_down, is_spent, is_up, runs_out, timer_reply, told_of_tick, trying}
pub use Rattle.ax25_link.specs.Window.{IsWindow, Window}
pub use Rattle.ax25_link.specs.declared.state.Heard.{Heard}
pub use Rattle.ax25_link.specs.declared.state.Heard.TheVariants.{Bytes, Closed, Nothing, Opened, Reopened}
pub use Rattle.ax25_link.specs.declared.state.LinkState.{LinkState}
pub use Rattle.ax25_link.specs.declared.state.LinkState.TheVariants.{Calling, Down, Up}
pub use Rattle.ax25_link.specs.declared.state.Why.{Why}
pub use Rattle.client_notes.specs.Laws.{after_all}
pub use Rattle.client_notes.specs.Notes.{Lists, got_of}
pub use Rattle.file_store.specs.Command.{}
pub use Rattle.file_store.specs.Store.{Store}
pub use Rattle.ftl0_client.specs.Attempt.Attempted.{Attempted, calling, outcome_by, outcome_of}
pub use Rattle.ftl0_client.specs.Attempt.Hearing.{after_told, down_by, packets_told, ticking, with_end}
pub use Rattle.ftl0_client.specs.Attempt.Laws.{IsToldDown, OutcomeLaw}
pub use Rattle.ftl0_client.specs.Attempt.Settling.{after_due, is_all_free, is_later, parting_later, queuing, settled}
pub use Rattle.ftl0_client.specs.Attempt.Taking.{after_replies, parting, quietly, replied, taking, taking_by, taking_one}
pub use Rattle.ftl0_client.specs.Entries.{GoesBy, JobEntry, TickingLaw, after_losing, entries_behind, entries_due, entries_heard, entries_taken, entries_ticked, items_in, items_of, lost, packets_said, passed, queued, said_in, took}
pub use Rattle.ftl0_client_job.specs.Due.{DuePacket, due_by, due_from, due_in, in_job, in_work, most_data, next_due}
pub use Rattle.ftl0_client_job.specs.JobState.{GoBy, GoWith, HasGot, HasTask, IsNew, NotesGoWith, number_in}
pub use Rattle.ftl0_client_job.specs.Table.{JobState, item_row, job_after, job_row, new_job}
pub use Rattle.ftl0_client_job.specs.declared.ending.Ending.{Ending}
pub use Rattle.ftl0_client_job.specs.declared.work.Work.{Work}
pub use Rattle.ftl0_packets.proofs.OctetLemmas.{IsOctets-append, IsOctets-cons, IsOctets-drop, IsOctets-nil, IsOctets-take}
pub use Rattle.ftl0_packets.proofs.SplitLemmas.{octets_front, read-append, read_front, texts-append}
pub use Rattle.ftl0_packets.specs.Items.{kind_of_item, texts}
pub use Rattle.ftl0_packets.specs.Layout.{Fits, Item, PacketValue, data_end, data_part, dir_long_cmd, dir_short_cmd, dl_error_resp, download_cmd, information, kind_of, login_resp, packet_text, select_cmd, select_resp, ul_error_resp, ul_go_resp, ul_nak_resp, upload_cmd}
unfoldable pub use Rattle.ftl0_packets.specs.Reading.{packets_of, rest_of}
pub use Rattle.ftl0_server.specs.Connection.Connected.{Connected, answering, beginning, caller_of, greeted}
pub use Rattle.ftl0_server.specs.Connection.Hearing.{Happened, hearing, parts_as, parts_of_frame, progressed, rest_as}
pub use Rattle.ftl0_server.specs.Entries.{HeardBy, HearingLaw, IsNotLost, SessionEntry, after_row, session_after}
pub use Rattle.ftl0_server.specs.Server.{Refused, Server, ServerHappened, heard_at, hearing_at, hearing_by, hearing_stranger, with_slot}
pub use Rattle.ftl0_server.specs.ServerStep.{ServerStep, Stepped, happening}
pub use Rattle.ftl0_server.specs.Slots.{Slot, all_freed, connected, first_empty, free, freed, is_callers, leaving, left_by, place_of, slot_after, slot_ticking}
pub use Rattle.ftl0_session.proofs.uploads.UploadRows.{same_call-decides}
pub use Rattle.ftl0_session.specs.Lists.Lists.{CallerList, has_left}
pub use Rattle.ftl0_session.specs.Run.{Session, session_over}
pub use Rattle.ftl0_session.specs.Table.{State, command, due_at, flags, greeting}
pub use Rattle.ftl0_session.specs.Uploads.Session.{is_same_call}
pub use Rattle.turn_loop.specs.Events.{NodeEvent, hears, ticks}
pub use Rattle.packet_link.proofs.Queuing.{filling-keeps, filling-none}
pub use Rattle.px_base.specs.CallSign.{CallSign}
pub use Rattle.px_base.specs.Octets.{IsFront, IsOctets}
pub use Rattle.ftl0_server.proofs.step_laws.Offered.{SendsAll, alone-at, passed-same, places-none, sends-all, silent-by, stranger_by, taken-told, up-behind}
pub use Rattle.ftl0_server.specs.StepLaws.Places.{SlotDrains, SlotsDrain, refusals}
pub use Rattle.std.proofs.lemmas.Bool.{cond_both}
pub use Rattle.std.proofs.lemmas.Grind.{common_steps}
pub use Rattle.std.proofs.lemmas.List.{length-map, length-set, length-take, map-append, take_all}
pub use Rattle.std.proofs.lemmas.List.Concat.{flat_map-append}
pub use Rattle.std.proofs.lemmas.List.Quantifiers.{position-Some}
pub use Rattle.std.proofs.lemmas.Option.{get_or_from_slice_get, same_Some, slice_get-get_or, slice_get-map, slice_get_within}
pub use Rattle.std.specs.List.{AllByRecursion, concat, flat_map, position, position_or_len}
pub use Rattle.std.specs.Option.{option_and_then, option_map, option_map_or, option_or}
pub use Rattle.std.specs.Prelude.{IfSome, MatchOption, cond, find, is_some, nat_lt, not, slice_get, slice_set, ⊤}
