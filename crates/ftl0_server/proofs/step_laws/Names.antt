-- The names of specs, and of the crates below, that proofs use, in one place.
pub use Rattle.ax25_frames.specs.FrameText.{FrameValue}
pub use Rattle.ax25_link.proofs.Offered.{after_frame-IsEnd, after_new-HasPiece, after_push-IsEnd, after_tick-IsEnd, answering_end-IsEnd, concat-append_one}
pub use Rattle.ax25_link.specs.Calls.{DoesAll, Doing, abandon, after_doing, after_push, push}
pub use Rattle.ax25_link.specs.Ends.{Farewell, IsEnd, LinkEnd, Reply, free_octets, held, high, most_held, ready}
pub use Rattle.ax25_link.specs.Rows.{Outcome, accepting, after_frame, heard_of, information_row, is_call, numbered_row, out_of_sequence, refusing, replying, row_of_state, sending_again, supervisory_row, up_row, with_busy}
pub use Rattle.ax25_link.specs.Sending.{Drains, IsQuiet, Sending, after_new, last_sending, later_sending, most_information, next_piece, next_sending, sending_after, sends_again, sends_new, sends_reply}
pub use Rattle.ax25_link.specs.Window.{Window}
pub use Rattle.ax25_link.specs.declared.state.Heard.{Heard}
pub use Rattle.ax25_link.specs.declared.state.Heard.TheVariants.{Bytes, Closed, Nothing, Opened, Reopened}
pub use Rattle.file_store_model.specs.Follows.{AreOf, FollowsBy, IsOf, IsOwnEntry}
pub use Rattle.file_store.proofs.Offered.{AreAllowed-split, after_all-append, find-push, find_past, grows-after, has_number}
pub use Rattle.file_store.specs.Command.{AreAllowed, Command, after, after_all, begin, changed, drop_entry, grow, grown, grows, last_grow, seal, whole_grows}
pub use Rattle.file_store.specs.Store.{Entry, Holding, Store, entry_of, new_entry}
pub use Rattle.ftl0_packets.specs.Items.{texts}
pub use Rattle.ftl0_packets.specs.Layout.{Item, PacketValue, data_end, data_part, dir_long_cmd, dir_short_cmd, dl_error_resp, packet_text, select_cmd}
pub use Rattle.ftl0_packets.specs.Reading.{packets_of}
pub use Rattle.ftl0_server.proofs.Offered.{Begins, IsFront, by_stray, emptied, empties-silent, first_none, queued-keeps, queuing-holds, server_left, silent-settled, taking-begins}
pub use Rattle.ftl0_server.specs.Connection.Connected.{Connected, answering, caller_of}
pub use Rattle.ftl0_server.specs.Connection.Hearing.{Happened, hearing, parts_as, parts_of_frame, progressed, rest_of_frame, ticking, with_end}
pub use Rattle.ftl0_server.specs.Connection.Laws.{IsQueued, QueuedLaw}
pub use Rattle.ftl0_server.specs.Connection.Taking.{Progress, after_due, after_row, failing_at, giving_up, queued, queuing, resting, taking, taking_row}
pub use Rattle.ftl0_server.specs.Fits.{SlotFits, SlotsFit}
pub use Rattle.ftl0_server.specs.Server.{IsSilent, Refused, Server, ServerHappened, ServerSends, called_by, heard_at, hearing_at, hearing_by, hearing_stranger, sends_by, sends_of_places, settled, with_slot}
pub use Rattle.ftl0_server.specs.ServerStep.{Empties, ServerStep, Stepped, happening, stepped}
pub use Rattle.ftl0_server.specs.Slots.{PlacesSend, Slot, SlotSends, all_freed, connected, first_empty, first_of, free, is_empty, leaving, left_by, place_of, places_next, slot_after, slot_next, slot_sends, slot_ticking}
pub use Rattle.ftl0_session.proofs.Offered.{OfUploads, if-there, session-case, upload-case}
pub use Rattle.ftl0_session.specs.Lists.Lists.{CallerList, has_left}
pub use Rattle.ftl0_session.specs.Run.{Session, session_over}
pub use Rattle.ftl0_session.specs.Table.{DuePacket, Row, State, aborting, by_upload, command, download_part, download_row, downloading, due_at, failed_reads_told, in_session, next_due, receiving, row_among, row_at, state_by, upload_part, upload_row}
unfoldable pub use Rattle.ftl0_session.specs.Table.{session_row}
pub use Rattle.ftl0_session.specs.Uploads.Failures.{Failure, NoReadFails, failed_reads, read_fails, write_fails}
pub use Rattle.ftl0_session.specs.Uploads.Session.{is_all, is_theirs}
pub use Rattle.turn_loop.specs.Events.{NodeEvent, hears, ticks}
pub use Rattle.packet_link.specs.Queuing.{enough_free, fits, on_due}
pub use Rattle.px_base.specs.CallSign.{CallSign, IsCall}
pub use Rattle.ftl0_server.specs.StepLaws.Misses.{FrontOfEventLaw, MissesLaw, begun_in}
pub use Rattle.ftl0_server.specs.StepLaws.Rows.{CallerLaw, DueReadsLaw, ReadsLaw, ReceivesAfter, ReceivesBehind, ReceivesHeard, ReceivesLaw, ReceivesOwn, TellsOfRead, failed_due, failed_row}
pub use Rattle.ftl0_server.specs.StepLaws.Steps.{AreQueued, OneStepLaw, SlotIsQueued, SomeStepLaw}
pub use Rattle.std.proofs.lemmas.Bool.Decides.{eqb_tells, nat_tests}
pub use Rattle.std.proofs.lemmas.Grind.{common_steps}
pub use Rattle.std.proofs.lemmas.List.{drop-append-le, length-take, take_all}
pub use Rattle.std.proofs.lemmas.Option.{none-some, same_Some, slice_get-get_or}
pub use Rattle.std.specs.List.{AllByRecursion, list_all}
pub use Rattle.std.specs.Option.{option_map, option_or}
pub use Rattle.std.specs.Prelude.{Err, Ok, Result, find, nat_le, nat_lt, slice_get, slice_set, take, ⊤}
