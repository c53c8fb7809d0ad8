-- The names of specs, and of the crates below, that proofs use, in one place.
pub use Rattle.ax25_frames.specs.FrameText.{FrameValue}
pub use Rattle.ax25_frames.specs.Values.{value_of}
pub use Rattle.ax25_frames.specs.declared.control.Control.{Control}
pub use Rattle.ax25_frames.specs.declared.control.Control.TheVariants.{Disc, Dm, Frmr, I, Rej, Rnr, Rr, Sabm, Ua, Ui}
pub use Rattle.ax25_link.proofs.Offered.{after_frame-IsEnd, after_hang_up-IsEnd, after_push-IsEnd, after_tick-IsEnd, calling_end-IsEnd, left_to_send, next_sending-Sends}
pub use Rattle.ax25_link.specs.Acknowledging.{Meaning, applying, bad, good, is_bad, is_good, meaning_of, stale, with_timer_anew}
pub use Rattle.ax25_link.specs.Calls.{after_hang_up, after_push}
pub use Rattle.ax25_link.specs.Ends.{Farewell, IsEnd, LinkEnd, Reply, free_octets, high, outstanding, refuse}
pub use Rattle.ax25_link.specs.Frames.{frame_of_reply, receive_number}
pub use Rattle.ax25_link.specs.Kept.{Kept, StandsFor, Tells}
pub use Rattle.ax25_link.specs.LinkStep.{heard_of_tick}
pub use Rattle.ax25_link.specs.Queue.{room_of}
pub use Rattle.ax25_link.specs.Refusals.{is_answered, refusal_frame}
pub use Rattle.ax25_link.specs.Rows.{Outcome, after_frame, calling_row, ending_row, entering, heard_of, information_row, is_call, numbered_row, replying, row_of_state, sending_again, supervisory_row, up_row, with_busy}
pub use Rattle.ax25_link.specs.Sending.{IsQuiet, Sending, has_new, last_sending, later_sending, next_sending, sending_after, sends_again, sends_farewell, sends_new, sends_reply, with_piece}
pub use Rattle.ax25_link.specs.Timer.{after_count, after_tick, is_down, is_spent, is_up, runs_out, told_of_tick, trying}
pub use Rattle.ax25_link.specs.Window.{Window, window_of}
pub use Rattle.ax25_link.specs.declared.state.Heard.{Heard}
pub use Rattle.ax25_link.specs.declared.state.Heard.TheVariants.{Bytes, Closed, Nothing, Opened, Reopened}
pub use Rattle.ax25_link.specs.declared.state.LinkState.{LinkState}
pub use Rattle.ax25_link.specs.declared.state.LinkState.TheVariants.{Down, Up}
pub use Rattle.ax25_link.specs.declared.state.Why.{Why}
pub use Rattle.client_notes.proofs.Offered.{AreAllowed-split, Several-none, Several-then, after_all-append, after_first-then, makes-longer, puts_on, puts_same, task-more, told_weaker, weaker}
pub use Rattle.client_notes.specs.Answers.{StartsBy, answer_of, fresh_task, start_reaches}
pub use Rattle.client_notes.specs.Command.{NotesCommand, acked, after, new_task}
pub use Rattle.client_notes.specs.Laws.{AreAllowed, after_all}
pub use Rattle.client_notes.specs.Notes.{Lists, got_of, is_same_call}
pub use Rattle.client_notes.specs.OnDisk.{Does, Untouched}
pub use Rattle.client_notes.specs.Several.{DoesSeveral, MakesFirst, after_first}
pub use Rattle.client_notes.specs.State.{IsReady, NotesState, StandsOn}
pub use Rattle.client_notes.specs.declared.answers.Begun.{Begun}
pub use Rattle.client_notes.specs.declared.refusals.NotesRefusal.{NotesRefusal}
pub use Rattle.disk_model.specs.declared.disk.Disk.{Ghosts}
pub use Rattle.disk_model.specs.declared.halt.Halt.{Halt}
pub use Rattle.ftl0_client.specs.Attempt.AttemptState.{AttemptState, Becomes, Hears, HearsBy, IsAttempt, IsSomeAttempt, LeavesFit, PutsBy, StopsAmong, StopsAtPacket, Working, working}
pub use Rattle.ftl0_client.specs.Attempt.Attempted.{Attempted, calling, outcome_by, outcome_of}
pub use Rattle.ftl0_client.specs.Attempt.Feeding.{KeepsFit, KeepsUp, Made, MayAnswer, QueuesNext, QueuesPacket, RepliesAndParts, StopsAmongOctets, StopsHere, Takes, TakesOctetsBy}
pub use Rattle.ftl0_client.specs.Attempt.Hearing.{accepting, after_hearing, after_ticking, after_told, closing, down_by, hearing, packets_heard, packets_told, settling, ticking, with_end}
pub use Rattle.ftl0_client.specs.Attempt.Inside.{attempt_state}
pub use Rattle.ftl0_client.specs.Attempt.Laws.{AckedLaw, AcknowledgesIn, AttemptStands, CallingLaw, FetchedLaw, IsFetchedBy, IsQueued, IsToldDown, OutcomeLaw, QueuedLaw, QuietLaw, StandsLaw, StaysLaw, StaysReached}
pub use Rattle.ftl0_client.specs.Attempt.Settling.{after_due, is_all_free, is_later, parting_later, queuing, settled}
pub use Rattle.ftl0_client.specs.Attempt.Taking.{Happened, after_noting, after_replies, answering, parting, quietly, replied, taking, taking_by, taking_one}
pub use Rattle.ftl0_client.specs.Calls.{KeepsNotes, StopsBy}
pub use Rattle.ftl0_client.specs.Client.{Client, ClientEvent, ClientHappened, ClientSends, IsSilent, Refused, asking, asks, attempt_for, client_hearing, client_next, client_ticking, hearing_by, hearing_stranger, hears, refusing, sends_by, sends_of_attempt, sends_of_link, ticking_by, ticks, with_attempt}
pub use Rattle.ftl0_client.specs.ClientState.{ClientState, GoWithAttempt, HasLink, IsAttemptOf, IsClient, LinkFits, MayHear}
pub use Rattle.ftl0_client.specs.ClientStep.{ClientStep, Empties, happening}
pub use Rattle.ftl0_client.specs.Inside.{client_state}
pub use Rattle.ftl0_client.specs.Laws.{EndFits, IsToldDownOf, KeepsOutcome, MayStep, OneStepLaw, SomeStepLaw, StrangerLaw}
pub use Rattle.ftl0_client_job.proofs.Offered.{DownloadRows, UploadRows, acknowledged, download-rows, ending-none, fetched, job-in, stays-item, upload-rows}
pub use Rattle.ftl0_client_job.specs.Due.{DuePacket, PutsDue, due_by, in_job, next_due, work_due}
pub use Rattle.ftl0_client_job.specs.JobState.{GoBy, GoWith, HasGot, HasTask, MayTake}
pub use Rattle.ftl0_client_job.specs.Laws.{Acknowledges, BegunLaw, DueLaw, IsOwned, IsStarted, OwnedLaw, PromisesLaw, StartedLaw, reached, started}
pub use Rattle.ftl0_client_job.specs.Promises.{EndPromises, JobStands, WorkPromises}
pub use Rattle.ftl0_client_job.specs.Row.{Row, strange, strange_ending}
pub use Rattle.ftl0_client_job.specs.Table.{JobState, job_after, job_row, listing_of, new_job, row_of}
pub use Rattle.ftl0_client_job.specs.Taking.{TakesPacket, WithNotes, with_notes}
pub use Rattle.ftl0_client_job.specs.declared.ending.Ending.{Ending}
pub use Rattle.ftl0_client_job.specs.declared.work.Work.{Work}
pub use Rattle.ftl0_packets.specs.Items.{kind_of_item, texts}
pub use Rattle.ftl0_packets.specs.Layout.{Item, PacketValue, packet_text}
pub use Rattle.ftl0_packets.specs.Reading.{packets_of, read_item, under_way}
pub use Rattle.packet_link.proofs.Fronts.{front-none, front-then, stations-same, stations-then}
pub use Rattle.packet_link.proofs.Queuing.{filling-ends, filling-few, filling-keeps, filling-next, filling-none, packet-some, push-fewer}
pub use Rattle.packet_link.specs.PacketLink.{HasFront, StandsForSome, octets_in}
pub use Rattle.packet_link.specs.Queuing.{enough_free, fits}
pub use Rattle.px_base.specs.CallSign.{CallSign}
pub use Rattle.std.proofs.lemmas.Bool.{cond_both}
pub use Rattle.std.proofs.lemmas.Option.{same_Some}
pub use Rattle.std.specs.Option.{option_map}
pub use Rattle.std.specs.Prelude.{Err, IfOk, IsErr, IsErrOf, IsTrue, List, None, Ok, Option, Result, Some, [], false, is_some, nat_lt, ℕ, ⊤}
