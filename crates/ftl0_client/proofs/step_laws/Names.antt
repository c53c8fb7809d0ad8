-- The names of specs, and of the crates below, that proofs use, in one place.
pub use Rattle.ax25_frames.specs.FrameText.{FrameValue}
pub use Rattle.ax25_link.specs.Ends.{LinkEnd, call, calling_end, free_octets}
pub use Rattle.ax25_link.specs.Frames.{frame_of_reply, receive_number}
pub use Rattle.ax25_link.specs.Rows.{Outcome, after_frame, calling_row, ending_row, heard_of, information_row, numbered_row, row_of_state, sending_again, supervisory_row, up_row, with_busy}
pub use Rattle.ax25_link.specs.Window.{Window}
pub use Rattle.ax25_link.specs.declared.state.Heard.TheVariants.{Bytes, Closed, Nothing, Opened, Reopened}
pub use Rattle.ax25_link.specs.declared.state.LinkState.{LinkState}
pub use Rattle.ax25_link.specs.declared.state.LinkState.TheVariants.{Calling, Down, Ending, Up}
pub use Rattle.client_notes.specs.Command.{NotesCommand}
pub use Rattle.client_notes.specs.Laws.{after_all}
pub use Rattle.client_notes.specs.Notes.{Lists, is_same_call}
pub use Rattle.ftl0_client.specs.Attempt.Attempted.{Attempted, calling}
pub use Rattle.ftl0_client.specs.Attempt.Hearing.{after_hearing, after_told, hearing, packets_told, settling, ticking, with_end}
pub use Rattle.ftl0_client.specs.Attempt.Taking.{Happened, after_noting, after_replies, parting, quietly, taking, taking_by, taking_one}
pub use Rattle.ftl0_client_job.specs.Table.{JobState, job_after, job_row}
pub use Rattle.ftl0_packets.specs.Layout.{Item, packet_text}
pub use Rattle.std.proofs.lemmas.Bool.{cond_both, leb-true}
pub use Rattle.std.proofs.lemmas.Option.{same_Some}
pub use Rattle.std.specs.Prelude.{nat_le}
