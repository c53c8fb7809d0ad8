-- The names of specs, and of the crates below, that proofs use, in one place.
pub use Rattle.client_notes.proofs.Offered.{AreAllowed-append, AreAllowed-first, Several-longer, Several-none, Several-one, Several-ready, Several-same, Several-then, acked-stays, after_all-append, both-left, forgot-none, got-allowed, got-append, task-after, task-at}
pub use Rattle.client_notes.specs.Answers.{Noting, StartsBy, answer_at, answer_by, answer_last, answer_of, fresh_task, noted_as, noted_at, start_reaches}
pub use Rattle.client_notes.specs.Command.{NotesCommand, acked, after, forgot, got, is_allowed, new_task, numbered, refused}
pub use Rattle.client_notes.specs.Laws.{AreAllowed, after_all}
pub use Rattle.client_notes.specs.Limits.{longest_file}
pub use Rattle.client_notes.specs.Notes.{Lists, Task, got_of, is_of_file, is_same_call, is_task_for, last_task, no_notes, place_from_end, task_count, task_of}
pub use Rattle.client_notes.specs.OnDisk.{Answers, Does, Untouched}
pub use Rattle.client_notes.specs.Several.{DoesSeveral}
pub use Rattle.client_notes.specs.State.{IsReady, NotesState, StandsFor}
pub use Rattle.client_notes.specs.declared.answers.Begun.{Begun}
pub use Rattle.client_notes.specs.declared.progress.Progress.{Progress}
pub use Rattle.client_notes.specs.declared.refusals.NotesRefusal.{NotesRefusal}
pub use Rattle.disk_model.specs.declared.disk.Disk.{Ghosts}
pub use Rattle.disk_model.specs.declared.halt.Halt.{Halt}
pub use Rattle.ftl0_client_job.specs.Directory.{Directory, is_empty_code, longest_listing, with_octets}
unfoldable pub use Rattle.ftl0_client_job.specs.Directory.{directory_row}
pub use Rattle.ftl0_client_job.specs.Download.{Download, data_end_row, data_row, done_row, error_row, gots, last_got, login_row, unnoted, whole_gots, whole_row, with_rest}
unfoldable pub use Rattle.ftl0_client_job.specs.Download.{download_row}
pub use Rattle.ftl0_client_job.specs.Due.{DuePacket, PutsDue, due_by, due_from, due_in, in_job, in_work, most_data, next_due, place_after, upload_due}
pub use Rattle.ftl0_client_job.specs.JobState.{GoBy, GoWith, HasGot, HasTask, IsCheckedIn, IsNotBegun, IsTaskOf, NotesGoWith, number_in}
pub use Rattle.ftl0_client_job.specs.Laws.{Acknowledges, BegunLaw, DueLaw, IsAckedIn, IsOwned, IsStarted, ListedLaw, PromisesLaw, ShortLaw, reached, started}
pub use Rattle.ftl0_client_job.specs.Noting.{HasNoted, IsAnswer, IsAnswerOf, IsBefore, NotesAtOnce}
pub use Rattle.ftl0_client_job.specs.Row.{Row, ends, ends_later, goes_on, later, strange}
pub use Rattle.ftl0_client_job.specs.Short.{AreItemsOf, IsItemOf, are_short_headers, begins_item, is_short_header, item_len, item_start, short_len}
unfoldable pub use Rattle.ftl0_client_job.specs.Short.{are_headers, are_items}
pub use Rattle.ftl0_client_job.specs.Table.{JobState, ended_row, item_row, listing_of, new_job, packet_row, row_by, row_of}
unfoldable pub use Rattle.ftl0_client_job.specs.Table.{job_row}
pub use Rattle.ftl0_client_job.specs.Taking.{AnswersAlone, Gives, StopsAt, TakesPacket, TakesRow, with_notes}
pub use Rattle.ftl0_client_job.specs.Upload.{IsWithin, Upload, in_phase, is_complete, is_new, may_go, new_upload, number_commands, refusal_of}
unfoldable pub use Rattle.ftl0_client_job.specs.Upload.{upload_row}
pub use Rattle.ftl0_client_job.specs.declared.ending.Ending.{Ending}
pub use Rattle.ftl0_client_job.specs.declared.phases.DirectoryPhase.{DirectoryPhase}
pub use Rattle.ftl0_client_job.specs.declared.phases.DownloadPhase.{DownloadPhase}
pub use Rattle.ftl0_client_job.specs.declared.phases.UploadPhase.{UploadPhase}
pub use Rattle.ftl0_client_job.specs.declared.work.Work.{Work}
pub use Rattle.ftl0_packets.specs.Layout.{Item, PacketValue, data_end, data_part, dir_short_cmd, dl_ack_cmd, dl_completed_resp, dl_error_resp, dl_nak_cmd, download_cmd, kind_of, login_resp, packet_text, select_cmd, select_resp, ul_ack_resp, ul_error_resp, ul_go_resp, ul_nak_resp, upload_cmd}
pub use Rattle.ftl0_packets.specs.Values.{item_of, value_of}
pub use Rattle.pfh_items.specs.Faults.{fault_code}
pub use Rattle.pfh_items.specs.Layout.{ItemValue, end_item, header_start, item_text, items_text}
pub use Rattle.pfh_items.specs.Table.{mandatory_items}
pub use Rattle.pfh_items.specs.declared.table.MandatoryItem.{MandatoryItem}
pub use Rattle.px_base.specs.CallSign.{CallSign}
pub use Rattle.std.proofs.Math.Seq.{drop-append-add, get_or-append_seam, take-add, take-append-add}
pub use Rattle.std.proofs.lemmas.Bool.Decides.{nat_tests}
pub use Rattle.std.proofs.lemmas.Grind.{common_steps}
pub use Rattle.std.proofs.lemmas.List.{append-nil, get_or-reverse, length-reverse, length-take, length-take-le, take-append-drop, take-append-le, take_all, take_min}
pub use Rattle.std.proofs.lemmas.Option.{get_or_from_slice_get, same_Some, slice_get-get_or}
pub use Rattle.std.proofs.lemmas.Slice.Eq.{bytes_eq-Decides}
pub use Rattle.std.specs.Option.{option_map}
pub use Rattle.std.specs.Prelude.{Err, IsErr, IsErrOf, IsTrue, None, Ok, Option, Result, Some, false, is_some, length, nat_le, nat_lt, reverse, slice_get, take, true, ⊤}
pub use Rattle.std.specs.Str.{bytes_eq}
