-- The names of specs, and of the crates below, that proofs use, in one place.
pub use Rattle.ax25_frames.specs.FrameText.{FrameValue, canonical}
pub use Rattle.client_notes.proofs.Offered.{GoesThrough, Several-none, Several-one, Several-same, Several-then, acked-last, alike_same, answers-err, at_told, begun-fresh, begun-kept, counts_none, cuts-none, cuts-then, does-nothing, goes_through, if_told, images-here, not-failed, of_task, recovered-ready, recovers-as, recovers-good, runs_same, stops_none, told_weaker}
pub use Rattle.client_notes.specs.Answers.{StartsBy, fresh_task, noted_at, start_reaches}
pub use Rattle.client_notes.specs.Command.{NotesCommand}
pub use Rattle.client_notes.specs.Notes.{Lists, got_of, is_same_call, last_task}
pub use Rattle.client_notes.specs.OnDisk.{Does, EachImage, Untouched}
pub use Rattle.client_notes.specs.Several.{CutsOff, DoesSeveral}
pub use Rattle.client_notes.specs.State.{IsReady, NotesState, StandsFor, standing_of}
pub use Rattle.client_notes.specs.Walk.{state}
pub use Rattle.client_notes.specs.declared.answers.Begun.{Begun}
pub use Rattle.client_notes.specs.declared.refusals.NotesRefusal.{NotesRefusal}
pub use Rattle.disk_model.specs.Runs.{Runs}
pub use Rattle.disk_model.specs.declared.disk.Disk.{Ghosts}
pub use Rattle.ftl0_client.proofs.KeptLemmas.{may-kept}
pub use Rattle.ftl0_client.specs.Calls.{HandsOut, HandsOutNext, HasAsked, SameAttempt, SameButFrames, StopsBy}
pub use Rattle.ftl0_client.specs.Client.{Client, ClientEvent, ClientSends, IsSilent, Refused, asking, asks, attempt_for, client_hearing, client_next, hearing_by, hears, sends_by, sends_of_attempt, sends_of_link}
pub use Rattle.ftl0_client.specs.ClientState.{ClientState, GoWithAttempt, IsAttemptOf, IsClient, MayHear, attempt_closed, attempt_pending, client_closed, client_pending, listing_in, outcome_in}
pub use Rattle.ftl0_client.specs.Going.{AsksNothing, Comes, GoesLaw, GoesOver, Promises, StaysLaw, is_over, is_over_at}
pub use Rattle.ftl0_client.specs.JobLaws.{IsAckedIn}
pub use Rattle.ftl0_client.specs.JobState.{IsNew, NotesGoWith}
pub use Rattle.ftl0_client.specs.Laws.{IsToldDownOf, OneStepLaw}
pub use Rattle.ftl0_client.specs.Outcomes.{is_under_way, outcome_by}
pub use Rattle.ftl0_client.specs.Table.{JobState, job_row, listing_of, new_job}
pub use Rattle.ftl0_client.specs.Upload.{Upload, new_upload}
pub use Rattle.ftl0_client.specs.Outcome.{Outcome}
pub use Rattle.turn_loop.specs.Course.{AtDisk, GaveAll, GivesNext, IsLawful, at, stop_at_put, stop_of}
pub use Rattle.turn_loop.specs.Events.{NodeEvent, NodeEvents, ticks}
pub use Rattle.turn_loop.specs.Laws.{OneRunLaw}
pub use Rattle.turn_loop.specs.Lent.{Lent, Seen, lent, seen}
pub use Rattle.turn_loop.specs.Turns.{Brought, HasAirCause, IsUnsaid, LentParty, RanBy, StoppedInLast, TookAll, TookTurns, TurnsBy, lent_party, party_at}
pub use Rattle.turn_loop.specs.declared.finished.Finished.{Finished}
pub use Rattle.turn_loop.specs.declared.stop.NodeStop.{NodeStop}
pub use Rattle.pfh_reader.specs.Faults.{fault_code}
pub use Rattle.px_base.proofs.Told.{Gains-none, Gains-trans, GainsPrefix-after, Grows-none}
pub use Rattle.px_base.specs.CallSign.{CallSign}
pub use Rattle.px_base.specs.Outside.{Gains, GainsPrefix, Grows}
pub use Rattle.px_base.specs.Shelves.{Holding, content_of}
pub use Rattle.px_base.specs.declared.air.Turn.{Turn}
pub use Rattle.std.proofs.lemmas.Grind.{common_steps}
pub use Rattle.std.proofs.lemmas.List.{append_cancel_left, length-take-le, map-append, take_rest}
pub use Rattle.std.specs.List.{AllByRecursion}
pub use Rattle.std.specs.Prelude.{Err, IsErrOf, MatchResult, None, Ok, OnErr, Option, Result, ℕ, ⊤}
pub use Rattle.uploader.specs.Carried.{Carries, RecoversTo, asked_of, client_from, client_of}
pub use Rattle.uploader.specs.Causes.{HasCauses, is_before_outcome}
pub use Rattle.uploader.specs.Fetching.{Fetches, FileAsked, KeepsBy, download_of, file_asked}
pub use Rattle.uploader.specs.Lines.{file_line, listing_lines, short_len}
unfoldable pub use Rattle.uploader.specs.Lines.{first_lines}
pub use Rattle.uploader.specs.Listing.{FilesAsked, ListsFiles, ShowsBy, directory_of, files_asked}
pub use Rattle.uploader.specs.Loading.{HasShelfCause, IsPastFile, IsSendable, IsUnfit, LoadsExactly, RefusesFile, sum_of}
pub use Rattle.uploader.specs.OnDisk.{EndsExactly, RefusesNotes}
pub use Rattle.uploader.specs.Ready.{IsUpload, RecoversClient, StopsRecovery, UploadsJob}
pub use Rattle.uploader.specs.Sending.{EndsAtStart, IsLastAcked, IsTaskFor, IsUnnoted, IsUnstarted, SendEnds, Uploads, first_command, last_answer, upload_of}
pub use Rattle.uploader.specs.Stops.{answer_of, by_outcome, stop_of_fault, stop_of_node, stop_of_start, stop_of_turns}
pub use Rattle.uploader.specs.Turns.Carried.{CarriesOut, ClientRan, CountsWhere, EndsOver, IsOpenBeforeEach, MayCarryOut, Run, asked_first, before_last}
pub use Rattle.uploader.specs.Turns.Carrying.{StopsAt, StopsBehind, StopsOver, TakesAll, event_of, text_of}
pub use Rattle.uploader.specs.Turns.Course.{CameOf, CameToSome, HaltsBy, IsFit, IsQuiet, Owes, OwesBy, Past, StoppedAt, all_events, client_course, further}
pub use Rattle.uploader.specs.declared.stop.SendStop.{SendStop}
pub use Rattle.uploader.specs.declared.sum.FileSum.{FileSum}
pub use Rattle.uploader.specs.declared.terms.ClientTerms.{ClientTerms}
pub use Rattle.uploader.specs.declared.terms.Sent.{Sent}
pub use Rattle.uploader.specs.declared.turns.station.ClientStation.{ClientStation}
