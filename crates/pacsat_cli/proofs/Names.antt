-- The names of specs, and of the crates below, that proofs use, in one place.
pub use Rattle.server_node.specs.Acknowledged.{ServerAcknowledgesLaw, SessionAcknowledgesLaw}
pub use Rattle.air_rehearsal.specs.Rehearsed.{CanTell, IsUnlawful}
pub use Rattle.air_schedule.specs.Text.{FirstBadLine, OneSchedule, ScheduleText}
pub use Rattle.command_words.specs.Asked.{AsksClientFor, AsksFor, AsksMakingFor, AsksRehearseFor, AsksText}
pub use Rattle.command_words.specs.Laws.{AsksServe, AsksSession, Determined, OnlyOne}
pub use Rattle.command_words.specs.Words.{AsksClient, AsksFetch, AsksList, AsksMake, AsksRehearse, AsksSend, IsFetch, IsList, IsSend, IsServe, IsSession, IsUsage, NamesCommand}
pub use Rattle.command_words.specs.declared.client.ClientRequest.{ClientRequest}
pub use Rattle.command_words.specs.declared.command.FileCommand.{FileCommand}
pub use Rattle.command_words.specs.declared.disk.DiskWord.{DiskWord}
pub use Rattle.command_words.specs.declared.disk.DiskWord.TheVariants.{Fresh, Named}
pub use Rattle.command_words.specs.declared.make.MakingRequest.{MakingRequest}
pub use Rattle.command_words.specs.declared.make.MakingRequest.TheVariants.{Body, Make}
pub use Rattle.command_words.specs.declared.rehearse.RehearseRequest.{RehearseRequest}
pub use Rattle.command_words.specs.declared.rehearse.RehearseRequest.TheVariants.{Drawn, Schedule}
pub use Rattle.command_words.specs.declared.request.Request.{Request}
pub use Rattle.command_words.specs.declared.request.SessionRequest.{SessionRequest}
pub use Rattle.command_words.specs.declared.serve.ServeRequest.{ServeRequest}
pub use Rattle.command_words.specs.declared.terms.ClientTerms.{}
pub use Rattle.disk_model.specs.Calls.{DiskState, new_state}
pub use Rattle.disk_model.specs.Cuts.{AreFresh, Cuts, IsFresh, cuts_by}
pub use Rattle.disk_model.specs.declared.disk.Disk.{Ghosts}
pub use Rattle.file_store.specs.State.{IsKnown, standing_of}
pub use Rattle.file_store.specs.StoreFault.{StoreFault}
pub use Rattle.file_store.specs.Working.{CountsSome, PutsAmongReads}
pub use Rattle.ftl0_client.specs.Going.{StaysLaw}
pub use Rattle.ftl0_client.specs.Laws.{OneStepLaw}
pub use Rattle.ftl0_client.specs.Outcome.{Outcome}
pub use Rattle.header_tool.specs.Faults.{fault_code}
pub use Rattle.header_tool.specs.Made.{IsMade, IsRefused, MakeValue, made_builder, make_refusal, make_value, or_long}
pub use Rattle.turn_loop.specs.Laws.{OneRunLaw}
pub use Rattle.turn_loop.specs.Lent.{Lent, Seen, lent, seen}
pub use Rattle.turn_loop.specs.Stops.{stop_of_fault}
pub use Rattle.turn_loop.specs.Turns.{TurnsBy}
pub use Rattle.turn_loop.specs.declared.finished.Finished.{Finished}
pub use Rattle.turn_loop.specs.declared.stop.NodeStop.{NodeStop}
pub use Rattle.pacsat_cli.specs.Acknowledged.{ServiceStands, SessionStands}
pub use Rattle.pacsat_cli.specs.Bodies.{BodyEnd, BodyRan, IsBodyOf, OctetsBody, body_fault, body_status}
pub use Rattle.pacsat_cli.specs.Clients.{ClientRan, Closes, FetchRan, IsUnlisted, ListRan, MayRun, Outside, RunsFetch, RunsList, RunsSend, SendRan, client_terms, outside}
pub use Rattle.pacsat_cli.specs.Exactly.{FetchEndsExactly, FetchLed, FileRefusedExactly, IsCause, IsLinkDown, IsNoFault, IsWanted, ListEndsExactly, ListLed, NotesTold, SendEndsExactly, SendRefuses, SendStarts, SendTold, StartsExactly, UploadLed}
pub use Rattle.pacsat_cli.specs.Files.{FileEnd, FileShown, FileText, IsNoSuchBy, IsShownBy, IsTextOf, IsTextPut, IsTooLongBy, OctetsShown, checks_headers, code_status, end_of, fault_status, is_file_status, most_octets}
pub use Rattle.pacsat_cli.specs.Making.{FileKept, IsMadeOf, IsOrHindered, IsPossible, MakeEnd, MakeRan, OctetsMade, length_status, make_status}
pub use Rattle.pacsat_cli.specs.Rehearsing.{ContentEnd, DrawnEnd, FromFresh, IsUnlawfulAt, PlayEnd, PlaysText, RehearsalEnd, Rehearses, ReportShown, RunsExactly, RunsNamed, SeenSetting, ShowsReport, TextEnd, most_text, report_line, says_report, seen_setting}
pub use Rattle.pacsat_cli.specs.Run.{HasStatusCause, IsUnless, Shows, Stays}
pub use Rattle.pacsat_cli.specs.Servers.{IsServedOver, RunsServe, WhereServed, serve_terms}
pub use Rattle.pacsat_cli.specs.Sessions.{AsksDisk, AsksFresh, AsksMoment, AsksNode, AsksStore, HasDiskCause, HasReadCause, HasStoreCause, HasWriteCause, IsDoneAtEnd, IsDoneBy, IsSpentBy, MayPassOver, OverMemory, OverNamed, RefusesExactly, RunsSession, WhereHeard, disk_fault, is_of_file, may_have_outcome, run_terms}
pub use Rattle.pacsat_cli.specs.Status.{line_of, number_of, numbered_line}
pub use Rattle.pacsat_cli.specs.Stops.{status_in_memory, status_of, status_of_end, status_of_load, status_of_refusal, status_of_stop}
pub use Rattle.pacsat_cli.specs.Tasks.{AsksFile, AsksKept, AsksShown, MakingRan, MayMake, RunsBody, RunsFile, RunsMake, WhereHeld}
pub use Rattle.pacsat_cli.specs.Touching.{LeavesAlone, LeavesBut, Lendings, Reach, Touches, client_reach, is_clocked, is_named, lendings, nothing, reach_of}
pub use Rattle.pacsat_cli.specs.declared.status.Status.{Status}
pub use Rattle.pacsat_cli.specs.declared.status.Status.TheVariants.{BadSchedule, Done, NoSuch, Out, OutOfMemory, Refused, Shelf, TooLong}
pub use Rattle.px_base.proofs.Told.{Gains-front, Gains-none, Grows-trans}
pub use Rattle.px_base.specs.Outside.{Gains, GainsPrefix, Rose}
pub use Rattle.px_base.specs.Polling.{EndsWith, HasEnd, HearsAll, IsOpen}
pub use Rattle.px_base.specs.Shelves.{AnswersOf, Holding, Loads, content_of}
pub use Rattle.px_base.specs.declared.air.Air.{}
pub use Rattle.px_base.specs.declared.air.Turn.{Turn}
pub use Rattle.px_base.specs.declared.out.Out.{}
pub use Rattle.px_base.specs.declared.shelf.Shelf.{}
pub use Rattle.px_base.specs.declared.shelf.ShelfRefusal.{ShelfRefusal}
pub use Rattle.server_node.specs.Served.{Run}
pub use Rattle.server_node.specs.Stops.{CountsBy, EndsExactly, HasAirCause, RefusesSession}
pub use Rattle.server_node.specs.declared.terms.Served.{Served}
pub use Rattle.std.proofs.lemmas.Bool.{false≢true, ne_eqb, or_parts}
pub use Rattle.std.proofs.lemmas.Bool.Decides.{leb_tells}
pub use Rattle.std.proofs.lemmas.Result.{err_from_is_err_and}
pub use Rattle.std.specs.List.{All, AllByRecursion}
pub use Rattle.std.specs.Prelude.{Contains, Err, IfOk, IfSome, IsErrAnd, IsErrOf, IsOkUnless, IsSome, IsTrue, MatchOption, MatchResult, None, Ok, Option, Result, Some, codes, is_err, nat_le, nat_lt, ⊤}
pub use Rattle.uploader.proofs.CarryLemmas.{of_answer, of_turns, turned}
pub use Rattle.uploader.proofs.LedLemmas.{led-law, told-same}
pub use Rattle.uploader.proofs.StartLemmas.{IsOfTask, of_task, told_recovered, told_refused}
pub use Rattle.uploader.specs.Begun.{Begun}
pub use Rattle.uploader.specs.Carried.{Asked, Carries, IsUnrecovered, RecoversTo, asked_of}
pub use Rattle.uploader.specs.Command.{NotesCommand}
pub use Rattle.uploader.specs.Fetching.{FetchEnds, KeepsBy, file_asked}
pub use Rattle.uploader.specs.Led.{ComesBy, IsCutShort, IsLedTo, is_of_turns}
pub use Rattle.uploader.specs.Listing.{ListEnds, ShowsBy, files_asked}
pub use Rattle.uploader.specs.Loading.{IsPastFile, IsSendable, IsUnfit, sum_of}
pub use Rattle.uploader.specs.Notes.{Lists}
pub use Rattle.uploader.specs.NotesRefusal.{NotesRefusal}
pub use Rattle.uploader.specs.Sending.{EndsAtStart, IsTaskFor, IsUnloaded, IsUnnoted, IsUnstarted, SendEnds, Uploads, first_command, last_answer, upload_of}
pub use Rattle.uploader.specs.Stops.{answer_of, by_outcome, stop_of_start, stop_of_turns}
pub use Rattle.uploader.specs.StoreFault.{}
pub use Rattle.uploader.specs.declared.stop.SendStop.{SendStop}
pub use Rattle.uploader.specs.declared.sum.FileSum.{FileSum}
pub use Rattle.uploader.specs.declared.terms.ClientTerms.{ClientTerms}
pub use Rattle.uploader.specs.declared.terms.Sent.{Sent}
