-- The names of specs, and of the crates below, that proofs use, in one place.
pub use Rattle.air_world.proofs.attempts.Offered.{all-at, all-by, are-over, each-append, each-at, each-weaker, has-at, old-connection, old-none, one-placed, place-of-is, place-of-not, set-at, some-from}
pub use Rattle.air_world.specs.Attempts.Attempt.{Attempt, IsAnswered, IsAnsweredBy, IsAttempt, IsEndOf, IsFromTo, IsUnanswered}
pub use Rattle.air_world.specs.Attempts.Laws.{AreAttempts, Calls, DeliversToClient, DeliversToServer, GoesWith, IsBetween, IsKnown, IsNewestSession, IsSeatedIn, IsServedBy, LeftLaw, MaySay, MaySayAt, SaysFit, ServerTicksLaw, SessionHears, SitsBy, StaysServer, WorkFits, did_in, heard_in}
pub use Rattle.air_world.specs.Attempts.Lists.{AreFirstOf, Has, OneIs, Placed}
pub use Rattle.air_world.specs.Attempts.Party.{AreOver, Asked, EachAttempt, EachSide, IsFileOf, IsLinkOf, OnlyNewestUp, Party, all_over, client_sends, first_party, newest, newest_side, over, server_sends, sessions_over, to_client_delivered, to_server_delivered, upload_of, with_answered, with_newest}
pub use Rattle.air_world.specs.Attempts.Said.{AsksUpload, Grants, IsAnswer, Offers, octets_come, said_behind_server}
pub use Rattle.air_world.specs.Attempts.Sides.{ClientSide, IsJob, IsSession, ServerSide, SessionReaches, said_by_server}
pub use Rattle.air_world.specs.Attempts.Transfers.{ClientDid, ServerDid, after_client_tick, after_event, after_hearing, after_tick, beginning, begun, called_again, connection_of, did_by, did_to, gone_on, has_call, has_session, heard_by, job_gone_on, opened, served, ticked_by}
pub use Rattle.air_world.proofs.files.Offered.{acked-task, alike-itself, complete-entry, drop-keeps, drop-sound, each-side, facts-first, facts-removed, file-more, found-such, keeps-file, keeps-offer, keeps-task_kept, later-number, no-task, over-alike, place-more, served-itself, side-at, such-first, task-file, task-some, task_for, tasked-acked, tasks-lists}
pub use Rattle.air_world.specs.Files.Facts.{AreFirstIfAny, GoesOnWithTask, HasFacts, HasFetched, HasNumber, IsGrantKept, IsGranted, IsNumbered, IsOfferKept, Receives, got}
pub use Rattle.air_world.specs.Files.Laws.{BeginLaw, GrantedAt, GrantsOnce, IsBeginning, IsGreeted, IsSameParty, IsServed, IsWorking, JobGoes, JobKeeps, JobTookFront, LeftIn, LookLike, LooksLike, LooksLikeSession, LooksServed, SessionGoes, SessionKeeps, Stands, StayLaw, job_gone, session_gone, started_with, with_attempt, with_job}
pub use Rattle.air_world.specs.Files.SoundStore.{IsSoundStore, NoneGone}
pub use Rattle.air_world.specs.Files.Tasks.{AreTasks, IsTaskFor, IsWork, StandsBy}
pub use Rattle.air_world.specs.Files.Uploads.{IsGoodFile, body_octets, file_ext, file_header, file_name}
unfoldable pub use Rattle.air_world.specs.Files.Uploads.{upload_file}
pub use Rattle.air_world.specs.Cuts.{Changes, ClientDoes, ClientEvent, ClientIsCut, Happens, IsRun, Plays, ServerDoes, ServerEvent, ServerIsCut, WorldStep, broken, client_commands, party_cut, server_commands}
pub use Rattle.air_world.specs.Events.{ClientPart, ClientTakes, IsPartOf, IsResuming, IsSent, ServerTakes, asking, asking_file, next_upload, part_with, with_current}
pub use Rattle.air_world.specs.Headline.{HasWhole, HeadlineIn}
pub use Rattle.air_world.specs.Lawful.{HasParty, IsAllowed, IsPossible, MayCome, last_unfinished}
pub use Rattle.air_world.specs.Laws.{CutsLaw, ExistenceLaw, MayPlay, NoCutsLaw, PartsLaw, PrefixesLaw, RemovalLaw, RunLaw, ScheduleLaw, SoundLaw, StoresLaw, noted_first, without_entry}
pub use Rattle.air_world.specs.Offered.{Offered}
pub use Rattle.air_world.specs.Parts.{AreAcknowledged, AreGranted, AreInState, AreNumbered, DoNumbersFit, DoOctetsFit, EachParty, HasParts, IsGiven, OfCurrent, ReceivesFile}
pub use Rattle.air_world.specs.Schedule.{AreDistinct, Event, IsSchedule, Schedule, ask_download, ask_list, ask_resume, ask_upload, break_client, cut_client, cut_server, tick_client, tick_server, to_client, to_server}
pub use Rattle.air_world.specs.Sound.{AreGrantedOnce, ArePlaces, AreStationsOf, IsParty, IsSeated, IsSessionOf, IsSideAt, Sound}
pub use Rattle.air_world.specs.StationLaws.{ClientLaws, HearingLaws, ServerLaws, SessionLaws, StationLaws}
pub use Rattle.air_world.specs.Step.{ClientGoes, ServerGoes, client_started, parties_after, party_after, party_heard, party_ticked, with_asked}
pub use Rattle.air_world.specs.World.{PartyAt, World, counted, first_world, next_moment, pacsat, store_blocks, with_party}
pub use Rattle.ax25_frames.specs.FrameText.{FrameValue}
pub use Rattle.ax25_link.proofs.Offered.{slice_get-set_other}
pub use Rattle.ax25_link.specs.Air.{IsLawful, Transmission}
pub use Rattle.ax25_link.specs.LinkStep.{frame, tick}
pub use Rattle.ax25_link.specs.Rows.{is_call}
pub use Rattle.ax25_link.specs.Sending.{Sending, next_sending}
pub use Rattle.ax25_link.specs.Window.{IsWindow, Window, window_of}
pub use Rattle.ax25_link.specs.declared.refusal.Refusal.{Refusal}
pub use Rattle.ftl0_client.specs.StepLaws.Steps.{StepsBy, StepsQuietly, answers_to, called_for, sabm_of}
pub use Rattle.client_notes.proofs.Offered.{after_all-append, task-at}
pub use Rattle.client_notes.specs.Answers.{fresh_task, noted_at, noted_by}
pub use Rattle.client_notes.specs.Command.{NotesCommand, is_going, new_task}
pub use Rattle.client_notes.specs.Laws.{after_all}
pub use Rattle.client_notes.specs.Limits.{most_tasks}
pub use Rattle.client_notes.specs.Notes.{Lists, Task, got_of, task_count, task_of}
pub use Rattle.client_notes.specs.declared.progress.Progress.{Progress}
pub use Rattle.file_store_model.specs.Follows.{Follows, FollowsBy, FollowsLaw, KeepsEntries}
pub use Rattle.file_store.proofs.Offered.{after_first-all, found-fits, has_number}
pub use Rattle.file_store.specs.Command.{AreAllowed, Command, DropsNothing, KeepsFile, after, begin, drop_entry, grow, seal}
pub use Rattle.file_store.specs.OnDisk.{after_first}
pub use Rattle.file_store.specs.Store.{Holding, Store, complete, empty_store, entry_of, octets_of, partial}
pub use Rattle.ftl0_client.specs.Attempt.Attempted.{Attempted, outcome_of}
pub use Rattle.ftl0_client.specs.Attempt.Hearing.{hearing, ticking, with_end}
pub use Rattle.ftl0_client.specs.Attempt.Laws.{AttemptStands}
pub use Rattle.ftl0_client.specs.Attempt.Taking.{Happened, quietly}
pub use Rattle.ftl0_client.specs.Client.{Client, IsSilent, Refused, asks, attempt_for, sends_by, sends_of_attempt, sends_of_link}
pub use Rattle.ftl0_client.specs.ClientStep.{ClientStep}
pub use Rattle.ftl0_client.specs.Entries.{JobEntry}
pub use Rattle.ftl0_client.specs.Laws.{EndFits, SomeStepLaw}
pub use Rattle.ftl0_client.specs.Outcomes.{outcome_by}
pub use Rattle.ftl0_client_job.specs.Directory.{new_directory}
pub use Rattle.ftl0_client_job.specs.Download.{new_download}
pub use Rattle.ftl0_client_job.specs.JobState.{GoWith, IsNotBegun, NotesGoWith}
pub use Rattle.ftl0_client_job.specs.Promises.{JobStands}
pub use Rattle.ftl0_client_job.specs.Table.{JobState, job_after, new_job}
pub use Rattle.ftl0_client_job.specs.Upload.{Upload, new_upload}
pub use Rattle.ftl0_client_job.specs.declared.work.Work.{Work}
pub use Rattle.ftl0_server.specs.Connection.Connected.{Connected, caller_of}
pub use Rattle.ftl0_server.specs.Connection.Hearing.{}
pub use Rattle.ftl0_server.specs.Entries.{SessionEntry, session_after}
pub use Rattle.ftl0_server.specs.Server.{Server, all_free, new_server, sends_of_places}
pub use Rattle.ftl0_server.specs.ServerStep.{ServerStep, Stepped}
pub use Rattle.ftl0_server.specs.Slots.{PlacesSend, Slot, connected, free, leaving, place_of, places_next}
pub use Rattle.ftl0_session.proofs.uploads.UploadRows.{same_call-decides}
pub use Rattle.ftl0_session.specs.Downloads.Needs.{AreComplete}
pub use Rattle.ftl0_session.specs.Downloads.Table.{complete_octets, file_of}
pub use Rattle.ftl0_session.specs.Run.{Session, session_over}
pub use Rattle.ftl0_session.specs.Table.{State, command, download_part, in_session, next_due, receiving}
pub use Rattle.ftl0_session.specs.Uploads.Session.{is_same_call}
pub use Rattle.turn_loop.specs.Events.{NodeEvent, hears, ticks}
pub use Rattle.pfh_items.specs.Faults.{IsFaultless, StandsOnce, code_of, fault_code, header_sum, with_content}
unfoldable pub use Rattle.pfh_items.specs.Faults.{first_fault}
pub use Rattle.pfh_items.specs.Laws.{HasNoFault, HasNoFront}
pub use Rattle.px_base.specs.CallSign.{CallSign, IsCall, is_call_char}
pub use Rattle.px_base.specs.Octets.{IsFront, IsOctets}
pub use Rattle.sha2.specs.Sha256.{sha256}
pub use Rattle.std.proofs.lemmas.Bool.{cases_eq, cases_lt}
pub use Rattle.std.proofs.lemmas.Bool.Decides.{eqb_tells, nat_tests}
pub use Rattle.std.proofs.lemmas.List.{get_or-reverse, length-map, length-reverse, length-set, length-take-le, take-append-drop}
pub use Rattle.std.proofs.lemmas.List.Elements.{All-from_get_or, All-from_recursion, All-map, All-nil, All-weaker}
pub use Rattle.std.proofs.lemmas.List.Quantifiers.{position-Some}
pub use Rattle.std.proofs.lemmas.Option.{get_or_from_slice_get, same_Some, slice_get-get_or}
pub use Rattle.std.specs.List.{AllByRecursion, list_all, position, range_with_len}
pub use Rattle.std.specs.Option.{option_and_then, option_map, option_map_or, option_or}
pub use Rattle.std.specs.Prelude.{IfSome, IsTrue, MatchOption, Ok, length, map, nat_lt, slice_get, slice_set, ⊤}
