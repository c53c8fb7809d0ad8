-- The names of specs, and of the crates below, that proofs use, in one place.
pub use Rattle.ax25_frames.specs.FrameText.{FrameText, FrameValue, canonical}
pub use Rattle.ax25_frames.specs.Values.{value_of}
pub use Rattle.ax25_link.proofs.Offered.{left_to_send, next_sending-Sends, slice_get-set_other, slice_get-set_same}
pub use Rattle.ax25_link.specs.Calls.{after_abandon, after_push}
pub use Rattle.ax25_link.specs.Ends.{IsEnd, LinkEnd, answering_end, free_octets}
pub use Rattle.ax25_link.specs.Kept.{Kept, SameStations, StandsFor, Tells, count_of, is_pending, is_there}
pub use Rattle.ax25_link.specs.Queue.{room_of}
pub use Rattle.ax25_link.specs.Rows.{after_frame, heard_of, is_call}
pub use Rattle.ax25_link.specs.Window.{Window, window_of}
pub use Rattle.ax25_link.specs.declared.state.Heard.{Heard}
pub use Rattle.ax25_link.specs.declared.state.Heard.TheVariants.{Bytes, Closed, Nothing, Opened, Reopened}
pub use Rattle.ax25_link.specs.declared.state.LinkState.TheVariants.{Down, Up}
pub use Rattle.disk_model.specs.AtDisk.{AtDisk, at}
pub use Rattle.disk_model.specs.declared.disk.Disk.{Ghosts}
pub use Rattle.disk_model.specs.declared.disk.DiskFault.{DiskFault}
pub use Rattle.file_store.proofs.Offered.{Does-none, after_all-append, among-at, among-parked, among-same, among-store, among-then, cuts-among-all, cuts-among-then, does-among, in_parked, known_back, known_on, makes-first, makes-within, on_parked, on_untold, puts-among, puts-among-reads, puts-among-same, puts-among-then, puts_none, recovered_good, stands_parked, told_weaker, weaker}
pub use Rattle.file_store.specs.Command.{Command, after_all}
pub use Rattle.file_store.specs.EntriesKept.{KeepsComplete}
pub use Rattle.file_store.specs.Position.{Position}
pub use Rattle.file_store.specs.State.{IsKnown, IsReady, StoreState, store_form, store_in, store_on}
pub use Rattle.file_store.specs.Store.{Store, entry_of, partial}
pub use Rattle.file_store.specs.Working.{CutsOffAmongReads, DoesAmongReads, one_if}
pub use Rattle.ftl0_packets.specs.Items.{texts}
pub use Rattle.ftl0_packets.specs.Layout.{Item, packet_text}
pub use Rattle.ftl0_packets.specs.Reading.{packets_of, read_item, rest_of, under_way}
pub use Rattle.ftl0_server.specs.AtPlace.{AllFit, GivesUp, GoesOn, HasBegun, HasEnded, IsOver, IsPlace, IsEmptied, KeepsStore, MayAllEnd, MayBegin, MayEnd, MayHear, MayTick, PlaceFits, PlaceHears, PlaceHearsBy, Works}
pub use Rattle.ftl0_server.specs.Calls.{AwaitsStranger, HandsOut, Hears, HearsEvent, HearsStranger, SamePlaces, SameStore}
pub use Rattle.ftl0_server.specs.Connection.Connected.{Connected, answering, beginning, greeted}
pub use Rattle.ftl0_server.specs.Connection.ConnectionState.{ConnectionState, HearsBy, IsAnswered, IsConnection, StandsAfter, is_over, none_left, with_reads}
pub use Rattle.ftl0_server.specs.Connection.Feeding.{AreFree, Feeds, FeedsAll, HearsParts, IsAmong, IsGoing, IsNothingDue, IsSeen, KeepsFit, LeavesFit, MayQueue, MayTake, Queued, QueuesBy, QueuesDue, QueuesPacket, TakesPackets, TakesSome, carrying, session_on, taking_some}
pub use Rattle.ftl0_server.specs.Connection.Hearing.{Happened, LooksAtNone, LooksAtNoneAs, NoneDue, NoneDueBehind, hearing, parts_as, parts_of_frame, progressed, rest_as, with_end}
pub use Rattle.ftl0_server.specs.Connection.Laws.{IsQueued, QueuedLaw, TakingLaw}
pub use Rattle.ftl0_server.specs.Connection.Taking.{Halt, LookAtNone, Progress, after_due, after_row, enough_free, failing_at, fails, fits, giving_up, goes_on, queued, queuing, replied, resting, taking, taking_row}
pub use Rattle.ftl0_server.specs.Kept.{AreDistinct, HasLink, IsAt, IsSeated, IsSettled, IsUploadOf, IsEmpty, IsWorking, server_state}
pub use Rattle.ftl0_server.specs.Places.{GivesOut, PlacesGive, SamePlace, SameTalk}
pub use Rattle.ftl0_server.specs.Server.{IsSilent, Refused, Server, ServerSends, becoming, called_by, heard_at, hearing_at, hearing_by, hearing_stranger, refusing, sends_by, sends_of_places, server_next, server_ticking, settled, with_slot}
pub use Rattle.ftl0_server.specs.ServerState.{AllPlaces, IsServer, SaysAs, SendsAs, SendsFor, ServerState, any_pending, has_caller, is_empty_place, place_most, place_pending, places_most}
pub use Rattle.ftl0_server.specs.ServerStep.{Empties, LooksAtNoFile, LooksAtNoneAt, LooksAtNoneBy, happening}
pub use Rattle.ftl0_server.specs.Slots.{PlacesSend, Slot, SlotSends, all_freed, connected, first_empty, first_of, free, freed, is_callers, leaving, left_by, place_of, places_next, slot_after, slot_next, slot_sends, slot_ticking}
pub use Rattle.ftl0_server.specs.declared.connection.fate.Fate.{Fate}
pub use Rattle.ftl0_server.specs.declared.connection.fate.Fate.TheVariants.{Ends, Stays}
pub use Rattle.ftl0_server.specs.declared.place.Place.{Place}
pub use Rattle.ftl0_server.specs.declared.place.Place.TheVariants.{Moving, Talking, Empty}
pub use Rattle.ftl0_session.proofs.WorkingLemmas.{due-among, due-none, is_among, none-whatever, reads-behind, reads-listed, told-is, write-listed, write-unread, writes-behind, writes-unlisted}
pub use Rattle.ftl0_session.proofs.uploads.UploadRows.{same_call-decides}
pub use Rattle.ftl0_session.specs.Downloads.Needs.{AreComplete}
pub use Rattle.ftl0_session.specs.Lists.Lists.{CallerList, has_left}
pub use Rattle.ftl0_session.specs.Run.{Session, session_over}
pub use Rattle.ftl0_session.specs.SessionState.{SessionState, WorkingOn, caller_of, new_session, state_in, working_on}
pub use Rattle.ftl0_session.specs.Table.{DuePacket, Row, State, command, due_at, failed_reads_told, next_due, row_at, session_row, tells_failed_read}
pub use Rattle.ftl0_session.specs.Uploads.Failures.{Failure, failed_reads, failed_write, read_fails, write_fails}
pub use Rattle.ftl0_session.specs.Uploads.Others.{KeepsOtherCallers}
pub use Rattle.ftl0_session.specs.Uploads.SessionState.{IsHeld, IsOnlyOut, NoOtherOut, Parks, PhaseIsHeld, number_of, state_of}
pub use Rattle.ftl0_session.specs.declared.uploads.phase.Phase.{Phase}
pub use Rattle.turn_loop.specs.Events.{IsFor, NodeEvent, hears, ticks}
pub use Rattle.packet_link.proofs.Fronts.{front-none, front-then, front-whole, stations-same, stations-then}
pub use Rattle.packet_link.specs.PacketLink.{HasFront, PacketLinkState, octets_in}
pub use Rattle.px_base.specs.CallSign.{CallSign}
pub use Rattle.std.proofs.Math.Nat.{add-zero, add_assoc, zero-add}
pub use Rattle.std.proofs.lemmas.Bool.{eq-eqb, eqb-true, lt-ltb}
pub use Rattle.std.proofs.lemmas.Bool.Decides.{eqb_tells}
pub use Rattle.std.proofs.lemmas.Grind.{common_steps}
pub use Rattle.std.proofs.lemmas.List.Elements.{All-append, All-cons, All-get_or, All-nil, All-set, All-weaker, recursion_from_All}
pub use Rattle.std.proofs.lemmas.Option.{same_Some, slice_get-get_or, slice_get_within}
pub use Rattle.std.specs.List.{AllByRecursion, position, prefix_len}
pub use Rattle.std.specs.Prelude.{All, Err, IsErr, IsErrOf, None, Ok, Option, Result, Some, slice_get, ⊤}
