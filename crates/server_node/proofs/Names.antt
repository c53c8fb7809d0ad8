-- The names of specs, and of the crates below, that proofs use, in one place.
pub use Rattle.disk_model.specs.declared.disk.Disk.{Ghosts}
pub use Rattle.disk_model.specs.declared.disk.DiskFault.{DiskFault}
pub use Rattle.disk_model.specs.declared.halt.Halt.{Halt}
pub use Rattle.file_journal.specs.Restoring.{AnswersRecovery}
pub use Rattle.file_store.proofs.Offered.{Does-none, among-at, among-same, among-store, among-then, at_told, cuts-among-all, cuts-among-none, cuts-among-same, cuts-among-then, does-among, if_told, known_on, on_rules_always, recovered_good, puts-among, puts-among-reads, puts-among-same, puts-among-then, puts_none, stands-through, told_weaker}
pub use Rattle.file_store.specs.Command.{Command, after_all}
pub use Rattle.file_store.specs.Recovery.{IsRecovered}
pub use Rattle.file_store.specs.State.{IsKnown, IsRead, IsReadOn, IsReady, StoreState, store_form, store_in, store_layout, store_magic, store_on}
pub use Rattle.file_store.specs.Store.{Store}
pub use Rattle.file_store.specs.Working.{CutsOffAmongReads, DoesAmongReads, PutsAmongReads, one_if}
pub use Rattle.ftl0_packets.proofs.OctetLemmas.{IsOctets-append, IsOctets-nil, IsOctets-take}
pub use Rattle.ftl0_packets.proofs.SplitLemmas.{left-octets, left-waits, nothing_partial, octets_back, octets_front, octets_under_way, read-append, read-stream, stream_of, texts-append, under-way-less, under-way-whole}
pub use Rattle.ftl0_packets.specs.Layout.{Item, PacketText, PacketValue}
pub use Rattle.ftl0_packets.specs.Reading.{is_whole, packets_of, under_way}
unfoldable pub use Rattle.ftl0_packets.specs.Reading.{rest_of}
pub use Rattle.ftl0_packets.specs.Stream.{IsPartial, Stream}
pub use Rattle.ftl0_server.proofs.Offered.{empties-silent, known-or-not, serves, serves-append, serves-one, silent-settled, uncut}
pub use Rattle.ftl0_server.specs.ServerState.{SendsFor, server_pending}
pub use Rattle.ftl0_session.proofs.Offered.{answer-all, answer-first, answer-more, answer-some, brings-init, brings-more, brings-stream, row-first, runs, runs-trans, with_part}
pub use Rattle.ftl0_session.specs.Run.{Event as MetEvent, RunsOver, Session, heard_of}
pub use Rattle.ftl0_session.specs.SessionState.{SessionState, caller_of, state_in}
pub use Rattle.ftl0_session.specs.Taking.{TakesPacket, Working, row_over, working}
pub use Rattle.ftl0_session.specs.Uploads.Events.{Brings, Event, at_moment, packet_of}
pub use Rattle.turn_loop.proofs.InputLemmas.{are-octets, octets_in-append, octets_in-at}
pub use Rattle.turn_loop.specs.Course.{AtDisk, Course, GaveAll, GivesNext, IsLawful, at, stop_at_put, stop_of}
pub use Rattle.turn_loop.specs.Events.{NodeEvent, NodeEvents, hears, ticks}
pub use Rattle.turn_loop.specs.Inputs.{Input, IsInput, inputs_of, inputs_since, octet, octets_at, octets_in, tick, turn_inputs, turn_tick}
pub use Rattle.turn_loop.specs.Lent.{Lent, Seen, lent, seen}
pub use Rattle.turn_loop.specs.Turns.{AreHandedOver, HasAirCause as NodeHasCause, LentParty, MomentsFrom, RanBy, StoppedInLast, TookAll, TookTurns, TurnsBy as NodeTurnsBy, lent_party, party_at}
pub use Rattle.turn_loop.specs.declared.finished.Finished.{Finished}
pub use Rattle.turn_loop.specs.declared.stop.NodeStop.{NodeStop}
pub use Rattle.turn_loop.specs.declared.terms.TurnTerms.{TurnTerms}
pub use Rattle.px_base.specs.CallSign.{CallSign}
pub use Rattle.px_base.specs.Moments.{MomentsOf}
pub use Rattle.px_base.specs.Octets.{IsFront, IsOctets}
pub use Rattle.px_base.specs.Polling.{IsButLast, octets_of_turn}
pub use Rattle.px_base.specs.declared.air.Turn.{Turn}
pub use Rattle.server_node.specs.OnAir.Station.{IsUp, OwesRest, ServesAt, StandsBy, WholeBy, files_at, server_course, server_service, with_server}
pub use Rattle.server_node.specs.Served.{Ends, IsBeforeTurns, Run, TurnsBy}
pub use Rattle.server_node.specs.Sessions.Course.{Answers, AwaitsInput, GoesOver, HaltsOver, IsAnswered, IsHalting, IsRowOf, IsStopped, IsUnderWay, IsUnsaidFirst, NoneDue, Owes, OwesAll, TakesAtMostOne, most_left, session_course, session_in, session_service}
pub use Rattle.server_node.specs.Sessions.Packets.{Hears, events_behind, events_to, waiting_behind}
pub use Rattle.server_node.specs.Sessions.Running.{IsSaid, StopsAt, first_session, session_steps}
pub use Rattle.server_node.specs.Sessions.Server.{IsServer, IsWaiting, server_state}
pub use Rattle.server_node.specs.Sessions.ServerState.{ServerState, new_server}
pub use Rattle.server_node.specs.Sessions.SessionRan.{IsGreeted, IsUngreeted, SessionRan, login_text}
pub use Rattle.server_node.specs.Steps.{EndsOver, Made, RunsOn, RunsTo, Service, Steps, StopsBehind, StopsOn, StopsOver, StopsTo, TakesAll, both, made, store_at}
pub use Rattle.server_node.specs.Stops.{FailsBy, HasAirCause, IsNotOver, RefusesSession, served_by}
pub use Rattle.server_node.specs.declared.terms.Served.{Served}
pub use Rattle.std.proofs.Math.Nat.{add-zero, add_assoc}
pub use Rattle.std.proofs.lemmas.Grind.{common_steps}
pub use Rattle.std.proofs.lemmas.List.{length-take-le, map-append, nil_from_length, take-append-drop}
pub use Rattle.std.specs.Prelude.{⊤}
