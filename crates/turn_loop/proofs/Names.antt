-- The names of specs, and of the crates below, that proofs use, in one place.
pub use Rattle.ax25_frames.specs.FrameText.{FrameValue}
pub use Rattle.ax25_frames.specs.Laws.{IsFrameOrFault, IsNoFrame, IsOneFrame}
pub use Rattle.disk_model.proofs.Writes.{octets_from_fits}
pub use Rattle.disk_model.specs.declared.halt.Halt.{Halt}
pub use Rattle.kiss.specs.KissText.{frame_of, from_last_fend, is_fend, kiss_text}
unfoldable pub use Rattle.kiss.specs.KissText.{kiss_frames, kiss_parts}
pub use Rattle.turn_loop.specs.Course.{AtDisk, Course, GaveAll, GivesNext, IsLawful, OwesBy, OwesStop, at, stop_at_put, stop_of}
pub use Rattle.turn_loop.specs.Events.{Finishes, FramesFor, IsFor, NodeEvent, NodeEvents, TurnsBring, frames_in, heard_at, hears, tick_of, ticks}
pub use Rattle.turn_loop.specs.Inputs.{Input, IsInput, inputs_of, inputs_since, octet, octets_at, octets_in, tick, tick_after, turn_inputs, turn_tick}
pub use Rattle.turn_loop.specs.Laws.{SomeFramesLaw}
pub use Rattle.turn_loop.specs.OnAir.{Brings, BringsOver, HasHeardSome, StaysOnAir, inner, on_air}
pub use Rattle.turn_loop.specs.Reading.{Finds, HasHeard, HearsOctet, HearsRun}
pub use Rattle.turn_loop.specs.Station.{StationValue}
pub use Rattle.turn_loop.specs.Turns.{AreHandedOver, Brought, CountsBy, HasAirCause, IsByParty, IsOpenBefore, IsUnsaid, LentParty, MomentsFrom, MomentsTaken, NextMoment, RanBy, SaysAll, StoppedInLast, Takes, TakesPiece, TookAll, TookTurn, TookTurns, TurnEnds, TurnsBy, lent_party, party_at}
pub use Rattle.turn_loop.specs.declared.finished.Finished.{Finished}
pub use Rattle.turn_loop.specs.declared.on_air.OnAir.{OnAir}
pub use Rattle.turn_loop.specs.declared.stop.NodeStop.{NodeStop}
pub use Rattle.turn_loop.specs.declared.terms.TurnTerms.{TurnTerms}
pub use Rattle.px_base.proofs.Told.{Gains-front, Gains-none, Gains-trans, Grows-none, Grows-trans}
pub use Rattle.px_base.specs.CallSign.{CallSign}
pub use Rattle.px_base.specs.Octets.{IsOctets}
pub use Rattle.px_base.specs.Outside.{Gains, GainsPrefix, HasCause, Rose}
pub use Rattle.px_base.specs.Polling.{Hears, HearsAll, IsOpen, octets_heard, octets_of_turn}
pub use Rattle.px_base.specs.declared.air.Air.{Ghosts}
pub use Rattle.px_base.specs.declared.air.AirDown.{AirDown}
pub use Rattle.px_base.specs.declared.air.Turn.{Turn}
pub use Rattle.std.proofs.lemmas.Bool.{cases_Bool, iff_false}
pub use Rattle.std.proofs.lemmas.List.{drop-take, map-append, take-append-drop, take-take, take_all, take_more}
pub use Rattle.std.proofs.lemmas.List.Elements.{All-append, All-from_recursion, All-nil, All-take, recursion_from_All}
pub use Rattle.std.specs.List.{AllByRecursion, filter_map, list_any}
pub use Rattle.std.specs.Prelude.{Bool, IfSome, IsErrAnd, IsSome, IsTrue, List, None, Option, Some, [], bytes_eq, drop, false, length, option_to_list, true, ℕ, ⊤}
