-- The names of specs, and of the crates below, that proofs use, in one place.
pub use Rattle.ax25_frames.specs.FrameText.{FrameText, FrameValue, FreeBits, canonical, frame_octets}
pub use Rattle.ax25_frames.specs.declared.control.Control.{Control}
pub use Rattle.ax25_frames.specs.declared.control.Control.TheVariants.{Disc, Dm, Frmr, I, Rej, Rnr, Rr, Sabm, Ua}
pub use Rattle.ax25_link.specs.Acknowledging.{HasMeaning, Meaning, Means, StandsForNumber, acknowledging, applying, bad, distance, good, is_bad, is_good, meaning_at, meaning_of, stale, with_timer_anew}
pub use Rattle.ax25_link.specs.Acts.{acting, does, facing, hear, send}
pub use Rattle.ax25_link.specs.Air.{IsAt, IsLawful, NoneLater, Transmission, control_of, delivering, fresh, is_information, is_numbered, later_count}
pub use Rattle.ax25_link.specs.Calls.{DoesAll, Doing, abandon, after_abandon, after_doing, after_hang_up, after_push, hang_up, push}
pub use Rattle.ax25_link.specs.Ends.{Farewell, IsEnd, LinkEnd, Reply, accept, answering_end, begun, call, calling_end, enquire, free_octets, gone, goodbye, held, high, most_held, oldest, outstanding, ready, refuse, refuse_frame, reject, taken_count}
pub use Rattle.ax25_link.specs.Frames.{frame_of_farewell, frame_of_reply, information_again, information_of, no_protocol, piece_at, receive_number, refusal_octets}
pub use Rattle.ax25_link.specs.Kept.{Fits, IsKept, Kept, StandsFor, frame_between}
pub use Rattle.ax25_link.specs.Laws.{AnsweredLaw, DeliveredLaw, DownLaw, DrainsLaw, FrontLaw, HasNoCall, HeardLaw, IsOpening, KeptLaw, NoBadLaw, NoCallLaw, OneMeaningLaw, OpeningLaw, PrefixLaw, SentLaw, TickedLaw, TurnedLaw, having_sent}
pub use Rattle.ax25_link.specs.LinkStep.{Coming, after_coming, frame, tick}
pub use Rattle.ax25_link.specs.Linked.{AreLinked, IsInformationAt, IsNumberedAt, IsOpened, IsUnpushed, NumbersFit, PiecesFit, ShownFit, Station, ack_number, owed, owed_for, send_number}
pub use Rattle.ax25_link.specs.Queue.{AreSizes, Queue, cut, octets_of, queue_of, room_of}
pub use Rattle.ax25_link.specs.Rows.{Outcome, accepting, after_frame, calling_row, down_row, ending_row, entering, information_row, is_call, numbered_row, out_of_sequence, passed_over, refusing, replying, row_of_state, sending_again, supervisory_row, unless_oldest, up_row, with_busy}
pub use Rattle.ax25_link.specs.Runs.{BoundLaw, RunLaw, Runs, WholeRunLaw, acts, answering_station, calling_station, stays, turns}
pub use Rattle.ax25_link.specs.Sending.{Drains, IsQuiet, Sending, after_new, has_new, is_empty, last_sending, later_sending, most_information, next_piece, next_sending, sending_after, sends_again, sends_farewell, sends_new, sends_reply, with_piece}
pub use Rattle.ax25_link.specs.Timer.{after_count, after_tick, asking, is_down, is_spent, is_up, runs_out, timer_reply, trying}
pub use Rattle.ax25_link.specs.Window.{IsWindow, Window}
pub use Rattle.ax25_link.specs.declared.state.LinkState.{LinkState}
pub use Rattle.ax25_link.specs.declared.state.LinkState.TheVariants.{Calling, Down, Ending, Up}
pub use Rattle.circular_buffer.specs.Buffer.{Buffer, buffer}
pub use Rattle.px_base.specs.CallSign.{CallSign}
pub use Rattle.px_base.specs.Octets.{IsOctets}
pub use Rattle.std.proofs.lemmas.Bool.{and_from, and_left, and_parts, and_right, cases_Bool, cases_eq, cases_lt, cond-false, cond-true, cond_both, eq-eqb, eqb-false, eqb-true, le-leb, le-ltb, leb-true, lt-leb, lt-ltb, ltb-true, ne_eqb, not-true, true≢false}
pub use Rattle.std.proofs.lemmas.Bool.Decides.{nat_tests}
pub use Rattle.std.proofs.lemmas.List.{drop-append-le, drop-drop, drop_all, drop_min, get_or_push, length-take-le, take-append-drop, take-append-le, take_all, take_min}
pub use Rattle.std.proofs.lemmas.List.Elements.{All-append, All-drop, All-get_or}
pub use Rattle.std.proofs.lemmas.List.Sums.{sum_by-cons, sum_by-le, sum_by-take-drop, sum_by-take-le, sum_by_more_le, sum_by_push}
pub use Rattle.std.proofs.lemmas.Nat.{div-add-mod', mod-mul-add, mod_below}
pub use Rattle.std.proofs.lemmas.Option.{same_Some, slice_get_within, unwrap_or-slice_get}
pub use Rattle.std.specs.List.{AllByRecursion, concat}
pub use Rattle.std.specs.Prelude.{All, IsTrue, Option, Some, drop, nat_le, nat_lt, not, slice_get, slice_set, suc, sum, unwrap_or, zero, ⊤}
