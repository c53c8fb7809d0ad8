-- The lemmas that crates above may use.
pub use Rattle.ax25_link.proofs.EndKept.{after_abandon-IsEnd, after_frame-IsEnd, after_hang_up-IsEnd, after_push-IsEnd, after_tick-IsEnd, answering_end-IsEnd, calling_end-IsEnd}
pub use Rattle.ax25_link.proofs.EndLemmas.{acknowledging-keeps}
pub use Rattle.ax25_link.proofs.LawLemmas.{prefix_law}
pub use Rattle.ax25_link.proofs.Places.{slice_get-set_other, slice_get-set_same}
pub use Rattle.ax25_link.proofs.SendLemmas.{after_new-HasPiece, concat-append_one, left_to_send, next_sending-Sends}
pub use Rattle.ax25_link.proofs.StationLemmas.{stations_law}
