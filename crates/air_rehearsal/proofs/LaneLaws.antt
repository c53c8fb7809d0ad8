-- The laws of lanes: what events make of the transmissions of each client's current attempt.
pub use Rattle.air_rehearsal.proofs.ClientLanes.{client_lanes}
pub use Rattle.air_rehearsal.proofs.HearingLanes.{hearing_lanes}
pub use Rattle.air_rehearsal.proofs.TickingLanes.{ticking_lanes}
