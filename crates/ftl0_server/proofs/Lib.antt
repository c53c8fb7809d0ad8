mod AllPlaces
mod EmptiesLemmas
mod EndLemmas
mod HappeningLemmas
mod HearLemmas
mod KnownLemmas
mod NextLemmas
pub mod Offered
mod OutLemmas
mod PlaceLemmas
mod SeatLemmas
mod ServingLemmas
mod SettledLemmas
mod StartLemmas
mod StepLemmas
mod TickLemmas
pub use Rattle.ftl0_packets.proofs.OctetLemmas
pub use Rattle.ftl0_session.proofs.WorkingLemmas
mod Names
