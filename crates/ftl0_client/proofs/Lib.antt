mod EmptiesLemmas
mod FitsLemmas
mod GoingLemmas
pub mod KeptLemmas
pub mod OutcomeLemmas
mod SomeLemmas
mod StartLemmas
mod StrangerLemmas
mod TickLemmas
pub use Rattle.ftl0_packets.proofs.OctetLemmas
mod Names
