pub mod Check
pub mod Claims
pub mod Feed
pub mod Measures
pub use Rattle.pfh_items.specs.Faults
