pub mod CarryLemmas
pub mod LedLemmas
mod LineLemmas
mod SendLemmas
pub mod StartLemmas
mod Names
