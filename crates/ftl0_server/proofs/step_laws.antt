mod FitsLemmas
mod FrontLemmas
mod HearingLemmas
mod MissesLemmas
pub mod Offered
mod QueuedLemmas
mod ReceivesLemmas
mod RowLemmas
mod StepLemmas
mod Names
