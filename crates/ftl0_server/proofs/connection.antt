mod AnswerLemmas
mod DueLemmas
mod FailureLemmas
pub mod FeedLemmas
pub mod HearLemmas
mod HearsLemmas
mod Invariants
mod OctetsLemmas
pub mod QueuingLemmas
pub mod TakingLemmas
