mod AckedLemmas
mod AnswerLemmas
pub mod DownLemmas
pub mod EndedLemmas
mod FeedLemmas
mod FetchedLemmas
pub mod HearLemmas
mod Invariants
mod QueuingLemmas
mod ReachedLemmas
pub mod SettlingLemmas
mod SomeLemmas
mod StandLemmas
pub mod TakingLemmas
mod ToldLemmas
