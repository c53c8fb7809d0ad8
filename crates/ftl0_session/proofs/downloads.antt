mod ChosenLemmas
pub mod DueLemmas
pub mod FileLemmas
mod LikeLemmas
mod ListLemmas
mod ReadsLemmas
pub mod ReplyLemmas
mod SelectLemmas
pub mod SentLemmas
mod TakeLemmas
