mod AfterLemmas
mod DropLemmas
mod EntriesLemmas
mod FollowLemmas
mod GrowLemmas
mod HeadersLemmas
mod InfoLemmas
mod LawLemmas
mod LikeLemmas
pub mod Offered
mod Names
