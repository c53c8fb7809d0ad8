pub mod ClaimsLemmas
pub mod FaultLemmas
mod FeedLemmas
mod SumLemmas
mod Names
