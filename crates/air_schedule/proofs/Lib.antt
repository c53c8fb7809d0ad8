mod EventCases
mod LineLemmas
mod ReadLemmas
mod ScheduleLemmas
mod SplitLemmas
mod WordLemmas
mod Names
