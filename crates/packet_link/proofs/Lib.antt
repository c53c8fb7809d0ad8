pub mod Fronts
mod LinkLemmas
mod Names
pub mod Queuing
mod ReaderLemmas
