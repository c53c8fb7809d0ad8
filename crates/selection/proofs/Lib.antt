mod NumberLemmas
pub mod ReadLemmas
mod StepLemmas
mod TokenLemmas
mod TruthLemmas
mod Names
