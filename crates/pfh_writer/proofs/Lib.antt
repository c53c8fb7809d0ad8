mod BuiltLemmas
pub mod ClientLemmas
mod FaultlessLemmas
mod FilledLemmas
mod FillingLemmas
mod FrontLemmas
mod ItemsLemmas
mod OthersLemmas
mod PieceLemmas
mod ShortLemmas
pub mod StampedLemmas
mod StepLemmas
mod SumLemmas
mod WholeLemmas
mod Names
