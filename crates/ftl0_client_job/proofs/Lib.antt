mod BlockLemmas
mod CaseLemmas
mod DueLemmas
mod EndLemmas
mod HeaderLemmas
mod JobLemmas
mod LawLemmas
mod NotingLemmas
pub mod Offered
mod OwnLemmas
mod PromiseLemmas
mod RowLemmas
mod ShortLemmas
mod StaysLemmas
mod Names
