mod AnsweringLemmas
mod BroughtLemmas
mod CaseLemmas
mod CauseLemmas
mod DownloadLemmas
mod FaultLemmas
mod FillLemmas
mod LawLemmas
pub mod Offered
mod OverLemmas
mod RowLemmas
mod RunLemmas
mod TakenLemmas
mod UploadLemmas
pub mod WorkingLemmas
mod Names
