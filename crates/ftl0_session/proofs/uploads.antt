pub mod AckLemmas
mod BeginLemmas
pub mod CaseLemmas
pub mod DoesLemmas
mod HoldLemmas
mod OtherLemmas
pub mod Rows
pub mod UploadRows
pub mod Uploads
