mod CutLemmas
mod GotLemmas
mod KeepLemmas
mod KeptLemmas
mod ListLemmas
pub mod Offered
mod PutLemmas
mod RecordLemmas
mod SeveralLemmas
mod StandingLemmas
mod StartLemmas
mod TaskLemmas
mod ThroughLemmas
mod Names
