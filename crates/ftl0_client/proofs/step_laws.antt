mod EntryLemmas
mod StepLemmas
mod StopLemmas
mod UpLemmas
mod Names
