mod FrontLemmas
mod InformationLemmas
pub mod OctetLemmas
mod ReaderLemmas
pub mod SplitLemmas
mod StreamLemmas
mod TextLemmas
mod Names
