mod AckLemmas
mod AcknowledgedLemmas
mod Names
