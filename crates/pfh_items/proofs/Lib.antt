mod ChainLemmas
mod FaultLemmas
mod FrontLemmas
mod HeaderLemmas
pub mod Offered
mod StampLemmas
mod TextLemmas
mod WalkLemmas
mod Names
