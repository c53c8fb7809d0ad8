mod BringsLemmas
mod DriveLemmas
mod EventLemmas
mod Found
pub mod InputLemmas
mod Invariants
mod OnAirLemmas
mod SayingLemmas
mod SomeFrames
mod TurnLemmas
mod TurnsLemmas
mod Names
