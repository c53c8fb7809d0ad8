mod Armed
mod BeforeWrites
mod Crashes
mod Ranges
mod Steps
mod Surfaces
mod Walks
pub mod Writes
mod Names
pub mod Offered
mod Runs
mod Told
mod Torn
