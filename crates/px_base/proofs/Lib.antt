mod Turns
mod Ssid
pub mod Calls
mod ShelfStates
pub mod Told
pub mod Spelled
mod Names
