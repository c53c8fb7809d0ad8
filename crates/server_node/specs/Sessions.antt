pub mod Course
pub mod Packets
pub mod Running
pub mod Server
pub mod ServerState
pub mod SessionRan
