pub mod Acknowledged
pub mod OnAir
pub mod OnDisk
pub mod Served
pub mod Sessions
pub mod Steps
pub mod Stops
