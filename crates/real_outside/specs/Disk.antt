-- What the contracts of a disk over a device cite.
pub mod DeviceLaws
pub mod Devices
pub mod FileDevices
pub mod MemoryDevices
pub mod Untold
