pub mod Addresses
pub mod Faults
pub mod FrameText
pub mod Kinds
pub mod Laws
pub mod Reading
pub mod Values
