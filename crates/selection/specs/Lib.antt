pub mod Faults
pub mod Laws
pub mod Layout
pub mod Meaning
pub mod Reading
pub mod Values
