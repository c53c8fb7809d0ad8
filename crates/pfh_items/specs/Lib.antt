pub mod Faults
pub mod Laws
pub mod Layout
pub mod Stamp
pub mod Table
pub mod Values
pub mod Walk
