pub mod Built
pub mod Filling
pub mod Given
pub mod KeptFile
pub mod Short
pub mod Stamping
pub mod Steps
pub mod Sums
