pub mod FrameLine
pub mod FramesText
pub mod Gathering
pub mod Laws
