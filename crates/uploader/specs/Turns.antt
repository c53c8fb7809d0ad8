pub mod Came
pub mod Carried
pub mod Carrying
pub mod Course
