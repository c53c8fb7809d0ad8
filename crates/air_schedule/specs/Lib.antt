pub mod Causes
pub mod Events
pub mod Schedule
pub mod Text
