pub mod Served
pub mod Serving
pub mod Station
