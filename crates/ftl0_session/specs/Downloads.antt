pub mod Filling
pub mod Laws
pub mod Needs
pub mod Sending
pub mod Spans
pub mod Table
pub mod Taking
pub mod View
