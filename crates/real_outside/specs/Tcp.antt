pub mod Connections
pub mod RunLaws
pub mod SendingLaws
