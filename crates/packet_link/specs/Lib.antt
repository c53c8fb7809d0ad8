pub mod Inside
pub mod PacketLink
pub mod Queuing
