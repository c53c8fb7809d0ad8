pub mod Connected
pub mod ConnectionState
pub mod Feeding
pub mod Hearing
pub mod Inside
pub mod Laws
pub mod Taking
