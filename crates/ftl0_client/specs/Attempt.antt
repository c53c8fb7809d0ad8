pub mod AttemptState
pub mod Attempted
pub mod Feeding
pub mod Hearing
pub mod Inside
pub mod Laws
pub mod Settling
pub mod Taking
