pub mod KissText
pub mod Hearing
pub mod Laws
pub mod ReaderMemory
