pub mod MemoryHost
pub mod Ready
