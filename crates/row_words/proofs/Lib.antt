pub mod TurnsKept
