mod Splitting
mod Escapes
mod Steps
mod LawProofs
mod FrameOctets
mod Names
