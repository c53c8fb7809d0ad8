mod CourseLemmas
mod PacketLemmas
mod Sessions
