mod BodyLemmas
mod LineLemmas
mod Names
