mod FreeLemmas
mod KeptLemmas
mod LineLemmas
mod Names
mod PlaceLemmas
mod RunLemmas
