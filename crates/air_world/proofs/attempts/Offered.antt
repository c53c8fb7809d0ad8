-- The lemmas that crates above may use.
pub use Rattle.air_world.proofs.attempts.ClientWorks.{due-none}
pub use Rattle.air_world.proofs.attempts.Connections.{old-connection, old-none}
pub use Rattle.air_world.proofs.attempts.JobAppend.{reaches-by, reaches-then}
pub use Rattle.air_world.proofs.attempts.Left.{are-over}
pub use Rattle.air_world.proofs.attempts.ListLemmas.{all-at, all-by, each-append, each-at, each-both, each-from, each-map}
pub use Rattle.air_world.proofs.attempts.ListLemmas.{each-weaker, has-at, one-at, one-cases, one-from, one-left, one-map}
pub use Rattle.air_world.proofs.attempts.ListLemmas.{flat_map-one, one-last, one-placed, one-right, one-weaker}
pub use Rattle.air_world.proofs.attempts.ListLemmas.{set-at, some-at, some-from, some-weaker}
pub use Rattle.air_world.proofs.attempts.Places.{place-of-is, place-of-not}
