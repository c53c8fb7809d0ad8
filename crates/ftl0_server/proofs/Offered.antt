-- The lemmas that crates above may use.
pub use Rattle.ftl0_server.proofs.EmptiesLemmas.{by_stray, emptied, empties-silent, first_none, server_left, silent-settled}
pub use Rattle.ftl0_server.proofs.HappeningLemmas.{uncut}
pub use Rattle.ftl0_server.proofs.KnownLemmas.{known-or-not}
pub use Rattle.ftl0_server.proofs.ServingLemmas.{serves, serves-append, serves-one}
pub use Rattle.ftl0_server.proofs.connection.QueuingLemmas.{queued-keeps, queuing-holds}
pub use Rattle.ftl0_server.proofs.connection.TakingLemmas.{Begins, IsFront, begun, taking-begins}
