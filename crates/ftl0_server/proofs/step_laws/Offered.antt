-- The lemmas that crates above may use.
pub use Rattle.ftl0_server.proofs.step_laws.HearingLemmas.{Taken, taken-told, up-behind}
pub use Rattle.ftl0_server.proofs.step_laws.StepLemmas.{SendsAll, alone-at, passed-same, places-none, sends-all, silent-by, stranger_by}
