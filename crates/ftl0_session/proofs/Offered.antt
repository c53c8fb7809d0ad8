-- The lemmas that crates above may use.
pub use Rattle.ftl0_session.proofs.AnsweringLemmas.{answer-all, answer-first, answer-more, answer-some, row-first, smaller, with_part}
pub use Rattle.ftl0_session.proofs.BroughtLemmas.{brings-init, brings-more, brings-stream}
pub use Rattle.ftl0_session.proofs.CaseLemmas.{if-there, session-case}
pub use Rattle.ftl0_session.proofs.OverLemmas.{runs, runs-trans}
pub use Rattle.ftl0_session.proofs.uploads.CaseLemmas.{OfUploads, upload-case}
