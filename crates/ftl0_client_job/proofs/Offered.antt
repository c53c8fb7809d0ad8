-- The lemmas that crates above may use.
pub use Rattle.ftl0_client_job.proofs.CaseLemmas.{download-rows, DownloadRows, upload-rows, UploadRows}
pub use Rattle.ftl0_client_job.proofs.JobLemmas.{ending-none}
pub use Rattle.ftl0_client_job.proofs.LawLemmas.{acknowledged, fetched}
pub use Rattle.ftl0_client_job.proofs.RowLemmas.{job-in}
pub use Rattle.ftl0_client_job.proofs.StaysLemmas.{stays-item}
