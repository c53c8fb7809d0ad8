-- The lemmas that crates above may use.
pub use Rattle.air_world.proofs.files.EntryLemmas.{such-first}
pub use Rattle.air_world.proofs.files.GoneLemmas.{alike-itself, facts-over, facts-same, facts-started, over-alike}
pub use Rattle.air_world.proofs.files.GoneLemmas.{served-itself}
pub use Rattle.air_world.proofs.files.JobTasks.{tasks-lists}
pub use Rattle.air_world.proofs.files.LiftLemmas.{each-side, side-at}
pub use Rattle.air_world.proofs.files.LongerLemmas.{acked-task, facts-first, file-more, no-task, place-last, place-more}
pub use Rattle.air_world.proofs.files.LongerLemmas.{task-file, task-some}
pub use Rattle.air_world.proofs.files.OtherLemmas.{facts-other, facts-removed}
pub use Rattle.air_world.proofs.files.StableLemmas.{complete-entry, keeps-complete, keeps-file, keeps-offer, keeps-task_kept}
pub use Rattle.air_world.proofs.files.StoreLemmas.{drop-keeps, drop-sound, found-such, later-number}
pub use Rattle.air_world.proofs.files.TaskLemmas.{task_for, tasked-acked}
