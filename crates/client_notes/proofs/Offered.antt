-- The lemmas that crates above may use.
pub use Rattle.client_notes.proofs.CutLemmas.{cuts-none, cuts-then, does-nothing}
pub use Rattle.client_notes.proofs.GotLemmas.{forgot-none, got-allowed, got-append}
pub use Rattle.client_notes.proofs.KeepLemmas.{tasks_law}
pub use Rattle.client_notes.proofs.KeptLemmas.{answers-err, one-half, recovered-ready, recovers-as, recovers-good}
pub use Rattle.client_notes.proofs.PutLemmas.{images-here}
pub use Rattle.client_notes.proofs.SeveralLemmas.{after_all-append, after_first-then, AreAllowed-append, AreAllowed-first, AreAllowed-split, makes-longer, Several-longer, Several-none, Several-one, Several-ready, Several-same, Several-then}
pub use Rattle.client_notes.proofs.StartLemmas.{acked-last, begun-fresh, begun-kept, IsOfTask, not-failed, of_task}
pub use Rattle.client_notes.proofs.TaskLemmas.{acked-stays, both-left, task-after, task-at, task-more}
pub use Rattle.client_notes.proofs.ThroughLemmas.{GoesThrough, goes_through}
pub use Rattle.file_journal.proofs.Offered.{runs_same}
pub use Rattle.disk_model.proofs.Offered.{alike_on, alike_same, at_told, if_told, joined, told_before, told_weaker, weaker, counts_none, puts_on, puts_same, stops_none, stops_on}
