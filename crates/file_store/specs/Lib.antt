pub mod Answers
pub mod ChangeLaws
pub mod Changes
pub mod Ending
pub mod Kept
pub mod Laws
pub mod OnDisk
pub mod Reads
pub mod Recovery
pub mod Refusals
pub mod Sealing
pub mod State
pub mod Upload
pub mod Working
pub use Rattle.file_store_model.specs.Bars
pub use Rattle.file_store_model.specs.Command
pub use Rattle.file_store_blocks.specs.PlacedFiles as Files
pub use Rattle.file_store_blocks.specs.Outlined
pub use Rattle.file_store_blocks.specs.Laws as EntriesLaws
pub use Rattle.file_store_model.specs.Headers
pub use Rattle.file_store_model.specs.Info
pub use Rattle.file_store_model.specs.IsStore
pub use Rattle.file_store_model.specs.Kept as EntriesKept
pub use Rattle.file_store_model.specs.Like
pub use Rattle.file_store_model.specs.Store
pub use Rattle.file_store_model.specs.declared.begin_bar.BeginBar
pub use Rattle.file_store_model.specs.declared.info.Info as EntriesInfo
pub use Rattle.file_store_model.specs.Limits
pub use Rattle.file_journal.specs.Bounds
pub use Rattle.file_journal.specs.Journal
pub use Rattle.file_journal.specs.Position
pub use Rattle.file_journal.specs.Records as JournalRecords
pub use Rattle.file_journal.specs.Recovery as JournalRecovery
pub use Rattle.file_journal.specs.Walk
pub use Rattle.file_journal.specs.declared.faults.StoreFault
pub use Rattle.file_journal.specs.declared.layout.Layout
