-- The lemmas that crates above may use.
pub use Rattle.file_store.proofs.DoesLemmas.{after_first-all, after_first-then, among-at, among-healthy, among-parked, among-same, among-store, among-then, cuts-among-all, cuts-among-none, cuts-among-puts, cuts-among-same, cuts-among-then, does-among, Does-moved, Does-none, Does-same, makes-first, makes-within, reads-only}
pub use Rattle.file_store.proofs.OnLemmas.{in_parked, known_back, known_on, known_told, on_like, on_like_always, on_parked, on_rules, on_rules_always, on_same, on_untold, stands_parked, told_known}
pub use Rattle.file_store.proofs.ReceiptLemmas.{stays}
pub use Rattle.file_store.proofs.RecoveryLemmas.{recovered_good}
pub use Rattle.file_store.proofs.RoomLemmas.{room_for}
pub use Rattle.file_store.proofs.StandingLemmas.{stands-through}
pub use Rattle.file_store.proofs.TokenLemmas.{stands-each}
pub use Rattle.file_store.proofs.UploadLemmas.{changes-same}
pub use Rattle.file_store_model.proofs.Offered.{after_all-append, AreAllowed-first, AreAllowed-split, find-filter_other, find-map-changed, find-map-changed_other, find-push, find_past, found-fits, found-number, grows-after, has_number, last_grow-after}
pub use Rattle.file_store_model.proofs.Offered.{like_back, like_bars, like_blocks_of, like_can_begin, like_complete, like_count, like_entry, like_entry_back, like_free, like_info, like_is_complete, like_may_begin, like_next, like_none, like_octets_length, like_partial, like_same, like_whole}
pub use Rattle.disk_model.proofs.Offered.{alike_on, at_told, if_told, joined, told_before, told_weaker, weaker, puts_none, puts_same, reads_none, reads_now, reads_on, reads_same, changes_none as reads-none, puts_among as puts-among, puts_among_reads as puts-among-reads, puts_among_same as puts-among-same, puts_among_then as puts-among-then}
