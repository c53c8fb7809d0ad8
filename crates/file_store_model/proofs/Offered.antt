-- The lemmas that crates above may use.
pub use Rattle.file_store_model.proofs.AfterLemmas.{after-other, begin-allowed, begin-KeepsComplete, find-append_found, find-push, found-passes, good-partial, grow-allowed, grow-takes, never-both, partial-held, passes-entry, room-partial}
pub use Rattle.file_store_model.proofs.DropLemmas.{none_dropped}
pub use Rattle.file_store_model.proofs.EntriesLemmas.{blocks-map-changed, find-filter_other, find-map-changed, find-map-changed_other, find_past, found-fits, found-number, has_number}
pub use Rattle.file_store_model.proofs.FollowLemmas.{follows_law}
pub use Rattle.file_store_model.proofs.GrowLemmas.{after_all-append, AreAllowed-append, AreAllowed-first, AreAllowed-split, both-true, grow-is_allowed, grows-after, grows-allowed, last_grow-after, last_grow-allowed}
pub use Rattle.file_store_model.proofs.HeadersLemmas.{faultless-code, header-of, header_short, items-text, whole-of}
pub use Rattle.file_store_model.proofs.InfoLemmas.{told, Told, told-held}
pub use Rattle.file_store_model.proofs.LikeLemmas.{like_back, like_bars, like_blocks_of, like_can_begin, like_complete, like_count, like_entry, like_entry_back, like_free, like_info, like_is_complete, like_may_begin, like_next, like_none, like_octets_length, like_partial, like_same, like_whole}
