-- The lemmas that crates above may use.
pub use Rattle.file_store_blocks.specs.FilesLaws.{found_holds, found_number}
pub use Rattle.file_store_blocks.specs.SameLaws.{can_begin_same, seen_same}
pub use Rattle.file_store_blocks.proofs.LengthLemmas.{found_length, given_length, kept_short}
pub use Rattle.file_store_blocks.proofs.NumberLemmas.{KeepsNumber, changed_is, changed_leaves, found_below, new_is_found, none_past, without_is, without_leaves}
pub use Rattle.file_store_blocks.proofs.OutlinedLemmas.{outlined_found, outlined_grown, outlined_info, outlined_new, outlined_next, outlined_rules, outlined_sealed, sealed_outlined, seen_like}
pub use Rattle.file_store_blocks.specs.RecordLaws.{placed_records, written_record}
pub use Rattle.file_store_blocks.proofs.RoomLemmas.{room_for_commands}
pub use Rattle.file_store_blocks.proofs.RulesLemmas.{seals_same, seen_store}
pub use Rattle.file_store_blocks.specs.SealLaws.{after_seals}
pub use Rattle.file_store_blocks.proofs.SeenLemmas.{entry_placed, entry_seen, length_octets, seen_after, seen_allowed, seen_grown, seen_sealed}
pub use Rattle.file_store_blocks.proofs.StandingLemmas.{kept_seals, placed_stands, standing_keeps, stands_placed}
pub use Rattle.file_store_blocks.proofs.StoreLemmas.{grows_allowed, kept_step, octets_written, put_there, seal_step, seen_may_grow, seen_put}
