-- The names of specs, and of the crates below, that proofs use, in one place.
pub use Rattle.file_store_model.specs.Command.{AreAllowed, Command, DoesAll, DropsNothing, HasCall, HaveCalls, IsAllowed, KeepsFile, MayBegin, after, after_all, begin, can_begin, can_take, changed, drop_entry, grow, grown, grows, has_room, is_allowed, is_good, is_partial, kept_with, last_grow, passes, seal, sealed, stamp_of, with_holding, with_more}
pub use Rattle.file_store_model.specs.Info.{IsCompleteIn, IsNextComplete, info_of, is_complete}
pub use Rattle.file_store_model.specs.IsStore.{AreEntries, FitsLength, HaveCallers, IsStore}
pub use Rattle.file_store_model.specs.Limits.{last_next, longest_file, most_entries}
pub use Rattle.file_store_model.specs.Store.{Entry, Holding, Store, blocks_for, blocks_of, complete, empty_store, entry_count, entry_of, free_blocks, new_entry, octets_of, partial}
pub use Rattle.file_store_model.specs.declared.info.Info.{Info}
pub use Rattle.file_journal.proofs.Offered.{after_all_append, allowed_append, allowed_first, allowed_split}
pub use Rattle.pfh_items.proofs.Offered.{HeaderText-FileText, file_parts-text, first_fault-text, item_at, no_fault, octets_as_body}
pub use Rattle.pfh_items.specs.Faults.{FitsFile, IsFaultless, content_of, fault_code, items_with}
pub use Rattle.pfh_items.specs.Layout.{AreItems, FileText, HeaderText, HeaderValue, IsItem, ItemValue, header_text}
pub use Rattle.pfh_items.specs.Stamp.{StampValue, stamped}
pub use Rattle.pfh_writer.proofs.StampedLemmas.{length-stamped, no_fault-code}
pub use Rattle.pfh_writer.specs.Short.{HasEachOnce}
pub use Rattle.px_base.specs.CallSign.{CallSign, IsCall}
pub use Rattle.px_base.specs.Octets.{IsOctets}
pub use Rattle.std.proofs.lemmas.Bool.Decides.{eqb_tells, nat_tests}
pub use Rattle.std.proofs.lemmas.List.{append-nil, drop_at, length-map, length-take-le}
pub use Rattle.std.proofs.lemmas.List.Elements.{All-append, All-drop, All-from_recursion, All-get_or, All-nil, All-take, recursion_from_All}
pub use Rattle.std.proofs.lemmas.List.Sums.{sum_by-cons, sum_by_push}
pub use Rattle.std.specs.Option.{option_map, option_or}
pub use Rattle.std.specs.Prelude.{IfNone, IfSome, IsSome, IsTrue, find, is_none, sum_by, ⊤}
