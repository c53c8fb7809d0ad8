-- The names of specs, and of the crates below, that proofs use, in one place.
pub use Rattle.file_store_blocks.specs.BlockTable.Kept.{AllMarked, AreFreed, AreInLine, AreShown, IsFirstFree, IsKept, Parts, earlier, run_in, runs_in, runs_of}
pub use Rattle.file_store_blocks.specs.BlockTable.Table.{AreRuns, HasRoom, IsFree, IsLowestFree, IsRun, IsTable, IsTaken, Run, Table, after_beginning, after_taking, left_in, new_run, new_table, rooms_of, run_at, times_in, times_of, with_block, without}
pub use Rattle.file_store_blocks.specs.declared.block_table.marks.RunMark.{RunMark}
pub use Rattle.std.proofs.Math.ListN.{set}
pub use Rattle.std.proofs.lemmas.Bool.Decides.{eqb_tells, leb_tells}
pub use Rattle.std.proofs.lemmas.Grind.{common_steps, elements}
pub use Rattle.std.proofs.lemmas.List.{drop-drop, drop-map, drop-set-add, drop-set-lt, drop-take, drop_at, get_or-map, get_or-take, length-drop, length-map, length-set, length-take-le, length_push, map-append, set_split, take-map, take-set-le, take-take, take_at, take_more_set, with_items_is}
pub use Rattle.std.proofs.lemmas.List.Edits.{map_over_more, take-paste}
pub use Rattle.std.proofs.lemmas.List.Elements.{All-append, All-cons, All-drop, All-push, All-set, All-tail, All-take}
pub use Rattle.std.proofs.lemmas.List.Sums.{get_or-le-sum_by, sum_by-cons, sum_by-remove, sum_by-set, sum_by_more, sum_by_more_le, sum_by_push}
pub use Rattle.std.specs.Int.{from_bool}
pub use Rattle.std.specs.List.{All, copy_within, list_any, remove}
pub use Rattle.std.specs.Prelude.{IfNone, IsSome, None, Option, Some, flat_map, sum_by}
