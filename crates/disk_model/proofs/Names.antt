-- The names of specs, and of the crates below, that proofs use, in one place.
pub use Rattle.disk_model.specs.Calls.{DiskState, IsFailingSync, IsPowerCut, IsRefused, IsSyncing, IsTearing, IsWriting, content_of, images_of, images_since_of, moment_of, surface, with_starved}
pub use Rattle.disk_model.specs.Crash.{IsCrash, IsFilled, Tears}
pub use Rattle.disk_model.specs.Cuts.{Arming, Failed, LastsSo, Passes, Unarmed, UsesUp}
pub use Rattle.disk_model.specs.Disk.{Follows, HasContent, Only, Torn, Writes}
pub use Rattle.disk_model.specs.Fuse.{FuseState, IsTornNext, arming_in, cut_of, fuse, images_since, starved_fuse}
pub use Rattle.disk_model.specs.Memory.{state}
pub use Rattle.disk_model.specs.MemoryLaws.{content_is_image}
pub use Rattle.disk_model.specs.Moments.{Elapses, LeavesOnly, SameImages, SamePast, SinceNow, TimePasses}
pub use Rattle.disk_model.specs.Open.{IsClosed, LeaveOpen, StandsSince, inside_of, standing}
pub use Rattle.disk_model.specs.Runs.{ChangesReads, CountsFault, CountsSome, IsQuietNow, Makes, Puts, PutsAmongReads, Reads, Runs, StopsAtFault, TellsAlike, images_now, one_if}
pub use Rattle.disk_model.specs.Surface.{AllLeaveOpen, Closes, ImagesSince, IsImage, IsInRange, IsOpen, Surface, left_by, moments_in, moments_of, overlay, quiet_surface, surface_after, surface_after_call, with_range, with_ranges, write_over}
pub use Rattle.disk_model.specs.Told.{cut_by, told_of}
pub use Rattle.disk_model.specs.Undone.{StandsOpen, Undoes, before_writes, call_of, calls_of, found_by, standing_open, synced_before, undone}
pub use Rattle.disk_model.specs.declared.disk_call.DiskCall.{DiskCall}
pub use Rattle.disk_model.specs.declared.open_write.OpenWrite.{OpenWrite}
pub use Rattle.px_base.specs.Octets.{IsOctets}
pub use Rattle.px_base.specs.Outside.{HasCause, Rose}
pub use Rattle.std.proofs.Math.Nat.{le_refl}
pub use Rattle.std.proofs.lemmas.Bool.{cases_Bool, cases_lt}
pub use Rattle.std.proofs.lemmas.Grind.{common_steps}
pub use Rattle.std.proofs.lemmas.List.{drop-drop, drop-take, drop_all, ext_get_or, get_or-drop, get_or-take, length-append, length-drop, length-take, length_push, map-append, places, reverse-append, same_lists, take-append-drop, take-append-le, take_all, take_more, take_rest}
pub use Rattle.std.proofs.lemmas.List.Elements.{All-append, All-drop, All-from_get_or, All-replicate, All-tail, All-take}
pub use Rattle.std.proofs.lemmas.List.Sums.{fold-append, sum_by-append}
pub use base.Logic.{SProp, ent}
pub use contract.Monad.{Fun}
pub use contract.Running.{tables}
unfoldable pub use contract.Running.{tables_of}
pub use denote.Builtin.{RefOf}
pub use denote.Exit.{yes}
pub use denote.RattleType.{RattleType, Valss, owns}
pub use denote.Signature.{named_lft, plain, types_at}
pub use denote.Steps.{nothing}
pub use denote.Triple.Clauses.{Clauses, Ended, closing}
pub use denote.Triple.Entry.{alive}
pub use denote.Triple.Spec.{Meets, triple_of}
pub use denote.Triple.Table.{entered}
pub use denote.Triple.Walked.{Goes-dropped, Stays, ends_at, says, stay_dropped, walk_Meets, walk_of}
pub use mir.Syntax.{Fn}
pub use mir.Val.{Val, vnil, vptr, vstruct}
pub use prog.Memory.{Memory}
pub use prog.Routine.{Routine}
pub use prog.Wp.{Calls, Loops, Tables, WpFn}
pub use seplogic.Ra.Ura.{Ura}
pub use sound.WpLaws.{WpFn-mono}
pub use types.ByLocal.{alloc_all, free_all, look_at, pass_all, sets}
pub use types.Kit.{ !, Goal, Item, Step, done, drop, feq_i, feq_l, fjoin, fpack, fsplit, keep, move, prop, qed, raw, regoal, split, step, suffices, ‵}
pub use types.Logic.{Logic}
pub use types.Part.{agg}
pub use types.Run.{enter, no_more, returns}
