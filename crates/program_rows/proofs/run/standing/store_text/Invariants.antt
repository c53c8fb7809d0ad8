-- The store is as it was, and ready on its disk.
use Rattle.std.proofs.Common.{◌≡◌}
use Rattle.file_store.specs.State.{IsReady}
use Rattle.program_rows.proofs.run.standing.store_text.Given as goal

abbrev pub invariant-loop-number : goal.invariant-loop-number
invariant-loop-number g l = (l.store ≡ l.fn.store) × IsReady g.D.Disk l.store l.disk
