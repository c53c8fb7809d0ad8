-- The notes are on the disk.
use Rattle.client_notes.specs.State.{StandsOn}
use Rattle.part_rows.proofs.notes.calls.play_on.Given as goal

abbrev pub invariant-loop-call : goal.invariant-loop-call
invariant-loop-call g l = StandsOn g.D.Disk l.notes l.disk
