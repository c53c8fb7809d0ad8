-- None of the tasks behind is one.
use Rattle.air_rehearsal.proofs.Names.{is_going}
use Rattle.air_rehearsal.proofs.LastTasks.{NonePasses}
use Rattle.air_rehearsal.proofs.party.Party.last_going.Given as goal

abbrev pub invariant-loop-back : goal.invariant-loop-back
invariant-loop-back l = NonePasses is_going l.self.client.notes.lists l.back
