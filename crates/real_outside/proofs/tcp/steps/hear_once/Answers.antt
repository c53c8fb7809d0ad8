use Rattle.std.proofs.Common.{◌≤◌, [], ◌∷◌, length, IfOk, refl, sym, subst, ℕ}
use Rattle.real_outside.specs.declared.tcp.connection.ConnectionCall.TheVariants as call
use Rattle.real_outside.proofs.Names.{octets_read}
use Rattle.real_outside.proofs.tcp.Turns.{turn_is}
use Rattle.real_outside.proofs.tcp.steps.hear_once.Goals as goal

pub returns-clause-asks : goal.returns-clause-asks
returns-clause-asks g c =
    let given = octets_read c.read.result c.read.new.room in
    let within : IfOk c.read.result (λ count. count ≤ length c.read.new.room) =
    subst (λ (n : ℕ). IfOk c.read.result (λ count. count ≤ n)) (sym c.read.auto.room) c.read.ensures.moves.count in (
      call.Read 512 given ∷ [],
      rw c.told-room at c.read.ensures.moves.told,
      (given, turn_is c.read.result c.poll_answer.result c.read.new.room within c.poll_answer.ensures, refl),
    )
