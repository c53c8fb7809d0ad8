use Rattle.std.proofs.Common.{[], ◌∷◌, refl}
use Rattle.real_outside.specs.declared.stream.StreamCall.TheVariants as call
use Rattle.real_outside.proofs.Names.{octets_read}
use Rattle.real_outside.proofs.Heard.{turn_is}
use Rattle.real_outside.proofs.std_air.hear.Goals as goal

pub returns-clause-asks : goal.returns-clause-asks
returns-clause-asks g c =
    let room = c.read.new.room in
    let given = octets_read c.read.result room in (
      call.Read 512 given ∷ [],
      rw c.told-room at c.read.ensures.moves.told,
      (
        given,
        turn_is c.read.result c.poll_answer.result room c.read.ensures.moves.count c.poll_answer.ensures.ok c.poll_answer.ensures.err,
        refl,
      ),
    )
