-- The name has an octet.
use Rattle.std.proofs.Common.{rules, arith}
use Rattle.air_rehearsal.proofs.Names.{decimal_nonempty}
use Rattle.air_rehearsal.proofs.party.Party.go_on.Goals as goal

pub start_task-requires-clause-some : goal.start_task-requires-clause-some
start_task-requires-clause-some g c =
    let some = decimal_nonempty c.args.upload (omega (arith, c.ranges.upload.fits)) in
    search (rules, arith, decimal_nonempty)
