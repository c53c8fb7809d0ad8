use Rattle.std.proofs.Common.{◌+◌, ◌-◌, arith}
use Rattle.disk_model.proofs.Names.{common_steps}
use Rattle.disk_model.proofs.BeforeWrites.{exchanged}
use Rattle.disk_model.proofs.undoing.exchange.Goals as goal

pub returns-clause-octets : goal.returns-clause-octets
returns-clause-octets c =
    exchanged c.args.octets.now c.args.at c.args.others.now c.swap_with_slice.new.self c.min-start.result c.min-count.result (c.min-start.result + c.min-count.result - c.min-start.result)
    (grind (arith, common_steps)) (grind (arith, common_steps)) (omega arith) c.swap_with_slice.ensures.after
