use Rattle.std.proofs.Common.{◌≡◌, ◌++◌, length, take, drop, ◌∙◌, ap, arith}
use Rattle.disk_model.proofs.Names.{common_steps, before_writes}
use Rattle.disk_model.proofs.crash.restore.Goals as goal

pub returns-clause-synced : goal.returns-clause-synced
returns-clause-synced c =
    let present = c.args.present.now in
    let whole : take present.len (c.undo.new.octets ++ drop (length c.undo.new.octets) present.items) ≡ c.undo.new.octets = grind (arith, common_steps) in
    c.truncate.ensures.items ∙ ap (take c.args.synced) (whole ∙ c.undo.ensures ∙ ap (before_writes c.args.writes.now c.args.kept.now) c.as_mut_slice.ensures.value)

pub returns-clause-octets : goal.returns-clause-octets
returns-clause-octets c = λ k d below. omega (arith, c.type_inv.present k d below)
