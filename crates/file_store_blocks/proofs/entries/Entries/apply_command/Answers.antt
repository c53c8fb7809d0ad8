use Rattle.std.proofs.Common.{sym, subst}
use Rattle.file_store_blocks.specs.declared.command.PlacedCommand.{PlacedCommand}
use Rattle.file_store_blocks.proofs.Names.{Applied, placed_value}
use Rattle.file_store_blocks.proofs.entries.Entries.apply_command.Goals as goal

pub returns-in-Begin-clause-applied : goal.returns-in-Begin-clause-applied
returns-in-Begin-clause-applied g c =
    subst (λ (k : PlacedCommand). Applied (g.D.Disk.content c.args.disk.now) c.apply_begin.result c.args.self.now c.apply_begin.new.self (placed_value k))
    (sym c.in-Begin.is) (c.apply_begin.ensures.applied (g.D.Disk.content c.args.disk.now))

pub returns-in-Grow-clause-applied : goal.returns-in-Grow-clause-applied
returns-in-Grow-clause-applied g c =
    subst (λ (k : PlacedCommand). Applied (g.D.Disk.content c.args.disk.now) c.apply_grow.result c.args.self.now c.apply_grow.new.self (placed_value k))
    (sym c.in-Grow.is) (c.apply_grow.ensures.applied (g.D.Disk.content c.args.disk.now))

pub returns-in-Drop-clause-applied : goal.returns-in-Drop-clause-applied
returns-in-Drop-clause-applied g c =
    subst (λ (k : PlacedCommand). Applied (g.D.Disk.content c.args.disk.now) c.apply_drop.result c.args.self.now c.apply_drop.new.self (placed_value k))
    (sym c.in-Drop.is) (c.apply_drop.ensures.applied (g.D.Disk.content c.args.disk.now))
