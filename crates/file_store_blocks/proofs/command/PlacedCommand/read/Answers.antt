use Rattle.std.proofs.Common.{◌∙◌, arith}
use Rattle.file_store_blocks.proofs.Names.{of_kind_1, of_kind_2, of_kind_3, of_kind_4, of_other_kind}
use Rattle.file_store_blocks.proofs.command.PlacedCommand.read.Goals as goal

pub returns-in-1-clause-command : goal.returns-in-1-clause-command
returns-in-1-clause-command c = c.read_begin.ensures.command ∙ of_kind_1 c.args.kind c.args.content.now c.in-1.is

pub returns-in-2-clause-command : goal.returns-in-2-clause-command
returns-in-2-clause-command c = c.read_grow.ensures.command ∙ of_kind_2 c.args.kind c.args.content.now c.in-2.is

pub returns-in-3-clause-command : goal.returns-in-3-clause-command
returns-in-3-clause-command c = c.read_seal.ensures.command ∙ of_kind_3 c.args.kind c.args.content.now c.in-3.is

pub returns-in-4-clause-command : goal.returns-in-4-clause-command
returns-in-4-clause-command c = c.read_drop.ensures.command ∙ of_kind_4 c.args.kind c.args.content.now c.in-4.is

pub returns-in_default-clause-command : goal.returns-in_default-clause-command
returns-in_default-clause-command c = of_other_kind c.args.kind c.args.content.now (λ e. omega arith) (λ e. omega arith) (λ e. omega arith) (λ e. omega arith)
