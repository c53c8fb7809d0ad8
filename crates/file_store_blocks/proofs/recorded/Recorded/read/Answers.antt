use Rattle.std.proofs.Common.{ap, sym, ◌∙◌}
use Rattle.file_store_blocks.proofs.Names.{option_map, placed_value, change, of_command_kind, of_next_kind}
use Rattle.file_store_blocks.proofs.recorded.Recorded.read.Goals as goal

pub returns-then-kind-eq-NEXT-clause-recorded : goal.returns-then-kind-eq-NEXT-clause-recorded
returns-then-kind-eq-NEXT-clause-recorded c =
    c.read_next.ensures.recorded ∙ of_next_kind c.args.kind c.args.content.now c.if-kind-eq-NEXT.true

pub returns-in-Some-clause-recorded : goal.returns-in-Some-clause-recorded
returns-in-Some-clause-recorded c =
    ap (λ o. option_map change (option_map placed_value o)) (sym c.in-Some.is)
    ∙ ap (option_map change) c.read.ensures.command ∙ of_command_kind c.args.kind c.args.content.now c.if-kind-eq-NEXT.false

pub returns-in-None-clause-recorded : goal.returns-in-None-clause-recorded
returns-in-None-clause-recorded c =
    ap (λ o. option_map change (option_map placed_value o)) (sym c.in-None.is)
    ∙ ap (option_map change) c.read.ensures.command ∙ of_command_kind c.args.kind c.args.content.now c.if-kind-eq-NEXT.false
