use Rattle.std.proofs.Common.{◌∙◌, ap, Some}
use Rattle.px_base.proofs.ShelfStates.{content_of-set_same, content_of-set_other}
use Rattle.px_base.proofs.memory_shelf.put.Goals as goal

pub returns-clause-this : goal.returns-clause-this
returns-clause-this c =
    content_of-set_same c.args.held.now c.insert.new.self c.in_ok-name.name _ _ c.in_ok-name.ensures.ok c.in_ok-insert.ensures.updates
    ∙ ap Some c.in_ok-content.ensures

pub returns-clause-others : goal.returns-clause-others
returns-clause-others c =
    content_of-set_other c.args.held.now c.insert.new.self c.in_ok-name.name _ _ c.in_ok-name.ensures.ok c.in_ok-insert.ensures.updates
