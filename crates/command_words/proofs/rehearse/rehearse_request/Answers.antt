-- AIR has one of its forms, and the line gives a NAME or the two options.
use Rattle.std.proofs.Common.{◌∙◌, ap, not}
use Rattle.command_words.proofs.Names.{err_from_is_err_and}
use Rattle.command_words.proofs.LineLemmas.{handed_on}
use Rattle.command_words.proofs.Meanings.{air_unread}
use Rattle.command_words.proofs.RehearseTexts.{rehearse_form, rehearse_text}
use Rattle.command_words.proofs.rehearse.rehearse_request.Goals as goal

pub returns-then-is_none-clause-refused : goal.returns-then-is_none-clause-refused
returns-then-is_none-clause-refused c = λ usage disk asks.
    air_unread c.args.air.now c.read_air.result c.read_air.ensures.none (c.is_none.ensures ∙ ap not c.if-is_none.true) (rehearse_form asks)

pub returns-in_err-asked-clause-refused : goal.returns-in_err-asked-clause-refused
returns-in_err-asked-clause-refused c =
    let p = err_from_is_err_and c.from_residual.result c.from_residual.ensures.1 in
    rw (p.1, p.2) (λ usage disk asks.
    rehearse_text asks (c.in_err-asked.ensures.no_name (handed_on usage)) (c.in_err-asked.ensures.no_draws (handed_on usage)))
