-- AIR has one of its forms, and the line gives NAME and OUT.
use Rattle.std.proofs.Common.{◌∙◌, ap, not}
use Rattle.command_words.proofs.Names.{err_from_is_err_and}
use Rattle.command_words.proofs.LineLemmas.{handed_on}
use Rattle.command_words.proofs.Meanings.{air_read, air_unread, neither_from, neither_text}
use Rattle.command_words.proofs.body.body_request.Goals as goal

pub returns-then-is_none-clause-refused : goal.returns-then-is_none-clause-refused
returns-then-is_none-clause-refused c = λ usage disk name kept asks.
    air_unread c.args.air.now c.read_air.result c.read_air.ensures.none (c.is_none.ensures ∙ ap not c.if-is_none.true) (neither_text asks).1

pub returns-in_err-asked-clause-refused : goal.returns-in_err-asked-clause-refused
returns-in_err-asked-clause-refused c =
    let p = err_from_is_err_and c.from_residual.result c.from_residual.ensures.1 in
    rw (p.1, p.2) (λ usage disk name kept asks. c.in_err-asked.ensures.refused (handed_on usage) (neither_text asks).0.line)

pub returns-clause-asks : goal.returns-clause-asks
returns-clause-asks c = λ disk.
    neither_from disk _ _ (air_read c.args.air.now c.read_air.result c.read_air.ensures.some (c.is_none.ensures ∙ ap not c.if-is_none.false)) c.in_ok-asked.ensures.texts
