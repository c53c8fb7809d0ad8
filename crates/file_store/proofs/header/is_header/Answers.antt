use Rattle.std.proofs.Common.{◌∙◌, sym}
use Rattle.file_store.proofs.HeaderLemmas.{whole-each, whole-header}
use Rattle.file_store.proofs.header.is_header.Goals as goal

pub returns-in-Some : goal.returns-in-Some
returns-in-Some c =
    let items = c.in-Some.header.items in
    let octets = c.args.octets.now in
    let text = c.in-Some.ensures.some in (
      λ each. whole-header items octets text (sym c.has_each_once.ensures ∙ each),
      λ whole. c.has_each_once.ensures ∙ whole-each items octets text whole,
    )
