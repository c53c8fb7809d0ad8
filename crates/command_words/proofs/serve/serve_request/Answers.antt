-- DISK names a file, AIR an air, and a service of these words has what was read of them.
use Rattle.command_words.proofs.Names.{err_from_is_err_and}
use Rattle.command_words.proofs.LineLemmas.{handed_on}
use Rattle.command_words.proofs.Meanings.{air_text}
use Rattle.command_words.proofs.serve.serve_request.Goals as goal

pub returns-in_err-asked-clause-refused : goal.returns-in_err-asked-clause-refused
returns-in_err-asked-clause-refused c =
    let p = err_from_is_err_and c.from_residual.result c.from_residual.ensures.1 in
    rw (p.1, p.2) (λ usage (asked, asks). c.in_err-asked.ensures.refused (handed_on usage) asked.me asked.k asked.blocks asked.polls (air_text asks))
