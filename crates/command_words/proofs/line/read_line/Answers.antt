-- What `clap` takes has a reading, and what it refuses for another cause than memory has none.
use Rattle.command_words.proofs.LineLemmas.{found_read, free, takes_taken}
use Rattle.std.proofs.Common.{◌≡◌}
use Rattle.command_words.specs.declared.request.Refusal.TheVariants.{Usage}
use Rattle.command_words.proofs.line.read_line.Goals as goal

pub returns-in-Ok-clause-found : goal.returns-in-Ok-clause-found
returns-in-Ok-clause-found c = λ id names is.
    found_read _ id names is c.args.line.now c.in-Ok.matches (c.in-Ok.ensures.kinds (free _ id names is c.args.line.now)) c.in-Ok.ensures.matches

pub returns-in-Err-clause-refused : goal.returns-in-Err-clause-refused
returns-in-Err-clause-refused c = λ usage id names is taken.
    let same : c.refusal_of.result ≡ Usage = cc in
    c.refusal_of.ensures.usage same (c.in-Err.ensures.passes (takes_taken _ id names is c.args.line.now taken))
