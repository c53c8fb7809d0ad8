-- An air is standard input and output, or a host and port.
use Rattle.command_words.proofs.Meanings.{unnamed}
use Rattle.command_words.proofs.air.names_air.Goals as goal

pub returns-in-None-clause-none : goal.returns-in-None-clause-none
returns-in-None-clause-none c = λ _. unnamed c.args.air.now c.in-None.ensures.none
