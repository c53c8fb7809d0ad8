use Rattle.ftl0_packets.proofs.FrontLemmas.{read_front}
use Rattle.ftl0_packets.proofs.SplitLemmas.{read-append}
use Rattle.ftl0_packets.proofs.laws.front_law.Goals as goal

pub returns-clause-front : goal.returns-clause-front
returns-clause-front c = read_front

pub returns-clause-parts : goal.returns-clause-parts
returns-clause-parts c = read-append
