use Rattle.ftl0_packets.proofs.StreamLemmas.{read_again}
use Rattle.ftl0_packets.proofs.TextLemmas.{one_text}
use Rattle.ftl0_packets.proofs.laws.one_text_law.Goals as goal

pub returns-clause-text : goal.returns-clause-text
returns-clause-text c = one_text

pub returns-clause-again : goal.returns-clause-again
returns-clause-again c = read_again
