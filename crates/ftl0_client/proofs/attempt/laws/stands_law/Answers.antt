use Rattle.ftl0_client.proofs.attempt.StandLemmas.{calling-law, stands-law}
use Rattle.ftl0_client.proofs.attempt.laws.stands_law.Goals as goal

pub returns : goal.returns
returns c = record { calling = calling-law c.promises_law.ensures.begun; stays = stands-law c.promises_law.ensures.packet c.promises_law.ensures.due }
