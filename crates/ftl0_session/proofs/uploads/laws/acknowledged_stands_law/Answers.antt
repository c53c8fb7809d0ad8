use Rattle.ftl0_session.proofs.uploads.AckLemmas.{acknowledged_stands}
use Rattle.ftl0_session.proofs.uploads.laws.acknowledged_stands_law.Goals as goal

pub returns : goal.returns
returns c = acknowledged_stands
