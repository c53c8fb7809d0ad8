use Rattle.ftl0_session.proofs.DownloadLemmas.{sent}
use Rattle.ftl0_session.proofs.laws.sent_law.Goals as goal

pub returns : goal.returns
returns c = sent
