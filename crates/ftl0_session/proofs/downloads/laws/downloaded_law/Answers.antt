use Rattle.ftl0_session.proofs.downloads.SentLemmas.{downloaded}
use Rattle.ftl0_session.proofs.downloads.laws.downloaded_law.Goals as goal

pub returns : goal.returns
returns c = downloaded
