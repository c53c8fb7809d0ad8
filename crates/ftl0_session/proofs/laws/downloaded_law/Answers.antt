use Rattle.ftl0_session.proofs.DownloadLemmas.{downloaded}
use Rattle.ftl0_session.proofs.laws.downloaded_law.Goals as goal

pub returns : goal.returns
returns c = downloaded
