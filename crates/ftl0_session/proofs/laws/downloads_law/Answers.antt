use Rattle.ftl0_session.proofs.DownloadLemmas.{downloads}
use Rattle.ftl0_session.proofs.laws.downloads_law.Goals as goal

pub returns : goal.returns
returns c = downloads
