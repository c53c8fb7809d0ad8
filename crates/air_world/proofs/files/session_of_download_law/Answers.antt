-- From the law of the session's table.
use Rattle.air_world.proofs.files.DownloadSession.{session-of-download}
use Rattle.air_world.proofs.files.session_of_download_law.Goals as goal

pub returns : goal.returns
returns c = session-of-download c.downloads_law.ensures
