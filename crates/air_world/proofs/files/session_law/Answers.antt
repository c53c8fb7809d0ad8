-- From what one thing does, by the work of the session's client.
use Rattle.air_world.proofs.files.SessionAll.{session-all}
use Rattle.air_world.proofs.files.session_law.Goals as goal

pub returns : goal.returns
returns c = session-all c.session_of_upload_law.ensures c.session_of_list_law.ensures c.session_of_download_law.ensures
