-- From the law of the session's table.
use Rattle.air_world.proofs.files.ListSession.{session-of-list}
use Rattle.air_world.proofs.files.session_of_list_law.Goals as goal

pub returns : goal.returns
returns c = session-of-list c.downloads_law.ensures
