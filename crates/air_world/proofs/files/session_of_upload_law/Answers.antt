-- From the laws of the session's table, and of lists that stay.
use Rattle.air_world.proofs.files.SessionOne.{session-of-upload}
use Rattle.air_world.proofs.files.session_of_upload_law.Goals as goal

pub returns : goal.returns
returns c =
    session-of-upload c.uploads_law.ensures c.acknowledged_law.ensures c.caller_law.ensures c.stays_law.ensures.lists
