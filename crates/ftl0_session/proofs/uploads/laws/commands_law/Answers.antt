use Rattle.ftl0_session.proofs.uploads.Uploads.{commands}
use Rattle.ftl0_session.proofs.uploads.laws.commands_law.Goals as goal

pub returns : goal.returns
returns c = commands
