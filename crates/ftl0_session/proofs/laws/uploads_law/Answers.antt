use Rattle.ftl0_session.proofs.LawLemmas.{uploads}
use Rattle.ftl0_session.proofs.laws.uploads_law.Goals as goal

pub returns : goal.returns
returns c = uploads
