use Rattle.ftl0_session.proofs.uploads.Rows.{rows}
use Rattle.ftl0_session.proofs.uploads.laws.rows_law.Goals as goal

pub returns : goal.returns
returns c = rows
