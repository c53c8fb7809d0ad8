use Rattle.ftl0_session.proofs.downloads.SentLemmas.{long-listed, short-listed}
use Rattle.ftl0_session.proofs.downloads.laws.listed_law.Goals as goal

pub returns-clause-short : goal.returns-clause-short
returns-clause-short c = short-listed

pub returns-clause-long : goal.returns-clause-long
returns-clause-long c = long-listed
