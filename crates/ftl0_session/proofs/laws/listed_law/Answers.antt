use Rattle.ftl0_session.proofs.DownloadLemmas.{long_listed, short_listed}
use Rattle.ftl0_session.proofs.laws.listed_law.Goals as goal

pub returns-clause-short : goal.returns-clause-short
returns-clause-short c = short_listed

pub returns-clause-long : goal.returns-clause-long
returns-clause-long c = long_listed
