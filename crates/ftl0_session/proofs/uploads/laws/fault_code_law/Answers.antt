use Rattle.ftl0_session.proofs.FaultLemmas.{upload_codes}
use Rattle.ftl0_session.proofs.uploads.laws.fault_code_law.Goals as goal

pub returns : goal.returns
returns c = upload_codes
