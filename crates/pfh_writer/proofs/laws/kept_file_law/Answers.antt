use Rattle.pfh_writer.proofs.ClientLemmas.{kept_file}
use Rattle.pfh_writer.proofs.laws.kept_file_law.Goals as goal

pub returns : goal.returns
returns c = kept_file
