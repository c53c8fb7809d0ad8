use Rattle.ax25_link.proofs.RunLemmas.{run_law, whole_run_law}
use Rattle.ax25_link.proofs.laws.whole_runs.Goals as goal

pub returns : goal.returns
returns c = record { linked = run_law; fronts = whole_run_law }
