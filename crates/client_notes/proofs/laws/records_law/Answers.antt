use Rattle.client_notes.proofs.RecordLemmas.{IsRecord-written, records}
use Rattle.client_notes.proofs.laws.records_law.Goals as goal

pub returns : goal.returns
returns c = (records, IsRecord-written)
