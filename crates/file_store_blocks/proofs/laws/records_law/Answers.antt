use Rattle.file_store_blocks.proofs.Names.{placed_records, recorded_record, says_recorded, written_record}
use Rattle.file_store_blocks.proofs.laws.records_law.Goals as goal

pub returns : goal.returns
returns c = (placed_records, written_record, says_recorded, recorded_record)
