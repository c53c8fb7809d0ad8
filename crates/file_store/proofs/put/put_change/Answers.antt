use Rattle.file_store.proofs.put.put_change.Goals as goal

pub returns-clause-does : goal.returns-clause-does
returns-clause-does g c = c.put.ensures.does
