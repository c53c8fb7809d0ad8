use Rattle.header_tool.proofs.LineLemmas.{checks_fault, shows_fault, shows_items}
use Rattle.header_tool.proofs.laws.text_law.Goals as goal

pub returns-clause-items : goal.returns-clause-items
returns-clause-items c = shows_items

pub returns-clause-fault : goal.returns-clause-fault
returns-clause-fault c = shows_fault

pub returns-clause-check : goal.returns-clause-check
returns-clause-check c = checks_fault
