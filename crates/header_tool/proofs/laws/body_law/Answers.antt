use Rattle.header_tool.proofs.BodyLemmas.{body_behind, body_of_made, one_body}
use Rattle.header_tool.proofs.laws.body_law.Goals as goal

pub returns-clause-behind : goal.returns-clause-behind
returns-clause-behind c = body_behind

pub returns-clause-one : goal.returns-clause-one
returns-clause-one c = one_body

pub returns-clause-made : goal.returns-clause-made
returns-clause-made c = body_of_made
