use Rattle.pfh_items.proofs.FrontLemmas.{no_front, octets_as_body}
use Rattle.pfh_items.proofs.laws.no_front_law.Goals as goal

pub returns-clause-front : goal.returns-clause-front
returns-clause-front c = no_front

pub returns-clause-octets : goal.returns-clause-octets
returns-clause-octets c = octets_as_body
