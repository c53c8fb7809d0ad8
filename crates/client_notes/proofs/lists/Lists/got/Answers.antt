use Rattle.std.proofs.Common.{◌∙◌, ap}
use Rattle.client_notes.proofs.Names.{octets_or_none}
use Rattle.client_notes.proofs.lists.Lists.got.Goals as goal

pub returns-in-Some-clause-octets : goal.returns-in-Some-clause-octets
returns-in-Some-clause-octets c = c.octets.ensures.octets ∙ ap octets_or_none c.in-Some.ensures

pub returns-in-None-clause-octets : goal.returns-in-None-clause-octets
returns-in-None-clause-octets c = ap octets_or_none c.in-None.ensures
