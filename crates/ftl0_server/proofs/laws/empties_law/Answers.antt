use Rattle.ftl0_server.proofs.EmptiesLemmas.{empties}
use Rattle.ftl0_server.proofs.laws.empties_law.Goals as goal

pub returns : goal.returns
returns c = λ server is. empties c.args.server.now server c.fits_law.ensures.fits is
