use Rattle.ftl0_client.proofs.EmptiesLemmas.{empties}
use Rattle.ftl0_client.proofs.laws.empties_law.Goals as goal

pub returns : goal.returns
returns c = λ value is. empties c.args.client.now value c.fits_law.ensures.fits is
