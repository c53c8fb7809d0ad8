use Rattle.px_base.proofs.Spelled.{law}
use Rattle.px_base.proofs.laws.call_octets_law.Goals as goal

pub returns : goal.returns
returns c = law
