-- The relation says what each command leaves alone, since words ask for one.
use Rattle.pacsat_cli.proofs.Touched.{leaves-alone}
use Rattle.pacsat_cli.proofs.laws.touches_law.Goals as goal

pub returns : goal.returns
returns g c = λ words old new touches. leaves-alone g.S.Shelf.held old new words (c.one_meaning.ensures.only_one words) (c.one_meaning.ensures.determined words) touches
