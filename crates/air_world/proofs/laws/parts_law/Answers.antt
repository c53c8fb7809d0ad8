-- From the laws of file headers.
use Rattle.air_world.proofs.PartsLemmas.{has-headline, has-parts}
use Rattle.air_world.proofs.laws.parts_law.Goals as goal

pub returns : goal.returns
returns c = record {
  parts = has-parts;
  headline = λ world. has-headline world c.fault_law.ensures.none c.no_front_law.ensures.front;
}
