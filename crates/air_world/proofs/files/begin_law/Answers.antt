-- From the lemmas on facts when something begins.
use Rattle.air_world.proofs.files.BeginLemmas.{facts-called, facts-opened_over}
use Rattle.air_world.proofs.files.LongerLemmas.{facts-first, facts-longer}
use Rattle.air_world.proofs.files.TaskLemmas.{facts-tasked}
use Rattle.air_world.proofs.files.begin_law.Goals as goal

pub returns : goal.returns
returns c = record {
  first = facts-first;
  called = facts-called;
  opened = facts-opened_over;
  longer = facts-longer;
  begun = λ store files place party it stands few. facts-tasked store files place party it stands;
}
