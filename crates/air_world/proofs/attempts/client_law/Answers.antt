-- From the laws of the client's events and of its link.
use Rattle.air_world.proofs.attempts.ClientLaws.{client-law}
use Rattle.air_world.proofs.attempts.client_law.Goals as goal

pub returns : goal.returns
returns c =
    client-law
    (record {
      step = c.step_law.ensures;
      hearing = c.hearing_law.ensures;
      ticking = c.ticking_law.ensures;
      outcome = c.outcome_law.ensures;
      some = c.some_step_law.ensures;
      one = c.one_step_law.ensures;
    })
