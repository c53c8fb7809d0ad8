use Rattle.std.proofs.Common.{subst}
use Rattle.ftl0_client.proofs.Names.{IsSomeAttempt, attempt_state}
use Rattle.ftl0_client.proofs.attempt.SomeLemmas.{some-attempt}
use Rattle.ftl0_client.proofs.attempt.attempt.Attempt.some_law.Goals as goal

pub returns : goal.returns
returns c = subst IsSomeAttempt c.self.view_is (some-attempt (attempt_state c.self.inside) c.stands_law.ensures.0)
