-- What became of what was asked of a client.
use Rattle.std.specs.Prelude.{Bool, false, Option, None, Some, is_none}
use Rattle.ftl0_client_job.specs.declared.ending.Outcome.{Outcome}
use Rattle.ftl0_client.specs.Attempt.Attempted.{Attempted, outcome_of}

-- what became of the attempt of what was asked last, if there is one and anything did
abbrev pub outcome_by : Option Attempted → Option Outcome
outcome_by None = None
outcome_by (Some a) = outcome_of a

-- what was asked last is under way: nothing became of its attempt yet; nothing is before anything was asked
abbrev pub is_under_way : Option Attempted → Bool
is_under_way None = false
is_under_way (Some a) = is_none (outcome_of a)
