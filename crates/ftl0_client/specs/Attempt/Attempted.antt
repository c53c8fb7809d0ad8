-- An attempt of a client at a job as the definitions have it: its call to the server, with each SABM that its timer
-- repeats, and all that follows on that link. (In ax25_link an attempt is shorter: one SABM, and what follows it until
-- the next.)
use Rattle.std.specs.Prelude.{ℕ, List, [], Option, None, Some}
use Rattle.px_base.specs.CallSign.{CallSign}
use Rattle.ax25_link.specs.declared.state.Why.{Why}
use Rattle.ax25_link.specs.Ends.{LinkEnd, calling_end}
use Rattle.ftl0_client_job.specs.declared.ending.Ending.{Ending}
use Rattle.ftl0_client_job.specs.declared.ending.Outcome.{Outcome}
use Rattle.ftl0_client_job.specs.declared.ending.Outcome.TheVariants.{LinkDown}
use Rattle.ftl0_client_job.specs.Table.{JobState}

-- the client's end of the link; the octets that were accepted and of which no packet was taken yet; the job; and why
-- the link went down, if it did before the job had an outcome
pub record Attempted : Type 0 where
  pub end : LinkEnd
  pub rest : List ℕ
  pub job : JobState
  pub down : Option Why

-- the attempt that begins with a call for this job: SABM is to be sent (AX.25 2.0, 2.4.3.1)
abbrev pub calling : CallSign → CallSign → JobState → Attempted
calling me server job = record { end = calling_end me server; rest = []; job = job; down = None }

-- what became of an attempt: the job's outcome, or that the link went down before there was one
abbrev pub outcome_by : Option Ending → Option Why → Option Outcome
outcome_by None None = None
outcome_by None (Some why) = Some (LinkDown why)
outcome_by (Some ending) down = Some ending.outcome

abbrev pub outcome_of : Attempted → Option Outcome
outcome_of a = outcome_by a.job.ending a.down
