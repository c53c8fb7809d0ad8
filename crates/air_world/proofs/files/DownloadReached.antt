-- What a job that fetched a file reached and said.
use Rattle.std.proofs.Common.{◌≡◌, ℕ, refl, Option, None, Some}
use Rattle.ftl0_client_job.specs.declared.ending.Outcome.TheVariants as outcome
use Rattle.air_world.proofs.files.Names.{CallSign, Why, Ending, JobState, outcome_by, ClientSide, Fetching, IsFetchingFile, SaysDownload, asked, silent, told}
use Rattle.air_world.proofs.files.DownloadJobSaid.{DoesDownload, Told}

-- the outcome of an attempt that a file was fetched is its job's
pub record HasReached (o : Option Ending) (n : ℕ) : Type 0 where
  pub ending : Ending
  pub is : o ≡ Some ending
  pub reached : ending.outcome ≡ outcome.Fetched n

pub reached-of : (o : Option Ending) (down : Option Why) (n : ℕ) → outcome_by o down ≡ Some (outcome.Fetched n)
    → HasReached o n
reached-of None None n is = absurd (cc)
reached-of None (Some why) n is = absurd (cc)
reached-of (Some ending) down n is = record { ending = ending; is = refl; reached = cc }

-- what a job has said is what its client has
pub says-of : (number : ℕ) (side : ClientSide) (job_is : JobState) (server : CallSign)
    → DoesDownload server number side.entries job_is → SaysDownload number side
says-of number side job_is server does = record { stage = does.stage; said = does.said; fetches = by does.stage does.fetches }
  where
    by : (stage : Fetching) → Told side.entries stage → IsFetchingFile side stage
    by silent told_is = tt
    by (asked offset) told_is = tt
    by (told offset word) told_is = told_is
