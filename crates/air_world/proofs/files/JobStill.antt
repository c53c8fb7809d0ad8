-- A job that took and queued nothing leaves its client's facts.
use Rattle.std.proofs.Common.{◌≡◌, ℕ, List, [], ◌++◌, Option, None, Some, refl, sym, ◌∙◌, ap, subst, append-nil}
use Rattle.ftl0_client_job.specs.declared.phases.DownloadPhase.TheVariants as fetch
use Rattle.ftl0_client_job.specs.declared.work.Work.TheVariants as work
use Rattle.air_world.proofs.files.Names.{Store, Lists, Ending, DownloadPhase, Work, JobState, Attempted, outcome_by, JobEntry, Attempt, Asked, Party, ServerSide, AreFirstIfAny, FetchesBy, FetchesIn, HasFacts, coming_by, got, JobKeeps, job_gone, with_job}
use Rattle.air_world.proofs.files.JobChange.{moved}
use Rattle.air_world.proofs.files.JobEarlier.{fetched-any}
use Rattle.air_world.proofs.files.JobSays.{says-still}
use Rattle.air_world.proofs.files.JobStep.{JobKept, keeps-by, of_attempts}
use Rattle.air_world.proofs.files.JobUploadNotes.{fronts-none}

module _ (store : Store) (files : List Asked) (base : Party) (a : Attempt) (older : List Attempt) (now : Attempted)
    (same : now.job ≡ a.client.attempted.job) where
  abbrev party : Party
  party = of_attempts base a older

  abbrev b : Attempt
  b = moved a now a.client.entries

  abbrev new : Party
  new = with_job party base.client.lists now b older

  coming-same : (o : Option ServerSide) → coming_by a o ≡ coming_by b o
  coming-same None = refl
  coming-same (Some side) = refl

  fetches-same : (o : Option Ending) (doing : Work) → FetchesBy o doing store party a → FetchesBy o doing store new b
  fetches-same None (work.Upload at) fetches = tt
  fetches-same None (work.Directory at) fetches = tt
  fetches-same (Some ending) (work.Upload at) fetches = tt
  fetches-same (Some ending) (work.Directory at) fetches = tt
  fetches-same (Some ending) (work.Download at) fetches = fetches
  fetches-same None (work.Download at) fetches = by at.phase fetches
    where
      by : (p : DownloadPhase) → FetchesIn p store party a at → FetchesIn p store new b at
      by fetch.Login fetches = fetches
      by fetch.Done fetches = fetches
      by fetch.Fetching fetches = record {
        first =
            subst (λ (octets : List ℕ). AreFirstIfAny store at.number (got party at.number ++ (at.rest ++ octets)))
            (coming-same a.server) fetches.first;
        offset = fetches.offset;
        asked = fetches.asked;
        counted = fetches.counted;
      }

  still-kept : HasFacts store files party → base.client.attempt ≡ Some a.client.attempted → JobKept store party new a b
  still-kept facts link = record {
    noted = λ task number file asks took.
        let n = facts.tasks.noted.0 task number file asks took in
        record { entry = n.entry; is_entry = n.is_entry; number_is = n.number_is; some = n.some };
    receives = λ side number rest is up state r. r.goes_on;
    says = says-still a.client.asked a.client b.client facts.sessions.says.0 refl (λ packet taken. taken);
    fetching = λ is.
        subst (λ (j : JobState). FetchesBy j.ending j.work store new b) (sym same)
        (fetches-same a.client.attempted.job.ending a.client.attempted.job.work (facts.files_got.fetching link));
    fetched = λ number is.
        facts.files_got.fetched.0 number
        (fetched-any a.client.attempted.job.ending now.down a.client.attempted.down number
        (ap (λ (j : JobState). outcome_by j.ending now.down) (sym same) ∙ is));
    asked_within = facts.files_got.asked_within.0;
  }

  still-here : HasFacts store files party → base.client.attempt ≡ Some a.client.attempted → (lists : Lists)
      → lists ≡ base.client.lists → (entries : List JobEntry)
      → entries ≡ a.client.entries → JobKept store party (with_job party lists now (moved a now entries) older) a
      (moved a now entries)
  still-here facts link lists lists_are entries are =
      subst (λ (l : Lists). JobKept store party (with_job party l now (moved a now entries) older) a
      (moved a now entries)) (sym lists_are)
      (subst (λ (es : List JobEntry). JobKept store party
      (with_job party base.client.lists now (moved a now es) older) a (moved a now es)) (sym are)
      (still-kept facts link))

  -- nothing came
  pub keeps-none : HasFacts store files party → base.client.attempt ≡ Some a.client.attempted → (lists : Lists)
      → lists ≡ base.client.lists
      → JobKeeps store files party (with_job party lists now (job_gone [] now a) older) []
  keeps-none facts link lists lists_are =
      keeps-by store files base a older facts [] lists now (fronts-none store files party facts) lists_are
      (still-here facts link lists lists_are (a.client.entries ++ []) (append-nil a.client.entries))
