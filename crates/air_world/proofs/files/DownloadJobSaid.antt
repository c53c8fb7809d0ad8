-- What a job of a download has said, by how far it has come.
use Rattle.std.proofs.Common.{◌≡◌, inl, inr, ℕ, List, [], ◌∷◌, ◌++◌, length, refl, ap, sym, ◌∙◌, subst, Option, None}
use Rattle.std.proofs.Common.{Some, Ok, Err, append-nil}
use Rattle.ftl0_client_job.specs.declared.phases.DownloadPhase.TheVariants as phase
use Rattle.ftl0_client_job.specs.declared.work.Work.TheVariants as work
use Rattle.ftl0_client_job.specs.Due.{next_due}
use Rattle.air_world.proofs.files.Names.{⊤, CallSign, kind_of_item, Item, PacketValue, data_end, dl_ack_cmd, dl_nak_cmd, download_cmd, Lists, got_of, Ending, DownloadPhase, Work, Download, download_row, new_download, DuePacket, due_by, Row, JobState, item_row, job_after, new_job, row_of, JobEntry, after_losing, lost, packets_said, passed, said_in, took, OneIs, IsTaken, JobReaches, one-last, one-left, Fetching, IsWord, asked, fetching_said, silent, told}
use Rattle.air_world.proofs.files.DownloadJobRows.{DownloadCases, download-cases, download_at}
use Rattle.air_world.proofs.files.JobReach.{Stays, of-reached}
use Rattle.air_world.proofs.files.JobUploadCame.{said-one}

-- what a job that has said this much has taken: DATA_END, if it said DL_ACK_CMD or DL_NAK_CMD
abbrev pub Told : List JobEntry → Fetching → Type 0
Told es silent = ⊤
Told es (asked offset) = ⊤
Told es (told offset word) = IsWord word × OneIs (IsTaken (Ok data_end)) es

-- what was said before the outcome
abbrev pub CameTo : DownloadPhase → ℕ → List JobEntry → Type 0
CameTo phase.Login number es = es ≡ []
CameTo phase.Fetching number es = (offset : ℕ) × (said_in es ≡ download_cmd number offset 0 ∷ [])
CameTo phase.Done number es = ⊤

-- A job of a download, after these entries.
pub record DoesDownload (server : CallSign) (number : ℕ) (es : List JobEntry) (job : JobState) : Type 0 where
  pub phase_is : DownloadPhase
  pub rest : List ℕ
  pub work_is : job.work ≡ work.Download (download_at server number rest phase_is)
  pub stage : Fetching
  pub said : said_in es ≡ fetching_said number stage
  pub fetches : Told es stage
  pub came : job.ending ≡ None → CameTo phase_is number es

module _ (server : CallSign) (number : ℕ) where
  abbrev Does : List JobEntry → JobState → Type 0
  Does es job = DoesDownload server number es job

  -- nothing is due of it
  pub none-due : (job : JobState) (due : DuePacket JobState) (download : Download) → job.work ≡ work.Download download
      → next_due job ≡ Some due → ⊥
  none-due job due download is next = by job.ending (ap (λ (doing : Work). due_by job.ending doing) (sym is) ∙ next)
    where
      by : (o : Option Ending) → due_by o (work.Download download) ≡ Some due → ⊥
      by None due_is = absurd (cc)
      by (Some ending) due_is = absurd (cc)

  told-more : (es more : List JobEntry) (stage : Fetching) → Told es stage → Told (es ++ more) stage
  told-more es more silent were = tt
  told-more es more (asked offset) were = tt
  told-more es more (told offset word) were = (were.0, one-left (IsTaken (Ok data_end)) es more were.1)

  -- nothing more is said
  module _ (es : List JobEntry) (job : JobState) (does : Does es job) (entry : JobEntry)
      (quiet : packets_said entry ≡ []) where
    said-same : said_in (es ++ entry ∷ []) ≡ fetching_said number does.stage
    said-same =
        said-one es entry ∙ ap (λ (l : List PacketValue). said_in es ++ l) quiet ∙ append-nil (said_in es) ∙ does.said

  -- ---- a packet that is taken, by its row

  module _ (es : List JobEntry) (job : JobState) (none : job.ending ≡ None) (does : Does es job) (held : List ℕ) where
    -- the row, and what it makes of what was said
    abbrev Comes : DownloadPhase → PacketValue → Row Download → Type 0
    Comes p packet row =
        CameTo p number es
        → (row.state ≡ download_at server number row.state.rest row.state.phase)
        × ((stage : Fetching) × (said_in es ++ row.replies ≡ fetching_said number stage) × Told
        (es ++ took (Ok packet) (row_of work.Download row) ∷ []) stage)
        × (row.ending ≡ None → CameTo row.state.phase number (es ++ took (Ok packet) (row_of work.Download row) ∷ []))

    -- nothing is said
    silent-so : (more : List JobEntry)
        → (stage : Fetching) × (said_in es ++ [] ≡ fetching_said number stage) × Told (es ++ more) stage
    silent-so more = (does.stage, append-nil (said_in es) ∙ does.said, told-more es more does.stage does.fetches)

    said-then : (packet : PacketValue) (row : Row Download)
        → said_in (es ++ took (Ok packet) (row_of work.Download row) ∷ []) ≡ said_in es ++ row.replies
    said-then packet row = said-one es (took (Ok packet) (row_of work.Download row))

    come-cases : DownloadCases server number held does.rest Comes
    come-cases = record {
      strange_rows = λ p packet kind came. (refl, silent-so _, λ goes. absurd (cc));
      login = λ moment flags came.
          let nothing : said_in es ≡ [] = ap said_in came in (
            refl,
            (
              asked (length held),
              ap (λ (l : List PacketValue). l ++ download_cmd number (length held) 0 ∷ []) nothing,
              tt,
            ),
            λ goes. (
              length held,
              said-one es _ ∙ ap (λ (l : List PacketValue). l ++ download_cmd number
                  (length held) 0 ∷ []) nothing,
            ),
          );
      octets = λ octets came. (refl, silent-so _, λ goes. (came.0, said-one es _ ∙ append-nil (said_in es) ∙ came.1));
      whole = λ good came. (
        refl,
        (
          told came.0 dl_ack_cmd,
          ap (λ (l : List PacketValue). l ++ dl_ack_cmd ∷ []) came.1,
          (inl refl, one-last (IsTaken (Ok data_end)) es _ refl),
        ),
        λ goes. tt,
      );
      bad = λ code fault came. (
        refl,
        (
          told came.0 dl_nak_cmd,
          ap (λ (l : List PacketValue). l ++ dl_nak_cmd ∷ []) came.1,
          (inr refl, one-last (IsTaken (Ok data_end)) es _ refl),
        ),
        λ goes. absurd (cc),
      );
      refused = λ code came. (refl, silent-so _, λ goes. absurd (cc));
      done = λ came. (refl, silent-so _, λ goes. absurd (cc));
    }

    comes : (p : DownloadPhase) (packet : PacketValue)
        → Comes p packet (download_row held (download_at server number does.rest p) packet)
    comes p packet = download-cases server number held does.rest Comes come-cases p packet

  -- ---- entry by entry

  abbrev item_here : Lists → List ℕ → DownloadPhase → Item → Row Work
  item_here lists rest p item = item_row lists (work.Download (download_at server number rest p)) item

  takes : (es : List JobEntry) (job : JobState) (lists : Lists) (item : Item) → job.ending ≡ None → (does : Does es job)
      → Does (es ++ took item (item_here lists does.rest does.phase_is item) ∷ [])
      (job_after (item_here lists does.rest does.phase_is item))
  takes es job lists (Ok packet) none does =
      let row = download_row (got_of lists server number) (download_at server number does.rest does.phase_is) packet in
      let it = comes es job none does (got_of lists server number) does.phase_is packet (does.came none) in
      record {
        phase_is = row.state.phase;
        rest = row.state.rest;
        work_is = ap work.Download it.0;
        stage = it.1.0;
        said = said-one es (took (Ok packet) (row_of work.Download row)) ∙ it.1.1;
        fetches = it.1.2;
        came = it.2;
      }
  takes es job lists (Err malformed) none does =
      let entry = took (Err malformed) (item_here lists does.rest does.phase_is (Err malformed)) in
      record {
        phase_is = does.phase_is;
        rest = does.rest;
        work_is = refl;
        stage = does.stage;
        said = said-same es job does entry refl;
        fetches = told-more es (entry ∷ []) does.stage does.fetches;
        came = λ goes. absurd (cc);
      }

  loses : (es : List JobEntry) (job : JobState) (lists : Lists) (item : Item) → job.ending ≡ None → (does : Does es job)
      → Does (es ++ lost item (item_here lists does.rest does.phase_is item) ∷ [])
      (after_losing (kind_of_item item) (item_here lists does.rest does.phase_is item))
  loses es job lists (Ok packet) none does =
      let row = download_row (got_of lists server number) (download_at server number does.rest does.phase_is) packet in
      let entry = lost (Ok packet) (row_of work.Download row) in
      record {
        phase_is = row.state.phase;
        rest = row.state.rest;
        work_is =
            ap work.Download (comes es job none does (got_of lists server number) does.phase_is packet
            (does.came none)).0;
        stage = does.stage;
        said = said-same es job does entry refl;
        fetches = told-more es (entry ∷ []) does.stage does.fetches;
        came = λ goes. absurd (cc);
      }
  loses es job lists (Err malformed) none does =
      let entry = lost (Err malformed) (item_here lists does.rest does.phase_is (Err malformed)) in
      record {
        phase_is = does.phase_is;
        rest = does.rest;
        work_is = refl;
        stage = does.stage;
        said = said-same es job does entry refl;
        fetches = told-more es (entry ∷ []) does.stage does.fetches;
        came = λ goes. absurd (cc);
      }

  stays : Stays Does
  stays = record {
    taking = λ es job lists item none does.
        subst (λ (doing : Work). Does (es ++ took item (item_row lists doing item) ∷ [])
        (job_after (item_row lists doing item))) (sym does.work_is)
        (takes es job lists item none does);
    losing = λ es job lists item none does.
        subst (λ (doing : Work). Does (es ++ lost item (item_row lists doing item) ∷ [])
        (after_losing (kind_of_item item) (item_row lists doing item))) (sym does.work_is)
        (loses es job lists item none does);
    passing = λ es job item ended does.
        record {
          phase_is = does.phase_is;
          rest = does.rest;
          work_is = does.work_is;
          stage = does.stage;
          said = said-same es job does (passed item) refl;
          fetches = told-more es (passed item ∷ []) does.stage does.fetches;
          came = λ none. absurd (ended none);
        };
    queuing =
        λ es job due next does. absurd
        (none-due job due (download_at server number does.rest does.phase_is) does.work_is next);
  }

  -- how far a download came
  pub does-download : (es : List JobEntry) (job : JobState)
      → JobReaches (new_job (work.Download (new_download server number))) es job → Does es job
  does-download es job reached =
      of-reached Does stays es (new_job (work.Download (new_download server number))) job
      (record {
        phase_is = phase.Login;
        rest = [];
        work_is = refl;
        stage = silent;
        said = refl;
        fetches = tt;
        came = λ none. refl;
      }) reached
