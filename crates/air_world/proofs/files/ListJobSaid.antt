-- What a job that selects and lists has said, by how far it has come.
use Rattle.std.proofs.Common.{◌≡◌, ◌≢◌, ℕ, ◌==◌, List, [], ◌∷◌, ◌++◌, length, refl, ap, sym, ◌∙◌, subst, Bool, true}
use Rattle.std.proofs.Common.{false, Option, None, Some, append-nil}
use Rattle.std.specs.Prelude.{if◌then◌else◌}
use Rattle.ftl0_client_job.specs.declared.ending.Outcome.TheVariants as outcome
use Rattle.ftl0_client_job.specs.declared.phases.DirectoryPhase.{DirectoryPhase}
use Rattle.ftl0_client_job.specs.declared.phases.DirectoryPhase.TheVariants as phase
use Rattle.ftl0_client_job.specs.declared.work.Work.TheVariants as work
use Rattle.ftl0_client_job.specs.Due.{next_due}
use Rattle.ftl0_client_job.specs.Short.{are_short_headers}
use Rattle.air_world.proofs.files.Names.{Ok, Err, nat_lt, AllByRecursion, kind_of_item, Item, PacketValue, data_end, data_part, dir_short_cmd, dl_error_resp, kind_of, login_resp, select_cmd, select_resp, Lists, Ending, Outcome, Work, Directory, directory_row, empty_row, is_empty_code, longest_listing, new_directory, DuePacket, due_by, Row, ends, goes_on, strange, JobState, item_row, job_after, new_job, row_of, JobEntry, after_losing, lost, passed, said_in, took, JobReaches, each-append, IsListSaid}
use Rattle.air_world.proofs.files.JobReach.{Stays, of-reached}
use Rattle.air_world.proofs.files.JobUploadCame.{NeverFetched, said-one}

-- the list of these tokens' selection, come so far
abbrev pub directory_at : List ℕ → List ℕ → DirectoryPhase → Directory
directory_at tokens listing p = record { tokens = tokens; listing = listing; phase = p }

-- SELECT_CMD was said, and DIR_SHORT_CMD after it
record HasSelected (tokens : List ℕ) (said : List PacketValue) : Type 0 where
  more : List PacketValue
  said_is : said ≡ select_cmd tokens ∷ more
  short : AllByRecursion (λ it. it ≡ dir_short_cmd 0) more

-- what was said before the outcome
abbrev CameTo : DirectoryPhase → List ℕ → List PacketValue → Type 0
CameTo phase.Login tokens said = said ≡ []
CameTo phase.Selecting tokens said = HasSelected tokens said
CameTo phase.Listing tokens said = HasSelected tokens said

-- What a row makes of what was said.
record Comes (tokens : List ℕ) (p : DirectoryPhase) (row : Row Directory) : Type 0 where
  tokens_is : row.state.tokens ≡ tokens
  commands : row.commands ≡ []
  never : NeverFetched row.ending
  replies : (said : List PacketValue) → CameTo p tokens said → IsListSaid tokens (said ++ row.replies)
  came : (said : List PacketValue) → CameTo p tokens said → row.ending ≡ None
      → CameTo row.state.phase tokens (said ++ row.replies)

-- ---- the rows

module _ (tokens : List ℕ) where
  selected-said : (said : List PacketValue) → HasSelected tokens said → IsListSaid tokens said
  selected-said said has = subst (IsListSaid tokens) (sym has.said_is) (refl, has.short)

  came-said : (p : DirectoryPhase) (said : List PacketValue) → CameTo p tokens said → IsListSaid tokens said
  came-said phase.Login said came = subst (IsListSaid tokens) (sym came) tt
  came-said phase.Selecting said came = selected-said said came
  came-said phase.Listing said came = selected-said said came

  -- with one DIR_SHORT_CMD more
  selected-short : (said : List PacketValue) → HasSelected tokens said
      → HasSelected tokens (said ++ dir_short_cmd 0 ∷ [])
  selected-short said has = record {
    more = has.more ++ dir_short_cmd 0 ∷ [];
    said_is = ap (λ (l : List PacketValue). l ++ dir_short_cmd 0 ∷ []) has.said_is;
    short = each-append (λ it. it ≡ dir_short_cmd 0) has.more (dir_short_cmd 0 ∷ []) has.short (refl, tt);
  }

  module _ (listing : List ℕ) (p : DirectoryPhase) where
    abbrev here : Directory
    here = directory_at tokens listing p

    -- nothing is said
    silent : (said : List PacketValue) → CameTo p tokens said → IsListSaid tokens (said ++ [])
    silent said came = subst (IsListSaid tokens) (sym (append-nil said)) (came-said p said came)

    ends-so : (o : Outcome) → ((number : ℕ) → o ≢ outcome.Fetched number) → Comes tokens p (ends here [] o)
    ends-so o never = record {
      tokens_is = refl;
      commands = refl;
      never = never;
      replies = silent;
      came = λ said came none. absurd (cc);
    }

    strange-so : (kind : ℕ) → Comes tokens p (strange here kind)
    strange-so kind = ends-so (outcome.Strange kind) (λ number is. absurd (cc))

    refused-so : (code : ℕ) → Comes tokens p (ends here [] (outcome.Refused code))
    refused-so code = ends-so (outcome.Refused code) (λ number is. absurd (cc))

    listed-so : Comes tokens p (ends here [] outcome.Listed)
    listed-so = ends-so outcome.Listed (λ number is. absurd (cc))

  login-so : (listing : List ℕ)
      → Comes tokens phase.Login (goes_on (directory_at tokens listing phase.Selecting) [] (select_cmd tokens ∷ []))
  login-so listing = record {
    tokens_is = refl;
    commands = refl;
    never = tt;
    replies =
        λ said none. subst (λ (l : List PacketValue). IsListSaid tokens (l ++ select_cmd tokens ∷ [])) (sym none)
        (refl, tt);
    came =
        λ said none goes. record {
          more = [];
          said_is = ap (λ (l : List PacketValue). l ++ select_cmd tokens ∷ []) none;
          short = tt;
        };
  }

  -- its first headers, or the next ones, are asked for
  short-from : (p : DirectoryPhase) (listing : List ℕ)
      → ((said : List PacketValue) → CameTo p tokens said → HasSelected tokens said)
      → Comes tokens p (goes_on (directory_at tokens listing phase.Listing) [] (dir_short_cmd 0 ∷ []))
  short-from p listing has = record {
    tokens_is = refl;
    commands = refl;
    never = tt;
    replies = λ said came. selected-said (said ++ dir_short_cmd 0 ∷ []) (selected-short said (has said came));
    came = λ said came goes. selected-short said (has said came);
  }

  octets-so : (listing : List ℕ)
      → Comes tokens phase.Listing (goes_on (directory_at tokens listing phase.Listing) [] [])
  octets-so listing = record {
    tokens_is = refl;
    commands = refl;
    never = tt;
    replies = silent listing phase.Listing;
    came = λ said came goes. subst (HasSelected tokens) (sym (append-nil said)) came;
  }

  -- ---- by a test

  select-by : (listing : List ℕ) (b : Bool)
      → Comes tokens phase.Selecting
      (if b then ends (directory_at tokens listing phase.Selecting) [] outcome.Listed else goes_on
      (directory_at tokens listing phase.Listing) [] (dir_short_cmd 0 ∷ []))
  select-by listing true = listed-so listing phase.Selecting
  select-by listing false = short-from phase.Selecting listing (λ said came. came)

  data-by : (listing octets : List ℕ) (b : Bool)
      → Comes tokens phase.Listing
      (if b then strange (directory_at tokens listing phase.Listing) 0 else goes_on
      (directory_at tokens (listing ++ octets) phase.Listing) [] [])
  data-by listing octets true = strange-so listing phase.Listing 0
  data-by listing octets false = octets-so (listing ++ octets)

  next-by : (listing : List ℕ) (b : Bool)
      → Comes tokens phase.Listing
      (if b then goes_on (directory_at tokens listing phase.Listing) [] (dir_short_cmd 0 ∷ []) else strange
      (directory_at tokens listing phase.Listing) 1)
  next-by listing true = short-from phase.Listing listing (λ said came. came)
  next-by listing false = strange-so listing phase.Listing 1

  whole-by : (listing : List ℕ) (b : Bool)
      → Comes tokens phase.Listing
      (if b then ends (directory_at tokens listing phase.Listing) [] outcome.Listed else strange
      (directory_at tokens listing phase.Listing) 9)
  whole-by listing true = listed-so listing phase.Listing
  whole-by listing false = strange-so listing phase.Listing 9

  code-by : (listing : List ℕ) (code : ℕ) (b : Bool)
      → Comes tokens phase.Listing
      (if b then empty_row (directory_at tokens listing phase.Listing) else ends
      (directory_at tokens listing phase.Listing) [] (outcome.Refused code))
  code-by listing code true = whole-by listing (are_short_headers listing)
  code-by listing code false = refused-so listing phase.Listing code

  list-comes : (listing : List ℕ) (p : DirectoryPhase) (packet : PacketValue)
      → Comes tokens p (directory_row (directory_at tokens listing p) packet)
  unfolding directory_row
  list-comes listing phase.Login (login_resp moment flags) = login-so listing
  list-comes listing phase.Login packet = strange-so listing phase.Login (kind_of packet)
  list-comes listing phase.Selecting (select_resp count) = select-by listing (count == 0)
  list-comes listing phase.Selecting (dl_error_resp code) = refused-so listing phase.Selecting code
  list-comes listing phase.Selecting packet = strange-so listing phase.Selecting (kind_of packet)
  list-comes listing phase.Listing (data_part octets) =
      data-by listing octets (nat_lt longest_listing (length (listing ++ octets)))
  list-comes listing phase.Listing data_end = next-by listing (are_short_headers listing)
  list-comes listing phase.Listing (dl_error_resp code) = code-by listing code (is_empty_code code)
  list-comes listing phase.Listing packet = strange-so listing phase.Listing (kind_of packet)

-- ---- entry by entry

-- A job that selects and lists, after these entries.
pub record DoesList (tokens : List ℕ) (es : List JobEntry) (job : JobState) : Type 0 where
  pub phase_is : DirectoryPhase
  pub listing : List ℕ
  pub work_is : job.work ≡ work.Directory (directory_at tokens listing phase_is)
  pub says : IsListSaid tokens (said_in es)
  came : job.ending ≡ None → CameTo phase_is tokens (said_in es)
  pub ended : NeverFetched job.ending

-- nothing is due of it
pub none-due : (job : JobState) (due : DuePacket JobState) (directory : Directory) → job.work ≡ work.Directory directory
    → next_due job ≡ Some due → ⊥
none-due job due directory is next = by job.ending (ap (λ (doing : Work). due_by job.ending doing) (sym is) ∙ next)
  where
    by : (o : Option Ending) → due_by o (work.Directory directory) ≡ Some due → ⊥
    by None due_is = absurd (cc)
    by (Some ending) due_is = absurd (cc)

module _ (tokens : List ℕ) where
  abbrev Does : List JobEntry → JobState → Type 0
  Does es job = DoesList tokens es job

  abbrev item_here : Lists → List ℕ → DirectoryPhase → Item → Row Work
  item_here lists listing p item = item_row lists (work.Directory (directory_at tokens listing p)) item

  -- an item's row has no command
  pub item-silent : (lists : Lists) (listing : List ℕ) (p : DirectoryPhase) (item : Item)
      → (item_here lists listing p item).commands ≡ []
  item-silent lists listing p (Ok packet) = (list-comes tokens listing p packet).commands
  item-silent lists listing p (Err malformed) = refl

  takes : (es : List JobEntry) (lists : Lists) (listing : List ℕ) (p : DirectoryPhase) (item : Item)
      → CameTo p tokens (said_in es)
      → Does (es ++ took item (item_here lists listing p item) ∷ []) (job_after (item_here lists listing p item))
  takes es lists listing p (Ok packet) came =
      let row = directory_row (directory_at tokens listing p) packet in
      let it = list-comes tokens listing p packet in
      let said : said_in (es ++ took (Ok packet) (row_of work.Directory row) ∷ []) ≡ said_in es ++ row.replies =
      said-one es (took (Ok packet) (row_of work.Directory row)) in
      record {
        phase_is = row.state.phase;
        listing = row.state.listing;
        work_is = ap (λ (t : List ℕ). work.Directory (directory_at t row.state.listing row.state.phase)) it.tokens_is;
        says = subst (IsListSaid tokens) (sym said) (it.replies (said_in es) came);
        came = λ none. subst (CameTo row.state.phase tokens) (sym said) (it.came (said_in es) came none);
        ended = it.never;
      }
  takes es lists listing p (Err malformed) came = record {
    phase_is = p;
    listing = listing;
    work_is = refl;
    says =
        subst (IsListSaid tokens) (sym (said-one es (took (Err malformed) (item_here lists listing p (Err malformed)))))
        (silent tokens listing p (said_in es) came);
    came = λ none. absurd (cc);
    ended = λ number is. absurd (cc);
  }

  loses : (es : List JobEntry) (lists : Lists) (listing : List ℕ) (p : DirectoryPhase) (item : Item)
      → CameTo p tokens (said_in es)
      → Does (es ++ lost item (item_here lists listing p item) ∷ [])
      (after_losing (kind_of_item item) (item_here lists listing p item))
  loses es lists listing p (Ok packet) came =
      let row = directory_row (directory_at tokens listing p) packet in
      record {
        phase_is = row.state.phase;
        listing = row.state.listing;
        work_is =
            ap (λ (t : List ℕ). work.Directory (directory_at t row.state.listing row.state.phase))
            (list-comes tokens listing p packet).tokens_is;
        says =
            subst (IsListSaid tokens) (sym (said-one es (lost (Ok packet) (row_of work.Directory row))))
            (silent tokens listing p (said_in es) came);
        came = λ none. absurd (cc);
        ended = λ number is. absurd (cc);
      }
  loses es lists listing p (Err malformed) came = record {
    phase_is = p;
    listing = listing;
    work_is = refl;
    says =
        subst (IsListSaid tokens) (sym (said-one es (lost (Err malformed) (item_here lists listing p (Err malformed)))))
        (silent tokens listing p (said_in es) came);
    came = λ none. absurd (cc);
    ended = λ number is. absurd (cc);
  }

  stays : Stays Does
  stays = record {
    taking = λ es job lists item none does.
        subst (λ (doing : Work). Does (es ++ took item (item_row lists doing item) ∷ [])
        (job_after (item_row lists doing item))) (sym does.work_is)
        (takes es lists does.listing does.phase_is item (does.came none));
    losing = λ es job lists item none does.
        subst (λ (doing : Work). Does (es ++ lost item (item_row lists doing item) ∷ [])
        (after_losing (kind_of_item item) (item_row lists doing item))) (sym does.work_is)
        (loses es lists does.listing does.phase_is item (does.came none));
    passing = λ es job item ended does.
        record {
          phase_is = does.phase_is;
          listing = does.listing;
          work_is = does.work_is;
          says = subst (IsListSaid tokens) (sym (said-one es (passed item) ∙ append-nil (said_in es))) does.says;
          came = λ none. absurd (ended none);
          ended = does.ended;
        };
    queuing =
        λ es job due next does. absurd
        (none-due job due (directory_at tokens does.listing does.phase_is) does.work_is next);
  }

  -- how far a list came
  pub does-list : (es : List JobEntry) (job : JobState)
      → JobReaches (new_job (work.Directory (new_directory tokens))) es job → Does es job
  does-list es job reached =
      of-reached Does stays es (new_job (work.Directory (new_directory tokens))) job
      (record { phase_is = phase.Login; listing = []; work_is = refl; says = tt; came = λ none. refl; ended = tt })
      reached
