-- What a client's facts become if commands change one entry of the store: over the store then, with the sessions over,
-- and with the newest one gone on.
use Rattle.std.proofs.Common.{◌≡◌, inl, inr, ℕ, List, [], ◌∷◌, ◌++◌, refl, ap, sym, ◌∙◌, subst, arith, true, Option}
use Rattle.std.proofs.Common.{None, Some}
use Rattle.ftl0_client_job.specs.declared.phases.DownloadPhase.TheVariants as fetch
use Rattle.ftl0_client_job.specs.declared.work.Work.TheVariants as work
use Rattle.air_world.proofs.files.Names.{IfSome, slice_get, AllByRecursion, option_map, eqb_tells, CallSign, KeepsEntries, Store, entry_of, Ending, DownloadPhase, Work, Download, Upload, new_upload, Attempt, Asked, IsFileOf, Party, all_over, over, sessions_over, AsksUpload, Grants, ServerSide, one-map, AreFirstIfAny, Fetches, FetchesBy, FetchesIn, HasFacts, HasNumber, IsBegun, IsFetching, IsGrantKept, IsGranted, IsNumbered, coming_by, got, IsFileAt, WhereStands}
use Rattle.air_world.proofs.files.ApartLemmas.{GrantFact, HasClientFacts, HasFactsApart, HasSideFacts, apart, together}
use Rattle.air_world.proofs.files.GrowingLemmas.{StayOthers}
use Rattle.air_world.proofs.files.LikeLemmas.{like-client, like-side, number-like}
use Rattle.air_world.proofs.files.StableLemmas.{keeps-complete, keeps-fetching_some, keeps-first_any, keeps-offer}
use Rattle.air_world.proofs.files.StableLemmas.{keeps-serves, keeps-task_kept}

-- a session that gave this number to a new upload did so for a task that has it
abbrev pub OwnGrants : Party → ℕ → Attempt → ServerSide → Type 0
OwnGrants party n a side =
    (file_length task : ℕ) (file : List ℕ) → Grants side n file_length → AsksUpload a task 0 file
    → HasNumber party task n

-- of a number that it gave to a new upload nothing is held, as long as the task hasn't it
abbrev pub GrantsBegun : Store → Party → Attempt → ServerSide → Type 0
GrantsBegun now party a side =
    (number file_length task : ℕ) (file : List ℕ) → Grants side number file_length → AsksUpload a task 0 file
    → (HasNumber party task number → ⊥) → WhereStands now number (IsBegun party.client.me file_length)

-- The store became another one by commands on the entry of this number. The entry is on the way to the file of each
-- task that has the number, and it was given for those alone.
pub record MovesAt (files : List Asked) (party : Party) (before now : Store) (n : ℕ) : Type 0 where
  pub keeps : KeepsEntries before now
  pub others : StayOthers n before now
  pub file : (task : ℕ) (file : List ℕ) → HasNumber party task n → IsFileOf files party task file
      → IsFileAt now n file party.client.me
  pub own : AllByRecursion (λ a. IfSome a.server (OwnGrants party n a)) party.attempts

-- The store became another one, in which the entries of the client's tasks are on the way to their files, and nothing
-- is held of what was given and isn't noted.
pub record MovesTo (files : List Asked) (party : Party) (before now : Store) : Type 0 where
  pub keeps : KeepsEntries before now
  pub file :
      (task number : ℕ) (file : List ℕ) → HasNumber party task number → IsFileOf files party task file
      → IsFileAt now number file party.client.me
  pub begun : AllByRecursion (λ a. IfSome a.server (GrantsBegun now party a)) party.attempts

-- an attempt is of one task
pub same-task : (a : Attempt) (task other : ℕ) (file that : List ℕ) → AsksUpload a task 0 file
    → AsksUpload a other 0 that → task ≡ other
same-task a task other file that one two =
    let both : work.Upload (new_upload task 0 file) ≡ work.Upload (new_upload other 0 that) = sym one ∙ two in
    let uploads : new_upload task 0 file ≡ new_upload other 0 that = cc in
    ap (λ (at : Upload). at.task) uploads

-- ---- entries that stay

pub file-stays : (before now : Store) (number : ℕ) (file : List ℕ) (caller : CallSign)
    → entry_of now number ≡ entry_of before number
    → IsFileAt before number file caller → IsFileAt now number file caller
file-stays before now number file caller same (inl gone) = inl (same ∙ gone)
file-stays before now number file caller same (inr (inl w)) =
    inr (inl (record {
      entry = w.entry;
      is_entry = same ∙ w.is_entry;
      caller_is = w.caller_is;
      length_is = w.length_is;
      held = w.held;
      holds = w.holds;
      front = w.front;
    }))
file-stays before now number file caller same (inr (inr k)) =
    inr (inr (record {
      entry = k.entry;
      is_entry = same ∙ k.is_entry;
      caller_is = k.caller_is;
      moment = k.moment;
      whole = k.whole;
      keeps = k.keeps;
    }))

module _ (files : List Asked) (party : Party) (before now : Store) (n : ℕ) (moves : MovesAt files party before now n)
    (facts : HasFacts before files party) where
  file-moved : (task number : ℕ) (file : List ℕ) → HasNumber party task number → IsFileOf files party task file
      → IsFileAt now number file party.client.me
  file-moved task number file has is =
      elim (eqb_tells number n) [
        | inl w ↦
            subst (λ (k : ℕ). IsFileAt now k file party.client.me) (sym w.1)
            (moves.file task file (subst (HasNumber party task) w.1 has) is)
        | inr w ↦
            file-stays before now number file party.client.me (moves.others number w.1)
            (facts.tasks.numbered task number file has is).stands
      ]

  begun-moved : (a : Attempt) (side : ServerSide) → GrantFact before party a side → OwnGrants party n a side
      → GrantsBegun now party a side
  begun-moved a side kept own number file_length task file grants asks none =
      elim (eqb_tells number n) [
        | inl w ↦
            absurd
            (none
            (subst (HasNumber party task) (sym w.1)
            (own file_length task file (subst (λ (k : ℕ). Grants side k file_length) w.1 grants) asks)))
        | inr w ↦ λ entry there.
            let it = kept number file_length grants in
            let same : it.task ≡ task = same-task a it.task task it.file file it.asks asks in
            it.begun (λ has. none (subst (λ (t : ℕ). HasNumber party t number) same has)) entry
            (sym (moves.others number w.1) ∙ there)
      ]

  begun-each : (attempts : List Attempt) → AllByRecursion (λ a. IfSome a.server (GrantFact before party a)) attempts
      → AllByRecursion (λ a. IfSome a.server (OwnGrants party n a)) attempts
      → AllByRecursion (λ a. IfSome a.server (GrantsBegun now party a)) attempts
  begun-each [] kept own = tt
  begun-each (a ∷ older) kept own = (by a.server kept.0 own.0, begun-each older kept.1 own.1)
    where
      by : (o : Option ServerSide) → IfSome o (GrantFact before party a) → IfSome o (OwnGrants party n a)
          → IfSome o (GrantsBegun now party a)
      by None its mine = tt
      by (Some side) its mine = begun-moved a side its mine

  -- commands on one entry lead to such a store
  pub moves-to : MovesTo files party before now
  moves-to = record {
    keeps = moves.keeps;
    file = file-moved;
    begun = begun-each party.attempts facts.sessions.granted moves.own;
  }

module _ (files : List Asked) (party : Party) (before now : Store) (moves : MovesTo files party before now) where
  grant-moved : (a : Attempt) (side : ServerSide) (number file_length : ℕ) → GrantsBegun now party a side
      → Grants side number file_length
      → IsGrantKept before party a number file_length → IsGrantKept now party a number file_length
  grant-moved a side number file_length begun grants kept = record {
    some = kept.some;
    below = omega (arith, kept.below, moves.keeps.next);
    task = kept.task;
    file = kept.file;
    asks = kept.asks;
    length_is = kept.length_is;
    begun = begun number file_length kept.task kept.file grants kept.asks;
  }

  -- a session that is over
  pub side-moved : (a : Attempt) (side : ServerSide) → (side.is_up ≡ true → ⊥) → GrantsBegun now party a side
      → HasSideFacts before party a side → HasSideFacts now party a side
  side-moved a side up begun facts = record {
    granted =
        λ number file_length grants. grant-moved a side number file_length begun grants
        (facts.granted number file_length grants);
    complete = λ number says. keeps-complete before now number moves.keeps.complete (facts.complete number says);
    offered =
        λ number offset offers. keeps-offer before now number offset moves.keeps (facts.offered number offset offers);
    receives = λ number rest is. absurd (up is);
    due = λ is. absurd (up is);
    serves = keeps-serves before now a.client.asked side moves.keeps.complete facts.serves;
  }

  -- ---- all sessions over

  abbrev over_attempt : Attempt → Attempt
  over_attempt a = record a { server = option_map over a.server }

  side-over : (a : Attempt) (side : ServerSide) → GrantsBegun now party a side → HasSideFacts before party a side
      → HasSideFacts now (sessions_over party) (over_attempt a) (over side)
  side-over a side own facts =
      let before_over : HasSideFacts before party (over_attempt a) (over side) =
      like-side before party party a (over_attempt a) side (over side) (λ is. absurd (cc)) facts in
      let now_over : HasSideFacts now party (over_attempt a) (over side) =
      side-moved (over_attempt a) (over side) (λ is. absurd (cc)) own before_over in
      like-side now party (sessions_over party) (over_attempt a) (over_attempt a) (over side) (over side)
      (λ is. is) now_over

  sides-over : (attempts : List Attempt) → AllByRecursion (λ a. IfSome a.server (GrantsBegun now party a)) attempts
      → AllByRecursion (λ a. IfSome a.server (HasSideFacts before party a)) attempts
      → AllByRecursion (λ a. IfSome a.server (HasSideFacts now (sessions_over party) a)) (all_over attempts)
  sides-over [] own facts = tt
  sides-over (a ∷ older) own facts = (by a.server own.0 facts.0, sides-over older own.1 facts.1)
    where
      by : (o : Option ServerSide) → IfSome o (GrantsBegun now party a) → IfSome o (HasSideFacts before party a)
          → IfSome (option_map over o) (HasSideFacts now (sessions_over party) (over_attempt a))
      by None mine its = tt
      by (Some side) mine its = side-over a side mine its

  clients-over : (attempts : List Attempt) → AllByRecursion (HasClientFacts party) attempts
      → AllByRecursion (HasClientFacts (sessions_over party)) (all_over attempts)
  clients-over [] facts = tt
  clients-over (a ∷ older) facts =
      (like-client party (sessions_over party) a (over_attempt a) facts.0, clients-over older facts.1)

  granted-over : (task number : ℕ) (a : Attempt) → IsGranted task number a → IsGranted task number (over_attempt a)
  granted-over task number a granted = (granted.0, over granted.1, granted.2, ap (option_map over) granted.3, granted.4)

  numbered-over : (facts : HasFactsApart before files party) (task number : ℕ) (file : List ℕ)
      → HasNumber (sessions_over party) task number
      → IsFileOf files party task file → IsNumbered now (sessions_over party) task number file
  numbered-over facts task number file has is =
      let mine : HasNumber party task number = number-like party (sessions_over party) task number has in
      let was = facts.numbered task number file mine is in
      record {
        below = omega (arith, was.below, moves.keeps.next);
        stands = moves.file task number file mine is;
        granted = one-map (IsGranted task number) over_attempt party.attempts (granted-over task number) was.granted;
      }

-- ---- what is fetched

-- what a download looks at of the client and its current attempt stays, as long as the same comes
module _ (store : Store) (party : Party) (a : Attempt) (attempts : List Attempt) (o : Option ServerSide)
    (coming : coming_by a a.server ≡ coming_by (record a { server = o }) o) where
  fetches-as : (at : Download) → Fetches store party a at
      → Fetches store (record party { attempts = attempts }) (record a { server = o }) at
  fetches-as at f = record {
    first =
        subst (λ (octets : List ℕ). AreFirstIfAny store at.number (got party at.number ++ (at.rest ++ octets))) coming
        f.first;
    offset = f.offset;
    asked = f.asked;
    counted = f.counted;
  }

  fetches_in-as : (phase : DownloadPhase) (at : Download) → FetchesIn phase store party a at
      → FetchesIn phase store (record party { attempts = attempts }) (record a { server = o }) at
  fetches_in-as fetch.Login at f = f
  fetches_in-as fetch.Fetching at f = fetches-as at f
  fetches_in-as fetch.Done at f = f

  fetches_by-as : (ending : Option Ending) (doing : Work) → FetchesBy ending doing store party a
      → FetchesBy ending doing store (record party { attempts = attempts }) (record a { server = o })
  fetches_by-as None (work.Download at) f = fetches_in-as at.phase at f
  fetches_by-as (Some ending) (work.Download at) f = f
  fetches_by-as None (work.Upload at) f = tt
  fetches_by-as (Some ending) (work.Upload at) f = tt
  fetches_by-as None (work.Directory at) f = tt
  fetches_by-as (Some ending) (work.Directory at) f = tt

  pub fetching-as : IsFetching store party a
      → IsFetching store (record party { attempts = attempts }) (record a { server = o })
  fetching-as f link = fetches_by-as a.client.attempted.job.ending a.client.attempted.job.work (f link)

coming-over : (a : Attempt) (o : Option ServerSide)
    → coming_by a o ≡ coming_by (record a { server = option_map over o }) (option_map over o)
coming-over a None = refl
coming-over a (Some side) = refl

fetching-over : (store : Store) (party : Party) (attempts all : List Attempt)
    → IfSome (slice_get attempts 0) (IsFetching store party)
    → IfSome (slice_get (all_over attempts) 0) (IsFetching store (record party { attempts = all }))
fetching-over store party [] all f = tt
fetching-over store party (a ∷ older) all f =
    fetching-as store party a all (option_map over a.server) (coming-over a a.server) f

-- ---- all facts

-- they hold over the store then, with all sessions over
pub facts-left : (files : List Asked) (party : Party) (before now : Store) → MovesTo files party before now
    → HasFacts before files party → HasFacts now files (sessions_over party)
facts-left files party before now moves facts =
    let each = apart before files party facts in
    together now files (sessions_over party)
    (record {
      numbered = numbered-over files party before now moves each;
      acknowledged = λ task number holds.
          keeps-task_kept files before now party task number moves.keeps.complete (each.acknowledged task number holds);
      attempts = clients-over files party before now moves party.attempts each.attempts;
      sides = sides-over files party before now moves party.attempts moves.begun each.sides;
      got_front =
          λ number. keeps-first_any before now number (got party number) moves.keeps.complete (each.got_front number);
      fetching =
          fetching-over now party party.attempts (all_over party.attempts)
          (keeps-fetching_some before now party (slice_get party.attempts 0) moves.keeps.complete each.fetching);
    })
