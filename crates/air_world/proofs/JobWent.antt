-- A client whose job went on by entries is as it should be.
use Rattle.std.proofs.Common.{◌≡◌, ℕ, List, [], ◌∷◌, ◌++◌, length, Option, None, Some, refl, sym, ap, subst, ◌∙◌, inl}
use Rattle.std.proofs.Common.{append-nil, le_refl, take_all}
use Rattle.ftl0_packets.specs.Items.{kind_of_item}
use Rattle.ax25_link.specs.Ends.{LinkEnd}
use Rattle.client_notes.specs.Several as notes
use Rattle.ftl0_client.specs.Client.{heard_by}
use Rattle.ftl0_client.specs.Entries as job
use Rattle.air_world.proofs.Names.{map, Ok, AllByRecursion, same_Some, after_all, Lists, after_all-append, Work, JobStands, JobState, job_after, Attempted, with_end, AttemptStands, Happened, Client, JobEntry, Attempt, IsAnsweredBy, IsAttempt, GoesWith, EachAttempt, Party, newest, AreFirstOf, ClientSide, ServerSide, said_by_server, each-weaker, HasFacts, IsWorking, JobGoes, JobKeeps, JobTookFront, LooksServed, job_gone, started_with, with_job, AreTasks, IsWork, StandsBy, alike-itself, served-itself, tasks-lists, IsParty, Sound, ClientLaws, PartyAt, World}
use Rattle.air_world.proofs.ClientBasics.{HasLink, has-link, its-attempt, stands-job, working}
use Rattle.air_world.proofs.ClientMade.{IsClientMade}
use Rattle.air_world.proofs.SessionsStay.{SessionsStay, sessions_of}
use Rattle.air_world.proofs.ServerTicked.{its-session}
use Rattle.air_world.proofs.Rebuild.{work-by}

-- the notes after entries are those after their commands
pub goes-lists : (lists lists_now : Lists) (before now : JobState) (entries : List JobEntry)
    → job.GoesBy lists before entries lists_now now → lists_now ≡ after_all lists (job.commands_in entries)
goes-lists lists lists_now before now [] goes = goes.0
goes-lists lists lists_now before now (job.took item row ∷ entries) goes =
    goes-lists (after_all lists row.commands) lists_now (job_after row) now entries goes.2
    ∙ sym (after_all-append row.commands (job.commands_in entries) lists)
goes-lists lists lists_now before now (job.lost item row ∷ entries) goes =
    goes-lists (after_all lists row.commands) lists_now (job.after_losing (kind_of_item item) row) now entries goes.2
    ∙ sym (after_all-append row.commands (job.commands_in entries) lists)
goes-lists lists lists_now before now (job.passed item ∷ entries) goes =
    goes-lists lists lists_now before now entries goes.1
goes-lists lists lists_now before now (job.queued due ∷ entries) goes =
    goes-lists lists lists_now due.state now entries goes.1

no-more : {X : Type 0} (xs : List X) (y : X) (ys : List X) → xs ++ (y ∷ ys) ≡ [] → ⊥
no-more [] y ys is = absurd cc
no-more (x ∷ xs) y ys is = absurd cc

-- ---- the job goes on

module _ (laws : ClientLaws) (old : World) (sound : Sound old) (c : ℕ) (party : Party) (is-party : PartyAt old c party)
    (link : Attempted) (has : party.client.attempt ≡ Some link) where
  abbrev linked : HasLink old sound c party is-party link
  linked = has-link old sound c party is-party link has

  abbrev pub a : Attempt
  a = linked.attempt

  abbrev it : IsParty old c party
  it = sound.parties c party is-party

  -- what an event makes of the attempt and its job, by these entries, and the client then
  pub record Went (now : Client) : Type 0 where
    pub happened : Happened
    pub last : LinkEnd
    pub entries : List JobEntry
    pub goes : job.GoesBy party.client.lists link.job entries (after_all party.client.lists happened.noted)
        happened.after.job
    pub noted : happened.noted ≡ job.commands_in entries
    pub stands : AttemptStands a.client.asked (after_all party.client.lists happened.noted) happened.after
    pub now_is : now ≡ (heard_by party.client (record happened { after = with_end happened.after last })).after
    pub gone : Attempt
    pub client_is : gone.client ≡ record a.client {
      attempted = with_end happened.after last;
      entries = a.client.entries ++ entries;
    }
    pub server_is : gone.server ≡ a.server
    pub goes_with : GoesWith now (gone ∷ linked.older)

  module _ (now : Client) (went : Went now) where
    abbrev pub attempted-now : Attempted
    attempted-now = with_end went.happened.after went.last

    abbrev pub now-party : Party
    now-party = record party { client = now; attempts = went.gone ∷ linked.older }

    now-attempt : now.attempt ≡ Some attempted-now
    now-attempt = ap (λ (it : Client). it.attempt) went.now_is

    now-lists : now.lists ≡ after_all party.client.lists went.happened.noted
    now-lists = ap (λ (it : Client). it.lists) went.now_is

    gone-is : IsAttempt now.me now.server went.gone
    gone-is = went.goes_with.attempts_are.0

    me-is : now.me ≡ party.client.me
    me-is = ap (λ (it : Client). it.me) went.now_is

    server-is : now.server ≡ party.client.server
    server-is = ap (λ (it : Client). it.server) went.now_is

    entries-are : went.gone.client.entries ≡ a.client.entries ++ went.entries
    entries-are = ap (λ (side : ClientSide). side.entries) went.client_is

    front : JobTookFront a went.entries
    front = by went.entries refl a.server refl
      where
        by : (entries : List JobEntry) → went.entries ≡ entries → (o : Option ServerSide) → a.server ≡ o
            → JobTookFront a entries
        by [] are o is = tt
        by (entry ∷ entries) are None is =
            let unanswered = subst (λ (o : Option ServerSide). IsAnsweredBy went.gone o)
            (went.server_is ∙ is) gone-is.answered in
            absurd (no-more a.client.entries entry entries
            (ap (λ (those : List JobEntry). a.client.entries ++ those) (sym are) ∙ sym entries-are
            ∙ unanswered.unserved))
        by (entry ∷ entries) are (Some side) is = (
          side,
          record {
            is_side = is;
            greets =
                (its-session a a.server side is
                (its-attempt old sound c party is-party link has).answered).session.greets;
            client =
                subst (λ (those : List JobEntry). AreFirstOf (job.items_in those) (map Ok (said_by_server side)))
                (entries-are ∙ ap (λ (those : List JobEntry). a.client.entries ++ those) are)
                (laws.fronts now.me now.server went.gone side gone-is (went.server_is ∙ is)).1;
            server =
                (laws.fronts party.client.me party.client.server a side
                (its-attempt old sound c party is-party link has) is).0;
          },
        )

    abbrev works : IsWorking old.server.store old.files c party
    works = working old sound c party is-party link has

    goes-on : JobGoes party went.entries (after_all party.client.lists went.happened.noted) attempted-now a
    goes-on = record {
      goes =
          subst (λ (before : Attempted). job.GoesBy party.client.lists before.job went.entries
          (after_all party.client.lists went.happened.noted) attempted-now.job) (sym linked.attempted_is) went.goes;
      front = front;
    }

    kept : JobKeeps old.server.store old.files party
        (with_job party (after_all party.client.lists went.happened.noted) attempted-now
        (job_gone went.entries attempted-now a) linked.older) went.entries
    kept =
        laws.job old.server.store old.files c party went.entries
        (after_all party.client.lists went.happened.noted) attempted-now works tt tt goes-on

    facts-now : HasFacts old.server.store old.files now-party
    facts-now =
        let mid = with_job party (after_all party.client.lists went.happened.noted) attempted-now
        (job_gone went.entries attempted-now a) linked.older in
        laws.stay.same old.server.store old.files mid now-party
        (record {
          me = me-is;
          server = server-is;
          lists = now-lists;
          uploads = refl;
          attempts = (
            record {
              asked = ap (λ (side : ClientSide). side.asked) went.client_is;
              entries = entries-are;
              job = ap (λ (side : ClientSide). side.attempted.job) went.client_is;
              served =
                  subst (λ (o : Option ServerSide). LooksServed a.server o) (sym went.server_is)
                  (served-itself a.server);
            },
            alike-itself linked.older,
          );
          link =
              λ one other first newest_is linked_is. ap Some
              (ap (λ (it : Attempt). it.client.attempted)
              (same_Some (job_gone went.entries attempted-now a) one first));
        })
        kept.facts

    -- the tasks, after the entries and when the client starts again after the first of their commands
    pub tasks-during : (count : ℕ)
        → AreTasks old.files c (started_with party (notes.after_first count party.client.lists went.happened.noted))
    tasks-during count =
        subst (λ commands. AreTasks old.files c (started_with party
        (notes.after_first count party.client.lists commands))) (sym went.noted)
        (laws.tasks old.files c party went.entries
        (after_all party.client.lists went.happened.noted) link.job went.happened.after.job it.tasks went.goes
        count)

    pub facts-during : (count : ℕ)
        → HasFacts old.server.store old.files
        (started_with party (notes.after_first count party.client.lists went.happened.noted))
    facts-during count =
        subst (λ commands. HasFacts old.server.store old.files
        (started_with party (notes.after_first count party.client.lists commands))) (sym went.noted)
        (kept.during count)

    tasks-now : AreTasks old.files c now-party
    tasks-now =
        let count = length went.happened.noted in
        let all : notes.after_first count party.client.lists went.happened.noted ≡ after_all party.client.lists
        went.happened.noted = ap (λ commands. after_all party.client.lists commands)
        (take_all count went.happened.noted (le_refl count)) in
        tasks-lists old.files c (started_with party (notes.after_first count party.client.lists went.happened.noted))
        now-party me-is server-is (now-lists ∙ sym all) refl (tasks-during count)

    works-now : EachAttempt now-party (λ a. IsWork old.files now-party a.client.asked)
    works-now =
        let all : AllByRecursion (λ (it : Attempt). IsWork old.files party it.client.asked) (a ∷ linked.older) =
        subst (λ attempts. AllByRecursion (λ (it : Attempt). IsWork old.files party it.client.asked) attempts)
        linked.attempts_are it.works in
        let of = λ (asked : Work) (works : IsWork old.files party asked). work-by old.files party now-party asked
        server-is refl works in (
          of went.gone.client.asked (subst (λ asked. IsWork old.files party asked)
              (sym (ap (λ (side : ClientSide). side.asked) went.client_is)) all.0),
          each-weaker {P = (λ (it : Attempt). IsWork old.files party it.client.asked)} {Q =
              (λ it. IsWork old.files now-party it.client.asked)} linked.older
              (λ it works. of it.client.asked works) all.1,
        )

    job-now : StandsBy now-party (newest now-party)
    job-now link_is =
        let stands : JobStands went.gone.client.asked now.lists went.gone.client.attempted.job =
        subst (λ (side : ClientSide). JobStands side.asked now.lists side.attempted.job) (sym went.client_is)
        (subst (λ lists. JobStands a.client.asked lists went.happened.after.job) (sym now-lists) went.stands.job) in
        stands-job went.gone.client.asked now.lists went.gone.client gone-is.job stands

    sessions-now : SessionsStay party.attempts now-party.attempts
    sessions-now =
        inl
        (ap (λ (o : Option ServerSide). o ∷ sessions_of linked.older) went.server_is
        ∙ ap sessions_of (sym linked.attempts_are))

    pub client-made : IsClientMade old c party now-party []
    client-made = record {
      me = me-is;
      server = server-is;
      window = ap (λ (it : Client). it.window) went.now_is;
      goes = went.goes_with;
      works =
          subst (λ files. EachAttempt now-party (λ a. IsWork files now-party a.client.asked))
          (sym (append-nil old.files)) works-now;
      tasks = subst (λ files. AreTasks files c now-party) (sym (append-nil old.files)) tasks-now;
      job = job-now;
      facts = subst (λ files. HasFacts old.server.store files now-party) (sym (append-nil old.files)) facts-now;
      sessions = sessions-now;
      good = tt;
    }
