-- A world that the server's event made of a sound one is sound if the server, its places, its store and each client's
-- attempts and facts are as they should be.
use Rattle.std.proofs.Common.{◌≡◌, ℕ, ◌≤◌, List, Option, None, Some, length, refl, sym, ap, subst, ◌∙◌}
use Rattle.ftl0_client_job.specs.declared.work.Work.TheVariants as work
use Rattle.ftl0_client.specs.Laws as client
use Rattle.air_world.proofs.Names.{AllByRecursion, same_Some, IsCall, AreComplete, Work, Client, AttemptStands, Attempt, AreAttempts, Calls, IsBetween, Asked, EachAttempt, IsFileOf, IsLinkOf, Party, newest, all-at, all-by, each-weaker, IsGoodFile, HasFacts, IsSoundStore, AreTasks, IsWork, StandsBy, tasks-lists, AreGrantedOnce, AreStationsOf, IsParty, Sound, PartyAt, World}
use Rattle.air_world.proofs.ClientsStay.{ClientsStay, stay-each, stay-link, stay-newest}
use Rattle.air_world.proofs.Seats.{AreSeatsKnown, together}

-- the client, with its uploads, is as it was, and so are its sides of attempts
pub record StaysParty (old new : Party) : Type 0 where
  pub client : new.client ≡ old.client
  pub uploads : new.uploads ≡ old.uploads
  pub attempts : ClientsStay old.attempts new.attempts

-- the client at each place was there
pub record StayParties (old new : World) : Type 0 where
  pub me : new.server.me ≡ old.server.me
  pub window : new.server.window ≡ old.server.window
  pub files : new.files ≡ old.files
  pub many : length new.parties ≡ length old.parties
  pub each : (c : ℕ) (party : Party) → PartyAt new c party
      → (before : Party) × PartyAt old c before × StaysParty before party

-- what the server, its store and each client are to be
pub record IsMade (new : World) : Type 0 where
  pub between : IsBetween new.server
  pub known : AreSeatsKnown new
  pub store : IsSoundStore new.server.store
  pub lists : AreComplete new.server.store new.server.lists
  pub calls : (c : ℕ) (party : Party) → PartyAt new c party → Calls new.server party.client.me party.attempts
  pub facts : (c : ℕ) (party : Party) → PartyAt new c party → HasFacts new.server.store new.files party
  pub granted : AreGrantedOnce new

-- ---- what looks at the client and its uploads alone

file-same : (files : List Asked) (one other : Party) (task : ℕ) (file : List ℕ) → other.uploads ≡ one.uploads
    → IsFileOf files one task file → IsFileOf files other task file
file-same files one other task file uploads is =
    subst (λ (u : List ℕ). IsFileOf files (record other { uploads = u }) task file) (sym uploads) is

-- a work, by the client's server and its uploads
pub work-by : (files : List Asked) (one other : Party) (asked : Work) → other.client.server ≡ one.client.server
    → other.uploads ≡ one.uploads → IsWork files one asked → IsWork files other asked
work-by files one other (work.Upload at) server uploads is = file-same files one other at.task at.file uploads is
work-by files one other (work.Directory at) server uploads is = is
work-by files one other (work.Download at) server uploads is = (is.0 ∙ sym server, is.1)

-- the notes go with the job of the current attempt, of whatever one that is
pub stands-at : (party : Party) (o : Option Attempt) (a : Attempt) → o ≡ Some a → StandsBy party o
    → party.client.attempt ≡ Some a.client.attempted
    → AttemptStands a.client.asked party.client.lists a.client.attempted
stands-at party None a is stands link = absurd cc
stands-at party (Some b) a is stands link =
    subst (λ (it : Attempt). party.client.attempt ≡ Some it.client.attempted
    → AttemptStands it.client.asked party.client.lists it.client.attempted)
    (same_Some b a is) stands link

pub stands-by : (party : Party) (o : Option Attempt)
    → ((a : Attempt) → o ≡ Some a → party.client.attempt ≡ Some a.client.attempted
    → AttemptStands a.client.asked party.client.lists a.client.attempted) → StandsBy party o
stands-by party None each = tt
stands-by party (Some a) each = each a refl

module _ (old new : World) (sound : Sound old) (stay : StayParties old new) (made : IsMade new) where
  -- what was true of each client is true of each
  each-client : (P : Client → Type 0) → AllByRecursion (λ (p : Party). P p.client) old.parties
      → AllByRecursion (λ (p : Party). P p.client) new.parties
  each-client P all =
      all-by (λ (p : Party). P p.client) new.parties
      (λ c party is.
      let before = stay.each c party is in
      subst P (sym before.2.client) (all-at (λ (p : Party). P p.client) old.parties c before.0 all before.1))

  stations : AreStationsOf new
  stations = record {
    server = subst IsCall (sym stay.me) sound.stations.server;
    window = made.between.window;
    most = subst (λ n. n ≤ 8) (sym stay.many) sound.stations.most;
    are_calls = each-client (λ (it : Client). IsCall it.me) sound.stations.are_calls;
    distinct = λ c other party that is is_that same.
        let one = stay.each c party is in
        let two = stay.each other that is_that in
        let me = λ (it : Client). it.me in
        sound.stations.distinct c other one.0 two.0 one.1 two.1 (ap me (sym one.2.client) ∙ same ∙ ap me two.2.client);
    servers =
        subst (λ me. AllByRecursion (λ (p : Party). p.client.server ≡ me) new.parties) (sym stay.me)
        (each-client (λ (it : Client). it.server ≡ old.server.me) sound.stations.servers);
    windows =
        subst (λ w. AllByRecursion (λ (p : Party). p.client.window ≡ w) new.parties) (sym stay.window)
        (each-client (λ (it : Client). it.window ≡ old.server.window) sound.stations.windows);
  }

  module _ (c : ℕ) (party : Party) (is : PartyAt new c party) where
    server-is : party.client.server ≡ new.server.me
    server-is = all-at (λ (p : Party). p.client.server ≡ new.server.me) new.parties c party stations.servers is

    window-is : party.client.window ≡ new.server.window
    window-is = all-at (λ (p : Party). p.client.window ≡ new.server.window) new.parties c party stations.windows is

    -- of the client as it was, with its side of attempts as they are
    made-by : (before : Party) → PartyAt old c before → StaysParty before party → IsParty new c party
    made-by before was same =
        let it = sound.parties c before was in
        let calls = made.calls c party is in
        let asked = stay-each (λ side. IsWork old.files before side.asked) before.attempts party.attempts same.attempts
        it.works in
        let stands = stay-newest
        (λ side. before.client.attempt ≡ Some side.attempted
        → AttemptStands side.asked before.client.lists side.attempted)
        before.attempts party.attempts same.attempts
        (λ a now link. stands-at before (newest before) a now it.job link) in
        record {
          attempts =
              subst (λ server. AreAttempts party.client.me server party.attempts) (sym server-is) calls.attempts_are;
          windows =
              subst (λ w. AllByRecursion (λ (a : Attempt). a.window ≡ w) party.attempts) (sym window-is) calls.windows;
          works = subst (λ files. EachAttempt party (λ a. IsWork files party a.client.asked)) (sym stay.files)
              (each-weaker {P = (λ (a : Attempt). IsWork old.files before a.client.asked)} {Q =
              (λ a. IsWork old.files party a.client.asked)} party.attempts
              (λ a is. work-by old.files before party a.client.asked
              (ap (λ (it : Client). it.server) same.client) same.uploads is) asked);
          link = subst (λ link. IsLinkOf (newest party) link) (ap (λ (it : Client). it.attempt) (sym same.client))
              (stay-link before.attempts party.attempts before.client.attempt same.attempts it.link);
          may_step = subst client.MayStep (sym same.client) it.may_step;
          tasks = subst (λ files. AreTasks files c party) (sym stay.files)
              (tasks-lists old.files c before party (ap (λ (it : Client). it.me) same.client)
              (ap (λ (it : Client). it.server) same.client)
              (ap (λ (it : Client). it.lists) same.client) same.uploads it.tasks);
          job = stands-by party (newest party)
              (λ a now link.
              subst (λ (it : Client). AttemptStands a.client.asked it.lists a.client.attempted) (sym same.client)
              (stands a now (subst (λ (it : Client). it.attempt ≡ Some a.client.attempted) same.client link)));
          facts = made.facts c party is;
        }

  pub rebuilt : Sound new
  rebuilt = record {
    stations = stations;
    store = made.store;
    may_step = made.between.may_step;
    places = together new made.between made.known (λ c party is. (made.calls c party is).sits);
    lists = made.lists;
    files =
        subst (λ files. AllByRecursion (λ (asked : Asked). IsGoodFile asked.file) files) (sym stay.files) sound.files;
    parties = λ c party is. let before = stay.each c party is in made-by c party is before.0 before.1 before.2;
    granted = made.granted;
  }
