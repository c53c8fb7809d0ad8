-- A client that an event leaves as it was, except for what was delivered and sent, and one that starts again from its
-- notes.
use Rattle.std.proofs.Common.{◌≡◌, ℕ, List, [], ◌∷◌, ◌++◌, Option, None, Some, refl, sym, ap, subst, inl, append-nil}
use Rattle.air_world.proofs.Names.{AllByRecursion, FrameValue, Transmission, IsWindow, Lists, AttemptStands, Attempt, AreAttempts, GoesWith, Asked, EachAttempt, Party, client_sends, newest, to_client_delivered, with_newest, ServerSide, each-weaker, HasFacts, LookLike, LooksLike, StayLaw, started_with, AreTasks, IsWork, IsGoodFile, alike-itself, served-itself, tasks-lists, IsParty, Sound, PartyAt, World}
use Rattle.air_world.proofs.ClientBasics.{goes-with}
use Rattle.air_world.proofs.ClientMade.{IsClientMade}
use Rattle.air_world.proofs.SessionsStay.{sessions_of}
use Rattle.air_world.proofs.ClientsStay.{ClientsStay, stay-each, stay-newest, stay-refl, stay-windows}
use Rattle.air_world.proofs.Rebuild.{stands-at, stands-by, work-by}
use Rattle.air_world.proofs.Likes.{same-party}

-- attempts whose sides are as they were, and so their sessions
pub record IsStill (olds news : List Attempt) : Type 0 where
  pub like : LookLike olds news
  pub clients : ClientsStay olds news
  pub sessions : sessions_of news ≡ sessions_of olds

module _ (stay_law : StayLaw) (old : World) (sound : Sound old) (c : ℕ) (party : Party) (is : PartyAt old c party)
    (attempts : List Attempt)
    (still : IsStill party.attempts attempts) where
  abbrev it : IsParty old c party
  it = sound.parties c party is

  works-of : (now : Party) → now.client.server ≡ party.client.server → now.uploads ≡ party.uploads
      → AllByRecursion (λ (a : Attempt). IsWork old.files now a.client.asked) attempts
  works-of now server uploads =
      each-weaker {P = (λ (a : Attempt). IsWork old.files party a.client.asked)} {Q =
      (λ a. IsWork old.files now a.client.asked)} attempts
      (λ a works. work-by old.files party now a.client.asked server uploads works)
      (stay-each (λ side. IsWork old.files party side.asked) party.attempts attempts still.clients it.works)

  -- the client is as it was
  pub quiet-made : GoesWith party.client attempts → IsClientMade old c party (record party { attempts = attempts }) []
  quiet-made goes =
      let now = record party { attempts = attempts } in
      let stands = stay-newest
      (λ side. party.client.attempt ≡ Some side.attempted → AttemptStands side.asked party.client.lists side.attempted)
      party.attempts attempts still.clients (λ a first link. stands-at party (newest party) a first it.job link) in
      record {
        me = refl;
        server = refl;
        window = refl;
        goes = goes;
        works =
            subst (λ files. EachAttempt now (λ a. IsWork files now a.client.asked)) (sym (append-nil old.files))
            (works-of now refl refl);
        tasks =
            subst (λ files. AreTasks files c now) (sym (append-nil old.files))
            (tasks-lists old.files c party now refl refl refl refl it.tasks);
        job = stands-by now (newest now) stands;
        facts =
            subst (λ files. HasFacts old.server.store files now) (sym (append-nil old.files))
            (stay_law.same old.server.store old.files party now
            (same-party party now refl refl still.like still.clients) it.facts);
        sessions = inl still.sessions;
        good = tt;
      }

  -- The client starts again from notes of which it has the facts and the tasks, if these files were asked.
  module _ (attempts_are : AreAttempts party.client.me party.client.server attempts) (asked : List Asked) (base : Party)
      (lists : Lists)
      (me_is : base.client.me ≡ party.client.me) (server_is : base.client.server ≡ party.client.server)
      (window_is : base.client.window ≡ party.client.window) (attempts_is : base.attempts ≡ party.attempts)
      (works : AllByRecursion (λ (a : Attempt). IsWork (old.files ++ asked) base a.client.asked) party.attempts) where
    abbrev pub started-party : Party
    started-party = record (started_with base lists) { attempts = attempts }

    pub started-made : AreTasks (old.files ++ asked) c (started_with base lists)
        → HasFacts old.server.store (old.files ++ asked) (started_with base lists)
        → AllByRecursion (λ (it : Asked). IsGoodFile it.file) asked → IsClientMade old c party started-party asked
    started-made tasks facts good = record {
      me = me_is;
      server = server_is;
      window = window_is;
      goes =
          record {
            window = subst IsWindow (sym window_is) (goes-with old sound c party is).window;
            attempts_are =
                subst (λ server. AreAttempts base.client.me server attempts) (sym server_is)
                (subst (λ me. AreAttempts me party.client.server attempts) (sym me_is) attempts_are);
            windows =
                stay-windows base.client.window party.attempts attempts still.clients
                (subst (λ w. AllByRecursion (λ (a : Attempt). a.window ≡ w) party.attempts) (sym window_is) it.windows);
            link = tt;
            may_step = record { silent = refl; fits = tt };
          };
      works =
          each-weaker {P = (λ (a : Attempt). IsWork (old.files ++ asked) base a.client.asked)} {Q =
          (λ a. IsWork (old.files ++ asked) started-party a.client.asked)} attempts
          (λ a work. work-by (old.files ++ asked) base started-party a.client.asked refl refl work)
          (stay-each (λ side. IsWork (old.files ++ asked) base side.asked) party.attempts attempts still.clients works);
      tasks = tasks-lists (old.files ++ asked) c (started_with base lists) started-party refl refl refl refl tasks;
      job =
          stands-by started-party (newest started-party)
          (λ a first link. absurd (let none : None ≡ Some a.client.attempted = link in cc));
      facts =
          stay_law.same old.server.store (old.files ++ asked) (started_with base lists) started-party
          (record {
            me = refl;
            server = refl;
            lists = refl;
            uploads = refl;
            attempts = subst (λ olds. LookLike olds attempts) (sym attempts_is) still.like;
            link =
                λ one other first newest_is link. absurd (let none : None ≡ Some other.client.attempted = link in cc);
          })
          facts;
      sessions = inl still.sessions;
      good = good;
    }

-- ---- which attempts are still so

pub still-newest : (change : Attempt → Attempt) (attempts : List Attempt)
    → ((a : Attempt) → IsStill (a ∷ []) (change a ∷ [])) → IsStill attempts (with_newest change attempts)
still-newest change [] each = record { like = tt; clients = tt; sessions = refl }
still-newest change (a ∷ older) each =
    let one = each a in
    record {
      like = (one.like.0, alike-itself older);
      clients = (one.clients.0, stay-refl older);
      sessions = ap (λ (sessions : List (Option ServerSide)). sessions ++ sessions_of older) one.sessions;
    }

pub still-itself : (attempts : List Attempt) → IsStill attempts attempts
still-itself attempts = record { like = alike-itself attempts; clients = stay-refl attempts; sessions = refl }

-- a delivery to the client is marked, and it sends frames
pub still-delivered : (place : ℕ) (t : Transmission) (attempts : List Attempt)
    → IsStill attempts (with_newest (to_client_delivered place t) attempts)
still-delivered place t attempts =
    still-newest (to_client_delivered place t) attempts
    (λ a. record { like = (alike a, tt); clients = (record { client = refl; window = refl }, tt); sessions = refl })
  where
    alike : (a : Attempt) → LooksLike a (to_client_delivered place t a)
    alike a = record { asked = refl; entries = refl; job = refl; served = served-itself a.server }

pub still-answered : (place : ℕ) (t : Transmission) (frames : List FrameValue) (attempts : List Attempt)
    → IsStill attempts (with_newest (client_sends frames) (with_newest (to_client_delivered place t) attempts))
still-answered place t frames [] = record { like = tt; clients = tt; sessions = refl }
still-answered place t frames (a ∷ older) = record {
  like = (record { asked = refl; entries = refl; job = refl; served = served-itself a.server }, alike-itself older);
  clients = (record { client = refl; window = refl }, stay-refl older);
  sessions = refl;
}
