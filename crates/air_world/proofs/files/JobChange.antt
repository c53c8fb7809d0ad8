-- What of a client's facts changes with its notes and its current attempt, over the same store.
use Rattle.std.proofs.Common.{◌≡◌, ℕ, ◌+◌, List, ◌∷◌, true, Option, None, Some, refl}
use Rattle.ftl0_client.specs.Client.{Refused}
use Rattle.air_world.proofs.files.Names.{IfSome, AllByRecursion, Store, receiving, Lists, Attempted, JobEntry, Attempt, Asked, IsFileOf, Party, AsksUpload, octets_come, said_behind_server, ServerSide, each-weaker, Says, AreFirstIfAny, AskedWithin, GoesOnWithTask, HasFacts, HasFetched, HasNumber, IsFetching, IsGrantKept, IsNumbered, NotesGrant, Receives, got, HoldsAck, IsTaskKept, GoesOnWith}
use Rattle.air_world.proofs.files.ReceivesAs.{receives-as}

-- the client with these notes, this link, this DM to be sent and these attempts
abbrev pub made : Party → Lists → Option Attempted → Option Refused → List Attempt → Party
made base lists link stray attempts =
    record base { client = record base.client { lists = lists; attempt = link; stray = stray }; attempts = attempts }

-- the attempt with this link and job, and these entries
abbrev pub moved : Attempt → Attempted → List JobEntry → Attempt
moved a now entries = record a { client = record a.client { attempted = now; entries = entries } }

-- What is to be shown of other notes and another current attempt, if the facts are true of a client.
pub record Changes (store : Store) (files : List Asked) (old new : Party) (a b : Attempt)
    (older : List Attempt) : Type 0 where
  pub numbers : (task number : ℕ) → HasNumber old task number → HasNumber new task number
  pub numbered :
      (task number : ℕ) (file : List ℕ) → HasNumber new task number → IsFileOf files old task file
      → IsNumbered store old task number file
  pub acknowledged : (task number : ℕ) → HoldsAck new task number → IsTaskKept files store old task number
  pub noted : NotesGrant new b
  pub receives :
      (side : ServerSide) (number : ℕ) (rest : List ℕ) → a.server ≡ Some side → side.is_up ≡ true
      → side.connected.state ≡ receiving number rest
      → (r : Receives store old a side number rest)
      → GoesOnWith r.file (r.offset + octets_come side) (said_behind_server side b.client)
  pub says : Says a.client.asked b.client
  pub got_front : (number : ℕ) → AreFirstIfAny store number (got new number)
  pub fetching : IsFetching store new b
  pub fetched : AllByRecursion (HasFetched new) (b ∷ older)
  pub asked_within : AllByRecursion (AskedWithin new) (b ∷ older)

pub some-so : {X : Type 0} {P Q : X → Type 0} (o : Option X) → ((x : X) → o ≡ Some x → P x → Q x) → IfSome o P
    → IfSome o Q
some-so None so if = tt
some-so (Some x) so if = so x refl if

module _ (store : Store) (files : List Asked) (base : Party) (lists now_lists : Lists)
    (link now_link : Option Attempted) (stray now_stray : Option Refused)
    (a : Attempt) (now : Attempted) (entries : List JobEntry) (older : List Attempt) where
  abbrev old : Party
  old = made base lists link stray (a ∷ older)

  abbrev b : Attempt
  b = moved a now entries

  abbrev new : Party
  new = made base now_lists now_link now_stray (b ∷ older)

  pub change : HasFacts store files old → Changes store files old new a b older → HasFacts store files new
  change f c = record {
    tasks = record {
      numbered = λ task number file has is.
          let n = c.numbered task number file has is in
          record { below = n.below; stands = n.stands; granted = n.granted };
      acknowledged = c.acknowledged;
      noted = (
        c.noted,
        each-weaker older
            (λ x h task number file asks took. c.numbers task number (h task number file asks took)) f.tasks.noted.1,
      );
      goes_on =
          each-weaker {P = GoesOnWithTask old} {Q = GoesOnWithTask new} (b ∷ older)
          (λ x h task known file asks some. c.numbers task known (h task known file asks some)) f.tasks.goes_on;
    };
    sessions = record {
      granted = (
        some-so a.server (λ side is h number len gives. grant a b (λ task file asks. asks) number len
            (h number len gives)) f.sessions.granted.0,
        each-weaker older (λ x if. some-so x.server
            (λ side is h number len gives. grant x x (λ task file asks. asks) number len (h number len gives)) if)
            f.sessions.granted.1,
      );
      complete = f.sessions.complete;
      offered = f.sessions.offered;
      receives = (
        some-so a.server
            (λ side is h number rest up state.
            let r = h number rest up state in
            receives-as r r.asks r.is_entry r.caller_is r.offers r.came r.within (c.receives side number rest is up state r))
            f.sessions.receives.0,
        each-weaker older (λ x if. some-so x.server
            (λ side is h number rest up state. receive x side number rest (h number rest up state)) if)
            f.sessions.receives.1,
      );
      due = f.sessions.due;
      serves = f.sessions.serves;
      says = (c.says, f.sessions.says.1);
    };
    files_got = record {
      got_front = c.got_front;
      fetching = c.fetching;
      fetched = c.fetched;
      asked_within = c.asked_within;
    };
  }
    where
      grant : (x y : Attempt) → ((task : ℕ) (file : List ℕ) → AsksUpload x task 0 file → AsksUpload y task 0 file)
          → (number len : ℕ) → IsGrantKept store old x number len
          → IsGrantKept store new y number len
      grant x y asked number len g = record {
        some = g.some;
        below = g.below;
        task = g.task;
        file = g.file;
        asks = asked g.task g.file g.asks;
        length_is = g.length_is;
        begun = λ without. g.begun (λ has. without (c.numbers g.task number has));
      }

      receive : (x : Attempt) (side : ServerSide) (number : ℕ) (rest : List ℕ) → Receives store old x side number rest
          → Receives store new x side number rest
      receive x side number rest r = receives-as r r.asks r.is_entry r.caller_is r.offers r.came r.within r.goes_on
