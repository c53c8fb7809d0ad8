-- The facts of a client taken apart: of one session, of one attempt, and of the client itself.
use Rattle.std.proofs.Common.{◌≡◌, ℕ, List, true, Some}
use Rattle.air_world.proofs.files.Names.{IfSome, IsCompleteIn, Store, receiving, Attempt, Has, Asked, EachAttempt, EachSide, IsFileOf, Party, newest, Grants, Offers, SaysComplete, ServerSide, each-at, each-from, IsDueNow, Says, Serves, AreFirstIfAny, AskedWithin, GoesOnWithTask, HasFacts, HasFetched, HasNumber, IsFetching, IsGrantKept, IsNumbered, IsOfferKept, NotesGrant, Receives, got, HoldsAck, IsTaskKept}
use Rattle.air_world.proofs.files.LiftLemmas.{each-side, side-at}

-- the facts of one session of an attempt, each as `HasSessionFacts` has it of all
abbrev pub GrantFact : Store → Party → Attempt → ServerSide → Type 0
GrantFact store party a side = (number file_length : ℕ) → Grants side number file_length
    → IsGrantKept store party a number file_length

abbrev pub CompleteFact : Store → ServerSide → Type 0
CompleteFact store side = (number : ℕ) → SaysComplete side number → IsCompleteIn store number

abbrev pub OfferFact : Store → ServerSide → Type 0
OfferFact store side = (number offset : ℕ) → Offers side number offset → IsOfferKept store number offset

abbrev pub ReceiveFact : Store → Party → Attempt → ServerSide → Type 0
ReceiveFact store party a side =
    (number : ℕ) (rest : List ℕ) → side.is_up ≡ true → side.connected.state ≡ receiving number rest
    → Receives store party a side number rest

abbrev pub DueFact : Store → ServerSide → Type 0
DueFact store side = side.is_up ≡ true → IsDueNow store side

-- all of them
pub record HasSideFacts (store : Store) (party : Party) (a : Attempt) (side : ServerSide) : Type 0 where
  pub granted : GrantFact store party a side
  pub complete : CompleteFact store side
  pub offered : OfferFact store side
  pub receives : ReceiveFact store party a side
  pub due : DueFact store side
  pub serves : Serves store a.client.asked side

-- the facts of one attempt's client
pub record HasClientFacts (party : Party) (a : Attempt) : Type 0 where
  pub noted : NotesGrant party a
  pub goes_on : GoesOnWithTask party a
  pub says : Says a.client.asked a.client
  pub fetched : HasFetched party a
  pub asked_within : AskedWithin party a

-- the facts of a client, those of its sessions and attempts each on its own
pub record HasFactsApart (store : Store) (files : List Asked) (party : Party) : Type 0 where
  pub numbered :
      (task number : ℕ) (file : List ℕ) → HasNumber party task number → IsFileOf files party task file
      → IsNumbered store party task number file
  pub acknowledged : (task number : ℕ) → HoldsAck party task number → IsTaskKept files store party task number
  pub attempts : EachAttempt party (HasClientFacts party)
  pub sides : EachSide party (HasSideFacts store party)
  pub got_front : (number : ℕ) → AreFirstIfAny store number (got party number)
  pub fetching : IfSome (newest party) (IsFetching store party)

pub apart : (store : Store) (files : List Asked) (party : Party) → HasFacts store files party
    → HasFactsApart store files party
apart store files party facts = record {
  numbered = facts.tasks.numbered;
  acknowledged = facts.tasks.acknowledged;
  attempts = each-from party.attempts (λ a has. record {
    noted = each-at (NotesGrant party) party.attempts a facts.tasks.noted has;
    goes_on = each-at (GoesOnWithTask party) party.attempts a facts.tasks.goes_on has;
    says = each-at (λ it. Says it.client.asked it.client) party.attempts a facts.sessions.says has;
    fetched = each-at (HasFetched party) party.attempts a facts.files_got.fetched has;
    asked_within = each-at (AskedWithin party) party.attempts a facts.files_got.asked_within has;
  });
  sides = each-side party (λ a side has is. record {
    granted = side-at (GrantFact store party) party a side facts.sessions.granted has is;
    complete = side-at (λ _ it. CompleteFact store it) party a side facts.sessions.complete has is;
    offered = side-at (λ _ it. OfferFact store it) party a side facts.sessions.offered has is;
    receives = side-at (ReceiveFact store party) party a side facts.sessions.receives has is;
    due = side-at (λ _ it. DueFact store it) party a side facts.sessions.due has is;
    serves = side-at (λ it those. Serves store it.client.asked those) party a side facts.sessions.serves has is;
  });
  got_front = facts.files_got.got_front;
  fetching = facts.files_got.fetching;
}

pub together : (store : Store) (files : List Asked) (party : Party) → HasFactsApart store files party
    → HasFacts store files party
together store files party facts =
    let client : (a : Attempt) → Has party.attempts a → HasClientFacts party a =
    λ a has. each-at (HasClientFacts party) party.attempts a facts.attempts has in
    let session : (a : Attempt) (side : ServerSide) → Has party.attempts a → a.server ≡ Some side
    → HasSideFacts store party a side =
    λ a side has is. side-at (HasSideFacts store party) party a side facts.sides has is in
    record {
      tasks = record {
        numbered = facts.numbered;
        acknowledged = facts.acknowledged;
        noted = each-from party.attempts (λ a has. (client a has).noted);
        goes_on = each-from party.attempts (λ a has. (client a has).goes_on);
      };
      sessions = record {
        granted = each-side party (λ a side has is. (session a side has is).granted);
        complete = each-side party (λ a side has is. (session a side has is).complete);
        offered = each-side party (λ a side has is. (session a side has is).offered);
        receives = each-side party (λ a side has is. (session a side has is).receives);
        due = each-side party (λ a side has is. (session a side has is).due);
        serves = each-side party (λ a side has is. (session a side has is).serves);
        says = each-from party.attempts (λ a has. (client a has).says);
      };
      files_got = record {
        got_front = facts.got_front;
        fetching = facts.fetching;
        fetched = each-from party.attempts (λ a has. (client a has).fetched);
        asked_within = each-from party.attempts (λ a has. (client a has).asked_within);
      };
    }
