-- The facts of a session with one more entry, and what an entry's row has to do that the client keeps its facts.
use Rattle.std.proofs.Common.{◌≡◌, ◌⊎◌, inl, inr, ℕ, ◌≤◌, List, [], ◌∷◌, length, refl, ap, subst, Bool, Some}
use Rattle.file_store.specs.Command.{after_all}
use Rattle.ftl0_session.specs.Table.{Row}
use Rattle.ftl0_server.specs.Entries as session
use Rattle.air_world.proofs.files.Names.{IfSome, Ok, AllByRecursion, Fits, Item, PacketValue, ul_ack_resp, ul_error_resp, ul_go_resp, upload_cmd, IsCompleteIn, after_first, Store, entry_of, after_first-all, Session, State, SessionEntry, Attempt, Has, Asked, EachAttempt, EachSide, IsFileOf, Party, over, Acknowledges, IsAnswer, octets_of_data, ServerSide, said_by_server, some-at, Serves, HasNumber, IsGrantKept, IsOfferKept, IsFileAt, IsServed, LeftIn, with_attempt}
use Rattle.air_world.proofs.files.ApartLemmas.{DueFact, HasSideFacts, ReceiveFact, apart}
use Rattle.air_world.proofs.files.EntryLemmas.{AreRowCommands, answers-cases, row-follows, row-keeps, row-sound, says-cases, with_entry}
use Rattle.air_world.proofs.files.GrowingLemmas.{StayOthers}
use Rattle.air_world.proofs.files.LikeLemmas.{like-side}
use Rattle.air_world.proofs.files.MovedLemmas.{GrantsBegun, MovesTo, OwnGrants, facts-left, moves-to, side-moved}
use Rattle.air_world.proofs.files.OwnerLemmas.{next-none, own-next}
use Rattle.air_world.proofs.files.QuietKeeps.{first-none}

-- ---- what the row of an entry does

-- The row of a packet: its commands are the caller's, and change the entry of one number alone. That is on the way to
-- the file of each task that has the number, after each of them, and was given for those alone. It leaves the lists;
-- its replies can be said and bring no octets, and a number that it gives is new.
pub record RowDoes (files : List Asked) (party : Party) (before : Session) (item : Item) (row : Row) : Type 0 where
  pub commands : AreRowCommands party.client.me before.store row.commands
  pub lists : row.lists ≡ before.lists
  pub fits : AllByRecursion Fits row.replies
  pub quiet : AllByRecursion (λ p. octets_of_data p ≡ []) row.replies
  pub n : ℕ
  pub others : (count : ℕ) → StayOthers n before.store (after_first count before.store row.commands)
  pub file :
      (count task : ℕ) (file : List ℕ) → HasNumber party task n → IsFileOf files party task file
      → IsFileAt (after_first count before.store row.commands) n file party.client.me
  pub own : AllByRecursion (λ a. IfSome a.server (OwnGrants party n a)) party.attempts
  pub new :
      (number file_length : ℕ) → IsAnswer (Ok (upload_cmd 0 file_length)) (ul_go_resp number 0) (session.took item row)
      → before.store.next ≤ number

module _ (files : List Asked) (c : ℕ) (party : Party) (before : Session) (served : IsServed files c party before) where
  -- what is so of each attempt, or of each session, is so of the newest one
  pub newest-client : (P : Attempt → Type 0) → EachAttempt party P → P served.attempt
  newest-client P each = (subst (AllByRecursion P) served.attempts_are each).0

  pub newest-side : (P : Attempt → ServerSide → Type 0) → EachSide party P → P served.attempt served.side
  newest-side P each =
      some-at (P served.attempt) served.attempt.server served.side
      (subst (AllByRecursion (λ a. IfSome a.server (P a))) served.attempts_are each).0 served.is_side

  -- the newest attempt with its session gone on, and the client then
  abbrev pub gone_attempt : ServerSide → Attempt
  gone_attempt gone = record served.attempt { server = Some gone }

  abbrev pub done : ServerSide → Party
  done gone = with_attempt party (gone_attempt gone) served.older

  module _ (item : Item) (row : Row) (does : RowDoes files party before item row) where
    pub row-moves : (count : ℕ) → MovesTo files party before.store (after_first count before.store row.commands)
    row-moves count =
        moves-to files party before.store (after_first count before.store row.commands) does.n
        (record {
          keeps =
              row-keeps party.client.me before.store row.commands served.stands.call served.store does.commands count;
          others = does.others count;
          file = does.file count;
          own = does.own;
        })
        served.facts

    -- what a power cut leaves after some of its commands
    pub row-left : (count : ℕ) → LeftIn files party before.store (after_first count before.store row.commands)
    row-left count = record {
      facts =
          facts-left files party before.store (after_first count before.store row.commands)
          (row-moves count) served.facts;
      store = row-sound party.client.me before.store row.commands served.stands.call served.store does.commands count;
      follows =
          row-follows party.client.me before.store row.commands served.stands.call served.store does.commands count;
    }

    abbrev store_then : Store
    store_then = after_all before.store row.commands

    pub row-all : MovesTo files party before.store store_then
    row-all =
        subst (MovesTo files party before.store) (after_first-all row.commands before.store)
        (row-moves (length row.commands))

    pub left-all : LeftIn files party before.store store_then
    left-all =
        subst (LeftIn files party before.store) (after_first-all row.commands before.store)
        (row-left (length row.commands))

    -- the facts of the session as it was, over the store then
    module _ (gone : ServerSide) where
      pub side-kept : HasSideFacts store_then (done gone) (gone_attempt gone) (over served.side)
      side-kept =
          let a : Attempt = served.attempt in
          let side : ServerSide = served.side in
          let facts = newest-side (HasSideFacts before.store party)
          (apart before.store files party served.facts).sides in
          let begun = newest-side (GrantsBegun store_then party) row-all.begun in
          let before_over : HasSideFacts before.store party a (over side) =
          like-side before.store party party a a side (over side) (λ is. absurd (cc)) facts in
          let now_over : HasSideFacts store_then party a (over side) =
          side-moved files party before.store store_then row-all a (over side) (λ is. absurd (cc)) begun before_over in
          like-side store_then party (done gone) a (gone_attempt gone) (over side) (over side) (λ is. is) now_over

-- ---- a row without commands

-- the row of a packet at which only the state changes, and something is said
abbrev pub idle_row : Session → State → List PacketValue → Row
idle_row before state replies = record { state = state; lists = before.lists; commands = []; replies = replies }

module _ (files : List Asked) (c : ℕ) (party : Party) (before : Session) (served : IsServed files c party before) where
  pub idle-does : (item : Item) (state : State) (replies : List PacketValue) → AllByRecursion Fits replies
      → AllByRecursion (λ p. octets_of_data p ≡ []) replies
      → ((number file_length : ℕ) → item ≡ Ok (upload_cmd 0 file_length) → replies ≡ ul_go_resp number 0 ∷ []
      → before.store.next ≤ number)
      → RowDoes files party before item (idle_row before state replies)
  idle-does item state replies fits quiet new = record {
    commands = record { own = tt; allowed = tt; brings = tt; drops = tt };
    lists = refl;
    fits = fits;
    quiet = quiet;
    n = before.store.next;
    others = λ count other differs. ap (λ (s : Store). entry_of s other) (first-none count before.store);
    file =
        λ count task file has is. absurd (next-none before.store files party served.facts served.once task file has is);
    own = own-next before.store files party served.facts served.once;
    new = λ number file_length is. new number file_length is.0 is.1;
  }

  -- What an entry of the session does: its row does so, and the session with it has its facts, up or over.
  pub record EntryDoes (item : Item) (row : Row) : Type 0 where
    pub does : RowDoes files party before item row
    pub sides :
        (up : Bool)
        → HasSideFacts (after_all before.store row.commands)
        (done files c party before served (with_entry served.side (session.took item row) row.state up))
        (gone_attempt files c party before served (with_entry served.side (session.took item row) row.state up))
        (with_entry served.side (session.took item row) row.state up)

-- ---- the facts of a session with one more entry

-- What an entry says is so in the store: a number that it gives, an offer, and that a file is complete.
pub record SaysTrue (store : Store) (party : Party) (a : Attempt) (side : ServerSide) (x : SessionEntry) (state : State)
    (up : Bool)
    : Type 0 where
  pub grants :
      (number file_length : ℕ) → IsAnswer (Ok (upload_cmd 0 file_length)) (ul_go_resp number 0) x
      → IsGrantKept store party a number file_length
  pub offers : (number offset : ℕ) → Has (session.packets_said x) (ul_go_resp number offset)
      → IsOfferKept store number offset
  pub acks :
      (number : ℕ) → Acknowledges (with_entry side x state up) number
      → Acknowledges side number ⊎ IsCompleteIn store number
  pub tells :
      (number file_length : ℕ) → IsAnswer (Ok (upload_cmd number file_length)) (ul_error_resp 12) x
      → IsCompleteIn store number

module _ (store : Store) (party : Party) (a : Attempt) (side : ServerSide) (x : SessionEntry) (state : State)
    (up : Bool) where
  -- an entry that neither offers nor acknowledges
  pub acks-still : ((number offset : ℕ) → Has (session.packets_said x) (ul_go_resp number offset) → ⊥)
      → (Has (session.packets_said x) ul_ack_resp → ⊥)
      → (number : ℕ) → Acknowledges (with_entry side x state up) number
      → Acknowledges side number ⊎ IsCompleteIn store number
  acks-still no_go no_ack number acks = inl (
    (
      acks.0.0,
      by (ul_go_resp number acks.0.0) (says-cases side x state up (ul_go_resp number acks.0.0) acks.0.1)
          (no_go number acks.0.0),
    ),
    by ul_ack_resp (says-cases side x state up ul_ack_resp acks.1) no_ack,
  )
    where
      by : (packet : PacketValue) → Has (said_by_server side) packet ⊎ Has (session.packets_said x) packet
          → (Has (session.packets_said x) packet → ⊥)
          → Has (said_by_server side) packet
      by packet (inl before) none = before
      by packet (inr now) none = absurd (none now)

  pub side-new : HasSideFacts store party a (over side) → SaysTrue store party a side x state up
      → ReceiveFact store party a (with_entry side x state up) → DueFact store (with_entry side x state up)
      → Serves store a.client.asked (with_entry side x state up)
      → HasSideFacts store party a (with_entry side x state up)
  side-new old new receives due serves = record {
    granted = λ number file_length grants.
        elim (answers-cases side x state up (Ok (upload_cmd 0 file_length)) (ul_go_resp number 0) grants) [
          | inl before ↦ old.granted number file_length before
          | inr now ↦ new.grants number file_length now
        ];
    complete = λ number says.
        elim says [
          | inl acks ↦
              elim (new.acks number acks) [
                | inl before ↦ old.complete number (inl before)
                | inr whole ↦ whole
              ]
          | inr tells ↦
              elim (answers-cases side x state up (Ok (upload_cmd number tells.0)) (ul_error_resp 12) tells.1) [
                | inl before ↦ old.complete number (inr (tells.0, before))
                | inr now ↦ new.tells number tells.0 now
              ]
        ];
    offered = λ number offset offers.
        elim (says-cases side x state up (ul_go_resp number offset) offers) [
          | inl before ↦ old.offered number offset before
          | inr now ↦ new.offers number offset now
        ];
    receives = receives;
    due = due;
    serves = serves;
  }

  -- an entry that says nothing, and answers nothing
  pub silent-true : session.packets_said x ≡ [] → ((item : Item) (answer : PacketValue) → IsAnswer item answer x → ⊥)
      → SaysTrue store party a side x state up
  silent-true none no_answer =
      let nothing : (packet : PacketValue) → Has (session.packets_said x) packet → ⊥ =
      λ packet has. subst (λ (packets : List PacketValue). Has packets packet) none has in
      record {
        grants = λ number file_length is. absurd (no_answer _ _ is);
        offers = λ number offset has. absurd (nothing _ has);
        acks = acks-still (λ number offset. nothing (ul_go_resp number offset)) (nothing ul_ack_resp);
        tells = λ number file_length is. absurd (no_answer _ _ is);
      }
