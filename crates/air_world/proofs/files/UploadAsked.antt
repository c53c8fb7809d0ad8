-- UPLOAD_CMD to a session of an upload: the file is refused, begun, or goes on.
use Rattle.std.proofs.Common.{◌≡◌, inl, inr, ℕ, ◌+◌, ◌<◌, List, [], ◌∷◌, ◌++◌, length, drop, take, append-nil}
use Rattle.std.proofs.Common.{length-append, refl, ap, sym, ◌∙◌, subst, arith, Bool, true, Some}
use Rattle.file_store.specs.Command.{after_all}
use Rattle.ftl0_session.specs.Table.{Row}
use Rattle.ftl0_server.specs.Entries as session
use Rattle.ftl0_client_job.specs.declared.work.Work.TheVariants as work
use Rattle.air_world.specs.Files.UploadDialogue.{refused}
use Rattle.air_world.proofs.files.Names.{Ok, Decides-eqb, nat_tests, take_at, All-nil, same_Some, IsFront, Item, PacketValue, ul_ack_resp, ul_error_resp, ul_go_resp, upload_cmd, IsCompleteIn, Command, begin, can_begin, Entry, Store, entry_of, new_entry, partial, Session, State, command, receiving, SessionEntry, Work, Upload, Has, Asked, Party, Acknowledges, AsksUpload, Offers, octets_come, octets_taken, said_behind_server, IsGreeting, ServerSide, said_by_client, said_by_server, IsDueNow, Serves, IsServed, IsBegun, IsGrantKept, Receives, GoesOnWith, IsOfferFor, ServesUpload, answered_in, received_items, receives, receiving_said, unasked}
use Rattle.air_world.proofs.files.EntryLemmas.{answered-more, answers-now, items-more, said-more, with_entry}
use Rattle.air_world.proofs.files.GrowingLemmas.{begun-first, begun-there}
use Rattle.air_world.proofs.files.OwnerLemmas.{next-none, own-next}
use Rattle.air_world.proofs.files.SideLemmas.{EntryDoes, RowDoes, acks-still, done, gone_attempt, idle-does, idle_row}
use Rattle.air_world.proofs.files.SideLemmas.{side-kept, side-new}
use Rattle.air_world.proofs.files.UploadServed.{Stage, asks-upload, items-taken, serves-upload, unasked-alone}

-- a side in command, or in receiving, has nothing due
pub due-command : (store : Store) (side : ServerSide) (x : SessionEntry) (up : Bool)
    → IsDueNow store (with_entry side x command up)
due-command store side x up = record { lies = tt; octets = All-nil _ }

pub due-receiving : (store : Store) (side : ServerSide) (x : SessionEntry) (number : ℕ) (rest : List ℕ) (up : Bool)
    → IsDueNow store (with_entry side x (receiving number rest) up)
due-receiving store side x number rest up = record { lies = tt; octets = All-nil _ }

-- one reply is this packet
pub alone-is : (answer packet : PacketValue) → Has (answer ∷ []) packet → answer ≡ packet
alone-is answer packet (inl is) = is
alone-is answer packet (inr none) = absurd none

-- UPLOAD_CMD of one number is of no other
pub cmd-number : (item : Item) (number other file_length that : ℕ) → item ≡ Ok (upload_cmd number file_length)
    → item ≡ Ok (upload_cmd other that)
    → (number ≡ other) × (file_length ≡ that)
cmd-number item number other file_length that one two = (cc, cc)

-- LOGIN_RESP and an offer acknowledge nothing
no-ack : (greeting : PacketValue) (number offset : ℕ) → IsGreeting greeting
    → Has (greeting ∷ ul_go_resp number offset ∷ []) ul_ack_resp → ⊥
no-ack greeting number offset greets (inl is) = let both = sym greets.2 ∙ is in cc
no-ack greeting number offset greets (inr (inl is)) = cc
no-ack greeting number offset greets (inr (inr none)) = none

front-take : (held file : List ℕ) (more : ℕ) → more ≡ 0 → IsFront held file
    → held ++ [] ≡ take (length held + more) file
front-take held file more none front =
    append-nil held ∙ sym (take_at held front.0 (length held + more) (omega (arith, none)))
    ∙ ap (take (length held + more)) (sym front.1)

module _ (files : List Asked) (c : ℕ) (party : Party) (before : Session) (served : IsServed files c party before)
    (at : Upload) (asked_is : served.attempt.client.asked ≡ work.Upload at)
    (is : Stage files c party before served at asked_is unasked) where
  abbrev pub asking : Item
  asking = Ok (upload_cmd at.known (length at.file))

  abbrev serves : ServesUpload at.known at.file served.side
  serves = serves-upload files c party before served at asked_is

  none-answered : answered_in served.side.entries ≡ []
  none-answered = serves.items ∙ ap (received_items at.known (length at.file)) is

  none-said : session.said_in served.side.entries ≡ []
  none-said = serves.said ∙ ap receiving_said is

  module _ (row : Row) (state : State) (up : Bool) where
    abbrev pub gone : ServerSide
    gone = with_entry served.side (session.took asking row) state up

    pub one-answered : answered_in gone.entries ≡ asking ∷ []
    one-answered =
        answered-more served.side.entries (session.took asking row)
        ∙ ap (λ (items : List Item). items ++ asking ∷ []) none-answered

    pub one-said : session.said_in gone.entries ≡ row.replies
    one-said =
        said-more served.side.entries (session.took asking row)
        ∙ ap (λ (packets : List PacketValue). packets ++ row.replies) none-said

    pub serves-as : (store : Store) → ServesUpload at.known at.file gone → Serves store served.attempt.client.asked gone
    serves-as store those = subst (λ (doing : Work). Serves store doing gone) (sym asked_is) those

  -- ---- refused

  module _ (code : ℕ) (small : code < 256) (whole : code ≡ 12 → IsCompleteIn before.store at.known) where
    abbrev refused_row : Row
    refused_row = idle_row before command (ul_error_resp code ∷ [])

    refused-does : RowDoes files party before asking refused_row
    refused-does =
        idle-does files c party before served asking command (ul_error_resp code ∷ []) (small, tt) (refl, tt)
        (λ number file_length item says. absurd (cc))

    pub asked-refused : EntryDoes files c party before served asking refused_row
    asked-refused = record {
      does = refused-does;
      sides = λ up.
          let x : SessionEntry = session.took asking refused_row in
          let now : ServerSide = with_entry served.side x command up in
          side-new before.store
          (done files c party before served now)
          (gone_attempt files c party before served now) served.side x command up
          (side-kept files c party before served asking refused_row refused-does now)
          (record {
            grants = λ number file_length answer. absurd (let no = answer.1 in cc);
            offers =
                λ number offset has. absurd
                (let same = alone-is (ul_error_resp code) (ul_go_resp number offset) has in cc);
            acks =
                acks-still before.store party served.attempt served.side x command up
                (λ number offset has. let same = alone-is (ul_error_resp code) (ul_go_resp number offset) has in cc)
                (λ has. let same = alone-is (ul_error_resp code) ul_ack_resp has in cc);
            tells = λ number file_length answer.
                let same = cmd-number asking at.known number (length at.file) file_length refl answer.0 in
                let no = answer.1 in
                let twelve : code ≡ 12 = cc in
                subst (IsCompleteIn before.store) same.0 (whole twelve);
          })
          (λ number rest is_up receives. absurd (cc))
          (λ is_up. due-command before.store served.side x up)
          (serves-as refused_row command up before.store
          (record {
            stage = refused code;
            items = one-answered refused_row command up;
            said = one-said refused_row command up;
            state = λ all. refl;
            offered = tt;
            first = answers-now served.side x command up asking (ul_error_resp code) (refl, refl);
          }));
    }

  -- ---- begun, or gone on

  -- the session receives the file of this number, from this offset on, as many octets as are held
  module _ (number offset : ℕ) (row : Row) (up : Bool) (replies_are : row.replies ≡ ul_go_resp number offset ∷ []) where
    abbrev pub offering : ServerSide
    offering = with_entry served.side (session.took asking row) (receiving number []) up

    said-offer : said_by_server offering ≡ served.side.greeting ∷ ul_go_resp number offset ∷ []
    said-offer =
        ap (λ (packets : List PacketValue). served.side.greeting ∷ packets)
        (one-said row (receiving number []) up ∙ replies_are)

    offers-it : Offers offering number offset
    offers-it =
        subst (λ (packets : List PacketValue). Has packets (ul_go_resp number offset)) (sym said-offer) (inr (inl refl))

    pub none-acked : (n : ℕ) → Acknowledges offering n → ⊥
    none-acked n acks =
        no-ack served.side.greeting number offset served.greets
        (subst (λ (packets : List PacketValue). Has packets ul_ack_resp) said-offer acks.1)

    one-item : session.items_in offering.entries ≡ asking ∷ []
    one-item =
        items-more served.side.entries (session.took asking row)
        ∙ ap (λ (items : List Item). items ++ asking ∷ [])
        (items-taken files c party before served at asked_is ∙ ap (received_items at.known (length at.file)) is)

    none-come : octets_come offering ≡ 0
    none-come = ap (λ (items : List Item). length (octets_taken items)) one-item

    none-behind : said_behind_server offering served.attempt.client ≡ []
    none-behind =
        ap (λ (items : List Item). drop (length items) (said_by_client served.attempt.client)) one-item
        ∙ unasked-alone files c party before served at asked_is is

    -- what it offers, once it is the upload's
    pub serves-offer : IsOfferFor at.known number offset → ServesUpload at.known at.file offering
    serves-offer offer = record {
      stage = receives number offset [];
      items = one-answered row (receiving number []) up;
      said = one-said row (receiving number []) up ∙ replies_are;
      state = λ all. ([], refl);
      offered = offer;
      first =
          answers-now served.side (session.took asking row) (receiving number []) up asking (ul_go_resp number offset)
          (refl, replies_are);
    }

    pub receives-offer : (store : Store) (entry : Entry) (held : List ℕ) → entry_of store number ≡ Some entry
        → entry.holding ≡ partial held
        → entry.caller ≡ party.client.me → entry.length ≡ length at.file → length held ≡ offset → IsFront held at.file
        → Receives store (done files c party before served offering)
        (gone_attempt files c party before served offering) offering number []
    receives-offer store entry held found holds by long count front = record {
      task = at.task;
      known = at.known;
      file = at.file;
      asks = asks-upload files c party before served at asked_is;
      entry = entry;
      is_entry = found;
      held = held;
      holds = holds;
      caller_is = by;
      length_is = long;
      few = omega arith;
      offset = offset;
      offers = offers-it;
      came =
          front-take held at.file (octets_come offering) none-come front
          ∙ ap (λ (n : ℕ). take (n + octets_come offering) at.file) count;
      within =
          let split : length at.file ≡ length held + length front.0 = ap length front.1 ∙ length-append held front.0 in
          omega (arith, none-come, count, split);
      goes_on = subst (GoesOnWith at.file (offset + octets_come offering)) (sym none-behind) tt;
    }

  -- ---- begun

  module _ (moment : ℕ) (new : at.known ≡ 0) (may : can_begin before.store (length at.file) ≡ true) where
    abbrev next : ℕ
    next = before.store.next

    abbrev begun_commands : List Command
    begun_commands = begin next party.client.me (length at.file) moment ∷ []

    abbrev begun_row : Row
    begun_row =
        record {
          state = receiving next [];
          lists = before.lists;
          commands = begun_commands;
          replies = ul_go_resp next 0 ∷ [];
        }

    abbrev store_begun : Store
    store_begun = after_all before.store begun_commands

    few-numbers : next < 4294967295
    few-numbers = grind (arith, nat_tests)

    begun-does : RowDoes files party before asking begun_row
    begun-does = record {
      commands =
          record { own = (refl, tt); allowed = (rw ((Decides-eqb next next).1 refl, may) refl, tt); brings = (tt, tt); drops = (tt, tt) };
      lists = refl;
      fits = ((omega (arith, few-numbers), omega arith), tt);
      quiet = (refl, tt);
      n = next;
      others = begun-first before.store next party.client.me (length at.file) moment;
      file =
          λ count task file has is. absurd
          (next-none before.store files party served.facts served.once task file has is);
      own = own-next before.store files party served.facts served.once;
      new = λ number file_length answer. let same = answer.1 in let it : next ≡ number = cc in omega (arith, it);
    }

    begun-entry : entry_of store_begun next ≡ Some (new_entry next party.client.me (length at.file) moment)
    begun-entry = begun-there before.store party.client.me (length at.file) moment served.store.is_store

    abbrev now_begun : Bool → ServerSide
    now_begun up = with_entry served.side (session.took asking begun_row) (receiving next []) up

    -- the number that it gives
    begun-grant : (up : Bool) (number file_length : ℕ) → number ≡ next → file_length ≡ length at.file
        → IsGrantKept store_begun (done files c party before served (now_begun up))
        (gone_attempt files c party before served (now_begun up)) number file_length
    begun-grant up number file_length same long = record {
      some = omega (arith, same, served.store.is_store.next);
      below = omega (arith, same);
      task = at.task;
      file = at.file;
      asks =
          subst (λ (known : ℕ). AsksUpload served.attempt at.task known at.file) new
          (asks-upload files c party before served at asked_is);
      length_is = long;
      begun = λ none entry there.
          let found : entry_of store_begun next ≡ Some entry =
          subst (λ (n : ℕ). entry_of store_begun n ≡ Some entry) same there in
          let is_new = same_Some (new_entry next party.client.me (length at.file) moment) entry
          (sym begun-entry ∙ found) in
          subst (IsBegun party.client.me file_length) is_new
          (record { caller_is = refl; length_is = sym long; nothing = refl });
    }

    pub asked-begun : EntryDoes files c party before served asking begun_row
    asked-begun = record {
      does = begun-does;
      sides = λ up.
          let x : SessionEntry = session.took asking begun_row in
          let now : ServerSide = now_begun up in
          side-new store_begun (done files c party before served now)
          (gone_attempt files c party before served now) served.side x (receiving next []) up
          (side-kept files c party before served asking begun_row begun-does now)
          (record {
            grants = λ number file_length answer.
                let same = answer.1 in
                let it : number ≡ next = cc in
                begun-grant up number file_length it
                (sym (cmd-number asking at.known 0 (length at.file) file_length refl answer.0).1);
            offers = λ number offset has.
                let same = alone-is (ul_go_resp next 0) (ul_go_resp number offset) has in
                let it : next ≡ number = cc in
                let from : 0 ≡ offset = cc in
                (omega (arith, it), λ entry there. omega (arith, from));
            acks = λ number acks. absurd (none-acked next 0 begun_row up refl number acks);
            tells = λ number file_length answer. absurd (let no = answer.1 in cc);
          })
          (λ number rest is_up state.
          let it : next ≡ number = cc in
          let none : [] ≡ rest = cc in
          subst (λ (r : List ℕ). Receives store_begun (done files c party before served now)
          (gone_attempt files c party before served now) now number r) none
          (subst (λ (n : ℕ). Receives store_begun (done files c party before served now)
          (gone_attempt files c party before served now) now n []) it
          (receives-offer next 0 begun_row up refl store_begun
          (new_entry next party.client.me (length at.file) moment) [] begun-entry refl refl refl refl
          (at.file, refl))))
          (λ is_up. due-receiving store_begun served.side x next [] up)
          (serves-as begun_row (receiving next []) up store_begun (serves-offer next 0 begun_row up refl
          (record { new = λ zero. refl; same = λ some. absurd (let x : ⊥ = omega (arith, new, some) in x) })));
    }
