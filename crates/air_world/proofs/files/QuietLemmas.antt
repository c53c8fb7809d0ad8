-- What the newest session of a client, which says nothing of uploading, leaves of the client's facts as it goes on.
use Rattle.std.proofs.Common.{◌≡◌, ◌≢◌, inl, inr, ℕ, List, [], ◌∷◌, refl, sym, ◌∙◌, subst, true, Option, None, Some}
use Rattle.ftl0_server.specs.Entries as session
use Rattle.ftl0_client_job.specs.declared.work.Work.TheVariants as work
use Rattle.air_world.proofs.files.Names.{IfSome, ⊤, AllByRecursion, Item, PacketValue, ul_ack_resp, ul_error_resp, ul_go_resp, IsCompleteIn, Store, receiving, SessionEntry, Work, Upload, new_upload, Attempt, Has, OneIs, Asked, EachAttempt, Party, Grants, IsAnswer, Offers, SaysComplete, ServerSide, each-at, each-weaker, one-left, one-right, IsDueNow, Says, Serves, AskedWithin, GoesOnWithTask, HasFacts, HasFetched, HasNumber, HasSessionFacts, HasTaskFacts, IsFetching, IsGrantKept, IsGranted, IsOfferKept, NotesGrant, Receives, with_attempt}

-- ---- what was said of uploading

-- the packet isn't of a session that receives
abbrev pub IsNoUpload : PacketValue → Type 0
IsNoUpload (ul_go_resp number offset) = ⊥
IsNoUpload (ul_error_resp code) = ⊥
IsNoUpload ul_ack_resp = ⊥
IsNoUpload packet = ⊤

-- what answers a packet was said
answer-said : (entries : List SessionEntry) (item : Item) (answer : PacketValue) → OneIs (IsAnswer item answer) entries
    → Has (session.said_in entries) answer
answer-said [] item answer one = one
answer-said (session.took taken row ∷ entries) item answer (inl is) =
    one-left (λ packet. packet ≡ answer) row.replies (session.said_in entries)
    (subst (λ (l : List PacketValue). Has l answer) (sym is.1) (inl refl))
answer-said (session.lost taken row ∷ entries) item answer (inl is) = absurd is
answer-said (session.queued due ∷ entries) item answer (inl is) = absurd is
answer-said (entry ∷ entries) item answer (inr one) =
    one-right (λ packet. packet ≡ answer) (session.packets_said entry) (session.said_in entries)
    (answer-said entries item answer one)

-- A session that says nothing of uploading.
module _ (side : ServerSide) (none : AllByRecursion IsNoUpload (session.said_in side.entries)) where
  pub grants-none : (number file_length : ℕ) → ¬ Grants side number file_length
  grants-none number file_length grants =
      each-at IsNoUpload (session.said_in side.entries) (ul_go_resp number 0) none (answer-said side.entries _ _ grants)

  -- except by its greeting
  pub offers-none : (number offset : ℕ) → Offers side number offset → side.greeting ≡ ul_go_resp number offset
  offers-none number offset (inl is) = is
  offers-none number offset (inr has) =
      absurd (each-at IsNoUpload (session.said_in side.entries) (ul_go_resp number offset) none has)

-- ---- the same client with other attempts

module _ (party : Party) (attempts : List Attempt) where
  abbrev with_attempts : Party
  with_attempts = record party { attempts = attempts }

  has-number : (task number : ℕ) → HasNumber party task number → HasNumber with_attempts task number
  has-number task number has =
      record { entry = has.entry; is_entry = has.is_entry; number_is = has.number_is; some = has.some }

  had-number : (task number : ℕ) → HasNumber with_attempts task number → HasNumber party task number
  had-number task number has =
      record { entry = has.entry; is_entry = has.is_entry; number_is = has.number_is; some = has.some }

  notes-grant : (a : Attempt) → NotesGrant party a → NotesGrant with_attempts a
  notes-grant a notes task number file asks took = has-number task number (notes task number file asks took)

  goes-on : (a : Attempt) → GoesOnWithTask party a → GoesOnWithTask with_attempts a
  goes-on a goes task known file asks some = has-number task known (goes task known file asks some)

  grant-kept : (store : Store) (a : Attempt) (number file_length : ℕ) → IsGrantKept store party a number file_length
      → IsGrantKept store with_attempts a number file_length
  grant-kept store a number file_length kept = record {
    some = kept.some;
    below = kept.below;
    task = kept.task;
    file = kept.file;
    asks = kept.asks;
    length_is = kept.length_is;
    begun = λ none. kept.begun (λ has. none (has-number kept.task number has));
  }

  receives-kept : (store : Store) (a : Attempt) (side : ServerSide) (number : ℕ) (rest : List ℕ)
      → Receives store party a side number rest
      → Receives store with_attempts a side number rest
  receives-kept store a side number rest it = record {
    task = it.task;
    known = it.known;
    file = it.file;
    asks = it.asks;
    entry = it.entry;
    is_entry = it.is_entry;
    held = it.held;
    holds = it.holds;
    caller_is = it.caller_is;
    length_is = it.length_is;
    few = it.few;
    offset = it.offset;
    offers = it.offers;
    came = it.came;
    within = it.within;
    goes_on = it.goes_on;
  }

-- ---- the facts

-- A session that looks like this after an entry: it began so, and says nothing of uploading; it does what its caller
-- asked; and it receives no file.
pub record IsQuiet (store : Store) (asked : Work) (old new : ServerSide) : Type 0 where
  pub greeting : new.greeting ≡ old.greeting
  pub none : AllByRecursion IsNoUpload (session.said_in new.entries)
  pub serves : Serves store asked new
  pub due : new.is_up ≡ true → IsDueNow store new
  pub receives : (number : ℕ) (rest : List ℕ) → new.is_up ≡ true → new.connected.state ≢ receiving number rest

module _ (store : Store) (files : List Asked) (party : Party) (a : Attempt) (older : List Attempt)
    (old new : ServerSide)
    (attempts_are : party.attempts ≡ a ∷ older) (is_side : a.server ≡ Some old) (facts : HasFacts store files party)
    (other : (at : Upload) → a.client.asked ≢ work.Upload at) (quiet : IsQuiet store a.client.asked old new) where
  abbrev now_is : Attempt
  now_is = record a { server = Some new }

  abbrev done : Party
  done = with_attempt party now_is older

  -- what is true of each attempt
  each : (P : Attempt → Type 0) → EachAttempt party P → P a × AllByRecursion P older
  each P all = subst (λ (l : List Attempt). AllByRecursion P l) attempts_are all

  -- and of each session, of the newest one
  newest-side : (R : Attempt → ServerSide → Type 0) → EachAttempt party (λ b. IfSome b.server (R b)) → R a old
  newest-side R all =
      subst (λ (o : Option ServerSide). IfSome o (R a)) is_side (each (λ b. IfSome b.server (R b)) all).0

  side-weaker : (R S : Attempt → ServerSide → Type 0) → ((b : Attempt) (side : ServerSide) → R b side → S b side)
      → (b : Attempt) → IfSome b.server (R b) → IfSome b.server (S b)
  side-weaker R S weaker b = by b.server
    where
      by : (o : Option ServerSide) → IfSome o (R b) → IfSome o (S b)
      by None holds = tt
      by (Some side) holds = weaker b side holds

  -- of each session, if it is true of the new one, and of the others as it was
  sides : (R S : Attempt → ServerSide → Type 0) → ((b : Attempt) (side : ServerSide) → R b side → S b side)
      → EachAttempt party (λ b. IfSome b.server (R b)) → S now_is new
      → EachAttempt done (λ b. IfSome b.server (S b))
  sides R S weaker all here =
      (here, each-weaker older (side-weaker R S weaker) (each (λ b. IfSome b.server (R b)) all).1)

  granted : (task number : ℕ) → OneIs (IsGranted task number) (a ∷ older)
      → OneIs (IsGranted task number) (now_is ∷ older)
  granted task number (inl is) = absurd (other (new_upload task 0 is.0) is.2)
  granted task number (inr there) = inr there

  tasks : HasTaskFacts store files done
  tasks = record {
    numbered = λ task number file has is_file.
        let was = facts.tasks.numbered task number file (had-number party (now_is ∷ older) task number has) is_file in
        record {
          below = was.below;
          stands = was.stands;
          granted =
              granted task number (subst (λ (l : List Attempt). OneIs (IsGranted task number) l) attempts_are
              was.granted);
        };
    acknowledged = facts.tasks.acknowledged;
    noted =
        let were = each (NotesGrant party) facts.tasks.noted in (
          notes-grant party (now_is ∷ older) now_is were.0,
          each-weaker older
              (notes-grant party (now_is ∷ older)) were.1,
        );
    goes_on =
        let were = each (GoesOnWithTask party) facts.tasks.goes_on in
        (goes-on party (now_is ∷ older) now_is were.0, each-weaker older (goes-on party (now_is ∷ older)) were.1);
  }

  -- what the new session offers the old one offered
  offered : (number offset : ℕ) → Offers new number offset → Offers old number offset
  offered number offset offers = inl (sym quiet.greeting ∙ offers-none new quiet.none number offset offers)

  complete : (number : ℕ) → ¬ SaysComplete new number
  complete number (inl ((offset, offers), (inl is))) =
      absurd (let it = offers-none new quiet.none number offset offers in
      let no : ul_go_resp number offset ≡ ul_ack_resp = sym it ∙ is in cc)
  complete number (inl ((offset, offers), (inr has))) =
      each-at IsNoUpload (session.said_in new.entries) ul_ack_resp quiet.none has
  complete number (inr (file_length, answers)) =
      each-at IsNoUpload (session.said_in new.entries) (ul_error_resp 12) quiet.none
      (answer-said new.entries _ _ answers)

  sessions : HasSessionFacts store done
  sessions =
      let were = facts.sessions in
      record {
        granted =
            sides (λ b side. (number file_length : ℕ) → Grants side number file_length
            → IsGrantKept store party b number file_length)
            (λ b side. (number file_length : ℕ) → Grants side number file_length
            → IsGrantKept store done b number file_length)
            (λ b side kept number file_length grants. grant-kept party (now_is ∷ older) store b number file_length
            (kept number file_length grants))
            were.granted (λ number file_length grants. absurd (grants-none new quiet.none number file_length grants));
        complete =
            sides (λ _ side. (number : ℕ) → SaysComplete side number → IsCompleteIn store number)
            (λ _ side. (number : ℕ) → SaysComplete side number → IsCompleteIn store number)
            (λ b side holds. holds) were.complete
            (λ number says. absurd (complete number says));
        offered =
            sides (λ _ side. (number offset : ℕ) → Offers side number offset → IsOfferKept store number offset)
            (λ _ side. (number offset : ℕ) → Offers side number offset → IsOfferKept store number offset)
            (λ b side holds. holds) were.offered
            (λ number offset offers.
            newest-side (λ _ side. (number offset : ℕ) → Offers side number offset → IsOfferKept store number offset)
            were.offered number offset
            (offered number offset offers));
        receives =
            sides
            (λ b side. (number : ℕ) (rest : List ℕ) → side.is_up ≡ true → side.connected.state ≡ receiving number rest
            → Receives store party b side number rest)
            (λ b side. (number : ℕ) (rest : List ℕ) → side.is_up ≡ true → side.connected.state ≡ receiving number rest
            → Receives store done b side number rest)
            (λ b side it number rest up is. receives-kept party (now_is ∷ older) store b side number rest
            (it number rest up is)) were.receives
            (λ number rest up is. absurd (quiet.receives number rest up is));
        due =
            sides (λ _ side. side.is_up ≡ true → IsDueNow store side)
            (λ _ side. side.is_up ≡ true → IsDueNow store side) (λ b side holds. holds) were.due
            quiet.due;
        serves =
            sides (λ b side. Serves store b.client.asked side) (λ b side. Serves store b.client.asked side)
            (λ b side holds. holds) were.serves quiet.serves;
        says = each (λ b. Says b.client.asked b.client) were.says;
      }

  -- what the client has got stays; what is fetched goes on with what the session said
  pub facts-quiet : IsFetching store done now_is → HasFacts store files done
  facts-quiet fetching = record {
    tasks = tasks;
    sessions = sessions;
    files_got = record {
      got_front = facts.files_got.got_front;
      fetching = fetching;
      fetched = each (HasFetched party) facts.files_got.fetched;
      asked_within = each (AskedWithin party) facts.files_got.asked_within;
    };
  }
