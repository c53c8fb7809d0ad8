-- A frame that the server hears: what it makes of the client whose frame it is.
use Rattle.std.proofs.Common.{◌≡◌, ◌⊎◌, ℕ, zero, suc, ◌≤◌, ◌<◌, ◌^◌, List, [], ◌∷◌, Bool, true, false, Option, None}
use Rattle.std.proofs.Common.{Some, refl, sym, ap, subst, ◌∙◌, inl, inr, true≢false}
use Rattle.file_store.specs.Command.{after_all}
use Rattle.ftl0_session.specs.Lists.Lists.{has_left}
use Rattle.ftl0_server.specs.Connection.Hearing.{with_end}
use Rattle.ftl0_server.specs.Entries as session
use Rattle.air_world.proofs.Names.{slice_get, AllByRecursion, option_map_or, same_Some, FrameValue, Transmission, is_call, hears as frame_comes, FollowsBy, AreComplete, Session, Connected, caller_of, SessionEntry, ServerStep, Stepped, place_of, Attempt, IsAnsweredBy, IsAttempt, IsUnanswered, AreAttempts, Calls, IsSeatedIn, IsServedBy, SaysFit, SessionHears, StaysServer, did_in, heard_in, Party, all_over, server_sends, to_server_delivered, with_answered, with_newest, Grants, ServerSide, ServerDid, after_hearing, begun, connection_of, gone_on, has_session, heard_by, opened, served, place-of-is, HasFacts, GrantedAt, IsGreeted, LookLike, SessionKeeps, session_gone, with_attempt, IsSoundStore, alike-itself, over-alike, served-itself, Sound, HearingLaws, World}
use Rattle.air_world.proofs.ClientsStay.{ClientsStay, newest-stays, stay-refl, stay-trans}
use Rattle.air_world.proofs.Likes.{grants-like, like-at, same-party}
use Rattle.air_world.proofs.Marked.{IsComing, delivers, from-client, marked}
use Rattle.air_world.proofs.Seats.{between, calls, connection-none, connection-seat, finds-slot}
use Rattle.air_world.proofs.Served.{before-session, by-session, keeps, now-session}
use Rattle.air_world.proofs.ServerTicked.{its-state}
use Rattle.air_world.proofs.HeardMade.{OwnMade, first-of, lost-second}

module _ (laws : HearingLaws) (old : World) (sound : Sound old) (c : ℕ) (party : Party) (place : ℕ) (t : Transmission) (coming : IsComing old c party place t)
    (moment : ℕ) (soon : moment < 2 ^ 32) (gives : Stepped) (step : ServerStep old.server (frame_comes t.frame moment) [] gives) where
  abbrev pub did : ServerDid
  did = did_in moment step

  abbrev those : List Attempt
  those = marked old sound c party place t coming

  src-is : t.frame.src ≡ party.client.me
  src-is = from-client old sound c party place t coming

  pub stays : StaysServer old.server gives (λ caller. caller ≡ t.frame.src)
  stays = laws.hears.server old.server t.frame moment gives (between old sound) step

  calls-src : Calls old.server t.frame.src party.attempts
  calls-src = subst (λ me. Calls old.server me party.attempts) (sym src-is) (calls old sound c party coming.is)

  -- the attempts, once what the server says is known to fit
  pub calls-then : SaysFit old.server t.frame moment → Calls gives.new party.client.me (after_hearing did t.frame those)
  calls-then fits =
      subst (λ me. Calls gives.new me (after_hearing did t.frame those)) src-is
      (laws.hears.own old.server t.frame moment gives party.attempts those (between old sound) fits calls-src
      (delivers old sound c party place t coming) step)

  -- if the store and the lists stay, and the attempts are such as they were
  module _ (quiet : (gives.done ≡ []) × (gives.new.lists ≡ old.server.lists)) where
    store-is : gives.new.store ≡ old.server.store
    store-is = stays.store_is ∙ ap (λ done. after_all old.server.store done) quiet.0

    quiet-made : (attempts : List Attempt) → HasFacts old.server.store old.files (record party { attempts = attempts })
        → ((at number : ℕ) → GrantedAt (record party { attempts = attempts }) at number → GrantedAt party at number) → OwnMade old party gives attempts
    quiet-made attempts facts grants = record {
      facts = subst (λ store. HasFacts store old.files (record party { attempts = attempts })) (sym store-is) facts;
      store = subst IsSoundStore (sym store-is) sound.store;
      lists = subst (λ store. AreComplete store gives.new.lists) (sym store-is) (subst (λ lists. AreComplete old.server.store lists) (sym quiet.1) sound.lists);
      follows = record { commands = []; own = tt; does = (tt, store-is) };
      grants = λ at number granted. inl (grants at number granted);
    }

  -- ---- no session hears it

  -- the delivery is marked, and frames may be sent
  module _ (attempts : List Attempt) (like : LookLike party.attempts attempts) (same_clients : ClientsStay party.attempts attempts) where
    passed-facts : HasFacts old.server.store old.files (record party { attempts = attempts })
    passed-facts =
        laws.stay.same old.server.store old.files party (record party { attempts = attempts })
        (same-party party (record party { attempts = attempts }) refl refl like same_clients) (sound.parties c party coming.is).facts

    passed-grants : (at number : ℕ) → GrantedAt (record party { attempts = attempts }) at number → GrantedAt party at number
    passed-grants at number granted =
        let before = like-at party.attempts attempts at granted.attempt granted.side like granted.is_attempt granted.is_side in
        record {
          attempt = before.0;
          is_attempt = before.2;
          side = before.1;
          is_side = before.3;
          file_length = granted.file_length;
          grants = grants-like before.1 granted.side number granted.file_length before.4 granted.grants;
        }

  pub passed-made : (gives.done ≡ []) × (gives.new.lists ≡ old.server.lists) → (frames : List FrameValue)
      → OwnMade old party gives (with_newest (server_sends frames) those)
  passed-made quiet frames =
      let like = passed-like frames party.attempts in
      let stay = stay-trans party.attempts those (with_newest (server_sends frames) those)
      (newest-stays (to_server_delivered place t) party.attempts (λ a. record { client = refl; window = refl }))
      (newest-stays (server_sends frames) those (λ a. record { client = refl; window = refl })) in
      quiet-made quiet (with_newest (server_sends frames) those) (passed-facts (with_newest (server_sends frames) those) like stay)
      (passed-grants (with_newest (server_sends frames) those) like stay)
    where
      passed-like : (frames : List FrameValue) (attempts : List Attempt)
          → LookLike attempts (with_newest (server_sends frames) (with_newest (to_server_delivered place t) attempts))
      passed-like frames [] = tt
      passed-like frames (a ∷ older) = (record { asked = refl; entries = refl; job = refl; served = served-itself a.server }, alike-itself older)

  -- ---- a session begins

  attempts-are : (older : List Attempt) × (party.attempts ≡ coming.attempt ∷ older)
  attempts-are = first-of party.attempts coming.attempt coming.current

  is-attempt : IsAttempt party.client.me old.server.me coming.attempt
  is-attempt = (subst (λ attempts. AreAttempts party.client.me old.server.me attempts) attempts-are.1 (calls old sound c party coming.is).attempts_are).0

  module _ (calls_now : is_call t.frame.kind.control ≡ true) where
    unserved : (o : Option ServerSide) → coming.attempt.server ≡ o → (coming.attempt.server ≡ None) × IsUnanswered coming.attempt
    unserved None is = (is, subst (λ (o : Option ServerSide). IsAnsweredBy coming.attempt o) is is-attempt.answered)
    unserved (Some side) is =
        let answered = subst (λ (o : Option ServerSide). IsAnsweredBy coming.attempt o) is is-attempt.answered in
        absurd (true≢false (sym (answered.linked.one_opened place t coming.lawful.sent calls_now) ∙ coming.lawful.call calls_now))

    module _ (now : Connected) where
      abbrev older : List Attempt
      older = attempts-are.0

      abbrev side : ServerSide
      side = begun did now

      abbrev first : Attempt
      first = server_sends did.frames (record (to_server_delivered place t coming.attempt) { server = Some side })

      opened-is : opened did now those ≡ first ∷ all_over older
      opened-is = ap (λ (attempts : List Attempt). opened did now (with_newest (to_server_delivered place t) attempts)) attempts-are.1

      opened-grants : (at number : ℕ) → GrantedAt (record party { attempts = first ∷ all_over older }) at number → GrantedAt party at number
      opened-grants at number granted = by at granted.is_attempt
        where
          by : (at : ℕ) → slice_get (first ∷ all_over older) at ≡ Some granted.attempt → GrantedAt party at number
          by zero is =
              let side_is : side ≡ granted.side = same_Some side granted.side
              (ap (λ (it : Attempt). it.server) (same_Some first granted.attempt is) ∙ granted.is_side) in
              absurd (subst (λ (it : ServerSide). Grants it number granted.file_length) (sym side_is) granted.grants)
          by (suc at) is =
              let before = like-at older (all_over older) at granted.attempt granted.side (over-alike older) is granted.is_side in
              record {
                attempt = before.0;
                is_attempt = ap (λ (attempts : List Attempt). slice_get attempts (suc at)) attempts-are.1 ∙ before.2;
                side = before.1;
                is_side = before.3;
                file_length = granted.file_length;
                grants = grants-like before.1 granted.side number granted.file_length before.4 granted.grants;
              }

      opened-facts : IsGreeted side → HasFacts old.server.store old.files (record party { attempts = first ∷ all_over older })
      opened-facts greeted =
          let none = unserved coming.attempt.server refl in
          let begun_facts = laws.begin.opened old.server.store old.files party coming.attempt older side
          (sound.parties c party coming.is).facts attempts-are.1 none.0 none.1.unserved greeted in
          let mid = with_attempt party (record coming.attempt { server = Some side }) (all_over older) in
          laws.stay.same old.server.store old.files mid (record party { attempts = first ∷ all_over older })
          (same-party mid (record party { attempts = first ∷ all_over older }) refl refl
          (record { asked = refl; entries = refl; job = refl; served = served-itself (Some side) }, alike-itself (all_over older))
          (record { client = refl; window = refl }, stay-refl (all_over older)))
          begun_facts

      opened-made : (gives.done ≡ []) × (gives.new.lists ≡ old.server.lists) → AreAttempts party.client.me gives.new.me (opened did now those)
          → OwnMade old party gives (opened did now those)
      opened-made quiet all =
          let of : AreAttempts party.client.me gives.new.me (first ∷ all_over older) =
          subst (λ attempts. AreAttempts party.client.me gives.new.me attempts) opened-is all in
          let state = its-state party.client.me gives.new.me first side of.0 refl in
          subst (λ attempts. OwnMade old party gives attempts) (sym opened-is)
          (quiet-made quiet (first ∷ all_over older)
          (opened-facts (record { greets = (did.moment, has_left did.old.lists (caller_of now), refl); entries = refl; state = state })) opened-grants)

  -- ---- a session hears it

  -- what the server says fits
  pub fits : SaysFit old.server t.frame moment
  fits = record {
    moment_fits = soon;
    said = λ at seat found seated is_packet.
        (keeps laws.sessions old sound c party place t coming moment is_packet at seat found seated false (λ up. absurd cc)).fits;
  }

  module _ (is_packet : is_call t.frame.kind.control ≡ false) (at : ℕ) (seat : Connected) (found : place_of t.frame.src old.server.slots ≡ Some at)
      (seated : IsSeatedIn old.server at seat) where
    abbrev hears : SessionHears did gives t.frame seat
    hears = laws.heard.heard old.server t.frame moment gives at seat (between old sound) is_packet found seated step

    abbrev served-by : IsServedBy party.attempts seat
    served-by = by-session laws.sessions old sound c party place t coming moment is_packet at seat found seated

    abbrev these : List SessionEntry
    these = session.entries_heard old.server.window moment old.server.store old.server.lists seat t.frame

    module _ (now : Connected) where
      abbrev a : Attempt
      a = served-by.attempt

      abbrev its : ServerSide
      its = served-by.side

      abbrev gone : Attempt
      gone = served did now these (to_server_delivered place t a) its

      served-is : with_answered (served did now these) those ≡ gone ∷ served-by.older
      served-is =
          ap (λ (attempts : List Attempt). with_answered (served did now these) (with_newest (to_server_delivered place t) attempts)) served-by.attempts_are
          ∙ ap
          (λ (o : Option ServerSide).
          option_map_or (λ side. served did now these (to_server_delivered place t a) side ∷ served-by.older) o
          (to_server_delivered place t a ∷ with_answered (served did now these) served-by.older)) served-by.is_side

      abbrev up : Bool
      up = has_session did.last (caller_of now)

      module _ (all : AreAttempts party.client.me gives.new.me (gone ∷ served-by.older)) where
        none-lost : up ≡ true → AllByRecursion session.IsNotLost these
        none-lost is_up = lost-second its.entries these (all.0.answered.session.none_lost is_up)

        kept : SessionKeeps old.files party
            (with_attempt party
            (session_gone these (now-session laws.sessions old sound c party place t coming moment is_packet at seat found seated).state up a its)
            served-by.older)
            (before-session laws.sessions old sound c party place t coming moment is_packet at seat found seated)
            (now-session laws.sessions old sound c party place t coming moment is_packet at seat found seated) these its
        kept = keeps laws.sessions old sound c party place t coming moment is_packet at seat found seated up none-lost

        abbrev now-is : Session
        now-is = now-session laws.sessions old sound c party place t coming moment is_packet at seat found seated

        store-now : gives.new.store ≡ now-is.store
        store-now = stays.store_is ∙ ap (λ done. after_all old.server.store done) hears.done_is

        heard-facts : now.state ≡ now-is.state → HasFacts now-is.store old.files (record party { attempts = gone ∷ served-by.older })
        heard-facts state =
            let mid = with_attempt party (session_gone these now-is.state up a its) served-by.older in
            laws.stay.same now-is.store old.files mid (record party { attempts = gone ∷ served-by.older })
            (same-party mid (record party { attempts = gone ∷ served-by.older }) refl refl (
              record {
                asked = refl;
                entries = refl;
                job = refl;
                served = record { greeting = refl; entries = refl; state = state; up = λ is_up. is_up };
              },
              alike-itself served-by.older,
            )
            (record { client = refl; window = refl }, stay-refl served-by.older))
            kept.facts

        heard-grants : (place number : ℕ) → GrantedAt (record party { attempts = gone ∷ served-by.older }) place number
            → GrantedAt party place number ⊎ ((place ≡ 0) × (old.server.store.next ≤ number))
        heard-grants place number granted = by place granted.is_attempt
          where
            before : (place : ℕ) (attempt : Attempt) (side : ServerSide) → slice_get (a ∷ served-by.older) place ≡ Some attempt → attempt.server ≡ Some side
                → Grants side number granted.file_length → GrantedAt party place number
            before place attempt side is is_side grants = record {
              attempt = attempt;
              is_attempt = ap (λ (attempts : List Attempt). slice_get attempts place) served-by.attempts_are ∙ is;
              side = side;
              is_side = is_side;
              file_length = granted.file_length;
              grants = grants;
            }

            cases : Grants its number granted.file_length ⊎ (old.server.store.next ≤ number)
                → GrantedAt party 0 number ⊎ (◌≡◌ {A = ℕ} 0 0 × (old.server.store.next ≤ number))
            cases (inl grants) = inl (before 0 a its refl served-by.is_side grants)
            cases (inr next) = inr (refl, next)

            by : (place : ℕ) → slice_get (gone ∷ served-by.older) place ≡ Some granted.attempt
                → GrantedAt party place number ⊎ ((place ≡ 0) × (old.server.store.next ≤ number))
            by zero is =
                let side_is : gone_on did now these its ≡ granted.side =
                same_Some (gone_on did now these its) granted.side
                (ap (λ (it : Attempt). it.server) (same_Some gone granted.attempt is) ∙ granted.is_side) in
                cases (kept.grants number granted.file_length (subst (λ (it : ServerSide). Grants it number granted.file_length) (sym side_is) granted.grants))
            by (suc place) is = inl (before (suc place) granted.attempt granted.side is granted.is_side granted.grants)

        heard-made : now.state ≡ now-is.state → OwnMade old party gives (gone ∷ served-by.older)
        heard-made state = record {
          facts = subst (λ store. HasFacts store old.files (record party { attempts = gone ∷ served-by.older })) (sym store-now) (heard-facts state);
          store = subst IsSoundStore (sym store-now) kept.store;
          lists =
              subst (λ store. AreComplete store gives.new.lists) (sym store-now)
              (subst (λ lists. AreComplete now-is.store lists) (sym hears.lists_are) kept.lists);
          follows = subst (λ store. FollowsBy party.client.me old.server.store store) (sym store-now) kept.follows;
          grants = heard-grants;
        }

  -- ---- all

  pub seat-found : (seat : Connected) → connection_of old.server t.frame.src ≡ Some seat
      → (at : ℕ) × (place_of t.frame.src old.server.slots ≡ Some at) × IsSeatedIn old.server at seat
  seat-found seat was =
      let there = connection-seat old.server t.frame.src seat (between old sound) was in
      let found = finds-slot t.frame.src old.server.slots there.0 seat there.1 there.2 in
      let slot = place-of-is t.frame.src old.server.slots found.0 found.1 in
      let number = (between old sound).distinct found.0 there.0 slot.0 seat slot.1 there.1 (slot.2 ∙ sym there.2) in
      (found.0, found.1, ap (λ i. slice_get old.server.slots i) number ∙ there.1)

  pub own-made : OwnMade old party gives (after_hearing did t.frame those)
  own-made = by (is_call t.frame.kind.control) refl (connection_of old.server t.frame.src) refl (connection_of did.last t.frame.src) refl (calls-then fits).attempts_are
    where
      by : (call : Bool) → is_call t.frame.kind.control ≡ call → (before : Option Connected) → connection_of old.server t.frame.src ≡ before
          → (after : Option Connected) → connection_of did.last t.frame.src ≡ after
          → AreAttempts party.client.me gives.new.me (heard_by call before after did t.frame those)
          → OwnMade old party gives (heard_by call before after did t.frame those)
      by true calls_now before was (Some now) is all =
          opened-made calls_now now (laws.heard.unheard old.server t.frame moment gives (between old sound) (inl calls_now) step) all
      by true calls_now before was None is all =
          passed-made (laws.heard.unheard old.server t.frame moment gives (between old sound) (inl calls_now) step) did.frames
      by false is_packet None was after is all =
          passed-made (laws.heard.unheard old.server t.frame moment gives (between old sound) (inr (connection-none old.server t.frame.src (between old sound) was)) step) did.frames
      by false is_packet (Some seat) was None is all =
          let sits = seat-found seat was in
          let hears = laws.heard.heard old.server t.frame moment gives sits.0 seat (between old sound) is_packet sits.1 sits.2 step in
          absurd (let none : None ≡ Some (with_end (heard_in did seat t.frame).after hears.end) = sym is ∙ hears.after_is in cc)
      by false is_packet (Some seat) was (Some now) is all =
          let sits = seat-found seat was in
          let hears = laws.heard.heard old.server t.frame moment gives sits.0 seat (between old sound) is_packet sits.1 sits.2 step in
          let now_is = same_Some now (with_end (heard_in did seat t.frame).after hears.end) (sym is ∙ hears.after_is) in
          let are = served-is is_packet sits.0 seat sits.1 sits.2 now in
          let P : List Attempt → Type 0 = λ attempts. OwnMade old party gives attempts in
          subst P (sym are)
          (heard-made is_packet sits.0 seat sits.1 sits.2 now (subst (λ attempts. AreAttempts party.client.me gives.new.me attempts) are all)
          (ap (λ (c : Connected). c.state) now_is))
