-- A tick of the server keeps a sound world.
use Rattle.std.proofs.Common.{◌≡◌, ℕ, List, [], true, false, Option, None, Some, refl, sym, subst, ◌∙◌, append-nil, inl}
use Rattle.std.proofs.Common.{inr}
use Rattle.air_world.proofs.Names.{map, IfSome, length-map, same_Some, CallSign, ticks as tick_comes, command, AreComplete, Connected, caller_of, SessionEntry, Server, ServerStep, Stepped, Attempt, IsAnswered, IsAnsweredBy, IsAttempt, IsEndOf, AreAttempts, Calls, IsBetween, IsKnown, ServerTicksLaw, StaysServer, did_in, Party, newest_side, ServerSide, SessionReaches, ServerDid, after_tick, connection_of, did_to, gone_on, served, ticked_by, place-of-is, HasFacts, LookLike, LooksServed, StayLaw, IsSoundStore, alike-itself, Sound, party_ticked, PartyAt, World, counted}
use Rattle.air_world.proofs.ClientsStay.{tick-stays}
use Rattle.air_world.proofs.Likes.{answered-like, reaches-one, same-party}
use Rattle.air_world.proofs.Rebuild.{IsMade, StayParties, StaysParty, rebuilt}
use Rattle.air_world.proofs.Granted.{granted-like}
use Rattle.air_world.proofs.Seats.{AreSeatsKnown, between, calls, connection-seat, finds-slot}
use Rattle.air_world.proofs.WorldLists.{at-map, map-at}

-- the session of an answered attempt
pub its-session : (a : Attempt) (o : Option ServerSide) (side : ServerSide) → o ≡ Some side → IsAnsweredBy a o
    → IsAnswered a side
its-session a o side is answered = subst (λ (o : Option ServerSide). IsAnsweredBy a o) is answered

-- what leads a session of this caller to its state
pub its-state : (me server : CallSign) (a : Attempt) (side : ServerSide) → IsAttempt me server a → a.server ≡ Some side
    → SessionReaches me command side.entries side.connected.state
its-state me server a side is is_side =
    let answered = its-session a a.server side is_side is.answered in
    let serves = subst (λ (o : Option ServerSide). IfSome o (λ it. IsEndOf false server me it.connected.end)) is_side
    is.stations.serves in
    subst (λ caller. SessionReaches caller command side.entries side.connected.state) serves.peer_is
    answered.session.reached

-- ---- the attempts of one caller

module _ (it : Server) (me : CallSign) (attempts : List Attempt) (between_is : IsBetween it)
    (call : Calls it me attempts) (did : ServerDid) (did_old : did.old ≡ it) where
  -- if the caller has a connection, its newest session is up
  newest-up : (c : Connected) (side : ServerSide) → connection_of it me ≡ Some c → newest_side attempts ≡ Some side
      → side.is_up ≡ true
  newest-up c side is newest =
      let seat = connection-seat it me c between_is is in
      let found = finds-slot me it.slots seat.0 c seat.1 seat.2 in
      let slot = place-of-is me it.slots found.0 found.1 in
      let session = call.sits.some found.0 slot.0 found.1 slot.1 in
      subst (λ (s : ServerSide). s.is_up ≡ true)
      (same_Some session.side side (sym session.is_newest ∙ newest)) session.is_up

  tick-like : AreAttempts me it.me (after_tick did me attempts) → LookLike attempts (after_tick did me attempts)
  tick-like now = by (connection_of did.old me) refl (connection_of did.last me) now
    where
      by : (before : Option Connected) → connection_of did.old me ≡ before → (after : Option Connected)
          → AreAttempts me it.me (ticked_by before after (did_to me did) attempts)
          → LookLike attempts (ticked_by before after (did_to me did) attempts)
      by None is after now = alike-itself attempts
      by (Some c) is None now = alike-itself attempts
      by (Some c) is (Some then) now =
          answered-like (served (did_to me did) then []) (IsAttempt me it.me)
          (IsAttempt me it.me) attempts call.attempts_are now
          (λ a side newest old is_side new.
          let now_side = gone_on (did_to me did) then [] side in
          let nothing = append-nil side.entries in
          let before_state = its-state me it.me a side old is_side in
          let now_state = its-state me it.me (served (did_to me did) then [] a side) now_side new refl in
          record {
            asked = refl;
            entries = refl;
            job = refl;
            served =
                subst (λ (o : Option ServerSide). LooksServed o (Some now_side)) (sym is_side)
                (record {
                  greeting = refl;
                  entries = nothing;
                  state =
                      reaches-one me command then.state side.connected.state side.entries
                      (subst (λ (entries : List SessionEntry). SessionReaches me command entries then.state) nothing
                      now_state) before_state;
                  up = λ up. newest-up c side (subst (λ (s : Server). connection_of s me ≡ Some c) did_old is) newest;
                });
          })

-- ---- the world

module _ (ticks_law : ServerTicksLaw) (stay_law : StayLaw) (old : World) (sound : Sound old) (moment : ℕ)
    (gives : Stepped)
    (step : ServerStep old.server (tick_comes moment) [] gives) where
  abbrev pub did : ServerDid
  did = did_in moment step

  abbrev pub ticked : World
  ticked = counted (record old { server = gives.new; parties = map (party_ticked did) old.parties })

  stays : StaysServer old.server gives (λ caller. ⊥)
  stays = (ticks_law.server old.server moment gives (between old sound) step).0

  store-is : gives.new.store ≡ old.server.store
  store-is = (ticks_law.server old.server moment gives (between old sound) step).1

  lists-are : gives.new.lists ≡ old.server.lists
  lists-are = (ticks_law.server old.server moment gives (between old sound) step).2

  -- the client at a place was there
  before : (c : ℕ) (party : Party) → PartyAt ticked c party
      → (was : Party) × PartyAt old c was × (party ≡ party_ticked did was)
  before c party is = map-at (party_ticked did) old.parties c party is

  calls-then : (c : ℕ) (was : Party) → PartyAt old c was
      → Calls gives.new was.client.me (after_tick did was.client.me was.attempts)
  calls-then c was is =
      ticks_law.each old.server moment gives was.client.me was.attempts (between old sound)
      (calls old sound c was is) step

  like-then : (c : ℕ) (was : Party) → PartyAt old c was
      → LookLike was.attempts (after_tick did was.client.me was.attempts)
  like-then c was is =
      tick-like old.server was.client.me was.attempts (between old sound) (calls old sound c was is) did refl
      (subst (λ me. AreAttempts was.client.me me (after_tick did was.client.me was.attempts)) stays.me_is
      (calls-then c was is).attempts_are)

  known : AreSeatsKnown ticked
  known place seat at = by (stays.known place seat at)
    where
      by : IsKnown old.server (λ caller. ⊥) (caller_of seat)
          → (c : ℕ) × (party : Party) × PartyAt ticked c party × (caller_of seat ≡ party.client.me)
      by (inl none) = absurd none
      by (inr was) =
          let session = sound.places.sessions was.0 was.1 was.2 in (
            session.c,
            party_ticked did session.party,
            at-map
                (party_ticked did) old.parties session.c session.party session.is_party,
            sym was.3 ∙ session.caller_is,
          )

  facts-then : (c : ℕ) (was : Party) → PartyAt old c was → HasFacts gives.new.store old.files (party_ticked did was)
  facts-then c was is =
      subst (λ store. HasFacts store old.files (party_ticked did was)) (sym store-is)
      (stay_law.same old.server.store old.files was (party_ticked did was)
      (same-party was (party_ticked did was) refl refl (like-then c was is) (tick-stays did was.client.me was.attempts))
      (sound.parties c was is).facts)

  made : IsMade ticked
  made = record {
    between = stays.between;
    known = known;
    store = subst IsSoundStore (sym store-is) sound.store;
    lists =
        subst (λ store. AreComplete store gives.new.lists) (sym store-is)
        (subst (λ lists. AreComplete old.server.store lists) (sym lists-are) sound.lists);
    calls = λ c party is.
        let was = before c party is in
        subst (λ (p : Party). Calls gives.new p.client.me p.attempts) (sym was.2) (calls-then c was.0 was.1);
    facts =
        λ c party is. let was = before c party is in
        subst (λ (p : Party). HasFacts gives.new.store old.files p) (sym was.2) (facts-then c was.0 was.1);
    granted =
        granted-like old ticked
        (λ c party is. let was = before c party is in (
          was.0,
          was.1,
          subst (λ (p : Party). LookLike was.0.attempts p.attempts) (sym was.2)
              (like-then c was.0 was.1),
        ))
        sound.granted;
  }

  stay : StayParties old ticked
  stay = record {
    me = stays.me_is;
    window = stays.window_is;
    files = refl;
    many = length-map old.parties (party_ticked did);
    each = λ c party is.
        let was = before c party is in (
          was.0,
          was.1,
          subst (λ (p : Party). StaysParty was.0 p) (sym was.2)
              (record { client = refl; uploads = refl; attempts = tick-stays did was.0.client.me was.0.attempts }),
        );
  }

  pub tick-sound : Sound ticked
  tick-sound = rebuilt old ticked sound stay made
