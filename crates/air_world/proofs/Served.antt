-- A frame that a session of a sound world hears: what its entries keep of the client's facts.
use Rattle.std.proofs.Common.{◌≡◌, ℕ, List, [], Bool, true, false, Option, Some, sym, ap, subst, ◌∙◌}
use Rattle.ftl0_server.specs.Connection.Hearing.{hearing}
use Rattle.ftl0_server.specs.Entries as session
use Rattle.air_world.specs.Sound as sound
use Rattle.air_world.proofs.Names.{IfSome, MatchOption, AllByRecursion, IsCall, Transmission, is_call, Session, session_over, Connected, caller_of, SessionEntry, session_after, place_of, Attempt, IsAnswered, IsAttempt, IsEndOf, Calls, IsSeatedIn, IsServedBy, AreOver, OnlyNewestUp, Party, ServerSide, all-at, GrantedAt, GrantsOnce, IsServed, SessionGoes, SessionKeeps, Stands, session_gone, with_attempt, Sound, SessionLaws, PartyAt, World}
use Rattle.air_world.proofs.Marked.{IsComing, delivers, from-client, marked}
use Rattle.air_world.proofs.Seats.{between, calls}
use Rattle.air_world.proofs.ServerTicked.{its-session}

-- what is true of each client besides its facts
pub stands : (world : World) → Sound world → (c : ℕ) (party : Party) → PartyAt world c party
    → Stands world.files c party
stands world sound c party is =
    let it = sound.parties c party is in
    record {
      call = all-at (λ (p : Party). IsCall p.client.me) world.parties c party sound.stations.are_calls is;
      good = sound.files;
      tasks = it.tasks;
      works = it.works;
    }

pub granted-at : (world : World) (c : ℕ) (party : Party) → PartyAt world c party → (at number : ℕ)
    → GrantedAt party at number → sound.GrantedAt world c at number
granted-at world c party is at number granted = record {
  party = party;
  is_party = is;
  side = granted.side;
  is_side = record { attempt = granted.attempt; is_attempt = granted.is_attempt; is_side = granted.is_side };
  file_length = granted.file_length;
  grants = granted.grants;
}

pub grants-once : (world : World) → Sound world → (c : ℕ) (party : Party) → PartyAt world c party → GrantsOnce party
grants-once world sound c party is at that number one two =
    (sound.granted c at c that number (granted-at world c party is at number one)
    (granted-at world c party is that number two)).1

module _ (laws : SessionLaws) (old : World) (sound : Sound old) (c : ℕ) (party : Party) (place : ℕ) (t : Transmission)
    (coming : IsComing old c party place t)
    (moment : ℕ) (is_packet : is_call t.frame.kind.control ≡ false) (at : ℕ) (seat : Connected)
    (found : place_of t.frame.src old.server.slots ≡ Some at)
    (seated : IsSeatedIn old.server at seat) where
  src-is : t.frame.src ≡ party.client.me
  src-is = from-client old sound c party place t coming

  calls-src : Calls old.server t.frame.src party.attempts
  calls-src = subst (λ me. Calls old.server me party.attempts) (sym src-is) (calls old sound c party coming.is)

  pub by-session : IsServedBy party.attempts seat
  by-session =
      laws.current old.server t.frame party.attempts (marked old sound c party place t coming) at seat calls-src
      (delivers old sound c party place t coming) is_packet found seated

  abbrev pub side : ServerSide
  side = by-session.side

  abbrev pub attempt : Attempt
  attempt = by-session.attempt

  is-attempt : IsAttempt party.client.me old.server.me attempt
  is-attempt =
      (subst (λ attempts. AllByRecursion (IsAttempt party.client.me old.server.me) attempts) by-session.attempts_are
      (calls old sound c party coming.is).attempts_are).0

  answered : IsAnswered attempt side
  answered = its-session attempt attempt.server side by-session.is_side is-attempt.answered

  caller-is : caller_of side.connected ≡ party.client.me
  caller-is =
      let serves = subst (λ (o : Option ServerSide). IfSome o
      (λ it. IsEndOf false old.server.me party.client.me it.connected.end)) by-session.is_side
      is-attempt.stations.serves in
      serves.peer_is

  abbrev pub before-session : Session
  before-session = session_over old.server.store old.server.lists seat.state

  abbrev pub entries : List SessionEntry
  entries = session.entries_heard old.server.window moment old.server.store old.server.lists seat t.frame

  abbrev pub now-session : Session
  now-session =
      session_after old.server.store
      (hearing old.server.window moment old.server.store old.server.lists seat t.frame [])

  older-over : AreOver by-session.older
  older-over =
      let only = (calls old sound c party coming.is).sits.newest_up in
      let of = subst (λ attempts. OnlyNewestUp attempts) by-session.attempts_are only in
      subst (λ (o : Option ServerSide). MatchOption o (OnlyNewestUp by-session.older) (λ _. AreOver by-session.older))
      by-session.is_side of

  pub served : IsServed old.files c party before-session
  served = record {
    stands = stands old sound c party coming.is;
    attempt = attempt;
    older = by-session.older;
    attempts_are = by-session.attempts_are;
    side = side;
    is_side = by-session.is_side;
    is_up = by-session.is_up;
    caller_is = caller-is;
    state_is = ap (λ (c : Connected). c.state) (sym by-session.connected_is);
    none_lost = answered.session.none_lost by-session.is_up;
    greets = answered.session.greets;
    begun = is-attempt.job.begun;
    heard = (laws.fronts party.client.me old.server.me attempt side is-attempt by-session.is_side).1;
    older_over = older-over;
    once = grants-once old sound c party coming.is;
    store = sound.store;
    lists = sound.lists;
    facts = (sound.parties c party coming.is).facts;
  }

  pub goes : (up : Bool) → (up ≡ true → AllByRecursion session.IsNotLost entries)
      → SessionGoes party moment before-session now-session entries up attempt side
  goes up none_lost = record {
    goes =
        subst (λ caller. session.GoesBy caller moment before-session entries now-session)
        (ap caller_of (sym by-session.connected_is) ∙ caller-is)
        (laws.entries old.server.window moment old.server.store old.server.lists seat t.frame
        ((between old sound).ups at seat seated) is_packet).1;
    none_lost = none_lost;
    front =
        laws.heard_front old.server t.frame moment party.attempts (marked old sound c party place t coming) at seat
        (between old sound) calls-src
        (delivers old sound c party place t coming) is_packet found seated by-session;
    client_fits = is-attempt.job.fits;
  }

  -- the commands are those of the entries
  pub done-are : (hearing old.server.window moment old.server.store old.server.lists seat t.frame
      []).done ≡ session.commands_in entries
  done-are =
      (laws.entries old.server.window moment old.server.store old.server.lists seat t.frame
      ((between old sound).ups at seat seated) is_packet).0.done

  pub keeps : (up : Bool) → (up ≡ true → AllByRecursion session.IsNotLost entries)
      → SessionKeeps old.files party
      (with_attempt party (session_gone entries now-session.state up attempt side) by-session.older) before-session
      now-session entries side
  unfolding served
  keeps up none_lost =
      laws.session old.files c party moment before-session now-session entries up served tt tt (goes up none_lost)
