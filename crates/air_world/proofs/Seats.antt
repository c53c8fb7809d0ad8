-- The server's places and the attempts of its callers, taken apart by caller and put together again.
use Rattle.std.proofs.Common.{◌≡◌, ℕ, zero, suc, List, [], ◌∷◌, Bool, true, false, Option, None, Some, refl, sym, ap}
use Rattle.std.proofs.Common.{subst, ◌∙◌, true≢false}
use Rattle.air_world.proofs.Names.{slice_get, IfSome, MatchOption, option_or, AllByRecursion, same_Some, CallSign, Connected, caller_of, Server, Slot, connected, place_of, Attempt, IsAttempt, IsEndOf, AreAttempts, Calls, IsBetween, IsNewestSession, IsSeatedIn, SitsBy, AreOver, OnlyNewestUp, Party, newest_side, ServerSide, connection_of, all-at, all-by, old-connection, old-none, place-of-is, place-of-not, ArePlaces, IsParty, IsSeated, IsSessionOf, IsSideAt, Sound, PartyAt, World}

-- ---- the place of a caller

module _ (caller : CallSign) (slots : List Slot) where
  -- if a place has one, one is found
  pub finds-slot : (place : ℕ) (c : Connected) → slice_get slots place ≡ Some (connected c) → caller_of c ≡ caller
      → (found : ℕ) × (place_of caller slots ≡ Some found)
  finds-slot place c at is = by (place_of caller slots) refl
    where
      by : (o : Option ℕ) → place_of caller slots ≡ o → (found : ℕ) × (place_of caller slots ≡ Some found)
      by (Some found) same = (found, same)
      by None same = absurd (place-of-not caller slots same place c at is)

-- ---- the connection of a caller

module _ (server : Server) (caller : CallSign) where
  -- a caller without a place has no connection
  pub no-connection : IsBetween server → place_of caller server.slots ≡ None → connection_of server caller ≡ None
  no-connection between none =
      old-none server between caller (λ place c at is. place-of-not caller server.slots none place c at is)

  -- the connection of a caller is at a place
  pub connection-seat : (c : Connected) → IsBetween server → connection_of server caller ≡ Some c
      → (place : ℕ) × IsSeatedIn server place c × (caller_of c ≡ caller)
  connection-seat c between is = by (place_of caller server.slots) refl
    where
      by : (o : Option ℕ) → place_of caller server.slots ≡ o
          → (place : ℕ) × IsSeatedIn server place c × (caller_of c ≡ caller)
      by None none = absurd (let no : None ≡ Some c = sym (no-connection between none) ∙ is in cc)
      by (Some place) found =
          let seat = place-of-is caller server.slots place found in
          let own = old-connection server between caller place seat.0 seat.1 seat.2 in
          let same : seat.0 ≡ c = same_Some seat.0 c (sym own ∙ is) in
          (place, seat.1 ∙ ap (λ (it : Connected). Some (connected it)) same, ap caller_of (sym same) ∙ seat.2)

  -- a caller without a connection has no place
  pub connection-none : IsBetween server → connection_of server caller ≡ None → place_of caller server.slots ≡ None
  connection-none between none = by (place_of caller server.slots) refl
    where
      by : (o : Option ℕ) → place_of caller server.slots ≡ o → place_of caller server.slots ≡ None
      by None found = found
      by (Some place) found =
          let seat = place-of-is caller server.slots place found in
          let own = old-connection server between caller place seat.0 seat.1 seat.2 in
          absurd (let no : None ≡ Some seat.0 = sym none ∙ own in cc)

-- ---- apart

same-connected : (one other : Connected) → connected one ≡ connected other → one ≡ other
same-connected one other same = cc

module _ (world : World) (sound : Sound world) where
  pub between : IsBetween world.server
  between = record {
    window = sound.stations.window;
    may_step = sound.may_step;
    eight = sound.places.eight;
    distinct = sound.places.distinct;
    none_leaving = sound.places.none_leaving;
    ups = sound.places.ups;
  }

  module _ (c : ℕ) (party : Party) (is : PartyAt world c party) where
    it : IsParty world c party
    it = sound.parties c party is

    server-is : party.client.server ≡ world.server.me
    server-is =
        all-at (λ (p : Party). p.client.server ≡ world.server.me) world.parties c party sound.stations.servers is

    window-is : party.client.window ≡ world.server.window
    window-is =
        all-at (λ (p : Party). p.client.window ≡ world.server.window) world.parties c party sound.stations.windows is

    -- a session that is up is at the client's place
    pub seated-side : (at : ℕ) (side : ServerSide) → IsSideAt party at side → side.is_up ≡ true
        → (place : ℕ) × IsSeated world place side.connected × (caller_of side.connected ≡ party.client.me)
    seated-side at side is_side up =
        let seat = sound.places.seated c at party side is is_side up in
        let attempt = all-at (IsAttempt party.client.me party.client.server) party.attempts at is_side.attempt
        it.attempts is_side.is_attempt in
        let serves = subst (λ (o : Option ServerSide). IfSome o
        (λ side. IsEndOf false party.client.server party.client.me side.connected.end)) is_side.is_side
        attempt.stations.serves in
        (seat.0, seat.1, serves.peer_is)

    all-over : place_of party.client.me world.server.slots ≡ None → AreOver party.attempts
    all-over none =
        all-by (λ (a : Attempt). IfSome a.server (λ side. side.is_up ≡ false)) party.attempts
        (λ at a is_at. by at a is_at a.server refl)
      where
        side-over : (at : ℕ) (a : Attempt) → slice_get party.attempts at ≡ Some a → (side : ServerSide)
            → a.server ≡ Some side → (up : Bool) → side.is_up ≡ up → side.is_up ≡ false
        side-over at a is_at side is_side false same = same
        side-over at a is_at side is_side true same =
            let seat = seated-side at side (record { attempt = a; is_attempt = is_at; is_side = is_side }) same in
            absurd (place-of-not party.client.me world.server.slots none seat.0 side.connected seat.1 seat.2)

        by : (at : ℕ) (a : Attempt) → slice_get party.attempts at ≡ Some a → (o : Option ServerSide) → a.server ≡ o
            → IfSome a.server (λ side. side.is_up ≡ false)
        by at a is_at None same = subst (λ (o : Option ServerSide). IfSome o (λ side. side.is_up ≡ false)) (sym same) tt
        by at a is_at (Some side) same =
            subst (λ (o : Option ServerSide). IfSome o (λ side. side.is_up ≡ false)) (sym same)
            (side-over at a is_at side same side.is_up refl)

    its-session : (place : ℕ) (seat : Connected) → place_of party.client.me world.server.slots ≡ Some place
        → IsSeatedIn world.server place seat → IsNewestSession seat party.attempts
    its-session place seat found at =
        let slot = place-of-is party.client.me world.server.slots place found in
        let same = same-connected slot.0 seat (same_Some (connected slot.0) (connected seat) (sym slot.1 ∙ at)) in
        let session = sound.places.sessions place seat at in
        let caller : session.party.client.me ≡ party.client.me =
        sym session.caller_is ∙ ap caller_of (sym same) ∙ slot.2 in
        let number = sound.stations.distinct session.c c session.party party session.is_party is caller in
        let party_is = same_Some session.party party
        (sym session.is_party ∙ ap (λ i. slice_get world.parties i) number ∙ is) in
        record {
          side = session.side;
          is_newest = subst (λ (p : Party). newest_side p.attempts ≡ Some session.side) party_is session.is_newest;
          connected_is = session.connected_is;
          is_up = session.is_up;
        }

    pub calls : Calls world.server party.client.me party.attempts
    calls = record {
      attempts_are = subst (λ server. AreAttempts party.client.me server party.attempts) server-is it.attempts;
      windows = subst (λ w. AllByRecursion (λ (a : Attempt). a.window ≡ w) party.attempts) window-is it.windows;
      sits = record {
        none = all-over;
        some = its-session;
        newest_up = all-at (λ (p : Party). OnlyNewestUp p.attempts) world.parties c party sound.places.newest_up is;
      };
    }

-- ---- together

-- the newest one is up, if one is
up-is-newest : (attempts : List Attempt) (at : ℕ) (a : Attempt) (side : ServerSide) → OnlyNewestUp attempts
    → slice_get attempts at ≡ Some a → a.server ≡ Some side → side.is_up ≡ true
    → newest_side attempts ≡ Some side
up-is-newest [] at a side only is_at is_side up = absurd cc
up-is-newest (b ∷ older) at a side only is_at is_side up =
    by (λ at rest is_at. up-is-newest older at a side rest is_at is_side up) b.server refl at is_at
  where
    by : ((at : ℕ) → OnlyNewestUp older → slice_get older at ≡ Some a → newest_side older ≡ Some side)
        → (o : Option ServerSide) → b.server ≡ o → (at : ℕ) → slice_get (b ∷ older) at ≡ Some a
        → newest_side (b ∷ older) ≡ Some side
    by later None same zero is_at = absurd cc
    by later None same (suc at) is_at =
        let rest = subst (λ (o : Option ServerSide). MatchOption o (OnlyNewestUp older) (λ _. AreOver older)) same
        only in
        ap (λ (o : Option ServerSide). option_or o (newest_side older)) same ∙ later at rest is_at
    by later (Some first) same zero is_at =
        ap (λ (o : Option ServerSide). option_or o (newest_side older))
        (ap (λ (it : Attempt). it.server) (same_Some b a is_at) ∙ is_side)
    by later (Some first) same (suc at) is_at =
        let rest = subst (λ (o : Option ServerSide). MatchOption o (OnlyNewestUp older) (λ _. AreOver older)) same
        only in
        let over = all-at (λ (it : Attempt). IfSome it.server (λ side. side.is_up ≡ false)) older at a rest is_at in
        let down = subst (λ (o : Option ServerSide). IfSome o (λ side. side.is_up ≡ false)) is_side over in
        absurd (true≢false (sym up ∙ down))

-- the session that is up of a caller that sits is at its place
side-sits : (server : Server) (me : CallSign) (attempts : List Attempt) (at : ℕ) (a : Attempt) (side : ServerSide)
    → SitsBy server me attempts
    → slice_get attempts at ≡ Some a → a.server ≡ Some side → side.is_up ≡ true
    → (place : ℕ) × IsSeatedIn server place side.connected
side-sits server me attempts at a side sits is_at is_side up = by (place_of me server.slots) refl
  where
    by : (o : Option ℕ) → place_of me server.slots ≡ o → (place : ℕ) × IsSeatedIn server place side.connected
    by None none =
        let over = all-at (λ (it : Attempt). IfSome it.server (λ side. side.is_up ≡ false)) attempts at a
        (sits.none none) is_at in
        let down = subst (λ (o : Option ServerSide). IfSome o (λ side. side.is_up ≡ false)) is_side over in
        absurd (true≢false (sym up ∙ down))
    by (Some place) found =
        let slot = place-of-is me server.slots place found in
        let newest = sits.some place slot.0 found slot.1 in
        let same = same_Some newest.side side
        (sym newest.is_newest ∙ up-is-newest attempts at a side sits.newest_up is_at is_side up) in (
          place,
          slot.1 ∙ ap (λ (c : Connected). Some (connected c))
              (sym newest.connected_is ∙ ap (λ (s : ServerSide). s.connected) same),
        )

-- a connection of a client's is that of its newest session
session-sits : (world : World) (c : ℕ) (party : Party) → PartyAt world c party → IsBetween world.server
    → SitsBy world.server party.client.me party.attempts
    → (place : ℕ) (seat : Connected) → IsSeated world place seat → caller_of seat ≡ party.client.me
    → IsSessionOf world seat
session-sits world c party is between sits place seat at caller =
    let found = finds-slot party.client.me world.server.slots place seat at caller in
    let slot = place-of-is party.client.me world.server.slots found.0 found.1 in
    let number = between.distinct found.0 place slot.0 seat slot.1 at (slot.2 ∙ sym caller) in
    let there = ap (λ i. slice_get world.server.slots i) number ∙ at in
    let newest = sits.some found.0 seat found.1 there in
    record {
      c = c;
      party = party;
      is_party = is;
      caller_is = caller;
      side = newest.side;
      is_newest = newest.is_newest;
      connected_is = newest.connected_is;
      is_up = newest.is_up;
    }

-- each caller that has a connection is one of the clients
abbrev pub AreSeatsKnown : World → Type 0
AreSeatsKnown world =
    (place : ℕ) (seat : Connected) → IsSeated world place seat
    → (c : ℕ) × (party : Party) × PartyAt world c party × (caller_of seat ≡ party.client.me)

pub together : (world : World) → IsBetween world.server → AreSeatsKnown world
    → ((c : ℕ) (party : Party) → PartyAt world c party → SitsBy world.server party.client.me party.attempts)
    → ArePlaces world
together world between known sits = record {
  eight = between.eight;
  sessions = λ place seat at.
      let of = known place seat at in session-sits world of.0 of.1 of.2 between (sits of.0 of.1 of.2) place seat at
      of.3;
  ups = between.ups;
  seated = λ c at party side is is_side up.
      side-sits world.server party.client.me party.attempts at is_side.attempt side
      (sits c party is) is_side.is_attempt is_side.is_side up;
  newest_up = all-by (λ (p : Party). OnlyNewestUp p.attempts) world.parties (λ c party is. (sits c party is).newest_up);
  distinct = between.distinct;
  none_leaving = between.none_leaving;
}
