-- A frame that the server hears keeps a sound world.
use Rattle.std.proofs.Common.{◌≡◌, ◌≢◌, ◌⊎◌, ℕ, ◌≤◌, ◌<◌, ◌^◌, [], Bool, true, false, Option, Some, refl, sym, ap}
use Rattle.std.proofs.Common.{subst, ◌∙◌, inl, inr, arith}
use Rattle.std.specs.Prelude.{if◌then◌else◌}
use Rattle.air_world.specs.Sound as sound
use Rattle.air_world.proofs.Names.{map, slice_get, IfSome, cases_eq, length-map, length-set, same_Some, Transmission, slice_get-set_other, hears as frame_comes, is_same_call, same_call-decides, caller_of, ServerStep, Stepped, Attempt, Calls, IsKnown, StaysServer, Party, to_server_delivered, Grants, ServerSide, ServerDid, after_hearing, all-at, set-at, HasFacts, IsGrantKept, GrantedAt, with_current, AreGrantedOnce, IsSideAt, Sound, HearingLaws, party_heard, PartyAt, World, counted}
use Rattle.air_world.proofs.ClientsStay.{hearing-stays, newest-stays, stay-refl, stay-trans}
use Rattle.air_world.proofs.Marked.{IsComing, delivered, from-client, marked}
use Rattle.air_world.proofs.Rebuild.{IsMade, StayParties, StaysParty, rebuilt}
use Rattle.air_world.proofs.Seats.{AreSeatsKnown, between, calls}
use Rattle.air_world.proofs.Served.{granted-at, stands}
use Rattle.air_world.proofs.ServerHeard.{calls-then, did, fits, own-made, stays}
use Rattle.air_world.proofs.HeardMade.{OwnMade}
use Rattle.air_world.proofs.WorldLists.{at-map, at-set, map-at, other-call}

module _ (laws : HearingLaws) (old : World) (sound_old : Sound old) (c : ℕ) (party : Party) (place : ℕ)
    (t : Transmission) (coming : IsComing old c party place t)
    (moment : ℕ) (soon : moment < 2 ^ 32) (gives : Stepped)
    (step : ServerStep old.server (frame_comes t.frame moment) [] gives) where
  abbrev those : World
  those = delivered old sound_old c party place t coming

  abbrev own-did : ServerDid
  own-did = did laws old sound_old c party place t coming moment soon gives step

  abbrev pub heard : World
  heard = counted (record those { server = gives.new; parties = map (party_heard own-did t.frame) those.parties })

  stays-server : StaysServer old.server gives (λ caller. caller ≡ t.frame.src)
  stays-server = stays laws old sound_old c party place t coming moment soon gives step

  made-own : OwnMade old party gives (after_hearing own-did t.frame (marked old sound_old c party place t coming))
  made-own = own-made laws old sound_old c party place t coming moment soon gives step

  src-is : t.frame.src ≡ party.client.me
  src-is = from-client old sound_old c party place t coming

  abbrev own-now : Party
  own-now = record party { attempts = after_hearing own-did t.frame (marked old sound_old c party place t coming) }

  -- the client of the frame
  own-heard : party_heard own-did t.frame (with_current (to_server_delivered place t) party) ≡ own-now
  own-heard =
      let same : is_same_call party.client.me t.frame.src ≡ true =
      subst (λ call. is_same_call party.client.me call ≡ true) (sym src-is)
      ((same_call-decides party.client.me party.client.me).1 refl) in
      ap
      (λ (b : Bool).
      if b
      then own-now
      else with_current (to_server_delivered place t) party) same

  -- any other one
  other-heard : (that : Party) → that.client.me ≢ party.client.me → party_heard own-did t.frame that ≡ that
  other-heard that differs =
      let other : is_same_call that.client.me t.frame.src ≡ false =
      other-call that.client.me t.frame.src (λ same. differs (same ∙ src-is)) in
      ap (λ (b : Bool). if b then record that { attempts = after_hearing own-did t.frame that.attempts } else that)
      other

  -- Each client in the world then is the frame's, or another one, as it was.
  pub data IsThen (number : ℕ) (that : Party) : Type 0 where
    own : number ≡ c → that ≡ own-now → IsThen number that
    other : number ≢ c → PartyAt old number that → that.client.me ≢ party.client.me → IsThen number that

  differs : (number : ℕ) (that : Party) → number ≢ c → PartyAt old number that → that.client.me ≢ party.client.me
  differs number that not is same = not (sound_old.stations.distinct number c that party is coming.is same)

  then-is : (number : ℕ) (that : Party) → PartyAt heard number that → IsThen number that
  then-is number that is =
      let mid = map-at (party_heard own-did t.frame) those.parties number that is in
      by mid.0 mid.2 (set-at old.parties c number (with_current (to_server_delivered place t) party) mid.0 mid.1)
    where
      by : (mid : Party) → that ≡ party_heard own-did t.frame mid
          → ((number ≡ c) × (mid ≡ with_current (to_server_delivered place t) party)) ⊎ ((number ≡ c
          → ⊥) × (slice_get old.parties number ≡ Some mid)) → IsThen number that
      by mid that_is (inl own_is) = own own_is.0 (that_is ∙ ap (party_heard own-did t.frame) own_is.1 ∙ own-heard)
      by mid that_is (inr other_is) =
          let differs_is = differs number mid other_is.0 other_is.1 in
          let same = that_is ∙ other-heard mid differs_is in
          other other_is.0 (other_is.1 ∙ ap Some (sym same))
          (subst (λ (p : Party). p.client.me ≢ party.client.me) (sym same) differs_is)

  -- each client is there still
  there : (number : ℕ) (that : Party) → PartyAt old number that
      → (now : Party) × PartyAt heard number now × (now.client.me ≡ that.client.me)
  there number that is = by (cases_eq number c)
    where
      by : (number ≡ c) ⊎ (number ≢ c) → (now : Party) × PartyAt heard number now × (now.client.me ≡ that.client.me)
      by (inl own_is) =
          let same = same_Some that party (sym is ∙ ap (λ i. slice_get old.parties i) own_is ∙ coming.is) in
          let mid = with_current (to_server_delivered place t) party in
          let at = at-map (party_heard own-did t.frame) those.parties c mid
          (at-set old.parties c mid party coming.is) in (
            own-now,
            ap (λ i. slice_get heard.parties i) own_is ∙ at
                ∙ ap Some own-heard,
            ap (λ (p : Party). p.client.me) (sym same),
          )
      by (inr other_is) =
          let at = at-map (party_heard own-did t.frame) those.parties number that
          (slice_get-set_other old.parties c number (with_current (to_server_delivered place t) party) other_is
          ∙ is) in
          (that, at ∙ ap Some (other-heard that (differs number that other_is is)), refl)

  known : AreSeatsKnown heard
  known seat_place seat at = by (stays-server.known seat_place seat at)
    where
      found : (number : ℕ) (that : Party) → PartyAt old number that → caller_of seat ≡ that.client.me
          → (number : ℕ) × (now : Party) × PartyAt heard number now × (caller_of seat ≡ now.client.me)
      found number that is caller = let now = there number that is in (number, now.0, now.1, caller ∙ sym now.2)

      by : IsKnown old.server (λ caller. caller ≡ t.frame.src) (caller_of seat)
          → (number : ℕ) × (now : Party) × PartyAt heard number now × (caller_of seat ≡ now.client.me)
      by (inl new) = found c party coming.is (new ∙ src-is)
      by (inr was) =
          let session = sound_old.places.sessions was.0 was.1 was.2 in
          found session.c session.party session.is_party (sym was.3 ∙ session.caller_is)

  calls-now : (number : ℕ) (that : Party) → IsThen number that → Calls gives.new that.client.me that.attempts
  calls-now number that (own number_is that_is) =
      subst (λ (p : Party). Calls gives.new p.client.me p.attempts) (sym that_is)
      (calls-then laws old sound_old c party place t coming moment soon gives step
      (fits laws old sound_old c party place t coming moment soon gives step))
  calls-now number that (other number_is was differs) =
      laws.hears.other old.server t.frame moment gives that.client.me that.attempts (between old sound_old)
      (calls old sound_old number that was)
      (λ same. differs (same ∙ src-is)) step

  facts-now : (number : ℕ) (that : Party) → IsThen number that → HasFacts gives.new.store old.files that
  facts-now number that (own number_is that_is) =
      subst (λ (p : Party). HasFacts gives.new.store old.files p) (sym that_is) made-own.facts
  facts-now number that (other number_is was differs) =
      laws.stay.other old.files number that party.client.me old.server.store gives.new.store
      (stands old sound_old number that was)
      (stands old sound_old c party coming.is).call differs sound_old.store made-own.follows
      (sound_old.parties number that was).facts

  -- a number was given before, or now
  pub data IsGrantThen (number at grant : ℕ) : Type 0 where
    before : sound.GrantedAt old number at grant → IsGrantThen number at grant
    now : number ≡ c → at ≡ 0 → old.server.store.next ≤ grant → IsGrantThen number at grant

  grant-then : (number at grant : ℕ) → sound.GrantedAt heard number at grant → IsGrantThen number at grant
  grant-then number at grant granted = by granted.party (then-is number granted.party granted.is_party) granted.is_side
    where
      here : (that : Party) → IsSideAt that at granted.side → GrantedAt that at grant
      here that is_side = record {
        attempt = is_side.attempt;
        is_attempt = is_side.is_attempt;
        side = granted.side;
        is_side = is_side.is_side;
        file_length = granted.file_length;
        grants = granted.grants;
      }

      cases : number ≡ c → GrantedAt party at grant ⊎ ((at ≡ 0) × (old.server.store.next ≤ grant))
          → IsGrantThen number at grant
      cases number_is (inl was) =
          before (granted-at old number party (ap (λ i. slice_get old.parties i) number_is ∙ coming.is) at grant was)
      cases number_is (inr new) = now number_is new.0 new.1

      by : (that : Party) → IsThen number that → IsSideAt that at granted.side → IsGrantThen number at grant
      by that (own number_is that_is) is_side =
          cases number_is (made-own.grants at grant
          (here own-now (subst (λ (p : Party). IsSideAt p at granted.side) that_is is_side)))
      by that (other number_is was differs) is_side =
          before (granted-at old number that was at grant (here that is_side))

  below : (number at grant : ℕ) → sound.GrantedAt old number at grant → grant < old.server.store.next
  below number at grant granted =
      let P : Attempt → ServerSide → Type 0 = λ a side. (number file_length : ℕ) → Grants side number file_length
      → IsGrantKept old.server.store granted.party a number file_length in
      let each = all-at (λ (a : Attempt). IfSome a.server (P a)) granted.party.attempts at granted.is_side.attempt
      (sound_old.parties number granted.party granted.is_party).facts.sessions.granted granted.is_side.is_attempt in
      let its = subst (λ (o : Option ServerSide). IfSome o (P granted.is_side.attempt)) granted.is_side.is_side each in
      (its grant granted.file_length granted.grants).below

  granted-now : AreGrantedOnce heard
  granted-now one at two that number first second =
      by (grant-then one at number first) (grant-then two that number second)
    where
      by : IsGrantThen one at number → IsGrantThen two that number → (one ≡ two) × (at ≡ that)
      by (before was) (before is) = sound_old.granted one at two that number was is
      by (before was) (now two_is that_is next) = absurd (omega (arith, next, below one at number was))
      by (now one_is at_is next) (before is) = absurd (omega (arith, next, below two that number is))
      by (now one_is at_is next) (now two_is that_is above) = (one_is ∙ sym two_is, at_is ∙ sym that_is)

  made : IsMade heard
  made = record {
    between = stays-server.between;
    known = known;
    store = made-own.store;
    lists = made-own.lists;
    calls = λ number that is. calls-now number that (then-is number that is);
    facts = λ number that is. facts-now number that (then-is number that is);
    granted = granted-now;
  }

  stays-then : (number : ℕ) (that : Party) → IsThen number that
      → (was : Party) × PartyAt old number was × StaysParty was that
  stays-then number that (own number_is that_is) = (
    party,
    ap (λ i. slice_get old.parties i) number_is ∙ coming.is,
    subst (λ (p : Party). StaysParty party p) (sym that_is)
        (record {
          client = refl;
          uploads = refl;
          attempts =
              stay-trans party.attempts (marked old sound_old c party place t coming) own-now.attempts
              (newest-stays (to_server_delivered place t) party.attempts (λ a. record { client = refl; window = refl }))
              (hearing-stays own-did t.frame (marked old sound_old c party place t coming));
        }),
  )
  stays-then number that (other number_is was differs) =
      (that, was, record { client = refl; uploads = refl; attempts = stay-refl that.attempts })

  stay : StayParties old heard
  stay = record {
    me = stays-server.me_is;
    window = stays-server.window_is;
    files = refl;
    many =
        length-map those.parties (party_heard own-did t.frame)
        ∙ length-set old.parties c (with_current (to_server_delivered place t) party);
    each = λ number that is. stays-then number that (then-is number that is);
  }

  pub heard-sound : Sound heard
  heard-sound = rebuilt old heard sound_old stay made
