-- A world in which a transmission of one client's is marked as delivered to the server.
use Rattle.std.proofs.Common.{◌≡◌, ◌⊎◌, ℕ, suc, List, Some, refl, sym, ap, subst, ◌∙◌, inl, inr}
use Rattle.air_world.proofs.Names.{slice_get, length-set, same_Some, IsLawful, Transmission, Attempt, IsAttempt, IsFromTo, Calls, DeliversToServer, LeftLaw, Party, newest, to_server_delivered, with_newest, all-at, set-at, alike-itself, served-itself, IsSent, with_current, HasParty, MayCome, Sound, PartyAt, World, with_party}
use Rattle.air_world.proofs.ClientsStay.{newest-stays, stay-refl}
use Rattle.air_world.proofs.Likes.{newest-like}
use Rattle.air_world.proofs.Seats.{calls}
use Rattle.air_world.proofs.ServerCut.{AreMarked, IsMarked}

-- nothing is delivered
pub none-marked : (old : World) → Sound old → AreMarked old old
none-marked old sound = record {
  files = refl;
  many = refl;
  each = λ c party is. (
    party,
    is,
    record {
      client = refl;
      uploads = refl;
      like = alike-itself party.attempts;
      stays = stay-refl party.attempts;
      attempts_are = (calls old sound c party is).attempts_are;
    },
  );
}

-- A transmission of the current attempt of the client at this place may be delivered.
pub record IsComing (old : World) (c : ℕ) (party : Party) (place : ℕ) (t : Transmission) : Type 0 where
  pub is : PartyAt old c party
  pub attempt : Attempt
  pub current : newest party ≡ Some attempt
  pub lawful : IsLawful attempt.window attempt.by_client place t

-- the transmission that is delivered is the one that may come
pub lawful-sent : (sent : Attempt → List Transmission) (world : World) (c place : ℕ) (party : Party) (t : Transmission)
    → PartyAt world c party → (it : IsSent party sent place t) → HasParty world (suc c) (MayCome sent (suc place))
    → IsLawful it.attempt.window (sent it.attempt) place t
lawful-sent sent world c place party t is it has =
    let party_is : has.0 ≡ party = same_Some has.0 party (sym has.1 ∙ is) in
    let may = subst (λ (it : Party). MayCome sent (suc place) it) party_is has.2 in
    let attempt_is : may.0 ≡ it.attempt = same_Some may.0 it.attempt (sym may.2 ∙ it.current) in
    let lawful = subst (λ (a : Attempt). IsLawful a.window (sent a) place may.1) attempt_is may.3 in
    let t_is : may.1 ≡ t = same_Some may.1 t (sym lawful.sent ∙ it.is_at) in
    subst (λ (one : Transmission). IsLawful it.attempt.window (sent it.attempt) place one) t_is lawful

pub is-coming : (world : World) (c place : ℕ) (party : Party) (t : Transmission) → PartyAt world c party
    → IsSent party (λ a. a.by_client) place t → HasParty world (suc c) (MayCome (λ a. a.by_client) (suc place))
    → IsComing world c party place t
is-coming world c place party t is it has = record {
  is = is;
  attempt = it.attempt;
  current = it.current;
  lawful = lawful-sent (λ a. a.by_client) world c place party t is it has;
}

module _ (old : World) (sound : Sound old) (c : ℕ) (party : Party) (place : ℕ) (t : Transmission)
    (coming : IsComing old c party place t) where
  abbrev pub marked : List Attempt
  marked = with_newest (to_server_delivered place t) party.attempts

  abbrev pub delivered : World
  delivered = with_party old c (with_current (to_server_delivered place t) party)

  pub delivers : DeliversToServer party.attempts t.frame marked
  delivers = record {
    attempt = coming.attempt;
    current = coming.current;
    place = place;
    t = t;
    lawful = coming.lawful;
    frame_is = refl;
    marked_is = refl;
  }

  its-calls : Calls old.server party.client.me party.attempts
  its-calls = calls old sound c party coming.is

  -- the frame is the client's
  pub from-client : t.frame.src ≡ party.client.me
  from-client =
      let attempt = all-at (IsAttempt party.client.me old.server.me) party.attempts 0 coming.attempt
      its-calls.attempts_are coming.current in
      let from = all-at (λ (t : Transmission). IsFromTo coming.attempt.window party.client.me old.server.me t.frame)
      coming.attempt.by_client place t attempt.stations.from_client coming.lawful.sent in
      from.src_is

  module _ (left_law : LeftLaw) where
    own-marked : IsMarked old party (with_current (to_server_delivered place t) party)
    own-marked = record {
      client = refl;
      uploads = refl;
      like =
          newest-like (to_server_delivered place t) party.attempts
          (λ a. record { asked = refl; entries = refl; job = refl; served = served-itself a.server });
      stays = newest-stays (to_server_delivered place t) party.attempts (λ a. record { client = refl; window = refl });
      attempts_are =
          left_law.to_server party.client.me old.server.me party.attempts marked t.frame its-calls.attempts_are
          delivers;
    }

    pub are-marked : AreMarked old delivered
    are-marked = record {
      files = refl;
      many = length-set old.parties c (with_current (to_server_delivered place t) party);
      each =
          λ number that is. by number that
          (set-at old.parties c number (with_current (to_server_delivered place t) party) that is);
    }
      where
        by : (number : ℕ) (that : Party)
            → ((number ≡ c) × (that ≡ with_current (to_server_delivered place t) party)) ⊎ ((number ≡ c
            → ⊥) × (slice_get old.parties number ≡ Some that))
            → (was : Party) × PartyAt old number was × IsMarked old was that
        by number that (inl own) = (
          party,
          ap (λ i. slice_get old.parties i) own.0
              ∙ coming.is,
          subst (λ (p : Party). IsMarked old party p) (sym own.1) own-marked,
        )
        by number that (inr other) = (
          that,
          other.1,
          record {
            client = refl;
            uploads = refl;
            like = alike-itself that.attempts;
            stays = stay-refl that.attempts;
            attempts_are = (calls old sound number that other.1).attempts_are;
          },
        )
