-- What is promised is true if a client's notes say more, as far as they are right.
use Rattle.std.proofs.Common.{◌≡◌, ◌⊎◌, ℕ, List, Some, sym, ap, subst, ◌∙◌, inl, inr}
use Rattle.client_notes.specs.declared.answers.Noted.TheVariants as noted
use Rattle.ftl0_client_job.specs.declared.ending.Outcome.TheVariants as outcome
use Rattle.air_world.specs.Files.Kept.{HoldsAck, IsKept, IsTaskKept}
use Rattle.air_world.proofs.Names.{slice_get, HasNoFault, HasNoFront, Store, file_of, noted_at, Lists, got_of, outcome_of, outcome_by, Attempt, Asked, IsFileOf, Party, newest, Offers, ClientSide, ServerSide, set-at, HasWhole, HeadlineIn, Offered, Sound, PartyAt, World, with_party}
use Rattle.air_world.proofs.PartsLemmas.{are-offered, fetched-current, has-headline}

-- The client is that one, except for its notes, and for what is marked as delivered of its transmissions.
pub record StaysBut (party now : Party) : Type 0 where
  pub me : now.client.me ≡ party.client.me
  pub server : now.client.server ≡ party.client.server
  pub link : now.client.attempt ≡ party.client.attempt
  pub uploads : now.uploads ≡ party.uploads
  pub each :
      (place : ℕ) (a : Attempt) → slice_get now.attempts place ≡ Some a
      → (was : Attempt) × (slice_get party.attempts place ≡ Some was) × (a.client ≡ was.client)
      × (a.server ≡ was.server)

-- Notes of the client are right: each file that they have as acknowledged is kept, and each that an attempt fetched is
-- whole in them.
pub record AreRight (world : World) (party : Party) (lists : Lists) : Type 0 where
  pub acknowledged :
      (task number : ℕ) → noted_at lists task ≡ Some (noted.Acked task number)
      → IsTaskKept world.files world.server.store party task number
  pub fetched :
      (place number : ℕ) (a : Attempt) → slice_get party.attempts place ≡ Some a
      → outcome_of a.client.attempted ≡ Some (outcome.Fetched number)
      → file_of world.server.store number ≡ Some (got_of lists party.client.server number)

kept-moved : (files : List Asked) (store : Store) (party now : Party) (task number : ℕ) → StaysBut party now
    → IsTaskKept files store party task number → IsTaskKept files store now task number
kept-moved files store party now task number stays kept = (
  kept.0,
  subst (λ (u : List ℕ). IsFileOf files (record now { uploads = u }) task kept.0) (sym stays.uploads) kept.1,
  subst (λ me. IsKept store number kept.0 me) (sym stays.me) kept.2,
)

module _ (fault : HasNoFault) (front : HasNoFront) (world : World) (sound : Sound world) (c : ℕ) (party now : Party)
    (is : PartyAt world c party) (stays : StaysBut party now) (right : AreRight world party now.client.lists) where
  abbrev then : World
  then = with_party world c now

  headline : HeadlineIn world world.server.store
  headline = has-headline world fault front sound

  -- a client then is that one, or was there
  abbrev IsThen : ℕ → Party → Type 0
  IsThen number that = ((number ≡ c) × (that ≡ now)) ⊎ ((number ≡ c → ⊥) × PartyAt world number that)

  then-is : (number : ℕ) (that : Party) → PartyAt then number that → IsThen number that
  then-is number that there = set-at world.parties c number now that there

  whole : (place number : ℕ) (a : Attempt) → slice_get party.attempts place ≡ Some a
      → outcome_of a.client.attempted ≡ Some (outcome.Fetched number) → HasWhole world.server.store now number
  whole place number a at reached =
      right.fetched place number a at reached
      ∙ ap (λ server. Some (got_of now.client.lists server number)) (sym stays.server)

  acknowledged : (number task file : ℕ) (that : Party) → IsThen number that → HoldsAck that task file
      → IsTaskKept world.files world.server.store that task file
  acknowledged number task file that (inl own) holds =
      subst (λ (p : Party). IsTaskKept world.files world.server.store p task file) (sym own.1)
      (kept-moved world.files world.server.store party now task file stays
      (right.acknowledged task file (subst (λ (p : Party). HoldsAck p task file) own.1 holds)))
  acknowledged number task file that (inr other) holds = headline.acknowledged number task file that other.1 holds

  offered : (number offset place : ℕ) (n : ℕ) (that : Party) (a : Attempt) (side : ServerSide) → IsThen n that
      → slice_get that.attempts place ≡ Some a → a.server ≡ Some side → Offers side number offset
      → Offered world number offset
  offered number offset place n that a side (inl own) at is_side offers =
      let was = stays.each place a (subst (λ (p : Party). slice_get p.attempts place ≡ Some a) own.1 at) in
      record {
        c = c;
        party = party;
        is_party = is;
        place = place;
        attempt = was.0;
        is_attempt = was.1;
        side = side;
        is_side = sym was.3 ∙ is_side;
        offers = offers;
      }
  offered number offset place n that a side (inr other) at is_side offers = record {
    c = n;
    party = that;
    is_party = other.1;
    place = place;
    attempt = a;
    is_attempt = at;
    side = side;
    is_side = is_side;
    offers = offers;
  }

  fetched : (number file : ℕ) (that : Party) → IsThen number that
      → outcome_by that.client.attempt ≡ Some (outcome.Fetched file) → HasWhole world.server.store that file
  fetched number file that (inl own) reached =
      let was : outcome_by party.client.attempt ≡ Some (outcome.Fetched file) =
      ap outcome_by (sym stays.link) ∙ ap (λ (p : Party). outcome_by p.client.attempt) (sym own.1) ∙ reached in
      let current = fetched-current (newest party) party.client.attempt file (sound.parties c party is).link was in
      subst (λ (p : Party). HasWhole world.server.store p file) (sym own.1) (whole 0 file current.0 current.1 current.2)
  fetched number file that (inr other) reached = headline.fetched number file that other.1 reached

  fetched-before : (number place file : ℕ) (that : Party) (a : Attempt) → IsThen number that
      → slice_get that.attempts place ≡ Some a → outcome_of a.client.attempted ≡ Some (outcome.Fetched file)
      → HasWhole world.server.store that file
  fetched-before number place file that a (inl own) at reached =
      let was = stays.each place a (subst (λ (p : Party). slice_get p.attempts place ≡ Some a) own.1 at) in
      subst (λ (p : Party). HasWhole world.server.store p file) (sym own.1)
      (whole place file was.0 was.1 (ap (λ (side : ClientSide). outcome_of side.attempted) (sym was.2) ∙ reached))
  fetched-before number place file that a (inr other) at reached =
      headline.fetched_before number place file that a other.1 at reached

  pub headline-noted : HeadlineIn (with_party world c now) world.server.store
  headline-noted = record {
    acknowledged = λ n task number that there holds. acknowledged n task number that (then-is n that there) holds;
    offered = λ number offset it.
        (are-offered world sound number offset
        (offered number offset it.place it.c it.party it.attempt it.side (then-is it.c it.party it.is_party)
        it.is_attempt it.is_side it.offers)).1;
    fetched = λ n number that there is. fetched n number that (then-is n that there) is;
    fetched_before = λ n place number that a there at is.
        fetched-before n place number that a (then-is n that there) at is;
  }
