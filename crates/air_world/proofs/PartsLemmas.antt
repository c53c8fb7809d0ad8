-- A sound world has all parts, and what is promised of uploads and downloads holds in it.
use Rattle.std.proofs.Common.{◌≡◌, ℕ, refl, ap, sym, ◌∙◌, subst, Option, None, Some}
use Rattle.ftl0_client_job.specs.declared.ending.Outcome.TheVariants as outcome
use Rattle.ftl0_client_job.specs.declared.work.Work.TheVariants as work
use Rattle.air_world.proofs.Names.{slice_get, same_Some, fault_code, HasNoFault, HasNoFront, new_upload, Attempted, outcome_of, outcome_by, Attempt, IsAnswered, IsAnsweredBy, IsAttempt, Has, EachSide, IsLinkOf, Party, newest, Grants, Offers, ServerSide, each-at, each-weaker, has-at, one-placed, some-from, HasFetched, HasNumber, IsGrantKept, IsOfferKept, got, IsWork, each-side, side-at, HasWhole, HeadlineIn, Offered, AreGranted, AreInState, AreNumbered, DoNumbersFit, DoOctetsFit, EachParty, HasParts, IsGiven, OfCurrent, IsParty, Sound, PartyAt, World}
use Rattle.air_world.proofs.NumberedLemmas.{IsTaskGrant, are-acknowledged, are-numbered, same-grant, task-grant}
use Rattle.air_world.proofs.ReceivesLemmas.{receives-file, session-of}
use Rattle.air_world.proofs.WholeLemmas.{whole-got}

-- ---- links

-- so it is of the two sides of the current attempt, if it is of any
of-current : (P : Attempt → ServerSide → Type 0) (world : World) (c : ℕ) (party : Party) → IsParty world c party
    → ((a : Attempt) (side : ServerSide) → IsAttempt party.client.me party.client.server a → IsAnswered a side
    → P a side) → OfCurrent party P
of-current P world c party is holds =
    some-from (newest party) (λ a newest_is. some-from a.server (λ side serves.
    let it = each-at (IsAttempt party.client.me party.client.server) party.attempts a is.attempts
    (has-at party.attempts 0 a newest_is) in
    holds a side it (subst (IsAnsweredBy a) serves it.answered)))

numbers-fit : (world : World) → Sound world → EachParty world (λ party. OfCurrent party DoNumbersFit)
numbers-fit world sound c party there =
    of-current DoNumbersFit world c party (sound.parties c party there)
    (λ a side it answered. record {
      of_client = answered.linked.one_numbers;
      of_server = answered.linked.other_numbers;
      client_quiet = it.quiet;
      server_quiet = answered.quiet;
    })

octets-fit : (world : World) → Sound world → EachParty world (λ party. EachSide party DoOctetsFit)
octets-fit world sound c party there = each-side party (λ a side has serves.
    let it = each-at (IsAttempt party.client.me party.client.server) party.attempts a
    (sound.parties c party there).attempts has in
    let linked = (subst (IsAnsweredBy a) serves it.answered).linked in
    (linked.one_octets, linked.other_octets))

in-state : (world : World) → Sound world → AreNumbered world → AreInState world
in-state world sound numbered = record {
  sessions = λ c party there. each-side party
      (λ a side has is. session-of world c party a side (sound.parties c party there) has is);
  jobs = λ c party there. each-weaker party.attempts (λ a it. it.job) (sound.parties c party there).attempts;
  receives = λ c party there. each-side party (λ a side has is task number rest up state has_number.
      receives-file world c party a side task number rest sound numbered there has is up state has_number);
}

-- ---- what was given

given : (world : World) (c : ℕ) (party : Party) (a : Attempt) (side : ServerSide) (number file_length : ℕ) → Sound world
    → PartyAt world c party
    → Has party.attempts a → a.server ≡ Some side → Grants side number file_length
    → IsGiven world party a number file_length
given world c party a side number file_length sound there has is grants = record {
  some = kept.some;
  below = kept.below;
  task = kept.task;
  file = kept.file;
  asks = kept.asks;
  is_file = is_file;
  length_is = kept.length_is;
  unnoted = λ none. record { no_task = no-task none; begun = kept.begun none };
}
  where
    here : IsParty world c party
    here = sound.parties c party there

    kept : IsGrantKept world.server.store party a number file_length
    kept = side-at (λ it those. (number file_length : ℕ) → Grants those number file_length
        → IsGrantKept world.server.store party it number file_length)
        party a side here.facts.sessions.granted has is number file_length grants

    is_file : IsWork world.files party (work.Upload (new_upload kept.task 0 kept.file))
    is_file = subst (IsWork world.files party) kept.asks
        (each-at (λ it. IsWork world.files party it.client.asked) party.attempts a here.works has)

    granted : IsTaskGrant party kept.task number
    granted = let at = one-placed (λ it. it ≡ a) party.attempts has in record {
      at = at.0;
      attempt = a;
      is_attempt = at.2 ∙ ap Some at.3;
      file = kept.file;
      asks = kept.asks;
      side = side;
      is_side = is;
      file_length = file_length;
      grants = grants;
    }

    no-task : ¬ HasNumber party kept.task number → (other : ℕ) (others : Party) → PartyAt world other others
        → (task : ℕ) → HasNumber others task number → ⊥
    no-task none other others those task has_number =
        let same = same-grant world c other kept.task task number party others sound.granted there those granted
        (task-grant world other others task number (sound.parties other others those) has_number) in
        let parties : others ≡ party = same_Some others party
        (sym those ∙ ap (λ n. slice_get world.parties n) (sym same.0) ∙ there) in
        none (subst (λ it. HasNumber party it number) (sym same.1)
        (subst (λ it. HasNumber it task number) parties has_number))

are-granted : (world : World) → Sound world → AreGranted world
are-granted world sound = record {
  given = λ c party there. each-side party (λ a side has is number file_length grants.
      given world c party a side number file_length sound there has is grants);
  once = sound.granted;
}

pub are-offered : (world : World) → Sound world → (number offset : ℕ) → Offered world number offset
    → IsOfferKept world.server.store number offset
are-offered world sound number offset offered =
    side-at (λ _ it. (number offset : ℕ) → Offers it number offset
    → IsOfferKept world.server.store number offset) offered.party offered.attempt offered.side
    (sound.parties offered.c offered.party offered.is_party).facts.sessions.offered
    (has-at offered.party.attempts offered.place offered.attempt offered.is_attempt) offered.is_side number offset
    offered.offers

-- ---- what was fetched

pub fetched-current : (current : Option Attempt) (link : Option Attempted) (number : ℕ) → IsLinkOf current link
    → outcome_by link ≡ Some (outcome.Fetched number)
    → (a : Attempt) × (current ≡ Some a) × (outcome_of a.client.attempted ≡ Some (outcome.Fetched number))
fetched-current current None number link is = absurd (cc)
fetched-current None (Some attempted) number link is = absurd link
fetched-current (Some a) (Some attempted) number link is = (a, refl, ap outcome_of link ∙ is)

-- the file that an attempt fetched has no fault
fetched-good : (world : World) (c place number : ℕ) (party : Party) (a : Attempt) → Sound world → PartyAt world c party
    → slice_get party.attempts place ≡ Some a → outcome_of a.client.attempted ≡ Some (outcome.Fetched number)
    → fault_code (got party number) ≡ None
fetched-good world c place number party a sound there at is =
    each-at (HasFetched party) party.attempts a (sound.parties c party there).facts.files_got.fetched
    (has-at party.attempts place a at) number is

fetched-now : (world : World) (c number : ℕ) (party : Party) → Sound world → PartyAt world c party
    → outcome_by party.client.attempt ≡ Some (outcome.Fetched number) → fault_code (got party number) ≡ None
fetched-now world c number party sound there is =
    let it = fetched-current (newest party) party.client.attempt number (sound.parties c party there).link is in
    fetched-good world c 0 number party it.0 sound there it.1 it.2

-- ---- all parts

pub has-parts : (world : World) → Sound world → HasParts world
has-parts world sound = record {
  places = sound.places;
  links = λ c party there. (sound.parties c party there).link;
  store = sound.store;
  numbered = are-numbered world sound;
  acknowledged = are-acknowledged world sound;
  numbers = numbers-fit world sound;
  octets = octets-fit world sound;
  states = in-state world sound (are-numbered world sound);
  granted = are-granted world sound;
  complete = λ c party there. (sound.parties c party there).facts.sessions.complete;
  offered = are-offered world sound;
  files_got = record {
    fronts = λ c party there. (sound.parties c party there).facts.files_got.got_front;
    fetching = λ c party there. (sound.parties c party there).facts.files_got.fetching;
    fetched = λ c party there number is. fetched-now world c number party sound there is;
  };
  lists = sound.lists;
}

pub has-headline : (world : World) → HasNoFault → HasNoFront → Sound world → HeadlineIn world world.server.store
has-headline world fault front sound = record {
  acknowledged = λ c task number party there. (sound.parties c party there).facts.tasks.acknowledged task number;
  offered = λ number offset offered. (are-offered world sound number offset offered).1;
  fetched = λ c number party there is. whole c number party there (fetched-now world c number party sound there is);
  fetched_before = λ c place number party a there at is. whole c number party there
      (fetched-good world c place number party a sound there at is);
}
  where
    whole : (c number : ℕ) (party : Party) → PartyAt world c party → fault_code (got party number) ≡ None
        → HasWhole world.server.store party number
    whole c number party there good =
        whole-got world.server.store number (got party number) fault front sound.store
        ((sound.parties c party there).facts.files_got.got_front number) good
