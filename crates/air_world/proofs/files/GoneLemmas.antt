-- Facts don't look at the ends of links: a client whose sessions did the same and are in the same states, of which more
-- may be over, and which has no other link, has the same facts.
use Rattle.std.proofs.Common.{◌≡◌, ℕ, List, [], ◌∷◌, ◌++◌, length, refl, ap, sym, ◌∙◌, subst, Option, None, Some, Ok}
use Rattle.std.proofs.Common.{inl, inr}
use Rattle.ftl0_client_job.specs.declared.phases.DownloadPhase.TheVariants as fetch
use Rattle.ftl0_client_job.specs.declared.work.Work.TheVariants as work
use Rattle.air_world.proofs.files.Names.{IfSome, slice_get, AllByRecursion, option_map, same_Some, ul_go_resp, upload_cmd, Store, SessionEntry, Ending, DownloadPhase, Work, Download, Attempted, Attempt, OneIs, Asked, Party, all_over, over, sessions_over, IsAnswer, ServerSide, AreFirstIfAny, Fetches, FetchesBy, FetchesIn, HasFacts, IsFetching, IsGranted, IsNumbered, coming_by, got, IsSameParty, LookLike, LooksLike, LooksServed, started_with}
use Rattle.air_world.proofs.files.ApartLemmas.{HasClientFacts, HasFactsApart, HasSideFacts, apart, together}
use Rattle.air_world.proofs.files.LikeLemmas.{attempt-same, like, like-client, like-side, like_attempt, number-like}
use Rattle.air_world.proofs.files.LikeLemmas.{party-same, side-same}

-- ---- of each attempt

like-client_each : (party now : Party) (older those : List Attempt) → LookLike older those
    → AllByRecursion (HasClientFacts party) older
    → AllByRecursion (HasClientFacts (like party now)) those
like-client_each party now [] [] same facts = tt
like-client_each party now [] (b ∷ those) same facts = absurd same
like-client_each party now (a ∷ older) [] same facts = absurd same
like-client_each party now (a ∷ older) (b ∷ those) same facts = (
  subst (HasClientFacts (like party now)) (attempt-same a b same.0) (like-client party now a b facts.0),
  like-client_each party now older those same.1 facts.1,
)

like-served : (store : Store) (party now : Party) (a b : Attempt) (o other : Option ServerSide) → LooksLike a b
    → LooksServed o other
    → IfSome o (HasSideFacts store party a) → IfSome other (HasSideFacts store (like party now) b)
like-served store party now a b None None same served facts = tt
like-served store party now a b None (Some other) same served facts = absurd served
like-served store party now a b (Some side) None same served facts = tt
like-served store party now a b (Some side) (Some other) same served facts =
    subst (λ it. HasSideFacts store (like party now) it other) (attempt-same a b same)
    (subst (HasSideFacts store (like party now) (like_attempt a b)) (side-same side other served)
    (like-side store party now a b side other served.up facts))

like-sides : (store : Store) (party now : Party) (older those : List Attempt) → LookLike older those
    → AllByRecursion (λ a. IfSome a.server (HasSideFacts store party a)) older
    → AllByRecursion (λ a. IfSome a.server (HasSideFacts store (like party now) a)) those
like-sides store party now [] [] same facts = tt
like-sides store party now [] (b ∷ those) same facts = absurd same
like-sides store party now (a ∷ older) [] same facts = absurd same
like-sides store party now (a ∷ older) (b ∷ those) same facts = (
  like-served store party now a b a.server b.server same.0 same.0.served facts.0,
  like-sides store party now older those same.1 facts.1,
)

like-granted : (task number : ℕ) (a b : Attempt) → LooksLike a b → IsGranted task number a → IsGranted task number b
like-granted task number a b same granted = by a.server b.server granted.3 refl same.served
  where
    by : (o other : Option ServerSide) → o ≡ Some granted.1 → b.server ≡ other → LooksServed o other
        → IsGranted task number b
    by None other is there served = absurd (cc)
    by (Some side) None is there served = absurd served
    by (Some side) (Some it) is there served = (
      granted.0,
      it,
      same.asked ∙ granted.2,
      there,
      subst (λ (entries : List SessionEntry). OneIs
          (IsAnswer (Ok (upload_cmd 0 (length granted.0))) (ul_go_resp number 0)) entries)
          (ap (λ (x : ServerSide). x.entries) (sym (same_Some side granted.1 is)) ∙ sym served.entries) granted.4,
    )

like-one : (task number : ℕ) (older those : List Attempt) → LookLike older those → OneIs (IsGranted task number) older
    → OneIs (IsGranted task number) those
like-one task number [] those same one = absurd one
like-one task number (a ∷ older) [] same one = absurd same
like-one task number (a ∷ older) (b ∷ those) same (inl here) = inl (like-granted task number a b same.0 here)
like-one task number (a ∷ older) (b ∷ those) same (inr there) = inr (like-one task number older those same.1 there)

-- ---- what is fetched

coming-same : (a b : Attempt) (o other : Option ServerSide) → LooksServed o other
    → coming_by a o ≡ coming_by (like_attempt a b) other
coming-same a b None None served = refl
coming-same a b None (Some other) served = absurd served
coming-same a b (Some side) None served = absurd served
coming-same a b (Some side) (Some other) served = ap (λ it. coming_by a (Some it)) (side-same side other served)

-- the same octets come
abbrev pub SameComing : Attempt → Attempt → Type 0
SameComing a b = coming_by a a.server ≡ coming_by (like_attempt a b) b.server

like-fetches : (store : Store) (party now : Party) (a b : Attempt) (at : Download) → SameComing a b
    → Fetches store party a at
    → Fetches store (like party now) (like_attempt a b) at
like-fetches store party now a b at coming f = record {
  first = subst (λ (octets : List ℕ). AreFirstIfAny store at.number
      (got party at.number ++ (at.rest ++ octets))) coming f.first;
  offset = f.offset;
  asked = f.asked;
  counted = f.counted;
}

like-fetches_in : (phase : DownloadPhase) (store : Store) (party now : Party) (a b : Attempt) (at : Download)
    → SameComing a b
    → FetchesIn phase store party a at → FetchesIn phase store (like party now) (like_attempt a b) at
like-fetches_in fetch.Login store party now a b at coming f = f
like-fetches_in fetch.Fetching store party now a b at coming f = like-fetches store party now a b at coming f
like-fetches_in fetch.Done store party now a b at coming f = f

pub like-fetches_by : (ending : Option Ending) (doing : Work) (store : Store) (party now : Party) (a b : Attempt)
    → SameComing a b
    → FetchesBy ending doing store party a → FetchesBy ending doing store (like party now) (like_attempt a b)
like-fetches_by None (work.Download at) store party now a b coming f =
    like-fetches_in at.phase store party now a b at coming f
like-fetches_by (Some ending) (work.Download at) store party now a b coming f = f
like-fetches_by None (work.Upload at) store party now a b coming f = tt
like-fetches_by (Some ending) (work.Upload at) store party now a b coming f = tt
like-fetches_by None (work.Directory at) store party now a b coming f = tt
like-fetches_by (Some ending) (work.Directory at) store party now a b coming f = tt

-- the link of the one is that of the other
abbrev GoesWithLink : Party → Party → List Attempt → List Attempt → Type 0
GoesWithLink party now older those =
    (a b : Attempt) → slice_get older 0 ≡ Some a → slice_get those 0 ≡ Some b
    → now.client.attempt ≡ Some b.client.attempted
    → party.client.attempt ≡ Some a.client.attempted

like-fetching : (store : Store) (party now : Party) (older those : List Attempt) → LookLike older those
    → GoesWithLink party now older those
    → IfSome (slice_get older 0) (IsFetching store party)
    → IfSome (slice_get those 0) (IsFetching store (like party now))
like-fetching store party now [] [] same link f = tt
like-fetching store party now [] (b ∷ those) same link f = absurd same
like-fetching store party now (a ∷ older) [] same link f = tt
like-fetching store party now (a ∷ older) (b ∷ those) same link f =
    subst (IsFetching store (like party now)) (attempt-same a b same.0)
    (λ is.
    like-fetches_by a.client.attempted.job.ending a.client.attempted.job.work store party now a b
    (coming-same a b a.server b.server same.0.served)
    (f (link a b refl refl (is ∙ ap (λ (it : Attempt). Some it.client.attempted) (attempt-same a b same.0)))))

-- ---- all facts

like-numbered : (store : Store) (files : List Asked) (party now : Party) (task number : ℕ) (file : List ℕ)
    → LookLike party.attempts now.attempts
    → IsNumbered store party task number file → IsNumbered store (like party now) task number file
like-numbered store files party now task number file same is =
    record {
      below = is.below;
      stands = is.stands;
      granted =
          like-one task number party.attempts now.attempts same is.granted;
    }

like-facts : (store : Store) (files : List Asked) (party now : Party) → IsSameParty party now
    → HasFactsApart store files party
    → HasFactsApart store files (like party now)
like-facts store files party now same facts = record {
  numbered = λ task number file has is.
      like-numbered store files party now task number file same.attempts
      (facts.numbered task number file (number-like party now task number has) is);
  acknowledged = facts.acknowledged;
  attempts = like-client_each party now party.attempts now.attempts same.attempts facts.attempts;
  sides = like-sides store party now party.attempts now.attempts same.attempts facts.sides;
  got_front = facts.got_front;
  fetching = like-fetching store party now party.attempts now.attempts same.attempts same.link facts.fetching;
}

pub facts-same : (store : Store) (files : List Asked) (old new : Party) → IsSameParty old new → HasFacts store files old
    → HasFacts store files new
facts-same store files old new same facts =
    subst (HasFacts store files) (party-same old new same)
    (together store files (like old new) (like-facts store files old new same (apart store files old facts)))

-- ---- sessions that are over, and a client that starts again

over-served : (o : Option ServerSide) → LooksServed o (option_map over o)
over-served None = tt
over-served (Some side) = record { greeting = refl; entries = refl; state = refl; up = λ is. absurd (cc) }

pub over-alike : (attempts : List Attempt) → LookLike attempts (all_over attempts)
over-alike [] = tt
over-alike (a ∷ older) =
    (record { asked = refl; entries = refl; job = refl; served = over-served a.server }, over-alike older)

over-link : (link : Option Attempted) (attempts : List Attempt) (a b : Attempt) → slice_get attempts 0 ≡ Some a
    → slice_get (all_over attempts) 0 ≡ Some b → link ≡ Some b.client.attempted → link ≡ Some a.client.attempted
over-link link [] a b one two is = absurd (cc)
over-link link (x ∷ older) a b one two is =
    is ∙ sym (ap (λ (it : Attempt). Some it.client.attempted)
    (same_Some (record x { server = option_map over x.server }) b two))
    ∙ ap (λ (it : Attempt). Some it.client.attempted) (same_Some x a one)

pub facts-over : (store : Store) (files : List Asked) (party : Party) → HasFacts store files party
    → HasFacts store files (sessions_over party)
facts-over store files party facts =
    facts-same store files party (sessions_over party)
    (record {
      me = refl;
      server = refl;
      lists = refl;
      uploads = refl;
      attempts = over-alike party.attempts;
      link = over-link party.client.attempt party.attempts;
    })
    facts

pub served-itself : (o : Option ServerSide) → LooksServed o o
served-itself None = tt
served-itself (Some side) = record { greeting = refl; entries = refl; state = refl; up = λ is. is }

pub alike-itself : (attempts : List Attempt) → LookLike attempts attempts
alike-itself [] = tt
alike-itself (a ∷ older) = (
  record {
    asked = refl;
    entries = refl;
    job = refl;
    served =
        served-itself a.server;
  },
  alike-itself older,
)

pub facts-started : (store : Store) (files : List Asked) (party : Party) → HasFacts store files party
    → HasFacts store files (started_with party party.client.lists)
facts-started store files party facts =
    facts-same store files party (started_with party party.client.lists)
    (record {
      me = refl;
      server = refl;
      lists = refl;
      uploads = refl;
      attempts = alike-itself party.attempts;
      link = λ a b one two none. absurd (cc);
    })
    facts
