-- An event of the server's that is cut keeps a sound world, if what it leaves of the store does.
use Rattle.std.proofs.Common.{◌≡◌, ℕ, List, [], ◌∷◌, false, Option, None, Some, length, refl, sym, ap, subst, ◌∙◌}
use Rattle.std.proofs.Common.{arith}
use Rattle.air_world.proofs.Names.{map, slice_get, MatchOption, option_map, length-map, CallSign, IsWindow, Window, Store, Connected, all_free, new_server, Slot, connected, free, leaving, Client, Attempt, AreAttempts, Calls, IsBetween, LeftLaw, AreOver, OnlyNewestUp, Party, all_over, over, sessions_over, ServerSide, all-at, are-over, HasFacts, LookLike, LooksServed, StayLaw, IsSoundStore, Sound, PartyAt, World, counted}
use Rattle.air_world.proofs.Likes.{same-party}
use Rattle.air_world.proofs.Seats.{between, calls}
use Rattle.air_world.proofs.ClientsStay.{ClientsStay, over-stays, stay-trans, stay-windows}
use Rattle.air_world.proofs.Granted.{granted-like}
use Rattle.air_world.proofs.Rebuild.{IsMade, StayParties, StaysParty, rebuilt}
use Rattle.air_world.proofs.WorldLists.{map-at}

-- ---- a server without sessions

pub all-free : (place : ℕ) (slot : Slot) → slice_get all_free place ≡ Some slot → slot ≡ free
all-free place slot is =
    all-at (λ (slot : Slot). slot ≡ free) all_free place slot
    (refl, (refl, (refl, (refl, (refl, (refl, (refl, (refl, tt)))))))) is

pub none-connected : (place : ℕ) (c : Connected) → slice_get all_free place ≡ Some (connected c) → ⊥
none-connected place c is = absurd (let no_free = all-free place (connected c) is in cc)

pub none-leaving : (place : ℕ) (c : Connected) → slice_get all_free place ≡ Some (leaving c) → ⊥
none-leaving place c is = absurd (let no_free = all-free place (leaving c) is in cc)

new-between : (me : CallSign) (w : Window) (store : Store) → IsWindow w → IsBetween (new_server me w store)
new-between me w store window = record {
  window = window;
  may_step =
      record {
        silent = refl;
        fits = (tt, (tt, (tt, (tt, (tt, (tt, (tt, (tt, tt))))))));
        queued = (tt, (tt, (tt, (tt, (tt, (tt, (tt, (tt, tt))))))));
      };
  eight = refl;
  distinct = λ place other c that is is_that same. absurd (none-connected place c is);
  none_leaving = none-leaving;
  ups = λ place c is. absurd (none-connected place c is);
}

-- ---- sessions that are over

over-newest : (attempts : List Attempt) → OnlyNewestUp (all_over attempts)
over-newest [] = tt
over-newest (a ∷ older) = by a.server (over-newest older) (are-over older)
  where
    by : (o : Option ServerSide) → OnlyNewestUp (all_over older) → AreOver (all_over older)
        → MatchOption (option_map over o) (OnlyNewestUp (all_over older)) (λ _. AreOver (all_over older))
    by None newest all = newest
    by (Some side) newest all = all

-- the same of attempts that are such as others were
both-over : (olds news : List Attempt) → LookLike olds news → LookLike (all_over olds) (all_over news)
both-over [] [] like = tt
both-over [] (b ∷ news) like = absurd like
both-over (a ∷ olds) [] like = absurd like
both-over (a ∷ olds) (b ∷ news) like = (
  record {
    asked = like.0.asked;
    entries = like.0.entries;
    job = like.0.job;
    served = by a.server b.server like.0.served;
  },
  both-over olds news like.1,
)
  where
    by : (o p : Option ServerSide) → LooksServed o p → LooksServed (option_map over o) (option_map over p)
    by None None served = tt
    by None (Some that) served = absurd served
    by (Some side) None served = absurd served
    by (Some side) (Some that) served =
        record { greeting = served.greeting; entries = served.entries; state = served.state; up = λ up. absurd cc }

like-over : (olds news : List Attempt) → LookLike olds news → LookLike olds (all_over news)
like-over [] [] like = tt
like-over [] (b ∷ news) like = absurd like
like-over (a ∷ olds) [] like = absurd like
like-over (a ∷ olds) (b ∷ news) like = (
  record {
    asked = like.0.asked;
    entries = like.0.entries;
    job = like.0.job;
    served = by a.server b.server like.0.served;
  },
  like-over olds news like.1,
)
  where
    by : (o p : Option ServerSide) → LooksServed o p → LooksServed o (option_map over p)
    by None None served = tt
    by None (Some that) served = absurd served
    by (Some side) None served = absurd served
    by (Some side) (Some that) served =
        record { greeting = served.greeting; entries = served.entries; state = served.state; up = λ up. absurd cc }

both-stay : (olds news : List Attempt) → ClientsStay olds news → ClientsStay (all_over olds) (all_over news)
both-stay [] [] stays = tt
both-stay [] (b ∷ news) stays = absurd stays
both-stay (a ∷ olds) [] stays = absurd stays
both-stay (a ∷ olds) (b ∷ news) stays =
    (record { client = stays.0.client; window = stays.0.window }, both-stay olds news stays.1)

-- ---- what is cut

-- a client of the world in which a delivery, if the event is one, is marked
pub record IsMarked (old : World) (was party : Party) : Type 0 where
  pub client : party.client ≡ was.client
  pub uploads : party.uploads ≡ was.uploads
  pub like : LookLike was.attempts party.attempts
  pub stays : ClientsStay was.attempts party.attempts
  pub attempts_are : AreAttempts was.client.me old.server.me party.attempts

-- that world
pub record AreMarked (old delivered : World) : Type 0 where
  pub files : delivered.files ≡ old.files
  pub many : length delivered.parties ≡ length old.parties
  pub each : (c : ℕ) (party : Party) → PartyAt delivered c party
      → (was : Party) × PartyAt old c was × IsMarked old was party

module _ (left_law : LeftLaw) (old delivered : World) (sound : Sound old) (marked : AreMarked old delivered)
    (left : Store) where
  abbrev pub cut : World
  cut =
      counted
      (record delivered {
        server = new_server old.server.me old.server.window left;
        parties = map sessions_over delivered.parties;
        is_cut = false;
      })

  module _ (store : IsSoundStore left)
      (facts : (c : ℕ) (was : Party) → PartyAt old c was → HasFacts left old.files (sessions_over was))
      (stay_law : StayLaw) where
    -- the client at a place was there
    before : (c : ℕ) (party : Party) → PartyAt cut c party
        → (was : Party) × PartyAt old c was × (mid : Party) × IsMarked old was mid × (party ≡ sessions_over mid)
    before c party is =
        let mid = map-at sessions_over delivered.parties c party is in
        let was = marked.each c mid.0 mid.1 in
        (was.0, was.1, mid.0, was.2, mid.2)

    calls-then : (c : ℕ) (was mid : Party) → PartyAt old c was → IsMarked old was mid
        → Calls cut.server mid.client.me (all_over mid.attempts)
    calls-then c was mid is mark =
        let me = ap (λ (it : Client). it.me) mark.client in
        let it = calls old sound c was is in
        subst (λ me. Calls cut.server me (all_over mid.attempts)) (sym me)
        (record {
          attempts_are = left_law.over was.client.me old.server.me mid.attempts mark.attempts_are;
          windows =
              stay-windows old.server.window was.attempts (all_over mid.attempts)
              (stay-trans was.attempts mid.attempts (all_over mid.attempts) mark.stays (over-stays mid.attempts))
              it.windows;
          sits = record {
            none = λ none. are-over mid.attempts;
            some = λ place c found seat. absurd (none-connected place c seat);
            newest_up = over-newest mid.attempts;
          };
        })

    facts-then : (c : ℕ) (was mid : Party) → PartyAt old c was → IsMarked old was mid
        → HasFacts left delivered.files (sessions_over mid)
    facts-then c was mid is mark =
        subst (λ files. HasFacts left files (sessions_over mid)) (sym marked.files)
        (stay_law.same left old.files (sessions_over was) (sessions_over mid)
        (same-party (sessions_over was) (sessions_over mid) mark.client mark.uploads
        (both-over was.attempts mid.attempts mark.like) (both-stay was.attempts mid.attempts mark.stays))
        (facts c was is))

    made : IsMade cut
    made = record {
      between = new-between old.server.me old.server.window left (between old sound).window;
      known = λ place seat at. absurd (none-connected place seat at);
      store = store;
      lists = λ k d within. absurd (omega (arith, within));
      calls = λ c party is.
          let was = before c party is in
          subst (λ (p : Party). Calls cut.server p.client.me p.attempts) (sym was.4)
          (calls-then c was.0 was.2 was.1 was.3);
      facts = λ c party is.
          let was = before c party is in subst (λ (p : Party). HasFacts left delivered.files p) (sym was.4)
          (facts-then c was.0 was.2 was.1 was.3);
      granted =
          granted-like old cut
          (λ c party is.
          let was = before c party is in (
            was.0,
            was.1,
            subst (λ (p : Party). LookLike was.0.attempts p.attempts) (sym was.4)
                (like-over was.0.attempts was.2.attempts was.3.like),
          ))
          sound.granted;
    }

    stay : StayParties old cut
    stay = record {
      me = refl;
      window = refl;
      files = marked.files;
      many = length-map delivered.parties sessions_over ∙ marked.many;
      each = λ c party is.
          let was = before c party is in (
            was.0,
            was.1,
            subst (λ (p : Party). StaysParty was.0 p) (sym was.4)
                (record {
                  client = was.3.client;
                  uploads = was.3.uploads;
                  attempts =
                      stay-trans was.0.attempts was.2.attempts (all_over was.2.attempts) was.3.stays
                      (over-stays was.2.attempts);
                }),
          );
    }

    pub cut-sound : Sound cut
    cut-sound = rebuilt old cut sound stay made
