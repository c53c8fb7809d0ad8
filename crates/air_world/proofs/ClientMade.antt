-- A world that a client's event made of a sound one is sound if that client is as it should be.
use Rattle.std.proofs.Common.{◌≡◌, ◌≢◌, ◌⊎◌, ℕ, zero, suc, ◌≤◌, List, [], ◌∷◌, ◌++◌, drop, Option, None, Some, refl}
use Rattle.std.proofs.Common.{sym, ap, subst, ◌∙◌, inl, inr}
use Rattle.ftl0_client_job.specs.declared.work.Work.TheVariants as work
use Rattle.air_world.specs.Sound.{GrantedAt}
use Rattle.air_world.proofs.Names.{slice_get, AllByRecursion, cases_eq, same_Some, length-set, IsCall, slice_get-set_other, Work, Attempt, GoesWith, SitsBy, Asked, EachAttempt, Party, newest, ServerSide, all-at, all-by, each-append, each-weaker, set-at, HasFacts, BeginLaw, AreTasks, IsWork, StandsBy, IsGoodFile, file-more, place-more, AreGrantedOnce, AreStationsOf, IsParty, IsSideAt, Sound, PartyAt, World, counted, with_party}
use Rattle.air_world.proofs.Seats.{AreSeatsKnown, between, calls, together}
use Rattle.air_world.proofs.Served.{stands}
use Rattle.air_world.proofs.WorldLists.{at-map, at-set, map-at}
use Rattle.air_world.proofs.SessionsStay.{SessionsStay, sessions_of, sits-stays}

-- ---- more uploads

pub work-more : (files more : List Asked) (party : Party) (asked : Work) → IsWork files party asked
    → IsWork (files ++ more) party asked
work-more files more party (work.Upload at) is = file-more files more party at.task at.file is
work-more files more party (work.Directory at) is = is
work-more files more party (work.Download at) is = is

pub tasks-more : (files more : List Asked) (c : ℕ) (party : Party) → AreTasks files c party
    → AreTasks (files ++ more) c party
tasks-more files more c party tasks = record {
  each = λ task entry is.
      let was = tasks.each task entry is in
      record {
        upload = was.upload;
        is_upload = was.is_upload;
        asked = was.asked;
        is_asked = place-more files more was.upload was.asked was.is_asked;
        whose = was.whose;
        server_is = was.server_is;
        caller_is = was.caller_is;
        name_is = was.name_is;
        length_is = was.length_is;
        digest_is = was.digest_is;
      };
  as_many = tasks.as_many;
}

-- ---- the client of the event

-- what the client is to be, if these uploads were asked
pub record IsClientMade (old : World) (c : ℕ) (was now : Party) (asked : List Asked) : Type 0 where
  pub me : now.client.me ≡ was.client.me
  pub server : now.client.server ≡ was.client.server
  pub window : now.client.window ≡ was.client.window
  pub goes : GoesWith now.client now.attempts
  pub works : EachAttempt now (λ a. IsWork (old.files ++ asked) now a.client.asked)
  pub tasks : AreTasks (old.files ++ asked) c now
  pub job : StandsBy now (newest now)
  pub facts : HasFacts old.server.store (old.files ++ asked) now
  pub sessions : SessionsStay was.attempts now.attempts
  pub good : AllByRecursion (λ (it : Asked). IsGoodFile it.file) asked

module _ (begin_law : BeginLaw) (old : World) (sound : Sound old) (c : ℕ) (was now : Party) (is : PartyAt old c was)
    (asked : List Asked)
    (made : IsClientMade old c was now asked) where
  abbrev pub then : World
  then = counted (record (with_party old c now) { files = old.files ++ asked })

  -- a client then is that one, or another one, as it was
  pub data IsClientThen (number : ℕ) (that : Party) : Type 0 where
    own : number ≡ c → that ≡ now → IsClientThen number that
    other : number ≢ c → PartyAt old number that → IsClientThen number that

  then-is : (number : ℕ) (that : Party) → PartyAt then number that → IsClientThen number that
  then-is number that there = by (set-at old.parties c number now that there)
    where
      by : ((number ≡ c) × (that ≡ now)) ⊎ ((number ≡ c → ⊥) × (slice_get old.parties number ≡ Some that))
          → IsClientThen number that
      by (inl it) = own it.0 it.1
      by (inr it) = other it.0 it.1

  -- each client is there, with its stations
  before : (number : ℕ) (that : Party) → IsClientThen number that
      → (it : Party) × PartyAt old number
      it × (that.client.me ≡ it.client.me) × (that.client.server ≡ it.client.server) × (that.client.window ≡ it.client.window)
  before number that (own number_is that_is) = (
    was,
    ap (λ i. slice_get old.parties i) number_is ∙ is,
    ap (λ (p : Party). p.client.me) that_is ∙ made.me,
    ap (λ (p : Party). p.client.server) that_is ∙ made.server,
    ap (λ (p : Party). p.client.window) that_is ∙ made.window,
  )
  before number that (other number_is there) = (that, there, refl, refl, refl)

  still : (number : ℕ) (that : Party) → PartyAt old number that
      → (it : Party) × PartyAt then number it × (it.client.me ≡ that.client.me)
  still number that there = by (cases_eq number c)
    where
      by : (number ≡ c) ⊎ (number ≢ c) → (it : Party) × PartyAt then number it × (it.client.me ≡ that.client.me)
      by (inl number_is) =
          let same = same_Some was that (sym is ∙ ap (λ i. slice_get old.parties i) (sym number_is) ∙ there) in (
            now,
            ap (λ i. slice_get then.parties i) number_is ∙ at-set old.parties c now was is,
            made.me
                ∙ ap (λ (p : Party). p.client.me) same,
          )
      by (inr differs) = (that, slice_get-set_other old.parties c number now differs ∙ there, refl)

  each-station : (P : Party → Type 0)
      → ((number : ℕ) (that it : Party) → PartyAt old number it → that.client.me ≡ it.client.me
      → that.client.server ≡ it.client.server → that.client.window ≡ it.client.window → P that)
      → AllByRecursion P then.parties
  each-station P each =
      all-by P then.parties
      (λ number that there. let it = before number that (then-is number that there) in
      each number that it.0 it.1 it.2 it.3 it.4)

  stations : AreStationsOf then
  stations = record {
    server = sound.stations.server;
    window = sound.stations.window;
    most = subst (λ n. n ≤ 8) (sym (length-set old.parties c now)) sound.stations.most;
    are_calls = each-station (λ (p : Party). IsCall p.client.me)
        (λ number that it there me server window. subst IsCall (sym me)
        (all-at (λ (p : Party). IsCall p.client.me) old.parties number it sound.stations.are_calls there));
    distinct = λ one two party that at_one at_two same.
        let first = before one party (then-is one party at_one) in
        let second = before two that (then-is two that at_two) in
        sound.stations.distinct one two first.0 second.0 first.1 second.1 (sym first.2 ∙ same ∙ second.2);
    servers = each-station (λ (p : Party). p.client.server ≡ old.server.me)
        (λ number that it there me server window. server
        ∙ all-at (λ (p : Party). p.client.server ≡ old.server.me) old.parties number it sound.stations.servers
        there);
    windows = each-station (λ (p : Party). p.client.window ≡ old.server.window)
        (λ number that it there me server window. window
        ∙ all-at (λ (p : Party). p.client.window ≡ old.server.window) old.parties number it sound.stations.windows
        there);
  }

  sits-then : (number : ℕ) (that : Party) → IsClientThen number that → SitsBy old.server that.client.me that.attempts
  sits-then number that (own number_is that_is) =
      let sits = sits-stays old.server was.client.me was.attempts now.attempts made.sessions
      (calls old sound c was is).sits in
      subst (λ (p : Party). SitsBy old.server p.client.me p.attempts) (sym that_is)
      (subst (λ me. SitsBy old.server me now.attempts) (sym made.me) sits)
  sits-then number that (other number_is there) = (calls old sound number that there).sits

  known : AreSeatsKnown then
  known place seat at =
      let session = sound.places.sessions place seat at in
      let it = still session.c session.party session.is_party in
      (session.c, it.0, it.1, session.caller_is ∙ sym it.2)

  own-then : IsParty then c now
  own-then = record {
    attempts = made.goes.attempts_are;
    windows = made.goes.windows;
    works = made.works;
    link = made.goes.link;
    may_step = made.goes.may_step;
    tasks = made.tasks;
    job = made.job;
    facts = made.facts;
  }

  party-then : (number : ℕ) (that : Party) → IsClientThen number that → IsParty then number that
  party-then number that (own number_is that_is) =
      subst (λ (p : Party). IsParty then number p) (sym that_is)
      (subst (λ n. IsParty then n now) (sym number_is) own-then)
  party-then number that (other number_is there) =
      let it = sound.parties number that there in
      record {
        attempts = it.attempts;
        windows = it.windows;
        works =
            each-weaker {P = (λ (a : Attempt). IsWork old.files that a.client.asked)} {Q =
            (λ a. IsWork then.files that a.client.asked)} that.attempts
            (λ a works. work-more old.files asked that a.client.asked works) it.works;
        link = it.link;
        may_step = it.may_step;
        tasks = tasks-more old.files asked number that it.tasks;
        job = it.job;
        facts =
            begin_law.longer old.server.store old.files number that asked (stands old sound number that there) it.facts;
      }

  -- ---- numbers

  -- the session at a place was there, at this one or at the one before
  session-at : (olds news : List Attempt) (at : ℕ) (b : Attempt) (side : ServerSide)
      → sessions_of news ≡ sessions_of olds → slice_get news at ≡ Some b → b.server ≡ Some side
      → (a : Attempt) × (slice_get olds at ≡ Some a) × (a.server ≡ Some side)
  session-at olds news at b side same there is_side =
      let in_news = at-map (λ (a : Attempt). a.server) news at b there in
      let in_olds = ap (λ (sessions : List (Option ServerSide)). slice_get sessions at) (sym same) ∙ in_news in
      let was = map-at (λ (a : Attempt). a.server) olds at b.server in_olds in
      (was.0, was.1, sym was.2 ∙ is_side)

  -- the place of the session of the client's that was at this one
  abbrev pub shifted : SessionsStay was.attempts now.attempts → ℕ → ℕ
  shifted (inl same) earlier = earlier
  shifted (inr one) earlier = suc earlier

  -- a number was given at this place of the client's, or, if an attempt came, at the one before
  pub record WasGranted (number at grant : ℕ) : Type 0 where
    pub earlier : ℕ
    pub granted : GrantedAt old number earlier grant
    pub own : number ≡ c → at ≡ shifted made.sessions earlier
    pub other : number ≢ c → at ≡ earlier

  -- the session at a place of the client's was there
  own-session : (stay : SessionsStay was.attempts now.attempts) (at : ℕ) (b : Attempt) (side : ServerSide)
      → slice_get now.attempts at ≡ Some b → b.server ≡ Some side
      → (earlier : ℕ) × (a : Attempt) × (slice_get was.attempts earlier ≡ Some a) × (a.server ≡ Some
      side) × (at ≡ shifted stay earlier)
  own-session (inl same) at b side there is_side =
      let it = session-at was.attempts now.attempts at b side same there is_side in (at, it.0, it.1, it.2, refl)
  own-session (inr one) at b side there is_side = by now.attempts one at there
    where
      by : (attempts : List Attempt) → sessions_of attempts ≡ None ∷ sessions_of was.attempts → (at : ℕ)
          → slice_get attempts at ≡ Some b
          → (earlier : ℕ) × (a : Attempt) × (slice_get was.attempts earlier ≡ Some a) × (a.server ≡ Some
          side) × (at ≡ suc earlier)
      by [] one at there = absurd cc
      by (first ∷ rest) one zero there =
          let none : first.server ≡ None = same_Some first.server None
          (ap (λ (s : List (Option ServerSide)). slice_get s 0) one) in
          absurd (let some : None ≡ Some side = sym none ∙ ap (λ (it : Attempt). it.server) (same_Some first b there)
          ∙ is_side in cc)
      by (first ∷ rest) one (suc at) there =
          let same : sessions_of rest ≡ sessions_of was.attempts =
          ap (λ (s : List (Option ServerSide)). drop 1 s) one in
          let it = session-at was.attempts rest at b side same there is_side in (at, it.0, it.1, it.2, refl)

  was-granted : (number at grant : ℕ) → GrantedAt then number at grant → WasGranted number at grant
  was-granted number at grant granted = by granted.party (then-is number granted.party granted.is_party) granted.is_side
    where
      by : (that : Party) → IsClientThen number that → IsSideAt that at granted.side → WasGranted number at grant
      by that (own number_is that_is) is_side =
          let here = subst (λ (p : Party). IsSideAt p at granted.side) that_is is_side in
          let it = own-session made.sessions at here.attempt granted.side here.is_attempt here.is_side in
          record {
            earlier = it.0;
            granted =
                record {
                  party = was;
                  is_party = ap (λ i. slice_get old.parties i) number_is ∙ is;
                  side = granted.side;
                  is_side = record { attempt = it.1; is_attempt = it.2; is_side = it.3 };
                  file_length = granted.file_length;
                  grants = granted.grants;
                };
            own = λ same. it.4;
            other = λ differs. absurd (differs number_is);
          }
      by that (other number_is there) is_side =
          record {
            earlier = at;
            granted =
                record {
                  party = that;
                  is_party = there;
                  side = granted.side;
                  is_side = is_side;
                  file_length = granted.file_length;
                  grants = granted.grants;
                };
            own = λ same. absurd (number_is same);
            other = λ differs. refl;
          }

  granted-once : AreGrantedOnce then
  granted-once one at two that grant first second =
      let before_one = was-granted one at grant first in
      let before_two = was-granted two that grant second in
      let same = sound.granted one before_one.earlier two before_two.earlier grant before_one.granted
      before_two.granted in
      (same.0, by before_one before_two same.0 same.1 (cases_eq one c))
    where
      by : (before_one : WasGranted one at grant) (before_two : WasGranted two that grant) → one ≡ two
          → before_one.earlier ≡ before_two.earlier → (one ≡ c) ⊎ (one ≢ c) → at ≡ that
      by before_one before_two numbers earlier (inl own_is) =
          before_one.own own_is ∙ ap (shifted made.sessions) earlier ∙ sym (before_two.own (sym numbers ∙ own_is))
      by before_one before_two numbers earlier (inr differs) =
          before_one.other differs ∙ earlier ∙ sym (before_two.other (λ same. differs (numbers ∙ same)))

  pub then-sound : Sound then
  then-sound = record {
    stations = stations;
    store = sound.store;
    may_step = sound.may_step;
    places =
        together then (between old sound) known
        (λ number that there. sits-then number that (then-is number that there));
    lists = sound.lists;
    files = each-append (λ (it : Asked). IsGoodFile it.file) old.files asked sound.files made.good;
    parties = λ number that there. party-then number that (then-is number that there);
    granted = granted-once;
  }
