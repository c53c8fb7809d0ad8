-- The world before a schedule's events is sound.
use Rattle.std.proofs.Common.{◌≡◌, ◌≢◌, ℕ, zero, suc, ◌≤◌, List, [], ◌∷◌, map, refl, ap, sym, ◌∙◌, subst, arith, Some}
use Rattle.air_world.proofs.Names.{IsTrue, slice_get, AllByRecursion, length-map, All-from_recursion, All-nil, same_Some, CallSign, IsCall, is_call_char, Window, window_of, empty_store, Attempt, OnlyNewestUp, Party, first_party, ServerSide, IsSoundStore, facts-first, no-task, AreDistinct, IsSchedule, Schedule, ArePlaces, AreStationsOf, IsParty, IsSideAt, Sound, PartyAt, first_world, pacsat, store_blocks}
use Rattle.air_world.proofs.ServerCut.{none-connected, none-leaving}

-- the party at a place is the first one of the call there
first-at : (server : CallSign) (w : Window) (calls : List CallSign) (c : ℕ) (party : Party)
    → slice_get (map (first_party server w) calls) c ≡ Some party
    → (call : CallSign) × (slice_get calls c ≡ Some call) × (party ≡ first_party server w call)
first-at server w [] c party there = absurd (cc)
first-at server w (call ∷ calls) zero party there =
    (call, refl, sym (same_Some (first_party server w call) party there))
first-at server w (call ∷ calls) (suc c) party there = first-at server w calls c party there

-- calls of which none is another one's
apart-from : (call : CallSign) (calls : List CallSign) (c : ℕ) (it : CallSign)
    → AllByRecursion (λ other. call ≢ other) calls
    → slice_get calls c ≡ Some it → call ≢ it
apart-from call [] c it apart there = absurd (cc)
apart-from call (other ∷ calls) zero it apart there = λ same. apart.0 (same ∙ sym (same_Some other it there))
apart-from call (other ∷ calls) (suc c) it apart there = apart-from call calls c it apart.1 there

one-place : (calls : List CallSign) (c other : ℕ) (it : CallSign) → AreDistinct calls → slice_get calls c ≡ Some it
    → slice_get calls other ≡ Some it → c ≡ other
one-place [] c other it distinct there that = absurd (cc)
one-place (call ∷ calls) zero zero it distinct there that = refl
one-place (call ∷ calls) zero (suc other) it distinct there that =
    absurd (apart-from call calls other it distinct.0 that (same_Some call it there))
one-place (call ∷ calls) (suc c) zero it distinct there that = absurd
    (apart-from call calls c it distinct.0 there (same_Some call it that))
one-place (call ∷ calls) (suc c) (suc other) it distinct there that = ap (λ n. suc n)
    (one-place calls c other it distinct.1 there that)

first-distinct : (server : CallSign) (w : Window) (calls : List CallSign) (c other : ℕ) (party that : Party)
    → AreDistinct calls
    → slice_get (map (first_party server w) calls) c ≡ Some party
    → slice_get (map (first_party server w) calls) other ≡ Some that
    → party.client.me ≡ that.client.me → c ≡ other
first-distinct server w calls c other party that distinct there those same =
    let one = first-at server w calls c party there in
    let two = first-at server w calls other that those in
    let calls_same : two.0 ≡ one.0 =
    sym (ap (λ (it : Party). it.client.me) two.2) ∙ sym same ∙ ap (λ (it : Party). it.client.me) one.2 in
    one-place calls c other one.0 distinct one.1 (two.1 ∙ ap Some calls_same)

-- none has an attempt
no-side : (schedule : Schedule) (c at : ℕ) (party : Party) (side : ServerSide) → PartyAt (first_world schedule) c party
    → IsSideAt party at side → ⊥
no-side schedule c at party side there is =
    let one = first-at pacsat (window_of schedule.size) schedule.calls c party there in
    let none : slice_get {X = Attempt} [] at ≡ Some is.attempt = sym
    (ap (λ (it : Party). slice_get it.attempts at) one.2) ∙ is.is_attempt in
    cc

-- ---- the server

empty-sound : IsSoundStore (empty_store store_blocks)
empty-sound = record {
  is_store = record {
    entries = tt;
    callers = tt;
    next = omega arith;
    count = omega arith;
    blocks = omega arith;
    some = omega arith;
    most = omega arith;
  };
  keeps_rules = tt;
  octets = tt;
}

pacsat-call : IsCall pacsat
pacsat-call = record {
  spelled = (
    pacsat.chars,
    (
      omega arith,
      omega arith,
      All-from_recursion (λ c. IsTrue (is_call_char c)) pacsat.chars (refl, (refl, (refl, (refl, (refl, (refl, tt)))))),
    ),
    refl,
  );
  in_range = omega arith;
}

first-stations : (schedule : Schedule) → IsSchedule schedule → AreStationsOf (first_world schedule)
first-stations schedule is = record {
  server = pacsat-call;
  window = record { some = is.some; fewer = omega (arith, is.few) };
  most = subst (λ n. n ≤ 8) (sym (length-map schedule.calls (first_party pacsat (window_of schedule.size)))) is.most;
  are_calls = each-first (λ (party : Party). IsCall party.client.me) schedule.calls
      (λ call is_call. is_call) is.are_calls;
  distinct = λ c other party that. first-distinct pacsat
      (window_of schedule.size) schedule.calls c other party that is.distinct;
  servers = each-first (λ (party : Party). party.client.server ≡ pacsat) schedule.calls
      (λ call is_call. refl) is.are_calls;
  windows = each-first (λ (party : Party). party.client.window ≡ window_of schedule.size) schedule.calls
      (λ call is_call. refl) is.are_calls;
}
  where
    each-first : (P : Party → Type 0) (calls : List CallSign)
        → ((call : CallSign) → IsCall call → P (first_party pacsat (window_of schedule.size) call))
        → AllByRecursion IsCall calls
        → AllByRecursion P (map (first_party pacsat (window_of schedule.size)) calls)
    each-first P [] so are = tt
    each-first P (call ∷ calls) so are = (so call are.0, each-first P calls so are.1)

first-places : (schedule : Schedule) → ArePlaces (first_world schedule)
first-places schedule = record {
  eight = refl;
  sessions = λ place it seated. absurd (none-connected place it seated);
  ups = λ place it seated. absurd (none-connected place it seated);
  seated = λ c at party side is_party is_side up. absurd (no-side schedule c at party side is_party is_side);
  newest_up = newest schedule.calls;
  distinct = λ place other it that seated. absurd (none-connected place it seated);
  none_leaving = none-leaving;
}
  where
    newest : (calls : List CallSign)
        → AllByRecursion (λ (party : Party). OnlyNewestUp party.attempts)
        (map (first_party pacsat (window_of schedule.size)) calls)
    newest [] = tt
    newest (call ∷ calls) = (tt, newest calls)

first-party : (schedule : Schedule) (c : ℕ) (call : CallSign)
    → IsParty (first_world schedule) c (first_party pacsat (window_of schedule.size) call)
first-party schedule c call = record {
  attempts = tt;
  windows = tt;
  works = tt;
  link = tt;
  may_step = record { silent = refl; fits = tt };
  tasks = record { each = λ task entry is. absurd (no-task task entry is); as_many = refl };
  job = tt;
  facts = facts-first pacsat call (window_of schedule.size) store_blocks;
}

pub first-sound : (schedule : Schedule) → IsSchedule schedule → Sound (first_world schedule)
first-sound schedule is = record {
  stations = first-stations schedule is;
  store = empty-sound;
  may_step = record {
    silent = refl;
    fits = (tt, (tt, (tt, (tt, (tt, (tt, (tt, (tt, tt))))))));
    queued = (tt, (tt, (tt, (tt, (tt, (tt, (tt, (tt, tt))))))));
  };
  places = first-places schedule;
  lists = All-nil _;
  files = tt;
  parties = λ c party there.
      let at = first-at pacsat (window_of schedule.size) schedule.calls c party there in
      subst (IsParty (first_world schedule) c) (sym at.2) (first-party schedule c at.0);
  granted = λ c at other that number granted those.
      absurd (no-side schedule c at granted.party granted.side granted.is_party granted.is_side);
}
