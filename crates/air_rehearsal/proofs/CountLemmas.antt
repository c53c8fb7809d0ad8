-- What a rehearsal counts, where one event more comes at its end, and what one event adds to it. What may be cited:
--     times-more                         how often what was asked came to an outcome
--     questions-more, events-more        how many questions, and how many events there were
--     waiting_since, cuts-more           the cut that waits for a station after events; how many of its events were cut
--     all-cuts-more                      the same of all stations
--     one_cut, one-cut                   whether one event is cut, by what it is for the station
--     stations-one, stations-none        a sum over the stations of which one alone has anything, or none
--     came-same, came-at                 what one event adds where no client's attempt changes, or that of one place
use Rattle.std.proofs.Common.{◌≡◌, ◌≢◌, ℕ, zero, suc, ◌+◌, ◌<◌, List, [], ◌∷◌, ◌++◌, length, map, Bool, true, false}
use Rattle.std.proofs.Common.{◌&&◌, cond, Option, None, Some, refl, ap, subst, ◌∙◌, inl, inr, arith, length-append}
use Rattle.std.specs.Prelude.{is_none}
use Rattle.ftl0_client.specs.Attempt.Attempted.{Attempted, outcome_of}
use Rattle.air_world.specs.Attempts.Party.{Party}
use Rattle.air_rehearsal.proofs.Names.{slice_get, slice_set, AllZip, count_by, range_with_len, sum_by, zip, cases_lt, sum_by-map-range_with_len_more, sum_by-append, sum_by-cons, same_Some, Outcome, is_under_way, outcome_by, Event, Schedule, World, one_if, until, came_to, cuts_of, is_question, last_world, times, IsStationOf, Role, Station, acts, breaks_off, client_at, cut_worlds, looks_on, role_of, stations_of, the_server, waiting_after, will_be_cut, with_cut}

-- ---- counts of lists

one-cond : (is : Bool) → cond is 1 0 ≡ one_if is
one-cond true = refl
one-cond false = refl

-- one element more is counted where the test holds of it
count-more : {X : Type 0} (test : X → Bool) (xs : List X) (x : X)
    → count_by test (xs ++ x ∷ []) ≡ count_by test xs + one_if (test x)
count-more test xs x =
    sum_by-append (λ it. cond (test it) 1 0) xs (x ∷ [])
    ∙ (let one = one-cond (test x) in omega (arith, one))

pub questions-more : (events : List Event) (event : Event)
    → count_by is_question (events ++ event ∷ []) ≡ count_by is_question events + one_if (is_question event)
questions-more events event = count-more is_question events event

pub events-more : (events : List Event) (event : Event) → length (events ++ event ∷ []) ≡ length events + 1
events-more events event = length-append events (event ∷ [])

pub times-more : (is_such : Option Outcome → Bool) (world : World) (worlds : List World) (next : World)
    → times is_such world (worlds ++ next ∷ [])
    ≡ times is_such world worlds + count_by (came_to is_such) (zip (last_world world worlds).parties next.parties)
times-more is_such world [] next = omega arith
times-more is_such world (one ∷ worlds) next =
    let rest = times-more is_such one worlds next in omega (arith, rest)

-- ---- cuts

-- the cut that waits for a station after these events, where this one waited before
abbrev pub waiting_since : Station → Option ℕ → List Event → Option ℕ
waiting_since station waiting [] = waiting
waiting_since station waiting (event ∷ events) =
    waiting_since station (waiting_after (role_of station event) waiting) events

-- one where an event is cut, by what it is for the station
abbrev pub one_cut : Role → Option ℕ → ℕ
one_cut acts (Some call) = 1
one_cut acts None = 0
one_cut breaks_off waiting = 0
one_cut (will_be_cut call) waiting = 0
one_cut looks_on waiting = 0

pub one-cut : (role : Role) (waiting : Option ℕ) (world : World) → length (with_cut role waiting world []) ≡ one_cut role waiting
one-cut acts (Some call) world = refl
one-cut acts None world = refl
one-cut breaks_off waiting world = refl
one-cut (will_be_cut call) waiting world = refl
one-cut looks_on waiting world = refl

cut-front : (role : Role) (waiting : Option ℕ) (world : World) (later more : List World)
    → with_cut role waiting world (later ++ more) ≡ with_cut role waiting world later ++ more
cut-front acts (Some call) world later more = refl
cut-front acts None world later more = refl
cut-front breaks_off waiting world later more = refl
cut-front (will_be_cut call) waiting world later more = refl
cut-front looks_on waiting world later more = refl

cut-worlds-more :
    (station : Station) (waiting : Option ℕ) (events : List Event) (worlds : List World) (event : Event) (next : World)
    → length worlds ≡ length events
    → cut_worlds station waiting (events ++ event ∷ []) (worlds ++ next ∷ [])
    ≡ cut_worlds station waiting events worlds
    ++ with_cut (role_of station event) (waiting_since station waiting events) next []
cut-worlds-more station waiting [] [] event next many = refl
cut-worlds-more station waiting [] (world ∷ worlds) event next many = absurd (let no : ⊥ = omega (arith, many) in no)
cut-worlds-more station waiting (first ∷ events) [] event next many =
    absurd (let no : ⊥ = omega (arith, many) in no)
cut-worlds-more station waiting (first ∷ events) (world ∷ worlds) event next many =
    let role = role_of station first in
    let after = waiting_after role waiting in
    ap (with_cut role waiting world)
    (cut-worlds-more station after events worlds event next
    (let same : length worlds ≡ length events = omega (arith, many) in same))
    ∙ cut-front role waiting world (cut_worlds station after events worlds)
    (with_cut (role_of station event) (waiting_since station after events) next [])

-- One event more is cut where the station acts in it and a cut waits.
pub cuts-more :
    (schedule : Schedule) (events : List Event) (worlds : List World) (event : Event) (next : World)
    → length worlds ≡ length events → (station : Station)
    → cuts_of (until (events ++ event ∷ []) schedule) (worlds ++ next ∷ []) station
    ≡ cuts_of (until events schedule) worlds station
    + one_cut (role_of station event) (waiting_since station None events)
cuts-more schedule events worlds event next many station =
    let role = role_of station event in
    let waiting = waiting_since station None events in
    ap length (cut-worlds-more station None events worlds event next many)
    ∙ length-append (cut_worlds station None events worlds) (with_cut role waiting next [])
    ∙ ap (λ n. cuts_of (until events schedule) worlds station + n) (one-cut role waiting next)

sum-both : {X : Type 0} (f g h : X → ℕ) (xs : List X) → ((x : X) → f x ≡ g x + h x)
    → sum_by f xs ≡ sum_by g xs + sum_by h xs
sum-both f g h [] both = refl
sum-both f g h (x ∷ xs) both =
    let here = both x in
    let rest = sum-both f g h xs both in
    omega (arith, here, rest, sum_by-cons f x xs, sum_by-cons g x xs, sum_by-cons h x xs)

-- So it is of all stations.
pub all-cuts-more :
    (schedule : Schedule) (events : List Event) (worlds : List World) (event : Event) (next : World)
    → length worlds ≡ length events
    → sum_by (cuts_of (until (events ++ event ∷ []) schedule) (worlds ++ next ∷ [])) (stations_of schedule)
    ≡ sum_by (cuts_of (until events schedule) worlds) (stations_of schedule)
    + sum_by (λ station. one_cut (role_of station event) (waiting_since station None events)) (stations_of schedule)
all-cuts-more schedule events worlds event next many =
    sum-both (cuts_of (until (events ++ event ∷ []) schedule) (worlds ++ next ∷ []))
    (cuts_of (until events schedule) worlds)
    (λ station. one_cut (role_of station event) (waiting_since station None events)) (stations_of schedule)
    (cuts-more schedule events worlds event next many)

-- a sum over the clients of which none has anything, and of which one has
clients-none : (f : Station → ℕ) (count : ℕ) → ((c : ℕ) → c < count → f (client_at c) ≡ 0)
    → sum_by f (map client_at (range_with_len 0 count)) ≡ 0
clients-none f zero none = refl
clients-none f (suc count) none =
    let next : count + 1 ≡ suc count = omega arith in
    let more = sum_by-map-range_with_len_more f client_at 0 count count (omega arith) in
    let rest = clients-none f count (λ c below. none c (omega (arith, below))) in
    let here = none count (omega arith) in
    subst (λ n. sum_by f (map client_at (range_with_len 0 n)) ≡ 0) next
    (let all : sum_by f (map client_at (range_with_len 0 (count + 1))) ≡ 0 = omega (arith, more, rest, here) in all)

clients-one : (f : Station → ℕ) (count c : ℕ) → c < count
    → ((other : ℕ) → other ≢ c → f (client_at other) ≡ 0)
    → sum_by f (map client_at (range_with_len 0 count)) ≡ f (client_at c)
clients-one f zero c below others = absurd (let no : ⊥ = omega (arith, below) in no)
clients-one f (suc count) c below others =
    let next : count + 1 ≡ suc count = omega arith in
    let more = sum_by-map-range_with_len_more f client_at 0 count count (omega arith) in
    subst (λ n. sum_by f (map client_at (range_with_len 0 n)) ≡ f (client_at c)) next
    (more
    ∙ elim (cases_lt c count) [
      | inl before ↦
          (let rest = clients-one f count c before others in
          let here = others count (λ same. (let no : ⊥ = omega (arith, before, same) in no)) in
          let all : sum_by f (map client_at (range_with_len 0 count)) + f (client_at count) ≡ f (client_at c) =
          omega (arith, rest, here) in all)
      | inr last ↦
          (let same : count ≡ c = omega (arith, last, below) in
          let rest =
          clients-none f count
          (λ other under. others other (λ is. (let no : ⊥ = omega (arith, under, last, is) in no)))
          in
          let here = ap (λ n. f (client_at n)) same in
          let all : sum_by f (map client_at (range_with_len 0 count)) + f (client_at count) ≡ f (client_at c) =
          omega (arith, rest, here) in all)
    ])

abbrev clients_of : Schedule → List Station
clients_of schedule = map client_at (range_with_len 0 (length schedule.calls))

-- A sum over the stations of which one alone has anything.
pub stations-one : (schedule : Schedule) (f : Station → ℕ) (station : Station) → IsStationOf schedule station
    → ((other : Station) → other ≢ station → f other ≡ 0) → sum_by f (stations_of schedule) ≡ f station
stations-one schedule f the_server is others =
    let rest = clients-none f (length schedule.calls) (λ c below. others (client_at c) (λ same. (let no : ⊥ = cc same in no))) in
    omega (arith, rest, sum_by-cons f the_server (clients_of schedule))
stations-one schedule f (client_at c) is others =
    let server = others the_server (λ same. (let no : ⊥ = cc same in no)) in
    let rest =
    clients-one f (length schedule.calls) c is
    (λ other differs. others (client_at other) (λ same. differs (let e : other ≡ c = cc same in e)))
    in
    omega (arith, server, rest, sum_by-cons f the_server (clients_of schedule))

pub stations-none : (schedule : Schedule) (f : Station → ℕ) → ((station : Station) → f station ≡ 0)
    → sum_by f (stations_of schedule) ≡ 0
stations-none schedule f none =
    let server = none the_server in
    let rest = clients-none f (length schedule.calls) (λ c below. none (client_at c)) in
    omega (arith, server, rest, sum_by-cons f the_server (clients_of schedule))

-- ---- outcomes

-- the client's attempt is as it was
abbrev pub SameAttempt : Party → Party → Type 0
SameAttempt party now = now.client.attempt ≡ party.client.attempt

-- what is under way has come to nothing
not-both : (is_such : Option Outcome → Bool) → is_such None ≡ false → (attempt : Option Attempted)
    → (is_under_way attempt && is_such (outcome_by attempt)) ≡ false
not-both is_such not None = refl
not-both is_such not (Some a) = by (outcome_of a)
  where
    by : (of : Option Outcome) → (is_none of && is_such of) ≡ false
    by None = not
    by (Some reached) = refl

came-not : (is_such : Option Outcome → Bool) → is_such None ≡ false → (party now : Party)
    → SameAttempt party now → came_to is_such (party, now) ≡ false
came-not is_such not party now same =
    ap (λ attempt. is_under_way party.client.attempt && is_such (outcome_by attempt)) same
    ∙ not-both is_such not party.client.attempt

-- one count more, by the client at the first place
counted : (is_such : Option Outcome → Bool) (party it : Party) (parties now : List Party)
    → count_by (came_to is_such) (zip (party ∷ parties) (it ∷ now))
    ≡ one_if (came_to is_such (party, it)) + count_by (came_to is_such) (zip parties now)
counted is_such party it parties now =
    sum_by-cons (λ both. cond (came_to is_such both) 1 0) (party, it) (zip parties now)
    ∙ ap (λ n. n + count_by (came_to is_such) (zip parties now)) (one-cond (came_to is_such (party, it)))

-- Where no client's attempt changes nothing that was asked comes to an outcome.
pub came-same : (is_such : Option Outcome → Bool) → is_such None ≡ false → (parties now : List Party)
    → AllZip SameAttempt parties now → count_by (came_to is_such) (zip parties now) ≡ 0
came-same is_such not [] [] all = refl
came-same is_such not [] (it ∷ now) all = absurd all
came-same is_such not (party ∷ parties) [] all = absurd all
came-same is_such not (party ∷ parties) (it ∷ now) all =
    let here = ap one_if (came-not is_such not party it all.0) in
    let rest = came-same is_such not parties now all.1 in
    counted is_such party it parties now
    ∙ (let none :
    one_if (came_to is_such (party, it)) + count_by (came_to is_such) (zip parties now) ≡ 0 = omega (arith, here, rest)
    in none)

-- each is as it was
pub same-each : (parties : List Party) → AllZip SameAttempt parties parties
same-each [] = tt
same-each (party ∷ parties) = (refl, same-each parties)

-- Where the client at one place is another one, it comes to an outcome where that one's does.
pub came-at : (is_such : Option Outcome → Bool) → is_such None ≡ false → (parties : List Party) (c : ℕ)
    (party now : Party) → slice_get parties c ≡ Some party
    → count_by (came_to is_such) (zip parties (slice_set parties c now)) ≡ one_if (came_to is_such (party, now))
came-at is_such not [] c party now at = absurd (let no : ⊥ = cc at in no)
came-at is_such not (first ∷ parties) zero party now at =
    let rest = came-same is_such not parties parties (same-each parties) in
    let here = ap (λ (it : Party). one_if (came_to is_such (it, now))) (same_Some first party at) in
    counted is_such first now parties parties
    ∙ (let all :
    one_if (came_to is_such (first, now)) + count_by (came_to is_such) (zip parties parties)
    ≡ one_if (came_to is_such (party, now)) = omega (arith, here, rest) in all)
came-at is_such not (first ∷ parties) (suc c) party now at =
    let here = ap one_if (came-not is_such not first first refl) in
    let rest = came-at is_such not parties c party now at in
    counted is_such first first parties (slice_set parties c now)
    ∙ (let all :
    one_if (came_to is_such (first, first)) + count_by (came_to is_such) (zip parties (slice_set parties c now))
    ≡ one_if (came_to is_such (party, now)) = omega (arith, here, rest) in all)

-- clients that are made into others of the same attempt, one by one
pub same-map : (change : Party → Party) → ((party : Party) → SameAttempt party (change party)) → (parties : List Party)
    → AllZip SameAttempt parties (map change parties)
same-map change same [] = tt
same-map change same (party ∷ parties) = (same party, same-map change same parties)
