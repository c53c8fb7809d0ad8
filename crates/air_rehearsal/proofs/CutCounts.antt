-- How many stations' power is cut in an event: that of the one that takes part, where a cut waits for it.
use Rattle.std.specs.Prelude.{◌≡◌, ◌≢◌, ◌+◌, ◌<◌, ◌≤◌}
use Rattle.std.proofs.Common.{sym, ap, ◌∙◌, subst, inl, inr, arith}
use Rattle.air_rehearsal.proofs.Names.{ℕ, zero, suc, [], length, map, slice_get, is_some, Option, None, Some, refl, option_and_then, range_with_len, sum_by, sum_by-cons, Event, World, client_count, cuts_in, waiting_in, one_if, waiting_of, Role, Station, acts, breaks_off, client_at, looks_on, role_of, the_server, will_be_cut, with_cut, Cut, Party as StoredParty, Stations}
use Rattle.air_rehearsal.proofs.ClientGoes.{same_or_other}

other_less : (from c : ℕ) → from ≤ c → c ≢ from → from < c
other_less zero zero low other = absurd (other refl)
other_less zero (suc c) low other = omega arith
other_less (suc from) zero low other = absurd (let no : ⊥ = omega (arith, low) in no)
other_less (suc from) (suc c) low other =
    (let less = other_less from c (omega (arith, low)) (λ e. other (ap suc e)) in omega (arith, less))

-- a sum over clients of whom none counts
none_counts :
    (f : Station → ℕ) (from n : ℕ) → ((i : ℕ) → from ≤ i → i < from + n → f (client_at i) ≡ 0)
    → sum_by f (map client_at (range_with_len from n)) ≡ 0
none_counts f from zero none = refl
none_counts f from (suc n) none =
    let first = none from (omega arith) (omega arith) in
    let rest = none_counts f (from + 1) n (λ i low high. none i (omega (arith, low)) (omega (arith, high))) in
    sum_by-cons f (client_at from) (map client_at (range_with_len (from + 1) n))
    ∙ (let sum : f (client_at from) + sum_by f (map client_at (range_with_len (from + 1) n)) ≡ 0 =
    omega (arith, first, rest) in sum)

-- a sum over clients of whom one alone counts
one_counts :
    (f : Station → ℕ) (c from n : ℕ) → from ≤ c → c < from + n
    → ((i : ℕ) → i ≢ c → f (client_at i) ≡ 0) → sum_by f (map client_at (range_with_len from n)) ≡ f (client_at c)
one_counts f c from zero low high others = absurd (let no : ⊥ = omega (arith, low, high) in no)
one_counts f c from (suc n) low high others =
    sum_by-cons f (client_at from) (map client_at (range_with_len (from + 1) n))
    ∙ elim (same_or_other c from) [
      | inl same ↦
          let rest = none_counts f (from + 1) n
          (λ i least most. others i (λ e. (let no : ⊥ = omega (arith, e, same, least) in no))) in
          let first = ap (λ (j : ℕ). f (client_at j)) same in
          (let sum : f (client_at from) + sum_by f (map client_at (range_with_len (from + 1) n)) ≡ f (client_at c) =
          omega (arith, rest, first) in sum)
      | inr other ↦
          let first = others from (λ e. other (sym e)) in
          let rest = one_counts f c (from + 1) n
          (let more : from + 1 ≤ c = (let less = other_less from c low other in omega (arith, less)) in more) (omega (arith, high))
          others in
          (let sum : f (client_at from) + sum_by f (map client_at (range_with_len (from + 1) n)) ≡ f (client_at c) =
          omega (arith, first, rest) in sum)
    ]

cut_length :
    (role : Role) (cut : Option Cut) (world : World) → role ≡ acts
    → length (with_cut role (waiting_of cut) world []) ≡ one_if (is_some cut)
cut_length role None world is = subst (λ (r : Role). length (with_cut r None world []) ≡ 0) (sym is) refl
cut_length role (Some cut) world is =
    subst (λ (r : Role). length (with_cut r (Some cut.call) world []) ≡ 1) (sym is) refl

no_cut :
    (role : Role) (waiting : Option ℕ) (world : World) → role ≢ acts → length (with_cut role waiting world []) ≡ 0
no_cut acts waiting world other = absurd (other refl)
no_cut breaks_off waiting world other = refl
no_cut (will_be_cut call) waiting world other = refl
no_cut looks_on waiting world other = refl

-- in an event of the server's
pub server_cuts :
    (stations : Stations) (event : Event) (world : World) → role_of the_server event ≡ acts
    → ((c : ℕ) → role_of (client_at c) event ≡ looks_on) → cuts_in stations event world ≡ one_if (is_some stations.cut)
server_cuts stations event world role others =
    let f : Station → ℕ = λ station.
    length (with_cut (role_of station event) (waiting_in stations station) world []) in
    let own = cut_length (role_of the_server event) stations.cut world role in
    let rest = none_counts f 0 (client_count stations)
    (λ i low high.
    subst (λ (r : Role). length (with_cut r (waiting_in stations (client_at i)) world []) ≡ 0) (sym (others i)) refl) in
    sum_by-cons f the_server (map client_at (range_with_len 0 (client_count stations)))
    ∙ (let sum : f the_server + sum_by f (map client_at (range_with_len 0 (client_count stations)))
    ≡ one_if (is_some stations.cut) = omega (arith, own, rest) in sum)

-- in one of a client's
pub client_cuts :
    (stations : Stations) (event : Event) (world : World) (c : ℕ) (self : StoredParty)
    → slice_get stations.parties.items c ≡ Some self → c < client_count stations
    → role_of the_server event ≡ looks_on → role_of (client_at c) event ≡ acts
    → ((i : ℕ) → i ≢ c → role_of (client_at i) event ≡ looks_on)
    → cuts_in stations event world ≡ one_if (is_some self.cut)
client_cuts stations event world c self is within role own others =
    let f : Station → ℕ = λ station.
    length (with_cut (role_of station event) (waiting_in stations station) world []) in
    let server : f the_server ≡ 0 =
    subst (λ (r : Role). length (with_cut r (waiting_in stations the_server) world []) ≡ 0) (sym role) refl in
    let waits : waiting_in stations (client_at c) ≡ waiting_of self.cut =
    ap (λ (x : Option StoredParty). option_and_then (λ (party : StoredParty). waiting_of party.cut) x) is in
    let mine : f (client_at c) ≡ one_if (is_some self.cut) =
    ap (λ (w : Option ℕ). length (with_cut (role_of (client_at c) event) w world [])) waits
    ∙ cut_length (role_of (client_at c) event) self.cut world own in
    let rest = one_counts f c 0 (client_count stations) (omega arith) (omega (arith, within))
    (λ i other.
    subst (λ (r : Role). length (with_cut r (waiting_in stations (client_at i)) world []) ≡ 0) (sym (others i other))
    refl) in
    sum_by-cons f the_server (map client_at (range_with_len 0 (client_count stations)))
    ∙ (let sum : f the_server + sum_by f (map client_at (range_with_len 0 (client_count stations)))
    ≡ one_if (is_some self.cut) = omega (arith, server, mine, rest) in sum)

-- in one in which nobody acts
pub nobody_cuts :
    (stations : Stations) (event : Event) (world : World) → ((station : Station) → role_of station event ≢ acts)
    → cuts_in stations event world ≡ 0
nobody_cuts stations event world none =
    let f : Station → ℕ = λ station.
    length (with_cut (role_of station event) (waiting_in stations station) world []) in
    let own = no_cut (role_of the_server event) (waiting_in stations the_server) world (none the_server) in
    let rest = none_counts f 0 (client_count stations)
    (λ i low high. no_cut (role_of (client_at i) event) (waiting_in stations (client_at i)) world (none (client_at i))) in
    sum_by-cons f the_server (map client_at (range_with_len 0 (client_count stations)))
    ∙ (let sum : f the_server + sum_by f (map client_at (range_with_len 0 (client_count stations))) ≡ 0 =
    omega (arith, own, rest) in sum)
