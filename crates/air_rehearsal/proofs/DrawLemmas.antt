-- What the definitions of a generator say of one step more.
use Rattle.std.specs.Prelude.{◌≡◌, ◌+◌, ◌-◌, ◌%◌, ◌<◌, ◌≤◌, ◌==◌, ◌∷◌, ◌++◌}
use Rattle.std.proofs.Common.{sym, ap, ◌∙◌, subst, inl, inr, arith}
use Rattle.air_schedule.specs.declared.event.Event.{Event as StoredEvent}
use Rattle.air_rehearsal.specs.declared.generator.Fate.TheVariants.{Late, Lost, Once, Twice}
use Rattle.air_rehearsal.specs.declared.generator.Way.{Way}
use Rattle.air_rehearsal.specs.declared.generator.Way.TheVariants.{ToClient, ToServer}
use Rattle.air_rehearsal.proofs.Names.{ℕ, zero, suc, List, [], Option, refl, IfSome, None, range_with_len, option_map, cases_lt, eq-eqb, ne_eqb, event_value, Event, IsInRange, to_client, rounds, delivery_of, Answers, Carries, CarriesOne, Drawing, Exchange, Exchanges, IsClosed, Tries, TriesIf, TriesTimes, Turns, between, drawn, fate_of, is_none_of, next_fate, next_number, put_off, still_looked, times_of, Fate, Looked}
use Rattle.air_rehearsal.proofs.DriveLemmas.{Then}

-- ---- transmissions

-- none is between a number and one that is no higher
pub none-between : (from to : ℕ) → to ≤ from → between from to ≡ []
none-between from to no_more = ap (range_with_len (from + 1)) (let e : to - from ≡ 0 = omega (arith, no_more) in e)

-- the first one, and the others
pub first-between : (place to : ℕ) → place < to → between place to ≡ (place + 1) ∷ between (place + 1) to
first-between place to less =
    ap (range_with_len (place + 1)) (let e : to - place ≡ suc (to - (place + 1)) = omega (arith, less) in e)

-- and whether there are others
pub last-between : (place to : ℕ) → place < to → is_none_of (between (place + 1) to) ≡ ((place + 1) == to)
last-between place to less = by (to - (place + 1)) refl
  where
    by : (n : ℕ) → to - (place + 1) ≡ n → is_none_of (between (place + 1) to) ≡ ((place + 1) == to)
    by zero is =
        ap (λ (k : ℕ). is_none_of (range_with_len (place + 1 + 1) k)) is
        ∙ sym (eq-eqb (place + 1) to (omega (arith, is, less)))
    by (suc n) is =
        ap (λ (k : ℕ). is_none_of (range_with_len (place + 1 + 1) k)) is
        ∙ sym (ne_eqb (place + 1) to (λ e. omega (arith, is, e)))

-- a delivery has no number that may be too great
pub delivery-fits : (way : Way) (client number : ℕ) → IsInRange (delivery_of way client number)
delivery-fits ToServer client number = tt
delivery-fits ToClient client number = tt

-- the delivery that is put off, as an event of another kind
pub put-off : {E F : Type 0} (f : E → F) (fate : Fate) (delivery : E)
    → option_map f (put_off fate delivery) ≡ put_off fate (f delivery)
put-off f Lost delivery = refl
put-off f Twice delivery = refl
put-off f Late delivery = refl
put-off f Once delivery = refl

pub put-off-fits :
    (fate : Fate) (delivery : StoredEvent) → IsInRange (event_value delivery)
    → IfSome (put_off fate delivery) (λ it. IsInRange (event_value it))
put-off-fits Lost delivery fits = tt
put-off-fits Twice delivery fits = tt
put-off-fits Late delivery fits = fits
put-off-fits Once delivery fits = tt

-- one transmission was carried, and then the others are
pub carries-more :
    (event : ℕ → Event) (waiting : Option Event) (place to drawn_number : ℕ) (x y last : Drawing) → place < to
    → drawn_number ≡ next_number x.state
    → Then (λ old new. new ≡ drawn 1 old)
    (Then
    (TriesTimes (times_of (fate_of (drawn_number % 16) ((place + 1) == to))) (event (place + 1)))
    (TriesIf waiting)) x y
    → Carries event (put_off (fate_of (drawn_number % 16) ((place + 1) == to)) (event (place + 1)))
    (between (place + 1) to) y last
    → Carries event waiting (between place to) x last
carries-more event waiting place to drawn_number x y last less number_is came carries =
    let fate : fate_of (drawn_number % 16) ((place + 1) == to) ≡ next_fate x.state (between (place + 1) to) =
    ap (λ (n : ℕ). fate_of (n % 16) ((place + 1) == to)) number_is
    ∙ ap (fate_of (next_number x.state % 16)) (sym (last-between place to less)) in
    let one : CarriesOne (fate_of (drawn_number % 16) ((place + 1) == to)) (event (place + 1)) waiting (drawn 1 x) y =
    subst
    (λ (z : Drawing).
    CarriesOne (fate_of (drawn_number % 16) ((place + 1) == to)) (event (place + 1)) waiting z y) came.1 came.2 in
    subst (λ (numbers : List ℕ). Carries event waiting numbers x last) (sym (first-between place to less)) (
      y,
      subst (λ (f : Fate). CarriesOne f (event (place + 1)) waiting (drawn 1 x) y) fate one,
      subst (λ (f : Fate). Carries event (put_off f (event (place + 1))) (between (place + 1) to) y last) fate carries,
    )

-- where one of the two stations sent something its transmissions are carried
pub answers-carry :
    (client : ℕ) (sent answered : List ℕ) (x y : Drawing) → (sent ≡ [] → answered ≡ [] → ⊥)
    → Carries (to_client client) None answered x y → Answers client sent answered x y
answers-carry client [] [] x y some carries = absurd (some refl refl)
answers-carry client [] (first ∷ more) x y some carries = carries
answers-carry client (first ∷ more) answered x y some carries = carries

-- some are between where there are numbers between
pub some-between : (from to : ℕ) → between from to ≡ [] → to ≤ from
some-between from to none = elim (cases_lt from to) [
  | inl less ↦ absurd (let no = sym (first-between from to less) ∙ none in cc)
  | inr no_more ↦ no_more
]

pub no-more : (from to : ℕ) → (from < to → ⊥) → to ≤ from
no-more from to not = elim (cases_lt from to) [
  | inl less ↦ absurd (not less)
  | inr past ↦ past
]

-- where neither did both count a tick
pub answers-tick :
    (client from to from_server to_client_now : ℕ) (x y : Drawing) → to ≤ from → to_client_now ≤ from_server
    → Answers client [] [] x y → Answers client (between from to) (between from_server to_client_now) x y
answers-tick client from to from_server to_client_now x y one other ticks =
    subst (λ (sent : List ℕ). Answers client sent (between from_server to_client_now) x y)
    (sym (none-between from to one))
    (subst (λ (answered : List ℕ). Answers client [] answered x y)
    (sym (none-between from_server to_client_now other)) ticks)

-- ---- exchanges

-- no exchange is made where the client is closed
pub exchanges-closed :
    (done client : ℕ) (looked : Looked) (x y : Drawing) → done < 20 → IsClosed x.world client → y ≡ x
    → Exchanges (20 - done) client looked x y
exchanges-closed done client looked x y less closed same =
    subst (λ (n : ℕ). Exchanges n client looked x y)
    (let e : suc (20 - (done + 1)) ≡ 20 - done = omega (arith, less) in e) (inl (closed, same))

-- one exchange was made, and then the others are
pub exchanges-more :
    (done client : ℕ) (looked looked_now : Looked) (x y last : Drawing) → done < 20 → ¬ IsClosed x.world client
    → Exchange client (still_looked x.world client looked) looked_now x y
    → Exchanges (20 - (done + 1)) client looked_now y last → Exchanges (20 - done) client looked x last
exchanges-more done client looked looked_now x y last less going exchange exchanges =
    subst (λ (n : ℕ). Exchanges n client looked x last)
    (let e : suc (20 - (done + 1)) ≡ 20 - done = omega (arith, less) in e)
    (inr (going, (looked_now, y, exchange, exchanges)))

-- ---- turns

pub turns-more :
    (numbers more : List ℕ) (x y last : Drawing) → Turns numbers x y → Turns more y last → Turns (numbers ++ more) x last
turns-more [] more x y last turns others = subst (λ (z : Drawing). Turns more z last) turns others
turns-more (number ∷ numbers) more x y last turns others =
    (turns.0, turns.1, turns-more numbers more turns.0 y last turns.2 others)

-- one round more
pub rounds-more :
    (count counter : ℕ) (x y last : Drawing) → counter < count → Turns (rounds 1) x y
    → Turns (rounds (count - (counter + 1))) y last → Turns (rounds (count - counter)) x last
rounds-more count counter x y last less one others =
    subst (λ (n : ℕ). Turns (rounds n) x last)
    (let e : suc (count - (counter + 1)) ≡ count - counter = omega (arith, less) in e)
    (turns-more (rounds 1) (rounds (count - (counter + 1))) x y last one others)

-- once more
pub times-more :
    (event : Event) (times counter : ℕ) (x y last : Drawing) → counter < times → Tries event x y
    → TriesTimes (times - (counter + 1)) event y last → TriesTimes (times - counter) event x last
times-more event times counter x y last less one others =
    subst (λ (n : ℕ). TriesTimes n event x last)
    (let e : suc (times - (counter + 1)) ≡ times - counter = omega (arith, less) in e)
    (y, one, others)
