-- Octets and ticks as what is handed over.
use Rattle.std.proofs.Common.{◌≡◌, ℕ, ◌<◌, List, [], ◌∷◌, ◌++◌, refl, ap, sym, ◌∙◌, append_assoc, append-nil, drop, take, length, Bool, true, false, Some, unwrap_or, arith}
use Rattle.std.specs.Prelude.{◌==◌, if◌then◌else◌}
use Rattle.turn_loop.proofs.Names.{map-append, take-append-drop, All-from_recursion, recursion_from_All, AllByRecursion, IsOctets, Turn, Input, IsInput, octet, octets_at, inputs_of, inputs_since, octets_in, tick, tick_after, turn_inputs}
use Rattle.turn_loop.proofs.Invariants.{last_in}

pub octets_at-append : (moment : ℕ) (xs ys : List ℕ) → octets_at moment (xs ++ ys) ≡ octets_at moment xs ++ octets_at moment ys
octets_at-append moment xs ys = map-append (λ o. octet o moment) xs ys

pub octets_in-append : (xs ys : List Input) → octets_in (xs ++ ys) ≡ octets_in xs ++ octets_in ys
octets_in-append [] ys = refl
octets_in-append (octet o moment ∷ xs) ys = ap (λ (os : List ℕ). o ∷ os) (octets_in-append xs ys)
octets_in-append (tick moment ∷ xs) ys = octets_in-append xs ys

pub octets_in-at : (moment : ℕ) (octets : List ℕ) → octets_in (octets_at moment octets) ≡ octets
octets_in-at moment [] = refl
octets_in-at moment (o ∷ octets) = ap (λ (os : List ℕ). o ∷ os) (octets_in-at moment octets)

are-inputs : (moment : ℕ) (octets : List ℕ) → AllByRecursion (λ o. o < 256) octets → AllByRecursion IsInput (octets_at moment octets)
are-inputs moment [] h = tt
are-inputs moment (o ∷ octets) h = (h.0, are-inputs moment octets h.1)

-- octets that are heard may be handed over
pub octets-inputs : (moment : ℕ) (octets : List ℕ) → IsOctets octets → AllByRecursion IsInput (octets_at moment octets)
octets-inputs moment octets h = are-inputs moment octets (recursion_from_All (λ o. o < 256) octets h)

-- the octets among inputs are octets
octets-below : (inputs : List Input) → AllByRecursion IsInput inputs → AllByRecursion (λ o. o < 256) (octets_in inputs)
octets-below [] h = tt
octets-below (octet o moment ∷ inputs) h = (h.0, octets-below inputs h.1)
octets-below (tick moment ∷ inputs) h = octets-below inputs h.1

pub are-octets : (inputs : List Input) → AllByRecursion IsInput inputs → IsOctets (octets_in inputs)
are-octets inputs h = All-from_recursion (λ o. o < 256) (octets_in inputs) (octets-below inputs h)

-- a tick, where the moment is another one
pub tick-there : (last moment : ℕ) → (moment == last) ≡ false → tick moment ∷ [] ≡ tick_after last moment
tick-there last moment other = sym (ap (λ b. if b then [] else tick moment ∷ []) other)

-- what was handed over before, what was taken of the rest, and what is behind it
pub octets-parts : (moment : ℕ) (all done piece : List ℕ) (taken : ℕ) → all ≡ done ++ piece
    → octets_at moment all ≡ (octets_at moment done ++ octets_at moment (take taken piece)) ++ octets_at moment (drop taken piece)
octets-parts moment all done piece taken split =
    ap (octets_at moment) (split ∙ ap (λ (os : List ℕ). done ++ os) (sym (take-append-drop taken piece)))
    ∙ octets_at-append moment done (take taken piece ++ drop taken piece)
    ∙ ap (λ (is : List Input). octets_at moment done ++ is) (octets_at-append moment (take taken piece) (drop taken piece))
    ∙ sym (append_assoc (octets_at moment done) (octets_at moment (take taken piece)) (octets_at moment (drop taken piece)))

-- what holds of each of some inputs holds of those at their end
pub inputs-behind : (xs ys : List Input) → AllByRecursion IsInput (xs ++ ys) → AllByRecursion IsInput ys
inputs-behind [] ys h = h
inputs-behind (x ∷ xs) ys h = inputs-behind xs ys h.1

-- a tick may be handed over
pub tick-inputs : (last moment : ℕ) → AllByRecursion IsInput (tick_after last moment)
tick-inputs last moment = by-same (moment == last)
  where
    by-same : (same : Bool) → AllByRecursion IsInput (if same then [] else tick moment ∷ [])
    by-same true = tt
    by-same false = (tt, tt)

-- what was handed over before and what was taken then, with the rest behind it
pub split-more : (all done piece rest : List ℕ) (taken : ℕ) → all ≡ done ++ piece → rest ≡ drop taken piece → all ≡ (done ++ take taken piece) ++ rest
split-more all done piece rest taken split behind =
    split ∙ ap (λ (os : List ℕ). done ++ os) (sym (take-append-drop taken piece) ∙ ap (λ (os : List ℕ). take taken piece ++ os) (sym behind))
    ∙ sym (append_assoc done (take taken piece) rest)

-- ---- turns

-- the last of the moments, or this one
abbrev last_of : ℕ → List ℕ → ℕ
last_of last [] = last
last_of last (moment ∷ moments) = last_of moment moments

since-turn : (last : ℕ) (turns : List Turn) (moments : List ℕ) (next : Turn) (moment : ℕ) → length moments ≡ length turns
    → inputs_since last (turns ++ next ∷ []) (moments ++ moment ∷ []) ≡ inputs_since last turns moments ++ turn_inputs next (last_of last moments) moment
since-turn last [] [] next moment same = append-nil (turn_inputs next last moment)
since-turn last [] (m ∷ moments) next moment same = absurd (omega (arith, same))
since-turn last (t ∷ turns) [] next moment same = absurd (omega (arith, same))
since-turn last (t ∷ turns) (m ∷ moments) next moment same =
    ap (λ (is : List Input). turn_inputs t last m ++ is) (since-turn m turns moments next moment (omega (arith, same)))
    ∙ sym (append_assoc (turn_inputs t last m) (inputs_since m turns moments) (turn_inputs next (last_of m moments) moment))

-- the last of some moments is the last one in them
last_same : (first : ℕ) (moments : List ℕ) (moment : ℕ) → unwrap_or (last_in (first ∷ moments)) moment ≡ last_of first moments
last_same first [] moment = refl
last_same first (m ∷ moments) moment = last_same m moments moment

pub last-more : (moments : List ℕ) (moment : ℕ) → Some moment ≡ last_in (moments ++ moment ∷ [])
last-more [] moment = refl
last-more (m ∷ []) moment = refl
last-more (m ∷ n ∷ moments) moment = last-more (n ∷ moments) moment

-- what one turn more hands over
pub inputs-turn : (turns : List Turn) (moments : List ℕ) (next : Turn) (moment : ℕ) → length moments ≡ length turns
    → inputs_of (turns ++ next ∷ []) (moments ++ moment ∷ []) ≡ inputs_of turns moments ++ turn_inputs next (unwrap_or (last_in moments) moment) moment
inputs-turn [] [] next moment same = append-nil (turn_inputs next moment moment)
inputs-turn (t ∷ turns) [] next moment same = absurd (omega (arith, same))
inputs-turn turns (first ∷ moments) next moment same =
    since-turn first turns (first ∷ moments) next moment same
    ∙ ap (λ last. inputs_since first turns (first ∷ moments) ++ turn_inputs next last moment) (sym (last_same first moments moment))
