-- What is handed over brings events.
use Rattle.std.proofs.Common.{◌≡◌, ℕ, List, [], ◌∷◌, ◌++◌, length, take, suc, ◌≤◌, Bool, true, false, Option, None, Some, IfSome, refl, sym, ap, ◌∙◌, subst, inl, inr, append_assoc, append-nil, arith}
use Rattle.std.specs.Prelude.{◌==◌, if◌then◌else◌}
use Rattle.px_base.specs.declared.air.Turn.TheVariants as turn
use Rattle.turn_loop.proofs.Names.{map-append, IsSome, IsTrue, option_to_list, CallSign, octets_of_turn, Turn, kiss_frames, FrameValue, Finishes, FramesFor, NodeEvent, NodeEvents, TurnsBring, heard_at, hears, tick_of, ticks, Input, inputs_of, inputs_since, octet, octets_at, octets_in, tick, turn_inputs, turn_tick, Brings, Finds, HasHeard, HearsOctet, StationValue}
use Rattle.turn_loop.proofs.InputLemmas.{octets_in-append, octets_in-at}

-- ---- what octets finish

-- frames of texts and of others
frames-then : (me : CallSign) (texts others : List (List ℕ)) (frames more : List FrameValue) → FramesFor me texts frames → FramesFor me others more → FramesFor me (texts ++ others) (frames ++ more)
frames-then me [] others frames more h k = subst (λ (fs : List FrameValue). FramesFor me others (fs ++ more)) (sym h) k
frames-then me (text ∷ texts) others frames more (inl h) k =
    inl (h.0, h.1 ++ more, h.2, h.3, ap (λ (fs : List FrameValue). fs ++ more) h.4, frames-then me texts others h.1 more h.5 k)
frames-then me (text ∷ texts) others frames more (inr h) k = inr (h.0, frames-then me texts others frames more h.1 k)

-- what octets and then others finish
finishes-then : (me : CallSign) (before octets others : List ℕ) (frames more : List FrameValue) → Finishes me before octets frames → Finishes me (before ++ octets) others more
    → Finishes me before (octets ++ others) (frames ++ more)
finishes-then me before octets others frames more h k = (
  h.0 ++ k.0,
  ap kiss_frames (sym (append_assoc before octets others)) ∙ k.1 ∙ ap (λ (ts : List (List ℕ)). ts ++ k.0) h.1 ∙ append_assoc (kiss_frames before) h.0 k.0,
  frames-then me h.0 k.0 frames more h.2 k.2,
)

-- no octets finish no frames
finishes-none : (me : CallSign) (before : List ℕ) → Finishes me before [] []
finishes-none me before = ([], ap kiss_frames (append-nil before) ∙ sym (append-nil (kiss_frames before)), refl)

heard_at-append : (moment : ℕ) (xs ys : List FrameValue) → heard_at moment (xs ++ ys) ≡ heard_at moment xs ++ heard_at moment ys
heard_at-append moment xs ys = map-append (λ (frame : FrameValue). hears frame moment) xs ys

-- ---- one octet

-- what is true is true
pub is_true : (b : Bool) → b ≡ true → IsTrue b
is_true b h = subst (λ (x : Bool). IsTrue x) (sym h) refl

module _ (me : CallSign) (old new : StationValue) (o : ℕ) (all : List ℕ) (heard : HasHeard old all) where
  -- the octet ended no frame
  pub no-frame : (ended : Bool) → ended ≡ false → HearsOctet old o new ended → Finishes me all (o ∷ []) []
  no-frame ended is h =
      let P : Bool → Type 0 = λ b. HearsOctet old o new b in
      ([], (subst P is h all heard).1, refl)

  -- it ended one, which is for the station or isn't
  pub one-frame : (finder : CallSign) (found : Option FrameValue) → finder ≡ me → IsSome new.ended → IfSome new.ended (λ octets. Finds finder octets found) → (ended : Bool) → ended ≡ true → HearsOctet old o new ended
      → Finishes me all (o ∷ []) (option_to_list found)
  one-frame finder found same some finds ended is h =
      let P : Bool → Type 0 = λ b. HearsOctet old o new b in
      by new.ended some found (subst (λ (m : CallSign). IfSome new.ended (λ octets. Finds m octets found)) same finds) (subst P is h all heard).1
    where
      by : (e : Option (List ℕ)) → IsSome e → (found : Option FrameValue) → IfSome e (λ octets. Finds me octets found) → kiss_frames (all ++ o ∷ []) ≡ kiss_frames all ++ option_to_list e
          → Finishes me all (o ∷ []) (option_to_list found)
      by None some found finds same = absurd (cc some)
      by (Some octets) some None finds same = (octets ∷ [], same, inr (finds, refl))
      by (Some octets) some (Some frame) finds same = (octets ∷ [], same, inl (frame, [], finds.0, finds.1, refl, refl))

  -- and it was heard
  pub octet-heard : (ended : Bool) → HearsOctet old o new ended → HasHeard new (all ++ o ∷ [])
  octet-heard ended h = (h all heard).0

-- ---- what is brought

-- what some inputs bring, and then others
pub brings-then : (me : CallSign) (before : List ℕ) (xs ys : List Input) (es fs : List NodeEvent) → Brings me before xs es → Brings me (before ++ octets_in xs) ys fs → Brings me before (xs ++ ys) (es ++ fs)
brings-then me before [] ys es fs h k =
    subst (λ (e : List NodeEvent). Brings me before ys (e ++ fs)) (sym h) (subst (λ (b : List ℕ). Brings me b ys fs) (append-nil before) k)
brings-then me before (octet o moment ∷ xs) ys es fs h k = (
  h.0,
  h.1 ++ fs,
  h.2,
  ap (λ (e : List NodeEvent). e ++ fs) h.3 ∙ append_assoc (heard_at moment h.0) h.1 fs,
  brings-then me (before ++ o ∷ []) xs ys h.1 fs h.4 (subst (λ (b : List ℕ). Brings me b ys fs) (sym (append_assoc before (o ∷ []) (octets_in xs))) k),
)
brings-then me before (tick moment ∷ xs) ys es fs h k = (h.0 ++ fs, ap (λ (e : List NodeEvent). e ++ fs) h.1, brings-then me before xs ys h.0 fs h.2 k)

-- one octet more brings these frames
pub brings-octet : (me : CallSign) (before : List ℕ) (o moment : ℕ) (frames : List FrameValue) → Finishes me before (o ∷ []) frames → Brings me before (octet o moment ∷ []) (heard_at moment frames)
brings-octet me before o moment frames h = (frames, [], h, sym (append-nil (heard_at moment frames)), refl)

-- octets that end no frame of KISS text, nor fewer of them, bring nothing
pub brings-run : (me : CallSign) (before : List ℕ) (moment : ℕ) (run : List ℕ) → ((n : ℕ) → n ≤ length run → kiss_frames (before ++ take n run) ≡ kiss_frames before)
    → Brings me before (octets_at moment run) []
brings-run me before moment [] none = refl
brings-run me before moment (o ∷ run) none =
    let one : kiss_frames (before ++ o ∷ []) ≡ kiss_frames before = none 1 (omega arith) in (
      [],
      [],
      ([], one ∙ sym (append-nil (kiss_frames before)), refl),
      refl,
      brings-run me (before ++ o ∷ []) moment run (λ n below. ap kiss_frames (append_assoc before (o ∷ []) (take n run)) ∙ none (suc n) (omega arith) ∙ sym one),
    )

brings-split : (me : CallSign) (before : List ℕ) (xs ys : List Input) (es : List NodeEvent) → Brings me before (xs ++ ys) es
    → (first : List NodeEvent) × (later : List NodeEvent) × (es ≡ first ++ later) × Brings me before xs first × Brings me (before ++ octets_in xs) ys later
brings-split me before [] ys es h = ([], es, refl, refl, subst (λ (b : List ℕ). Brings me b ys es) (sym (append-nil before)) h)
brings-split me before (octet o moment ∷ xs) ys es h =
    let rest = brings-split me (before ++ o ∷ []) xs ys h.1 h.4 in (
      heard_at moment h.0 ++ rest.0,
      rest.1,
      h.3 ∙ ap (λ (e : List NodeEvent). heard_at moment h.0 ++ e) rest.2 ∙ sym (append_assoc (heard_at moment h.0) rest.0 rest.1),
      (h.0, rest.0, h.2, refl, rest.3),
      subst (λ (b : List ℕ). Brings me b ys rest.1) (append_assoc before (o ∷ []) (octets_in xs)) rest.4,
    )
brings-split me before (tick moment ∷ xs) ys es h =
    let rest = brings-split me before xs ys h.0 h.2 in
    (ticks moment ∷ rest.0, rest.1, h.1 ∙ ap (λ (e : List NodeEvent). ticks moment ∷ e) rest.2, (rest.0, refl, rest.3), rest.4)

octets-brought : (me : CallSign) (before : List ℕ) (moment : ℕ) (octets : List ℕ) (es : List NodeEvent) → Brings me before (octets_at moment octets) es
    → (frames : List FrameValue) × Finishes me before octets frames × (es ≡ heard_at moment frames)
octets-brought me before moment [] es h = ([], finishes-none me before, h)
octets-brought me before moment (o ∷ octets) es h =
    let rest = octets-brought me (before ++ o ∷ []) moment octets h.1 h.4 in (
      h.0 ++ rest.0,
      finishes-then me before (o ∷ []) octets h.0 rest.0 h.2 rest.1,
      h.3 ∙ ap (λ (e : List NodeEvent). heard_at moment h.0 ++ e) rest.2 ∙ sym (heard_at-append moment h.0 rest.0),
    )

tick-brought : (me : CallSign) (before : List ℕ) (next : Turn) (last moment : ℕ) (es : List NodeEvent) → Brings me before (turn_tick next last moment) es → es ≡ tick_of next last moment
tick-brought me before next last moment es h = by next h
  where
    by-same : (same : Bool) → Brings me before (if same then [] else tick moment ∷ []) es → es ≡ (if same then [] else ticks moment ∷ [])
    by-same true k = k
    by-same false k = k.1 ∙ ap (λ (e : List NodeEvent). ticks moment ∷ e) k.2

    by : (next : Turn) → Brings me before (turn_tick next last moment) es → es ≡ tick_of next last moment
    by (turn.Bytes octets) k = by-same (moment == last) k
    by turn.Quiet k = by-same (moment == last) k
    by turn.Fail k = k
    by turn.End k = k

no-octets : (next : Turn) (last moment : ℕ) → octets_in (turn_tick next last moment) ≡ []
no-octets next last moment = by next
  where
    by-same : (same : Bool) → octets_in (if same then [] else tick moment ∷ []) ≡ []
    by-same true = refl
    by-same false = refl

    by : (next : Turn) → octets_in (turn_tick next last moment) ≡ []
    by (turn.Bytes octets) = by-same (moment == last)
    by turn.Quiet = by-same (moment == last)
    by turn.Fail = refl
    by turn.End = refl

turn-octets : (next : Turn) (last moment : ℕ) → octets_in (turn_inputs next last moment) ≡ octets_of_turn next
turn-octets next last moment =
    octets_in-append (octets_at moment (octets_of_turn next)) (turn_tick next last moment)
    ∙ ap (λ (os : List ℕ). os ++ octets_in (turn_tick next last moment)) (octets_in-at moment (octets_of_turn next))
    ∙ ap (λ (os : List ℕ). octets_of_turn next ++ os) (no-octets next last moment) ∙ append-nil (octets_of_turn next)

since-brought : (me : CallSign) (before : List ℕ) (last : ℕ) (turns : List Turn) (moments : List ℕ) (events : List NodeEvent) → length moments ≡ length turns
    → Brings me before (inputs_since last turns moments) events → TurnsBring me before last turns moments events
since-brought me before last [] moments events same h = h
since-brought me before last (next ∷ turns) [] events same h = absurd (omega (arith, same))
since-brought me before last (next ∷ turns) (moment ∷ moments) events same h =
    let parts = brings-split me before (turn_inputs next last moment) (inputs_since moment turns moments) events h in
    let turn_parts = brings-split me before (octets_at moment (octets_of_turn next)) (turn_tick next last moment) parts.0 parts.3 in
    let frames = octets-brought me before moment (octets_of_turn next) turn_parts.0 turn_parts.3 in
    let ticked = tick-brought me (before ++ octets_in (octets_at moment (octets_of_turn next))) next last moment turn_parts.1 turn_parts.4 in (
      frames.0,
      parts.1,
      frames.1,
      parts.2 ∙ ap (λ (e : List NodeEvent). e ++ parts.1) (turn_parts.2 ∙ ap (λ (e : List NodeEvent). e ++ turn_parts.1) frames.2 ∙ ap (λ (e : List NodeEvent). heard_at moment frames.0 ++ e) ticked)
          ∙ append_assoc (heard_at moment frames.0) (tick_of next last moment) parts.1,
      since-brought me (before ++ octets_of_turn next) moment turns moments parts.1 (omega (arith, same))
          (subst (λ (os : List ℕ). Brings me (before ++ os) (inputs_since moment turns moments) parts.1) (turn-octets next last moment) parts.4),
    )

-- what turns at moments hand over brings their events
pub events-brought : (me : CallSign) (turns : List Turn) (moments : List ℕ) (events : List NodeEvent) → length moments ≡ length turns → Brings me [] (inputs_of turns moments) events → NodeEvents me turns moments events
events-brought me [] [] events same h = (refl, h)
events-brought me (next ∷ turns) [] events same h = absurd (omega (arith, same))
events-brought me turns (first ∷ moments) events same h = since-brought me [] first turns (first ∷ moments) events same h
