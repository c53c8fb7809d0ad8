-- The packets that what is handed over brings to a session.
use Rattle.std.proofs.Common.{List, ℕ, ◌++◌, [], length, subst, Bool, true, false, ◌≡◌, ◌∷◌, refl, ap, sym, ◌∙◌, append_assoc, append-nil, ap₂, arith, if◌then◌else◌, ◌==◌}
use Rattle.px_base.specs.declared.air.Turn.TheVariants as turn
use Rattle.server_node.proofs.Names.{Brings, Event, Hears, Input, IsOctets, IsOctets-append, IsOctets-nil, IsWaiting, Item, ServerState, Stream, Turn, at_moment, common_steps, events_behind, events_to, inputs_of, inputs_since, left-octets, left-waits, map-append, octet, octets_at, octets_back, octets_front, octets_in, octets_in-append, octets_in-at, octets_of_turn, packets_of, read-append, read-stream, rest_of, stream_of, tick, turn_inputs, turn_tick, waiting_behind}

-- ---- inputs, and others behind them

pub events-append : (waiting : List ℕ) (xs ys : List Input) → events_behind waiting (xs ++ ys) ≡ events_behind waiting xs ++ events_behind (waiting_behind waiting xs) ys
events-append waiting [] ys = refl
events-append waiting (octet o moment ∷ xs) ys =
    let first : List Event = at_moment moment (packets_of (waiting ++ o ∷ [])) in
    let left : List ℕ = rest_of (waiting ++ o ∷ []) in
    ap (λ es. first ++ es) (events-append left xs ys) ∙ sym (append_assoc first (events_behind left xs) (events_behind (waiting_behind left xs) ys))
events-append waiting (tick moment ∷ xs) ys = events-append waiting xs ys

pub waiting-append : (waiting : List ℕ) (xs ys : List Input) → waiting_behind waiting (xs ++ ys) ≡ waiting_behind (waiting_behind waiting xs) ys
waiting-append waiting [] ys = refl
waiting-append waiting (octet o moment ∷ xs) ys = waiting-append (rest_of (waiting ++ o ∷ [])) xs ys
waiting-append waiting (tick moment ∷ xs) ys = waiting-append waiting xs ys

pub both-octets : (xs ys : List Input) → IsOctets (octets_in xs) → IsOctets (octets_in ys) → IsOctets (octets_in (xs ++ ys))
both-octets xs ys h k = grind (arith, common_steps, octets_in-append, IsOctets-append)

pub hears-none : (a : ServerState) → Hears a [] a
hears-none a = grind (arith, common_steps, IsOctets-nil)

module _ (a b : ServerState) (xs : List Input) (h : Hears a xs b) where
  pub hears-then : (c : ServerState) (ys : List Input) → Hears b ys c → Hears a (xs ++ ys) c
  hears-then c ys k = grind (arith, common_steps, both-octets, waiting-append)

  pub events-then : (ys : List Input) → events_to a (xs ++ ys) ≡ events_to a xs ++ events_to b ys
  events-then ys = grind (arith, common_steps, events-append)

-- ---- octets that are heard at one moment

-- what is left of octets waits
waits-left : (octets : List ℕ) → IsOctets octets → IsWaiting (rest_of octets)
waits-left octets are = let waits = left-waits octets are in record { none = waits.0; left = waits.1; are_octets = left-octets octets are }

-- octets at one moment bring the packets that are read of them, behind those that wait
events-at : (moment : ℕ) (waiting octets : List ℕ) → IsWaiting waiting → IsOctets octets
    → (events_behind waiting (octets_at moment octets) ≡ at_moment moment (packets_of (waiting ++ octets))) × (waiting_behind waiting (octets_at moment octets) ≡ rest_of (waiting ++ octets))
events-at moment waiting [] waits are = (sym (ap (at_moment moment) (ap packets_of (append-nil waiting) ∙ waits.none)), sym (ap rest_of (append-nil waiting) ∙ waits.left))
events-at moment waiting (o ∷ octets) waits are =
    let others = octets_back (o ∷ []) octets are in
    let mid : List ℕ = waiting ++ o ∷ [] in
    let mid_are = IsOctets-append waiting (o ∷ []) waits.are_octets (octets_front (o ∷ []) octets are) in
    let rest = events-at moment (rest_of mid) octets (waits-left mid mid_are) others in
    let read = read-append mid octets (IsOctets-append mid octets mid_are others) in
    rw (sym (append_assoc waiting (o ∷ []) octets), read.0, read.1, rest.0, rest.1) (sym (map-append _ (packets_of mid) (packets_of (rest_of mid ++ octets))), refl)

-- and so they do where the stream is known
pub events-of : (moment : ℕ) (waiting octets : List ℕ) (items : List Item) (rest : List ℕ) → IsWaiting waiting → IsOctets octets → Stream (waiting ++ octets) items rest
    → (events_behind waiting (octets_at moment octets) ≡ at_moment moment items) × (waiting_behind waiting (octets_at moment octets) ≡ rest)
events-of moment waiting octets items rest waits are stream =
    let same = read-stream (waiting ++ octets) items rest (IsOctets-append waiting octets waits.are_octets are) stream in
    let at_once = events-at moment waiting octets waits are in
    (at_once.0 ∙ ap (at_moment moment) same.0, at_once.1 ∙ same.1)

-- ---- turns

by-same : (P : List Input → Type 0) (same : Bool) (moment : ℕ) (inputs : List Input) → P inputs → P (tick moment ∷ inputs) → P ((if same then [] else tick moment ∷ []) ++ inputs)
by-same P true moment inputs none one = none
by-same P false moment inputs none one = one

-- what a tick doesn't change holds with a turn's tick, if there is one
past-tick : (P : List Input → Type 0) (next : Turn) (last moment : ℕ) (inputs : List Input) → P inputs → P (tick moment ∷ inputs) → P (turn_tick next last moment ++ inputs)
past-tick P (turn.Bytes octets) last moment inputs none one = by-same P (moment == last) moment inputs none one
past-tick P turn.Quiet last moment inputs none one = by-same P (moment == last) moment inputs none one
past-tick P turn.Fail last moment inputs none one = none
past-tick P turn.End last moment inputs none one = none

-- what turns hand over brings the packets that the turns bring
brings-since : (waiting : List ℕ) (last : ℕ) (turns : List Turn) (moments : List ℕ) → length moments ≡ length turns → IsWaiting waiting → IsOctets (octets_in (inputs_since last turns moments))
    → Brings waiting turns moments (events_behind waiting (inputs_since last turns moments)) (waiting_behind waiting (inputs_since last turns moments))
brings-since waiting last [] moments same waits are = (refl, refl)
brings-since waiting last (t ∷ turns) [] same waits are = absurd (omega (arith, same))
brings-since waiting last (t ∷ turns) (m ∷ moments) same waits are =
    let octets : List ℕ = octets_of_turn t in
    let here : List Input = octets_at m octets in
    let others : List Input = inputs_since m turns moments in
    let ticks : List Input = turn_tick t last m in
    let parts : turn_inputs t last m ++ others ≡ here ++ (ticks ++ others) = append_assoc here ticks others in
    let in_parts : octets_in (turn_inputs t last m ++ others) ≡ octets ++ octets_in others =
    ap octets_in parts ∙ octets_in-append here (ticks ++ others) ∙ ap₂ (λ (xs ys : List ℕ). xs ++ ys) (octets_in-at m octets) (past-tick (λ is. octets_in is ≡ octets_in others) t last m others refl refl) in
    let all_are = subst (λ (o : List ℕ). IsOctets o) in_parts are in
    let front = octets_front octets (octets_in others) all_are in
    let at_once = events-at m waiting octets waits front in
    let all_octets = IsOctets-append waiting octets waits.are_octets front in
    let left : List ℕ = waiting_behind waiting here in
    let rest = brings-since (rest_of (waiting ++ octets)) m turns moments (omega (arith, same)) (waits-left (waiting ++ octets) all_octets) (octets_back octets (octets_in others) all_are) in (
      packets_of (waiting ++ octets),
      rest_of (waiting ++ octets),
      events_behind (rest_of (waiting ++ octets)) others,
      stream_of (waiting ++ octets) all_octets,
      ap (events_behind waiting) parts ∙ events-append waiting here (ticks ++ others) ∙ ap₂ (λ (es fs : List Event). es ++ fs) at_once.0 (past-tick (λ is. events_behind left is ≡ events_behind left others) t last m others refl refl ∙ ap (λ o. events_behind o others) at_once.1),
      subst (λ (o : List ℕ). Brings (rest_of (waiting ++ octets)) turns moments (events_behind (rest_of (waiting ++ octets)) others) o)
          (sym (ap (waiting_behind waiting) parts ∙ waiting-append waiting here (ticks ++ others) ∙ past-tick (λ is. waiting_behind left is ≡ waiting_behind left others) t last m others refl refl ∙ ap (λ o. waiting_behind o others) at_once.1)) rest,
    )

nothing_waits : IsWaiting []
unfolding rest_of
nothing_waits = waits-left [] IsOctets-nil

pub brings-of : (turns : List Turn) (moments : List ℕ) → length moments ≡ length turns → IsOctets (octets_in (inputs_of turns moments))
    → Brings [] turns moments (events_behind [] (inputs_of turns moments)) (waiting_behind [] (inputs_of turns moments))
brings-of [] [] same are = (refl, refl)
brings-of (t ∷ turns) [] same are = absurd (omega (arith, same))
brings-of turns (m ∷ moments) same are = brings-since [] m turns (m ∷ moments) same nothing_waits are
