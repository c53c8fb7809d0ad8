-- How what is due is queued, one packet after another, and how many octets are free.
use Rattle.std.proofs.Common.{◌≡◌, ◌⊎◌, ⊎_elim, ℕ, zero, suc, ◌+◌, ◌<◌, ◌≤◌, min, Bool, true, false, List, ◌++◌, length, take, drop, refl, ap, sym, ◌∙◌, subst, arith, length-append}
use Rattle.std.specs.Prelude.{if◌then◌else◌}
use Rattle.std.specs.List.{concat}
use Rattle.std.proofs.lemmas.Bool.Decides.{leb_tells}
use Rattle.std.proofs.lemmas.List.{length-take}
use Rattle.ax25_link.specs.Queue.{room_of}
use Rattle.packet_link.specs.Queuing.{enough_free, filling, on_due}
use Rattle.packet_link.proofs.Names.{Option, None, Some, nat_le, after_push, LinkEnd, free_octets, Kept, Steps, PacketValue, packet_text, StandsForSome}

-- ---- room

pub packet-some : (packet : PacketValue) → 0 < length (packet_text packet)
packet-some packet = omega arith

-- octets that are queued take room
pub push-fewer : (end : LinkEnd) (text : List ℕ) → 0 < length text → 0 < free_octets end → free_octets (after_push end text) < free_octets end
push-fewer end text some room =
    let pieces : List ℕ = concat (drop end.acked end.sent) in
    let added : List ℕ = take (free_octets end) text in
    let whole : length (pieces ++ (end.queued ++ added)) ≡ length pieces + length (end.queued ++ added) = length-append pieces (end.queued ++ added) in
    let behind : length (end.queued ++ added) ≡ length end.queued + length added = length-append end.queued added in
    let before : length (pieces ++ end.queued) ≡ length pieces + length end.queued = length-append pieces end.queued in
    let new : length added ≡ min (free_octets end) (length text) = length-take (free_octets end) text in
    omega arith

-- how many octets are free on a link
pub room-is : (link : Kept) (some : StandsForSome link) → room_of link.queue ≡ free_octets some.end
room-is link some = ap (λ (k : Kept). room_of k.queue) some.stands.kept

pub room-fewer : (link link_n : Kept) (text : List ℕ) → StandsForSome link → 0 < length text → 0 < room_of link.queue → Steps link link_n (λ w end. after_push end text)
    → room_of link_n.queue < room_of link.queue
room-fewer link link_n text some any room steps =
    let end : LinkEnd = some.end in
    let before : room_of link.queue ≡ free_octets end = room-is link some in
    let after : room_of link_n.queue ≡ free_octets (after_push end text) = ap (λ (k : Kept). room_of k.queue) (steps some.w end some.stands).kept in
    let fewer : free_octets (after_push end text) < free_octets end = push-fewer end text any (omega arith) in
    omega arith

-- enough octets are free, or fewer are
free-tells : (end : LinkEnd) → ((nat_le enough_free (free_octets end) ≡ true) × (enough_free ≤ free_octets end)) ⊎ ((nat_le enough_free (free_octets end) ≡ false) × (free_octets end < enough_free))
free-tells end = leb_tells enough_free (free_octets end)

enough-is : (end : LinkEnd) → nat_le enough_free (free_octets end) ≡ true → enough_free ≤ free_octets end
enough-is end is =
    ⊎_elim (λ (w : (nat_le enough_free (free_octets end) ≡ true) × (enough_free ≤ free_octets end)). w.1)
    (λ (w : (nat_le enough_free (free_octets end) ≡ false) × (free_octets end < enough_free)). absurd (let no : true ≡ false = sym is ∙ w.0 in cc)) (free-tells end)

is-enough : (end : LinkEnd) → enough_free ≤ free_octets end → nat_le enough_free (free_octets end) ≡ true
is-enough end enough =
    ⊎_elim (λ (w : (nat_le enough_free (free_octets end) ≡ true) × (enough_free ≤ free_octets end)). w.0)
    (λ (w : (nat_le enough_free (free_octets end) ≡ false) × (free_octets end < enough_free)). absurd (let less = w.1 in omega arith)) (free-tells end)

is-fewer : (end : LinkEnd) → free_octets end < enough_free → nat_le enough_free (free_octets end) ≡ false
is-fewer end fewer =
    ⊎_elim (λ (w : (nat_le enough_free (free_octets end) ≡ true) × (enough_free ≤ free_octets end)). absurd (let more = w.1 in omega arith))
    (λ (w : (nat_le enough_free (free_octets end) ≡ false) × (free_octets end < enough_free)). w.0) (free-tells end)

-- ---- filling

-- what one round makes, by whether enough octets are free
abbrev filling_by : {P S : Type 0} → Bool → Option P → S → (P → S) → S
filling_by enough due s later = if enough then on_due due s later else s

module _ {P S : Type 0} (Holds : S → Type 0) (s : S) (here : Holds s) (later : P → S) where
  keeps-due : (due : Option P) → ((packet : P) → due ≡ Some packet → Holds (later packet)) → Holds (on_due due s later)
  keeps-due None each = here
  keeps-due (Some packet) each = each packet refl

  keeps-by : (enough : Bool) (due : Option P) → ((packet : P) → due ≡ Some packet → Holds (later packet)) → Holds (filling_by enough due s later)
  keeps-by true due each = keeps-due due each
  keeps-by false due each = here

module _ {P S : Type 0} (end : S → LinkEnd) (due : S → Option P) (after : P → S → S) where
  abbrev rest_of : ℕ → S → P → S
  rest_of more s packet = filling end due after more (after packet s)

  -- what is true of a state, and of each with the packet queued that is due, is true once all is queued
  pub filling-keeps : (Holds : S → Type 0) → ((s : S) (packet : P) → due s ≡ Some packet → Holds s → Holds (after packet s)) → (count : ℕ) (s : S) → Holds s
      → Holds (filling end due after count s)
  filling-keeps Holds each zero s here = here
  filling-keeps Holds each (suc more) s here =
      keeps-by Holds s here (rest_of more s) (nat_le enough_free (free_octets (end s))) (due s)
      (λ packet is. filling-keeps Holds each more (after packet s) (each s packet is here))

  -- none, if nothing is due
  pub filling-none : (count : ℕ) (s : S) → due s ≡ None → filling end due after count s ≡ s
  filling-none zero s none = refl
  filling-none (suc more) s none =
      keeps-by (λ (t : S). t ≡ s) s refl (rest_of more s) (nat_le enough_free (free_octets (end s))) (due s)
      (λ packet is. absurd (let no : None ≡ Some packet = sym none ∙ is in cc))

  -- nor if fewer octets are free
  pub filling-few : (count : ℕ) (s : S) → free_octets (end s) < enough_free → filling end due after count s ≡ s
  filling-few zero s few = refl
  filling-few (suc more) s few = ap (λ (b : Bool). filling_by b (due s) s (rest_of more s)) (is-fewer (end s) few)

  same-due : (s : S) (later more : P → S) (next : Option P) → ((packet : P) → later packet ≡ more packet) → on_due next s later ≡ on_due next s more
  same-due s later more None each = refl
  same-due s later more (Some packet) each = each packet

  same-by : (s : S) (later more : P → S) (enough : Bool) (next : Option P) → (enough ≡ true → (packet : P) → later packet ≡ more packet)
      → filling_by enough next s later ≡ filling_by enough next s more
  same-by s later more true next each = same-due s later more next (each refl)
  same-by s later more false next each = refl

  -- the same is queued if the same is due of each state that is reached
  pub filling-alike : (other : S → Option P) (Reached : S → Type 0) → ((s : S) → Reached s → due s ≡ other s) → ((s : S) (packet : P) → Reached s → Reached (after packet s))
      → (count : ℕ) (s : S) → Reached s → filling end due after count s ≡ filling end other after count s
  filling-alike other Reached same each zero s here = refl
  filling-alike other Reached same each (suc more) s here =
      let enough : Bool = nat_le enough_free (free_octets (end s)) in
      ap (λ (next : Option P). filling_by enough next s (rest_of more s)) (same s here)
      ∙ same-by s (rest_of more s) (λ packet. filling end other after more (after packet s)) enough (other s)
      (λ yes packet. filling-alike other Reached same each more (after packet s) (each s packet here))

  -- Each packet that is queued takes some of the octets that are free.
  module _ (fewer : (s : S) (packet : P) → enough_free ≤ free_octets (end s) → free_octets (end (after packet s)) < free_octets (end s)) where
    -- as many packets at most as octets are free
    pub same-count : (few many : ℕ) (s : S) → free_octets (end s) ≤ few → free_octets (end s) ≤ many → filling end due after few s ≡ filling end due after many s
    same-count zero zero s some all = refl
    same-count zero (suc many) s some all = ap (λ (b : Bool). filling_by b (due s) s (rest_of many s)) (sym (is-fewer (end s) (omega arith)))
    same-count (suc few) zero s some all = ap (λ (b : Bool). filling_by b (due s) s (rest_of few s)) (is-fewer (end s) (omega arith))
    same-count (suc few) (suc many) s some all =
        same-by s (rest_of few s) (rest_of many s) (nat_le enough_free (free_octets (end s))) (due s)
        (λ enough packet.
        let less = fewer s packet (enough-is (end s) enough) in
        same-count few many (after packet s) (omega arith) (omega arith))

    -- a packet, and then the others
    pub filling-next : (s : S) (packet : P) → due s ≡ Some packet → enough_free ≤ free_octets (end s)
        → filling end due after (free_octets (end (after packet s))) (after packet s) ≡ filling end due after (free_octets (end s)) s
    filling-next s packet is enough =
        let free : ℕ = free_octets (end s) in
        let next : S = after packet s in
        let less : free_octets (end next) < free = fewer s packet enough in
        let one : filling end due after (suc free) s ≡ filling end due after free next =
        ap (λ (b : Bool). filling_by b (due s) s (rest_of free s)) (is-enough (end s) enough) ∙ ap (λ (o : Option P). on_due o s (rest_of free s)) is in
        same-count (free_octets (end next)) free next (omega arith) (omega arith) ∙ sym one ∙ same-count (suc free) free s (omega arith) (omega arith)

    -- what is true both if nothing is due and if fewer octets are free is true at the end
    module _ (Holds : S → Type 0) (none : (s : S) → due s ≡ None → Holds s) (few : (s : S) → free_octets (end s) < enough_free → Holds s) where
      ends-due : (s : S) (later : P → S) (next : Option P) → due s ≡ next → ((packet : P) → Holds (later packet)) → Holds (on_due next s later)
      ends-due s later None is each = none s is
      ends-due s later (Some packet) is each = each packet

      pub filling-ends : (count : ℕ) (s : S) → free_octets (end s) ≤ count → Holds (filling end due after count s)
      filling-ends zero s less = few s (omega arith)
      filling-ends (suc more) s less =
          let R : Bool → Type 0 = λ b. Holds (filling_by b (due s) s (rest_of more s)) in
          ⊎_elim
          (λ (w : (nat_le enough_free (free_octets (end s)) ≡ true) × (enough_free ≤ free_octets (end s))).
          subst R (sym w.0) (ends-due s (rest_of more s) (due s) refl (λ packet. (let now = fewer s packet w.1 in filling-ends more (after packet s) (omega arith)))))
          (λ (w : (nat_le enough_free (free_octets (end s)) ≡ false) × (free_octets (end s) < enough_free)). subst R (sym w.0) (few s w.1)) (free-tells (end s))
