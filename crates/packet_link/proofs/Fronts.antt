-- Packets at the beginning of octets, some and then others; and the stations of a link, which stay.
use Rattle.std.proofs.Common.{◌≡◌, ℕ, List, [], ◌++◌, refl, ap, sym, ◌∙◌, append_assoc, append-nil}
use Rattle.packet_link.proofs.Names.{Kept, SameStations, Item, packets_of, rest_of, HasFront}

pub front-none : (octets : List ℕ) → HasFront octets octets []
front-none octets = record { packets = refl; rest = refl }

pub front-then : (a b c : List ℕ) (items others : List Item) → HasFront a b items → HasFront b c others → HasFront a c (items ++ others)
front-then a b c items others first second = record {
  packets = first.packets ∙ ap (λ (more : List Item). items ++ more) second.packets ∙ sym (append_assoc items others (packets_of c));
  rest = first.rest ∙ second.rest;
}

-- after which no packet is whole
pub front-whole : (a b rest : List ℕ) (items : List Item) → HasFront a b items → packets_of b ≡ [] → rest_of b ≡ rest → (items ≡ packets_of a) × (rest ≡ rest_of a)
front-whole a b rest items front none left = (
  sym (front.packets ∙ ap (λ (more : List Item). items ++ more) none ∙ append-nil items),
  sym (front.rest ∙ left),
)

pub stations-then : (a b c : Kept) → SameStations a b → SameStations b c → SameStations a c
stations-then a b c first second = record {
  called = second.called ∙ first.called;
  me = second.me ∙ first.me;
  peer = second.peer ∙ first.peer;
  k = second.k ∙ first.k;
}

pub stations-same : (a : Kept) → SameStations a a
stations-same a = record { called = refl; me = refl; peer = refl; k = refl }
