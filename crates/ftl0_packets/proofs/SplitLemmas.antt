-- Octets that are read in parts: their packets and their rest are those of all of them.
use Rattle.std.proofs.Common.{◌≡◌, ℕ, List, [], ◌∷◌, ◌++◌, length, Bool, true, false, refl, sym, ap, ◌∙◌, subst, append_assoc}
use Rattle.std.proofs.Math.Seq.{drop-append_seam, take-append_seam}
use Rattle.std.specs.Prelude.{IsTrue, if◌then◌else◌}
use Rattle.std.proofs.lemmas.List.Concat.{flat_map-append}
use Rattle.ftl0_packets.proofs.Names.{IsOctets, texts, Item, PacketValue, packet_text, is_whole, packets_of, rest_of, under_way, IsPartial, Stream}
use Rattle.ftl0_packets.proofs.OctetLemmas.{IsOctets-append, IsOctets-drop, IsOctets-nil, IsOctets-take}
use Rattle.ftl0_packets.proofs.StreamLemmas.{one_stream}
pub use Rattle.ftl0_packets.proofs.FrontLemmas.{read_front}
pub use Rattle.ftl0_packets.proofs.StreamLemmas.{stream_of}

-- what follows a front of octets, and the front
pub octets_back : (xs ys : List ℕ) → IsOctets (xs ++ ys) → IsOctets ys
octets_back xs ys h = subst (λ (o : List ℕ). IsOctets o) (drop-append_seam xs ys) (IsOctets-drop (length xs) (xs ++ ys) h)

pub octets_front : (xs ys : List ℕ) → IsOctets (xs ++ ys) → IsOctets xs
octets_front xs ys h = subst (λ (o : List ℕ). IsOctets o) (take-append_seam xs ys) (IsOctets-take (length xs) (xs ++ ys) h)

-- what is under way of octets
pub octets_under_way : (xs : List ℕ) → IsOctets xs → IsOctets (under_way xs)
octets_under_way xs h = by (is_whole xs)
  where
    by : (b : Bool) → IsOctets (if b then [] else xs)
    by true = IsOctets-nil
    by false = h

-- of a whole packet nothing is, and all of less than one
pub under-way-whole : (octets : List ℕ) → IsTrue (is_whole octets) → under_way octets ≡ []
under-way-whole octets whole = ap (λ (w : Bool). if w then [] else octets) whole

pub under-way-less : (octets : List ℕ) → (IsTrue (is_whole octets) → ⊥) → under_way octets ≡ octets
under-way-less octets less = by (is_whole octets) refl
  where
    by : (b : Bool) → is_whole octets ≡ b → under_way octets ≡ octets
    by true is = absurd (less is)
    by false is = ap (λ (w : Bool). if w then [] else octets) is

-- the rest of a stream is less than a whole packet
pub stream-partial : (octets : List ℕ) (items : List Item) (rest : List ℕ) → Stream octets items rest → IsPartial rest
stream-partial octets [] rest h = h.1
stream-partial octets (item ∷ items) rest h = stream-partial h.1 items rest h.4

-- no octets are less than a whole packet
pub nothing_partial : IsPartial []
unfolding rest_of
nothing_partial = stream-partial [] (packets_of []) (rest_of []) (stream_of [] IsOctets-nil)

-- and of octets it is octets
stream-octets : (octets : List ℕ) (items : List Item) (rest : List ℕ) → Stream octets items rest → IsOctets octets → IsOctets rest
stream-octets octets [] rest h all = subst (λ (o : List ℕ). IsOctets o) h.0 all
stream-octets octets (item ∷ items) rest h all = stream-octets h.1 items rest h.4 (octets_back h.0 h.1 (subst (λ (o : List ℕ). IsOctets o) h.3 all))

-- the stream of octets, and of what is left of them with others after it, is the stream of all
pub stream-append : (octets others : List ℕ) (items : List Item) (left : List ℕ) (more : List Item) (rest : List ℕ) → Stream octets items left → Stream (left ++ others) more rest → Stream (octets ++ others) (items ++ more) rest
stream-append octets others [] left more rest h k = subst (λ (o : List ℕ). Stream (o ++ others) more rest) (sym h.0) k
stream-append octets others (item ∷ items) left more rest h k = (
  h.0,
  h.1 ++ others,
  h.2,
  ap (λ o. o ++ others) h.3 ∙ append_assoc h.0 h.1 others,
  stream-append h.1 others items left more rest h.4 k,
)

-- octets that are this stream are read so
pub read-stream : (octets : List ℕ) (items : List Item) (rest : List ℕ) → IsOctets octets → Stream octets items rest → (packets_of octets ≡ items) × (rest_of octets ≡ rest)
read-stream octets items rest are stream = one_stream octets (packets_of octets) items (rest_of octets) rest (stream_of octets are) stream

-- what is left of octets waits: no packet is whole of it
pub left-octets : (octets : List ℕ) → IsOctets octets → IsOctets (rest_of octets)
left-octets octets are = stream-octets octets (packets_of octets) (rest_of octets) (stream_of octets are) are

pub left-waits : (octets : List ℕ) → IsOctets octets → (packets_of (rest_of octets) ≡ []) × (rest_of (rest_of octets) ≡ rest_of octets)
left-waits octets are = read-stream (rest_of octets) [] (rest_of octets) (left-octets octets are) (refl, stream-partial octets (packets_of octets) (rest_of octets) (stream_of octets are))

-- octets are read alike, all at once or first some of them
pub read-append : (octets others : List ℕ) → IsOctets (octets ++ others)
    → (packets_of (octets ++ others) ≡ packets_of octets ++ packets_of (rest_of octets ++ others)) × (rest_of (octets ++ others) ≡ rest_of (rest_of octets ++ others))
read-append octets others are =
    let front = octets_front octets others are in
    let left = IsOctets-append (rest_of octets) others (left-octets octets front) (octets_back octets others are) in
    read-stream (octets ++ others) (packets_of octets ++ packets_of (rest_of octets ++ others)) (rest_of (rest_of octets ++ others)) are
    (stream-append octets others (packets_of octets) (rest_of octets) (packets_of (rest_of octets ++ others)) (rest_of (rest_of octets ++ others)) (stream_of octets front) (stream_of (rest_of octets ++ others) left))

-- the texts of packets and of others
pub texts-append : (xs ys : List PacketValue) → texts (xs ++ ys) ≡ texts xs ++ texts ys
texts-append xs ys = flat_map-append packet_text xs ys
