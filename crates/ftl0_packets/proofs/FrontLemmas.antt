-- The fronts of the texts of packets.
use Rattle.std.proofs.Common.{◌≡◌, ℕ, ◌<◌, ◌≤◌, ◌⊎◌, List, [], ◌∷◌, ◌++◌, length, Ok, refl, inl, inr, sym, ap, ◌∙◌, subst, arith, append_assoc, length-append}
use Rattle.ftl0_packets.proofs.Names.{cases_lt, nil_from_length, IsFront, texts, FrontLaw, IsRestBefore, ReadsFront, Fits, Item, PacketValue, packet_text, packets_of, rest_of, text_len}
use Rattle.ftl0_packets.proofs.StreamLemmas.{packets_of-less, read_again, rest_of-less, rest_of-whole}
use Rattle.ftl0_packets.proofs.TextLemmas.{IsText-PacketText, length-whole, text_len-append}

-- of two fronts of the same octets the shorter one is a front of the other
within : (xs ys front more : List ℕ) → xs ++ ys ≡ front ++ more → length front ≤ length xs
    → (others : List ℕ) × (xs ≡ front ++ others) × (more ≡ others ++ ys)
within xs ys [] more same shorter = (xs, refl, sym same)
within [] ys (y ∷ front) more same shorter = absurd (omega arith)
within (x ∷ xs) ys (y ∷ front) more same shorter =
    let head : x ≡ y = cc in
    let tail : xs ++ ys ≡ front ++ more = cc in
    let found = within xs ys front more tail (omega arith) in
    (found.0, ap (λ (a : ℕ). a ∷ xs) head ∙ ap (λ (t : List ℕ). y ∷ t) found.1, found.2)

-- a proper front of a packet's text is less than a whole packet
less-front : (packet : PacketValue) (front others : List ℕ) → Fits packet → packet_text packet ≡ front ++ others
    → length front < length (packet_text packet) → length front < text_len front
less-front packet front others fits same less = by (cases_lt (length front) 2)
  where
    whole : length (packet_text packet) ≡ text_len (packet_text packet)
    whole = length-whole (packet_text packet) (IsText-PacketText (Ok packet) (packet_text packet) (fits, refl)).whole

    by : (length front < 2) ⊎ (2 ≤ length front) → length front < text_len front
    by (inl few) = omega arith
    by (inr some) =
        let front_len = text_len-append front others some in
        let len : length (packet_text packet) ≡ text_len (front ++ others) = whole ∙ ap text_len same in
        omega arith

-- less than a whole packet is read as no packet
reads-less : (packets : List PacketValue) (front : List ℕ) → length front < text_len front → IsRestBefore packets front → ReadsFront packets front
reads-less packets front less rest = record {
  first = [];
  later = packets;
  packets_are = refl;
  read = packets_of-less front less;
  text = sym (rest_of-less front less);
  rest = subst (IsRestBefore packets) (sym (rest_of-less front less)) rest;
}

-- a whole packet before what is read
reads-more : (packet : PacketValue) (packets : List PacketValue) (front back : List ℕ) → Fits packet → front ≡ packet_text packet ++ back
    → ReadsFront packets back → ReadsFront (packet ∷ packets) front
reads-more packet packets front back fits same reads = record {
  first = packet ∷ reads.first;
  later = reads.later;
  packets_are = ap (λ (ps : List PacketValue). packet ∷ ps) reads.packets_are;
  read = ap packets_of same ∙ read_again packet back fits ∙ ap (λ (ps : List Item). Ok packet ∷ ps) reads.read;
  text =
      same
      ∙ ap (λ (t : List ℕ). packet_text packet ++ t) (reads.text ∙ ap (λ (t : List ℕ). texts reads.first ++ t) (sym left))
      ∙ sym (append_assoc (packet_text packet) (texts reads.first) (rest_of front));
  rest = subst (IsRestBefore reads.later) (sym left) reads.rest;
}
  where
    left : rest_of front ≡ rest_of back
    left =
        ap rest_of same
        ∙ rest_of-whole (packet_text packet) back (IsText-PacketText (Ok packet) (packet_text packet) (fits, refl)).whole

pub read_front : FrontLaw
read_front [] front fit is =
    let none : front ≡ [] = nil_from_length front (omega (arith, ap length is.1, length-append front is.0)) in
    reads-less [] front (omega (arith, ap length none)) none
read_front (packet ∷ packets) front fit is =
    by (λ back found. read_front packets back fit.1 found) (cases_lt (length front) (length (packet_text packet)))
  where
    by : ((back : List ℕ) → IsFront back (texts packets) → ReadsFront packets back)
        → (length front < length (packet_text packet)) ⊎ (length (packet_text packet) ≤ length front) → ReadsFront (packet ∷ packets) front
    by again (inl less) =
        let found = within (packet_text packet) (texts packets) front is.0 is.1 (omega arith) in
        reads-less (packet ∷ packets) front (less-front packet front found.0 fit.0 found.1 less)
        (found.0, found.1, λ none. absurd (omega (arith, ap length found.1, length-append front found.0, ap length none)))
    by again (inr enough) =
        let found = within front is.0 (packet_text packet) (texts packets) (sym is.1) enough in
        reads-more packet packets front found.0 fit.0 found.1 (again found.0 (is.0, found.2))
