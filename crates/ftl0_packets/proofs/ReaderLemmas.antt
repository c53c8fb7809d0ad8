-- The reader's buffer: what it holds after octets are put to it, and what that says of the stream.
use Rattle.std.proofs.Common.{◌≡◌, ℕ, ◌+◌, ◌-◌, min, ◌<◌, ◌≤◌, ◌↔◌, ◌⊎◌, List, [], ◌∷◌, ◌++◌, length, take, drop, Bool, true, false, cond, refl, inl, inr, sym, ap, ◌∙◌, subst, arith, length-append, length-take, append_assoc}
use Rattle.ftl0_packets.specs.declared.reader.PacketFed.{PacketFed}
use Rattle.ftl0_packets.specs.declared.reader.PacketFed.TheVariants.{More, Whole}
use Rattle.ftl0_packets.specs.Filling.{IsBuffer, IsFilling}
use Rattle.ftl0_packets.proofs.Names.{cases_lt, eqb-false, take-append-drop, take-take, take_all, IsOctets, Item, PacketText, text_len, is_whole, under_way, read_item, packets_of, rest_of, IsPartial}
use Rattle.ftl0_packets.proofs.OctetLemmas.{IsOctets-append, IsOctets-take}
use Rattle.ftl0_packets.proofs.TextLemmas.{text_len-append, text_len-whole, length-whole, IsText-PacketText, PacketText-whole}
use Rattle.ftl0_packets.proofs.StreamLemmas.{packets_of-whole, rest_of-whole, IsPartial-less, less-IsPartial}

-- a packet that isn't whole yet doesn't end where it is, whatever follows
pub text_len-more : (front more : List ℕ) → length front < text_len front → length front < text_len (front ++ more)
text_len-more front more less =
    elim (cases_lt (length front) 2) [
      | inl short ↦ omega arith
      | inr long ↦ rw (text_len-append front more long) less
    ]

-- the buffer after octets were put to the packet under way, up to its end
module _ (front bytes : List ℕ) (taken : ℕ) (less : length front < text_len front)
    (is : taken ≡ min (text_len (front ++ bytes) - length front) (length bytes)) where
  length-filled : length (front ++ take taken bytes) ≡ length front + taken
  length-filled = omega (arith, length-append front (take taken bytes), length-take taken bytes)

  -- they say where it ends as well as all octets do
  pub text_len-filled : text_len (front ++ take taken bytes) ≡ text_len (front ++ bytes)
  text_len-filled =
      let len = length-filled in
      elim (cases_lt (length (front ++ take taken bytes)) 2) [
        | inl short ↦ ap (λ (xs : List ℕ). text_len (front ++ xs)) (take_all taken bytes (omega arith))
        | inr long ↦
            sym (text_len-append (front ++ take taken bytes) (drop taken bytes) long)
            ∙ ap text_len (append_assoc front (take taken bytes) (drop taken bytes))
            ∙ ap (λ (xs : List ℕ). text_len (front ++ xs)) (take-append-drop taken bytes)
      ]

  pub IsFilling-filled : IsOctets front → IsOctets bytes → IsFilling (front ++ take taken bytes)
  IsFilling-filled octets more =
      let len = length-filled in
      let end = text_len-filled in
      let below = text_len-more front bytes less in
      record {
        within = omega arith;
        octets = IsOctets-append front (take taken bytes) octets (IsOctets-take taken bytes more);
      }

-- less than a whole packet, where the buffer holds no whole one
pub less-not_whole : (text : List ℕ) → IsFilling text → is_whole text ≡ false → length text < text_len text
less-not_whole text filling w =
    let not_same = eqb-false _ _ w in
    let within = filling.within in
    elim (cases_lt (length text) (text_len text)) [ inl less ↦ less | inr enough ↦ absurd (not_same (omega arith)) ]

-- what is under way is less than a whole packet
pub under_way-less : (text : List ℕ) → IsFilling text → length (under_way text) < text_len (under_way text)
under_way-less text filling = under_way-less-at text filling (is_whole text) refl
  where
    under_way-less-at : (text : List ℕ) → IsFilling text → (b : Bool) → is_whole text ≡ b → length (cond b [] text) < text_len (cond b [] text)
    under_way-less-at text filling true e = omega arith
    under_way-less-at text filling false e = less-not_whole text filling e

-- the buffer after octets were put to the packet under way
pub IsBuffer-filled : (front bytes text : List ℕ) (taken end : ℕ) → IsFilling front → length front < text_len front → IsOctets bytes
    → end ≡ text_len (front ++ bytes) → taken ≡ min (end - length front) (length bytes) → text ≡ front ++ take taken bytes → IsBuffer text end
IsBuffer-filled front bytes text taken end filling less octets ends count put =
    let number : taken ≡ min (text_len (front ++ bytes) - length front) (length bytes) = subst (λ (n : ℕ). taken ≡ min (n - length front) (length bytes)) ends count in
    record {
      filling = subst IsFilling (sym put) (IsFilling-filled front bytes taken less number filling.octets octets);
      ends = ends ∙ sym (text_len-filled front bytes taken less number) ∙ ap text_len (sym put);
    }

-- the answer for what the buffer holds
abbrev pub IsAnswer : List ℕ → PacketFed → Type 0
IsAnswer text fed = ((fed ≡ Whole) × (is_whole text ≡ true)) ⊎ ((fed ≡ More) × (is_whole text ≡ false))

pub answer_of : (text : List ℕ) (fed : PacketFed) → fed ≡ cond (is_whole text) Whole More → IsAnswer text fed
answer_of text fed is = answer_at text fed (is_whole text) refl is
  where
    answer_at : (text : List ℕ) (fed : PacketFed) (b : Bool) → is_whole text ≡ b → fed ≡ cond b Whole More → IsAnswer text fed
    answer_at text fed true w is = inl (is, w)
    answer_at text fed false w is = inr (is, w)

module _ (text : List ℕ) (fed : PacketFed) (filling : IsFilling text) (answer : IsAnswer text fed) where
  pub Whole-is : (fed ≡ Whole) ↔ ((item : Item) × PacketText item text)
  Whole-is =
      elim answer [
        | inl w ↦ (λ _. (read_item text, PacketText-whole text w.1 filling.octets), λ _. w.0)
        | inr m ↦ (
          λ e. absurd (cc (e, m.0)),
          λ h.
              let less = less-not_whole text filling m.1 in
              let len = length-whole text (IsText-PacketText h.0 text h.1).whole in
              absurd (omega arith),
        )
      ]

  pub More-is : (fed ≡ More) ↔ IsPartial text
  More-is =
      elim answer [
        | inl w ↦ (
          λ e. absurd (cc (e, w.0)),
          λ h.
              let less = less-IsPartial text filling.octets h in
              let len = length-whole text w.1 in
              absurd (omega arith),
        )
        | inr m ↦ (λ _. IsPartial-less text (less-not_whole text filling m.1), λ _. m.0)
      ]

  pub packets_of-found : (later : List ℕ) → fed ≡ Whole → packets_of (text ++ later) ≡ read_item text ∷ packets_of (under_way text ++ later)
  packets_of-found later e =
      elim answer [
        | inl w ↦
            let none : under_way text ≡ [] = ap (λ (b : Bool). cond b [] text) w.1 in
            packets_of-whole text later w.1 ∙ ap (λ (front : List ℕ). read_item text ∷ packets_of (front ++ later)) (sym none)
        | inr m ↦ absurd (cc (e, m.0))
      ]

  pub packets_of-waits : (later : List ℕ) → fed ≡ More → packets_of (text ++ later) ≡ packets_of (under_way text ++ later)
  packets_of-waits later e =
      elim answer [
        | inl w ↦ absurd (cc (e, w.0))
        | inr m ↦
            let all : under_way text ≡ text = ap (λ (b : Bool). cond b [] text) m.1 in
            ap (λ (front : List ℕ). packets_of (front ++ later)) (sym all)
      ]

  pub rest_of-fed : (later : List ℕ) → rest_of (text ++ later) ≡ rest_of (under_way text ++ later)
  rest_of-fed later =
      elim answer [
        | inl w ↦
            let none : under_way text ≡ [] = ap (λ (b : Bool). cond b [] text) w.1 in
            rest_of-whole text later w.1 ∙ ap (λ (front : List ℕ). rest_of (front ++ later)) (sym none)
        | inr m ↦
            let all : under_way text ≡ text = ap (λ (b : Bool). cond b [] text) m.1 in
            ap (λ (front : List ℕ). rest_of (front ++ later)) (sym all)
      ]

-- octets that are put to the front of what comes
pub resplit : (front bytes later : List ℕ) (n : ℕ) → front ++ (bytes ++ later) ≡ (front ++ take n bytes) ++ (drop n bytes ++ later)
resplit front bytes later n =
    ap (λ (xs : List ℕ). front ++ (xs ++ later)) (sym (take-append-drop n bytes))
    ∙ ap (λ (xs : List ℕ). front ++ xs) (append_assoc (take n bytes) (drop n bytes) later)
    ∙ sym (append_assoc front (take n bytes) (drop n bytes ++ later))

-- with fewer octets than were taken no packet is whole
pub IsPartial-fewer : (front bytes text : List ℕ) (taken n : ℕ) → IsFilling text → text ≡ front ++ take taken bytes → n < taken → taken ≤ length bytes
    → IsPartial (front ++ take n bytes)
IsPartial-fewer front bytes text taken n filling same below within item whole more h e =
    let left : List ℕ = drop n (take taken bytes) in
    let joined : take n bytes ++ left ≡ take taken bytes =
    ap (λ (x : List ℕ). x ++ left) (sym (take-take n taken bytes (omega arith))) ∙ take-append-drop n (take taken bytes) in
    let again : text ≡ whole ++ (more ++ left) =
    same
    ∙ ap (λ (x : List ℕ). front ++ x) (sym joined)
    ∙ sym (append_assoc front (take n bytes) left)
    ∙ ap (λ (x : List ℕ). x ++ left) e
    ∙ append_assoc whole more left in
    let end : text_len text ≡ length whole = ap text_len again ∙ text_len-whole whole (more ++ left) (IsText-PacketText item whole h).whole in
    let len_text : length text ≡ length front + taken = ap length same ∙ omega (arith, length-append front (take taken bytes), length-take taken bytes) in
    let len_front : length front + n ≡ length whole + length more =
    omega (arith, ap length e, length-append front (take n bytes), length-take n bytes, length-append whole more) in
    let fits = filling.within in
    omega arith
