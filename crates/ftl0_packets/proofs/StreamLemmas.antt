-- The stream of packets: its packets and its rest, read from the front, are the only ones.
use Rattle.std.proofs.Common.{◌≡◌, ℕ, zero, suc, ◌+◌, ◌<◌, ◌≤◌, List, [], ◌∷◌, ◌++◌, length, take, drop, leb, Bool, true, false, cond, Ok, refl, inl, inr, sym, ap, ◌∙◌, subst, arith, length-append, length-drop}
use Rattle.ftl0_packets.proofs.Names.{le-leb, lt-leb, leb-true, leb-false, eq-eqb, cases_lt, take_at, drop_at, take-append-drop, length-take-le, append_cancel_left, IsOctets, packet_text, Item, text_len, is_whole, read_item, packets_within, rest_within, packets_of, rest_of, IsPartial, Stream, IsReadAsStream, IsOneStream, IsReadAgain}
use Rattle.ftl0_packets.proofs.OctetLemmas.{IsOctets-take, IsOctets-drop}
use Rattle.ftl0_packets.proofs.TextLemmas.{text_len-append, text_len-whole, length-whole, IsText-PacketText, PacketText-whole, one_text}

-- a bound on the packets that is no less than the octets makes no difference
packets_within-enough : (n m : ℕ) (octets : List ℕ) → length octets ≤ n → length octets ≤ m → packets_within n octets ≡ packets_within m octets
packets_within-enough zero zero octets hn hm = refl
packets_within-enough zero (suc m) [] hn hm = refl
packets_within-enough zero (suc m) (x ∷ xs) hn hm = absurd (omega arith)
packets_within-enough (suc n) zero [] hn hm = refl
packets_within-enough (suc n) zero (x ∷ xs) hn hm = absurd (omega arith)
packets_within-enough (suc n) (suc m) octets hn hm =
    let len = length-drop (text_len octets) octets in
    ap (λ (ps : List Item). cond (leb (text_len octets) (length octets)) (read_item (take (text_len octets) octets) ∷ ps) [])
    (packets_within-enough n m (drop (text_len octets) octets) (omega arith) (omega arith))

rest_within-enough : (n m : ℕ) (octets : List ℕ) → length octets ≤ n → length octets ≤ m → rest_within n octets ≡ rest_within m octets
rest_within-enough zero zero octets hn hm = refl
rest_within-enough zero (suc m) [] hn hm = refl
rest_within-enough zero (suc m) (x ∷ xs) hn hm = absurd (omega arith)
rest_within-enough (suc n) zero [] hn hm = refl
rest_within-enough (suc n) zero (x ∷ xs) hn hm = absurd (omega arith)
rest_within-enough (suc n) (suc m) octets hn hm =
    let len = length-drop (text_len octets) octets in
    ap (λ (rest : List ℕ). cond (leb (text_len octets) (length octets)) rest octets)
    (rest_within-enough n m (drop (text_len octets) octets) (omega arith) (omega arith))

-- octets whose front is a whole text
module _ (text more : List ℕ) (w : is_whole text ≡ true) where
  packets_within-whole : (n : ℕ) → packets_within (suc n) (text ++ more) ≡ read_item text ∷ packets_within n more
  packets_within-whole n =
      let end = text_len-whole text more w in
      let test : leb (text_len (text ++ more)) (length (text ++ more)) ≡ true = le-leb _ _ (omega (arith, length-append text more)) in
      let front : take (text_len (text ++ more)) (text ++ more) ≡ text = take_at text more _ (sym end) in
      let back : drop (text_len (text ++ more)) (text ++ more) ≡ more = drop_at text more _ (sym end) in
      ap (λ (b : Bool). cond b (read_item (take (text_len (text ++ more)) (text ++ more)) ∷ packets_within n (drop (text_len (text ++ more)) (text ++ more))) []) test
      ∙ ap (λ (t : List ℕ). read_item t ∷ packets_within n (drop (text_len (text ++ more)) (text ++ more))) front
      ∙ ap (λ (t : List ℕ). read_item text ∷ packets_within n t) back

  rest_within-whole : (n : ℕ) → rest_within (suc n) (text ++ more) ≡ rest_within n more
  rest_within-whole n =
      let end = text_len-whole text more w in
      let test : leb (text_len (text ++ more)) (length (text ++ more)) ≡ true = le-leb _ _ (omega (arith, length-append text more)) in
      let back : drop (text_len (text ++ more)) (text ++ more) ≡ more = drop_at text more _ (sym end) in
      ap (λ (b : Bool). cond b (rest_within n (drop (text_len (text ++ more)) (text ++ more))) (text ++ more)) test
      ∙ ap (λ (t : List ℕ). rest_within n t) back

  pub packets_of-whole : packets_of (text ++ more) ≡ read_item text ∷ packets_of more
  unfolding packets_of
  packets_of-whole =
      let len = length-whole text w in
      let all = length-append text more in
      packets_within-enough (length (text ++ more)) (suc (length (text ++ more))) (text ++ more) (omega arith) (omega arith)
      ∙ packets_within-whole (length (text ++ more))
      ∙ ap (λ (ps : List Item). read_item text ∷ ps) (packets_within-enough (length (text ++ more)) (length more) more (omega arith) (omega arith))

  pub rest_of-whole : rest_of (text ++ more) ≡ rest_of more
  unfolding rest_of
  rest_of-whole =
      let len = length-whole text w in
      let all = length-append text more in
      rest_within-enough (length (text ++ more)) (suc (length (text ++ more))) (text ++ more) (omega arith) (omega arith)
      ∙ rest_within-whole (length (text ++ more))
      ∙ rest_within-enough (length (text ++ more)) (length more) more (omega arith) (omega arith)

-- fewer octets than a whole packet has
module _ (octets : List ℕ) (less : length octets < text_len octets) where
  packets_within-less : (n : ℕ) → packets_within n octets ≡ []
  packets_within-less zero = refl
  packets_within-less (suc n) =
      ap (λ (b : Bool). cond b (read_item (take (text_len octets) octets) ∷ packets_within n (drop (text_len octets) octets)) []) (lt-leb _ _ less)

  rest_within-less : (n : ℕ) → rest_within n octets ≡ octets
  rest_within-less zero = refl
  rest_within-less (suc n) =
      ap (λ (b : Bool). cond b (rest_within n (drop (text_len octets) octets)) octets) (lt-leb _ _ less)

  pub packets_of-less : packets_of octets ≡ []
  unfolding packets_of
  packets_of-less = packets_within-less (length octets)

  pub rest_of-less : rest_of octets ≡ octets
  unfolding rest_of
  rest_of-less = rest_within-less (length octets)

  -- no text begins them
  pub IsPartial-less : IsPartial octets
  IsPartial-less item text more h e =
      let t = IsText-PacketText item text h in
      let end : text_len octets ≡ length text = ap text_len e ∙ text_len-whole text more t.whole in
      let len : length octets ≡ length text + length more = ap length e ∙ length-append text more in
      omega arith

-- the front of octets that begin with a whole packet
module _ (octets : List ℕ) (enough : text_len octets ≤ length octets) where
  pub take-is_whole : is_whole (take (text_len octets) octets) ≡ true
  take-is_whole =
      let len : length (take (text_len octets) octets) ≡ text_len octets = length-take-le (text_len octets) octets enough in
      let again : text_len (take (text_len octets) octets ++ drop (text_len octets) octets) ≡ text_len (take (text_len octets) octets) =
      text_len-append (take (text_len octets) octets) (drop (text_len octets) octets) (omega arith) in
      let same : text_len (take (text_len octets) octets ++ drop (text_len octets) octets) ≡ text_len octets =
      ap text_len (take-append-drop (text_len octets) octets) in
      eq-eqb _ _ (len ∙ sym same ∙ again)

-- octets that no text begins are fewer than a whole packet has
pub less-IsPartial : (octets : List ℕ) → IsOctets octets → IsPartial octets → length octets < text_len octets
less-IsPartial octets h partial =
    elim (cases_lt (length octets) (text_len octets)) [
      | inl less ↦ less
      | inr enough ↦
          absurd
          (partial (read_item (take (text_len octets) octets)) (take (text_len octets) octets) (drop (text_len octets) octets)
          (PacketText-whole (take (text_len octets) octets) (take-is_whole octets enough) (IsOctets-take (text_len octets) octets h))
          (sym (take-append-drop (text_len octets) octets)))
    ]

-- octets are the stream of their packets and their rest
stream_step : (n : ℕ) (octets : List ℕ) → IsOctets octets
    → Stream (drop (text_len octets) octets) (packets_within n (drop (text_len octets) octets)) (rest_within n (drop (text_len octets) octets))
    → (b : Bool) → leb (text_len octets) (length octets) ≡ b
    → Stream octets (cond b (read_item (take (text_len octets) octets) ∷ packets_within n (drop (text_len octets) octets)) []) (cond b (rest_within n (drop (text_len octets) octets)) octets)
stream_step n octets h later true test =
    let enough = leb-true _ _ test in (
      take (text_len octets) octets,
      drop (text_len octets) octets,
      PacketText-whole (take (text_len octets) octets) (take-is_whole octets enough) (IsOctets-take (text_len octets) octets h),
      sym (take-append-drop (text_len octets) octets),
      later,
    )
stream_step n octets h later false test = (refl, IsPartial-less octets (leb-false _ _ test))

stream_within : (n : ℕ) (octets : List ℕ) → length octets ≤ n → IsOctets octets → Stream octets (packets_within n octets) (rest_within n octets)
stream_within zero [] hn h = (refl, IsPartial-less [] (omega arith))
stream_within zero (x ∷ xs) hn h = absurd (omega arith)
stream_within (suc n) octets hn h =
    let len = length-drop (text_len octets) octets in
    stream_step n octets h (stream_within n (drop (text_len octets) octets) (omega arith) (IsOctets-drop (text_len octets) octets h)) (leb (text_len octets) (length octets)) refl

pub stream_of : IsReadAsStream
unfolding packets_of rest_of
stream_of octets h = stream_within (length octets) octets (omega arith) h

-- and of no others
pub one_stream : IsOneStream
one_stream octets [] [] rest left s t = (refl, sym s.0 ∙ t.0)
one_stream octets [] (item ∷ items) rest left s t =
    absurd (s.1 item t.0 t.1 t.2 (sym s.0 ∙ t.3))
one_stream octets (item ∷ items) [] rest left s t =
    absurd (t.1 item s.0 s.1 s.2 (sym t.0 ∙ s.3))
one_stream octets (item ∷ items) (other ∷ others) rest left s t =
    let same = one_text item other s.0 t.0 s.1 t.1 s.2 t.2 (sym s.3 ∙ t.3) in
    let later : s.1 ≡ t.1 = append_cancel_left s.0 s.1 t.1 (sym s.3 ∙ t.3 ∙ ap (λ (x : List ℕ). x ++ t.1) (sym same.0)) in
    let rec = one_stream t.1 items others rest left (subst (λ (more : List ℕ). Stream more items rest) later s.4) t.4 in
    (ap (λ (i : Item). i ∷ items) same.1 ∙ ap (λ (is : List Item). other ∷ is) rec.0, rec.1)

-- a packet that was written is read again
pub read_again : IsReadAgain
read_again packet later fits =
    let t = IsText-PacketText (Ok packet) (packet_text packet) (fits, refl) in
    packets_of-whole (packet_text packet) later t.whole ∙ ap (λ (i : Item). i ∷ packets_of later) t.says
