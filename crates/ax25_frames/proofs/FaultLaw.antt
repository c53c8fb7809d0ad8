-- Octets have one fault at most.
use Rattle.std.proofs.Common.{◌≡◌, ℕ, ◌+◌, ◌*◌, ◌≤◌, ◌<◌, Bool, false, List, [], ◌∷◌, ◌++◌, length, take, drop, slice_index, refl, sym, ap, ◌∙◌, subst, inl, inr, arith, append_assoc, append-nil, length-append, length-take-le, take-append-drop}
use Rattle.ax25_frames.proofs.Names.{cases_lt, common_steps, append_cancel_right, take_at, take-take, FrameFault, Short, BadAddress, TooManyAddresses, BadControl, LongInfo, Control, KindValue, control_octet, fields_of, FitsKind, Entry, IsEntry, AreEntries, character_octets, ssid_octet, address_field, unended, BeginsUnended, IsAddressField, BeginsFrame, FailsAt, FaultAt, IsOneFault}
use Rattle.ax25_frames.proofs.EntryLemmas.{length_characters, length_unended, length_field, field_one, peel, unended_more}
use Rattle.ax25_frames.proofs.FrameLemmas.{parts, begins_front, begins_whole, begun_entries}
use Rattle.ax25_frames.proofs.KindLemmas.{control_one}

-- each front of octets that can be completed can be completed
begins_of : (octets : List ℕ) (n : ℕ) → BeginsFrame octets → BeginsFrame (take n octets)
begins_of octets n h = begins_front (take n octets) (drop n octets) (subst BeginsFrame (sym (take-append-drop n octets)) h)

begins_less : (octets : List ℕ) (n m : ℕ) → n ≤ m → BeginsFrame (take m octets) → BeginsFrame (take n octets)
begins_less octets n m l h =
    let same : take n (take m octets) ≡ take n octets = take-take n m octets l in
    subst BeginsFrame same (begins_of (take m octets) n h)

-- octets fail at one place only
no_earlier : (octets : List ℕ) (a b : ℕ) → FailsAt octets a → FailsAt octets b → a < b → ⊥
no_earlier octets a b ha hb l = ha.ends (begins_less octets (a + 1) b (omega arith) hb.begins)

one_place : (octets : List ℕ) (a b : ℕ) → FailsAt octets a → FailsAt octets b → a ≡ b
one_place octets a b ha hb =
    elim (cases_lt a b) [
      | inl l ↦ absurd (no_earlier octets a b ha hb l)
      | inr l ↦
          elim (cases_lt b a) [
            | inl m ↦ absurd (no_earlier octets b a hb ha m)
            | inr m ↦ omega arith
          ]
    ]

-- fewer entries without the end bit than a whole address field has stand before its end
fewer : (octets : List ℕ) (n : ℕ) (e : Entry) (es : List Entry) (y : List ℕ) → BeginsUnended octets n → AreEntries (e ∷ es)
    → octets ≡ address_field (e ∷ es) ++ y → n < 1 + length es
fewer octets n e es y h entries text =
    let p = peel h.0 e es h.1 y h.2 entries (sym h.4 ∙ text) in
    let size = p.size in
    let count = h.3 in
    omega arith

-- the last entry of some
record IsSnoc (es : List Entry) : Type 0 where
  front : List Entry
  last : Entry
  same : es ≡ front ++ last ∷ []
  entries : AreEntries front
  entry : IsEntry last

snoc : (e : Entry) (es : List Entry) → AreEntries (e ∷ es) → IsSnoc (e ∷ es)
snoc e [] h = record { front = []; last = e; same = refl; entries = tt; entry = h.0 }
snoc e (d ∷ es) h =
    let rest = snoc d es h.1 in
    record { front = e ∷ rest.front; last = rest.last; same = ap (λ (x : List Entry). e ∷ x) rest.same; entries = (h.0, rest.entries); entry = rest.entry }

-- ten entries fail at the end of the tenth, and not before
ten_begin : (octets : List ℕ) → BeginsUnended octets 10 → BeginsFrame (take 69 octets)
ten_begin octets ([], rest, h, count, text) = absurd (omega arith)
ten_begin octets (e ∷ es, rest, h, count, text) =
    let s = snoc e es h in
    let c = length_characters s.last.call s.entry.call in
    let len = length_unended s.front s.entries in
    let size : length (e ∷ es) ≡ length (s.front ++ s.last ∷ []) = ap (λ (x : List Entry). length x) s.same in
    let sizes = length-append s.front (s.last ∷ []) in
    let both = length-append (unended s.front) (character_octets s.last.call) in
    let whole : octets ≡ (unended s.front ++ character_octets s.last.call) ++ (ssid_octet false s.last ∷ rest) =
    text
    ∙ ap (λ (x : List Entry). unended x ++ rest) s.same
    ∙ ap (λ (x : List ℕ). x ++ rest) (unended_more s.front s.last)
    ∙ grouped (unended s.front) (character_octets s.last.call) rest (ssid_octet false s.last) in
    let front : take 69 octets ≡ unended s.front ++ character_octets s.last.call =
    ap (λ (x : List ℕ). take 69 x) whole ∙ take_at (unended s.front ++ character_octets s.last.call) (ssid_octet false s.last ∷ rest) 69 (omega arith) in
    subst BeginsFrame (sym front)
    (begun_entries s.front s.last (character_octets s.last.call) [] s.entries s.entry (omega arith) (sym (append-nil (character_octets s.last.call))))
  where
    grouped : (u c rest : List ℕ) (o : ℕ) → (u ++ (c ++ o ∷ [])) ++ rest ≡ (u ++ c) ++ (o ∷ rest)
    grouped u c rest o = grind (arith, common_steps)

-- what is known of octets whose information is too long
record IsLong (octets : List ℕ) (len : ℕ) : Type 0 where
  dest : Entry
  src : Entry
  repeaters : List Entry
  entries : AreEntries (dest ∷ src ∷ repeaters)
  most : length repeaters ≤ 8
  kind : KindValue
  poll : Bool
  fits : FitsKind kind
  info : List ℕ
  text : octets ≡ address_field (dest ∷ src ∷ repeaters) ++ control_octet kind.control poll ∷ (kind.pid ++ info)
  len_is : len ≡ length info
  begins : BeginsFrame (take (length (address_field (dest ∷ src ∷ repeaters)) + 1) octets)
  ends : BeginsFrame octets → ⊥

long_is : (octets : List ℕ) (len : ℕ) → FaultAt (LongInfo len) octets → IsLong octets len
long_is octets len (frame, front, info, t, text, len_is, ends) =
    let p = parts frame (front ++ frame.kind.information) t in
    let field : List ℕ = address_field (p.dest ∷ p.src ∷ p.repeaters) in
    let control : ℕ = control_octet frame.kind.control frame.poll in
    let same : front ++ frame.kind.information ≡ (field ++ control ∷ frame.kind.pid) ++ frame.kind.information =
    p.text ∙ sym (append_assoc field (control ∷ frame.kind.pid) (frame.kind.information)) in
    let is_front : front ≡ field ++ control ∷ frame.kind.pid = append_cancel_right front (field ++ control ∷ frame.kind.pid) (frame.kind.information) same in
    let whole : octets ≡ (field ++ control ∷ frame.kind.pid) ++ info = text ∙ ap (λ (x : List ℕ). x ++ info) is_front in
    let through : field ++ control ∷ [] ≡ take (length field + 1) octets =
    sym (take_at (field ++ control ∷ []) (frame.kind.pid ++ info) (length field + 1) (length-append field (control ∷ [])))
    ∙ ap (λ (x : List ℕ). take (length field + 1) x) (parted field (frame.kind.pid) info control ∙ sym whole) in
    let front_begins : BeginsFrame ((field ++ control ∷ []) ++ (frame.kind.pid ++ frame.kind.information)) =
    subst BeginsFrame (is_whole field (frame.kind.pid) (frame.kind.information) control (front ++ frame.kind.information) same) (begins_whole frame (front ++ frame.kind.information) t) in
    record {
      dest = p.dest;
      src = p.src;
      repeaters = p.repeaters;
      entries = p.entries;
      most = p.most;
      kind = frame.kind;
      poll = frame.poll;
      fits = p.fits;
      info = info;
      text = whole ∙ append_assoc field (control ∷ frame.kind.pid) info;
      len_is = len_is;
      begins = subst BeginsFrame through (begins_front (field ++ control ∷ []) (frame.kind.pid ++ frame.kind.information) front_begins);
      ends = ends;
    }
  where
    parted : (f pid info : List ℕ) (o : ℕ) → (f ++ o ∷ []) ++ (pid ++ info) ≡ (f ++ o ∷ pid) ++ info
    parted f pid info o = grind (arith, common_steps)

    is_whole : (f pid info : List ℕ) (o : ℕ) (x : List ℕ) → x ≡ (f ++ o ∷ pid) ++ info → x ≡ (f ++ o ∷ []) ++ (pid ++ info)
    is_whole f pid info o x e = e ∙ grind (arith, common_steps)

-- no other fault beside one of an address entry
bad_many : (octets : List ℕ) (at : ℕ) → FaultAt (BadAddress at) octets → FaultAt TooManyAddresses octets → ⊥
bad_many octets at b m = b.0.ends (begins_less octets (at + 1) 69 (let l = b.2 in omega arith) (ten_begin octets m.0))

-- octets up to this place are an address field
field_whole : (octets : List ℕ) (at : ℕ) → at ≤ length octets → (h : IsAddressField (take at octets)) → (octets ≡ address_field h.0 ++ drop at octets) × (at ≡ 7 * length h.0)
field_whole octets at l h =
    let len = length_field h.0 h.1 in
    let taken = length-take-le at octets l in
    let same : length (take at octets) ≡ length (address_field h.0) = ap length h.4 in
    (sym (take-append-drop at octets) ∙ ap (λ (x : List ℕ). x ++ drop at octets) h.4, omega arith)

fewer_than : (octets : List ℕ) (n at : ℕ) → BeginsUnended octets n → at ≤ length octets → IsAddressField (take at octets) → (n < 11) × (7 * n + 7 ≤ at) × (n ≤ 9)
fewer_than octets n at h l ([], entries, least, most, text) = absurd (omega arith)
fewer_than octets n at h l (e ∷ es, entries, least, most, text) =
    let w = field_whole octets at l (e ∷ es, entries, least, most, text) in
    let f = fewer octets n e es (drop at octets) h entries w.0 in
    let place = w.1 in
    (omega arith, omega arith, omega arith)

bad_control_no : (octets : List ℕ) (at octet : ℕ) → FaultAt (BadAddress at) octets → FaultAt (BadControl octet) octets → ⊥
bad_control_no octets at octet b c =
    let same = one_place octets at c.0 b.0 c.1 in
    let inside = c.1.inside in
    let f = fewer_than octets b.1.0 c.0 b.1.1 (omega arith) c.2 in
    let l = b.1.4 in
    let low = f.1 in
    omega arith

many_control : (octets : List ℕ) (octet : ℕ) → FaultAt TooManyAddresses octets → FaultAt (BadControl octet) octets → ⊥
many_control octets octet m c =
    let inside = c.1.inside in
    let f = fewer_than octets 10 c.0 m.0 (omega arith) c.2 in
    let l = f.2 in
    omega arith

bad_long : (octets : List ℕ) (at len : ℕ) → FaultAt (BadAddress at) octets → FaultAt (LongInfo len) octets → ⊥
bad_long octets at len b h =
    let l = long_is octets len h in
    let field = length_field (l.dest ∷ l.src ∷ l.repeaters) l.entries in
    let f = fewer octets b.1.0 l.dest (l.src ∷ l.repeaters) (control_octet l.kind.control l.poll ∷ (l.kind.pid ++ l.info)) b.1.1 l.entries l.text in
    let below = b.1.4 in
    b.0.ends (begins_less octets (at + 1) (length (address_field (l.dest ∷ l.src ∷ l.repeaters)) + 1) (omega arith) l.begins)

many_long : (octets : List ℕ) (len : ℕ) → FaultAt TooManyAddresses octets → FaultAt (LongInfo len) octets → ⊥
many_long octets len m h =
    let l = long_is octets len h in
    let most = l.most in
    let f = fewer octets 10 l.dest (l.src ∷ l.repeaters) (control_octet l.kind.control l.poll ∷ (l.kind.pid ++ l.info)) m.0 l.entries l.text in
    omega arith

control_long : (octets : List ℕ) (octet len : ℕ) → FaultAt (BadControl octet) octets → FaultAt (LongInfo len) octets → ⊥
control_long octets octet len (at, fails, ([], entries, least, most, text), is) h = omega arith
control_long octets octet len (at, fails, (e ∷ es, entries, least, most, text), is) h =
    let l = long_is octets len h in
    let inside = fails.inside in
    let w = field_whole octets at (omega arith) (e ∷ es, entries, least, most, text) in
    let one = field_one e es l.dest (l.src ∷ l.repeaters) (drop at octets) (control_octet l.kind.control l.poll ∷ (l.kind.pid ++ l.info)) entries l.entries (sym w.0 ∙ l.text) in
    let size : length (e ∷ es) ≡ length (l.dest ∷ l.src ∷ l.repeaters) = ap (λ (x : List Entry). length x) one.0 in
    let field = length_field (l.dest ∷ l.src ∷ l.repeaters) l.entries in
    let place = w.1 in
    fails.ends (begins_less octets (at + 1) (length (address_field (l.dest ∷ l.src ∷ l.repeaters)) + 1) (omega arith) l.begins)

one_length : (octets : List ℕ) (a b : ℕ) → FaultAt (LongInfo a) octets → FaultAt (LongInfo b) octets → a ≡ b
one_length octets a b ha hb =
    let l = long_is octets a ha in
    let m = long_is octets b hb in
    let one = field_one l.dest (l.src ∷ l.repeaters) m.dest (m.src ∷ m.repeaters) (control_octet l.kind.control l.poll ∷ (l.kind.pid ++ l.info))
    (control_octet m.kind.control m.poll ∷ (m.kind.pid ++ m.info)) l.entries m.entries (sym l.text ∙ m.text) in
    let octet : control_octet l.kind.control l.poll ≡ control_octet m.kind.control m.poll = cc (one.1) in
    let rest : l.kind.pid ++ l.info ≡ m.kind.pid ++ m.info = cc (one.1) in
    let kinds = control_one l.kind.control m.kind.control l.poll m.poll l.fits.control m.fits.control octet in
    let count : length l.kind.pid ≡ length m.kind.pid = l.fits.count ∙ ap (λ (c : Control). (fields_of c).pids) kinds.0 ∙ sym m.fits.count in
    let all : length (l.kind.pid ++ l.info) ≡ length (m.kind.pid ++ m.info) = ap length rest in
    let al = length-append (l.kind.pid) l.info in
    let am = length-append (m.kind.pid) m.info in
    let la = l.len_is in
    let lb = m.len_is in
    omega arith

one_octet_at : (octets : List ℕ) (a b : ℕ) → FaultAt (BadControl a) octets → FaultAt (BadControl b) octets → a ≡ b
one_octet_at octets a b ha hb =
    sym ha.3 ∙ ap (λ (n : ℕ). slice_index octets n) (one_place octets ha.0 hb.0 ha.1 hb.1) ∙ hb.3

-- octets that end too early have no other fault
short_only : (octets : List ℕ) (at : ℕ) (fault : FrameFault) → FaultAt (Short at) octets → FaultAt fault octets → fault ≡ Short at
short_only octets at (Short b) s f = ap Short (f.0 ∙ sym s.0)
short_only octets at (BadAddress b) s f = absurd (f.0.ends (begins_of octets (b + 1) s.1))
short_only octets at TooManyAddresses s f = absurd (f.1 (begins_of octets 70 s.1))
short_only octets at (BadControl octet) s f = absurd (f.1.ends (begins_of octets (f.0 + 1) s.1))
short_only octets at (LongInfo len) s f = absurd (f.6 s.1)

pub one_fault : IsOneFault
one_fault (Short a) other octets f g = sym (short_only octets a other f g)
one_fault (BadAddress a) (Short b) octets f g = short_only octets b (BadAddress a) g f
one_fault (BadAddress a) (BadAddress b) octets f g = ap BadAddress (one_place octets a b f.0 g.0)
one_fault (BadAddress a) TooManyAddresses octets f g = absurd (bad_many octets a f g)
one_fault (BadAddress a) (BadControl b) octets f g = absurd (bad_control_no octets a b f g)
one_fault (BadAddress a) (LongInfo b) octets f g = absurd (bad_long octets a b f g)
one_fault TooManyAddresses (Short b) octets f g = short_only octets b TooManyAddresses g f
one_fault TooManyAddresses (BadAddress b) octets f g = absurd (bad_many octets b g f)
one_fault TooManyAddresses TooManyAddresses octets f g = refl
one_fault TooManyAddresses (BadControl b) octets f g = absurd (many_control octets b f g)
one_fault TooManyAddresses (LongInfo b) octets f g = absurd (many_long octets b f g)
one_fault (BadControl a) (Short b) octets f g = short_only octets b (BadControl a) g f
one_fault (BadControl a) (BadAddress b) octets f g = absurd (bad_control_no octets b a g f)
one_fault (BadControl a) TooManyAddresses octets f g = absurd (many_control octets a g f)
one_fault (BadControl a) (BadControl b) octets f g = ap BadControl (one_octet_at octets a b f g)
one_fault (BadControl a) (LongInfo b) octets f g = absurd (control_long octets a b f g)
one_fault (LongInfo a) (Short b) octets f g = short_only octets b (LongInfo a) g f
one_fault (LongInfo a) (BadAddress b) octets f g = absurd (bad_long octets b a g f)
one_fault (LongInfo a) TooManyAddresses octets f g = absurd (many_long octets a g f)
one_fault (LongInfo a) (BadControl b) octets f g = absurd (control_long octets b a g f)
one_fault (LongInfo a) (LongInfo b) octets f g = ap LongInfo (one_length octets a b f g)
