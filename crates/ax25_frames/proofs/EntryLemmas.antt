-- Address entries one after another can be cut in one way only.
use Rattle.std.proofs.Common.{◌≡◌, ℕ, ◌+◌, ◌*◌, ◌≤◌, ◌<◌, Bool, true, false, List, [], ◌∷◌, ◌++◌, length, map, refl, sym, ap, ◌∙◌, arith, append_assoc, append-nil, length-append}
use Rattle.ax25_frames.proofs.Names.{common_steps, CallSign, IsCall, padded, bit, Entry, IsEntry, AreEntries, character_octets, ssid_octet, entry_octets, is_none, address_field, unended}

length_padded : (base : List ℕ) → length base ≤ 6 → length (padded base) ≡ 6
length_padded base h = grind (arith, common_steps)

pub length_characters : (call : CallSign) → IsCall call → length (character_octets call) ≡ 6
length_characters call h =
    let s = h.spelled in
    let len : length call.chars ≡ 6 = ap length s.2 ∙ length_padded s.0 s.1.1 in
    grind (arith, common_steps)

pub length_entry : (end : Bool) (entry : Entry) → IsEntry entry → length (entry_octets end entry) ≡ 7
length_entry end entry h =
    let len = length_characters entry.call h.call in
    length-append (character_octets entry.call) (ssid_octet end entry ∷ []) ∙ omega arith

-- lists that begin with as many elements
pub cut : (a b x y : List ℕ) → length a ≡ length b → a ++ x ≡ b ++ y → (a ≡ b) × (x ≡ y)
cut [] [] x y l e = (refl, e)
cut [] (b ∷ bs) x y l e = absurd (omega arith)
cut (a ∷ ax) [] x y l e = absurd (omega arith)
cut (a ∷ ax) (b ∷ bs) x y l e =
    let head : a ≡ b = cc in
    let tail : ax ++ x ≡ bs ++ y = cc in
    let rest = cut ax bs x y (omega arith) tail in
    (ap (λ (c : ℕ). c ∷ ax) head ∙ ap (λ (cs : List ℕ). b ∷ cs) rest.0, rest.1)

-- characters that are equal when shifted are equal
double_one : (xs ys : List ℕ) → map (λ c. 2 * c) xs ≡ map (λ c. 2 * c) ys → xs ≡ ys
double_one [] [] e = refl
double_one [] (y ∷ ys) e = cc
double_one (x ∷ xs) [] e = cc
double_one (x ∷ xs) (y ∷ ys) e =
    let head : 2 * x ≡ 2 * y = cc in
    let same : x ≡ y = omega arith in
    let tail : map (λ c. 2 * c) xs ≡ map (λ c. 2 * c) ys = cc in
    ap (λ (c : ℕ). c ∷ xs) same ∙ ap (λ (cs : List ℕ). y ∷ cs) (double_one xs ys tail)

pub bit-below : (b : Bool) → bit b < 2
bit-below true = omega arith
bit-below false = omega arith

pub bit_one : (a b : Bool) → bit a ≡ bit b → a ≡ b
bit_one true true e = refl
bit_one true false e = absurd (omega arith)
bit_one false true e = absurd (omega arith)
bit_one false false e = refl

-- the fields of an SSID octet
digits : (a b s t r q u v : ℕ) → a < 2 → b < 2 → s ≤ 15 → t ≤ 15 → r < 4 → q < 4 → u < 2 → v < 2
    → a + 2 * s + 32 * r + 128 * u ≡ b + 2 * t + 32 * q + 128 * v → (a ≡ b) × (s ≡ t) × (r ≡ q) × (u ≡ v)
digits a b s t r q u v ha hb hs ht hr hq hu hv e = (omega arith, omega arith, omega arith, omega arith)

same_entry : (e f : Entry) → e.call.chars ≡ f.call.chars → e.call.ssid ≡ f.call.ssid → e.reserved ≡ f.reserved → e.c_or_h_bit ≡ f.c_or_h_bit → e ≡ f
same_entry e f hc hs hr ht =
    let made : List ℕ → ℕ → ℕ → Bool → Entry = λ chars ssid reserved c_or_h_bit. record { call = record { chars = chars; ssid = ssid }; reserved = reserved; c_or_h_bit = c_or_h_bit } in
    ap (λ (x : List ℕ). made x e.call.ssid e.reserved e.c_or_h_bit) hc
    ∙ ap (λ (x : ℕ). made f.call.chars x e.reserved e.c_or_h_bit) hs
    ∙ ap (λ (x : ℕ). made f.call.chars f.call.ssid x e.c_or_h_bit) hr
    ∙ ap (λ (x : Bool). made f.call.chars f.call.ssid f.reserved x) ht

-- the octets of an entry say it and its end bit
pub entry_one : (a b : Bool) (e f : Entry) → IsEntry e → IsEntry f → entry_octets a e ≡ entry_octets b f → (a ≡ b) × (e ≡ f)
entry_one a b e f he hf same =
    let parts = cut (character_octets e.call) (character_octets f.call) (ssid_octet a e ∷ []) (ssid_octet b f ∷ []) (length_characters e.call he.call ∙ sym (length_characters f.call hf.call)) same in
    let octet : ssid_octet a e ≡ ssid_octet b f = cc (parts.1) in
    let fields = digits (bit a) (bit b) e.call.ssid f.call.ssid e.reserved f.reserved (bit e.c_or_h_bit) (bit f.c_or_h_bit) (bit-below a) (bit-below b) he.call.in_range hf.call.in_range he.reserved hf.reserved (bit-below e.c_or_h_bit) (bit-below f.c_or_h_bit) octet in
    (bit_one a b fields.0, same_entry e f (double_one e.call.chars f.call.chars parts.0) fields.1 fields.2 (bit_one e.c_or_h_bit f.c_or_h_bit fields.3))

-- an entry at the front of two texts
pub entry_cut : (a b : Bool) (e f : Entry) (xs ys x y : List ℕ) → IsEntry e → IsEntry f → (entry_octets a e ++ xs) ++ x ≡ (entry_octets b f ++ ys) ++ y
    → (a ≡ b) × (e ≡ f) × (xs ++ x ≡ ys ++ y)
entry_cut a b e f xs ys x y he hf same =
    let parts = cut (entry_octets a e) (entry_octets b f) (xs ++ x) (ys ++ y) (length_entry a e he ∙ sym (length_entry b f hf))
    (sym (append_assoc (entry_octets a e) xs x) ∙ same ∙ append_assoc (entry_octets b f) ys y) in
    let one = entry_one a b e f he hf parts.0 in
    (one.0, one.1, parts.1)

-- an address field ends in one place only
pub field_one : (e : Entry) (es : List Entry) (f : Entry) (fs : List Entry) (x y : List ℕ) → AreEntries (e ∷ es) → AreEntries (f ∷ fs)
    → address_field (e ∷ es) ++ x ≡ address_field (f ∷ fs) ++ y → (e ∷ es ≡ f ∷ fs) × (x ≡ y)
field_one e [] f [] x y he hf same =
    let one = entry_cut true true e f [] [] x y he.0 hf.0 same in
    (ap (λ (g : Entry). g ∷ []) one.1, one.2)
field_one e [] f (g ∷ gs) x y he hf same =
    let one = entry_cut true false e f [] (address_field (g ∷ gs)) x y he.0 hf.0 same in
    cc (one.0)
field_one e (d ∷ ds) f [] x y he hf same =
    let one = entry_cut false true e f (address_field (d ∷ ds)) [] x y he.0 hf.0 same in
    cc (one.0)
field_one e (d ∷ ds) f (g ∷ gs) x y he hf same =
    let one = entry_cut false false e f (address_field (d ∷ ds)) (address_field (g ∷ gs)) x y he.0 hf.0 same in
    let rest = field_one d ds g gs x y he.1 hf.1 one.2 in
    (ap (λ (h : Entry). h ∷ d ∷ ds) one.1 ∙ ap (λ (hs : List Entry). f ∷ hs) rest.0, rest.1)

-- what is left of an address field after entries without the end bit
pub record IsPeeled (count : ℕ) (x y : List ℕ) (all : ℕ) : Type 0 where
  pub next : Entry
  pub later : List Entry
  pub entries : AreEntries (next ∷ later)
  pub size : count + (1 + length later) ≡ all
  pub text : x ≡ address_field (next ∷ later) ++ y

pub peel : (es : List Entry) (f : Entry) (fs : List Entry) (x y : List ℕ) → AreEntries es → AreEntries (f ∷ fs)
    → unended es ++ x ≡ address_field (f ∷ fs) ++ y → IsPeeled (length es) x y (1 + length fs)
peel [] f fs x y he hf same = record { next = f; later = fs; entries = hf; size = omega arith; text = same }
peel (e ∷ es) f [] x y he hf same =
    let one = entry_cut false true e f (unended es) [] x y he.0 hf.0 same in
    cc (one.0)
peel (e ∷ es) f (g ∷ gs) x y he hf same =
    let one = entry_cut false false e f (unended es) (address_field (g ∷ gs)) x y he.0 hf.0 same in
    let rest = peel es g gs x y he.1 hf.1 one.2 in
    record { next = rest.next; later = rest.later; entries = rest.entries; size = omega (arith, rest.size); text = rest.text }

-- so many entries have seven octets each
pub length_unended : (es : List Entry) → AreEntries es → length (unended es) ≡ 7 * length es
length_unended [] h = refl
length_unended (e ∷ es) h =
    let one = length_entry false e h.0 in
    let rest = length_unended es h.1 in
    length-append (entry_octets false e) (unended es) ∙ omega arith

pub length_field : (es : List Entry) → AreEntries es → length (address_field es) ≡ 7 * length es
length_field [] h = refl
length_field (e ∷ es) h =
    let one = length_entry (is_none es) e h.0 in
    let rest = length_field es h.1 in
    length-append (entry_octets (is_none es) e) (address_field es) ∙ omega arith

-- one more entry
pub unended_more : (es : List Entry) (e : Entry) → unended (es ++ e ∷ []) ≡ unended es ++ entry_octets false e
unended_more [] e = append-nil (entry_octets false e)
unended_more (d ∷ es) e =
    ap (λ (x : List ℕ). entry_octets false d ++ x) (unended_more es e) ∙ sym (append_assoc (entry_octets false d) (unended es) (entry_octets false e))

pub AreEntries_more : (es : List Entry) (e : Entry) → AreEntries es → IsEntry e → AreEntries (es ++ e ∷ [])
AreEntries_more [] e h he = (he, tt)
AreEntries_more (d ∷ es) e h he = (h.0, AreEntries_more es e h.1 he)

-- the last entry
pub field_last : (es : List Entry) (e : Entry) → address_field (es ++ e ∷ []) ≡ unended es ++ entry_octets true e
field_last [] e = append-nil (entry_octets true e)
field_last (d ∷ []) e = ap (λ (x : List ℕ). entry_octets false d ++ x) (field_last [] e) ∙ sym (append_assoc (entry_octets false d) [] (entry_octets true e))
field_last (d ∷ c ∷ es) e =
    ap (λ (x : List ℕ). entry_octets false d ++ x) (field_last (c ∷ es) e)
    ∙ sym (append_assoc (entry_octets false d) (unended (c ∷ es)) (entry_octets true e))
