-- Escapes are read back, and nothing else is read.
use Rattle.std.proofs.Common.{◌≡◌, ◌≢◌, ◌<◌, ◌+◌, ℕ, List, [], ◌∷◌, ◌++◌, Option, Some, None, length, refl, sym, ap, ◌∙◌, ⊎_elim, arith, append-nil, append_assoc, length-append, get_or, drop, All}
use Rattle.std.proofs.lemmas.List.Concat.{flat_map-append}
use Rattle.kiss.proofs.Names.{option_map, cases_eq, eq-eqb, ne_eqb, lt-ltb, drop-drop, All-tail, Dropped, fend, fesc, tfend, tfesc, escape_octet, escape, with_front, unescape, part_of, most_octets, HasNoFend, IsPlain}

-- what is no FESC stands for itself
unescape-plain : (x : ℕ) (rest : List ℕ) → x ≢ fesc → unescape (x ∷ rest) ≡ option_map (λ octets. x ∷ octets) (unescape rest)
unescape-plain x [] other = rw (ne_eqb x fesc other) refl
unescape-plain x (next ∷ rest) other = rw (ne_eqb x fesc other) refl

-- how an octet is sent
data Sent (x : ℕ) : Type 0 where
  as_end : x ≡ fend → Sent x
  as_escape : x ≡ fesc → Sent x
  as_itself : x ≢ fend → x ≢ fesc → Sent x

sent : (x : ℕ) → Sent x
sent x = ⊎_elim as_end (λ no_end. ⊎_elim as_escape (λ no_escape. as_itself no_end no_escape) (cases_eq x fesc)) (cases_eq x fend)

escape_octet-itself : (x : ℕ) → x ≢ fend → x ≢ fesc → escape_octet x ≡ x ∷ []
escape_octet-itself x no_end no_escape = rw (ne_eqb x fend no_end, ne_eqb x fesc no_escape) refl

-- an octet that was escaped is read back, whatever follows it
unescape-octet : (x : ℕ) (rest : List ℕ) → unescape (escape_octet x ++ rest) ≡ option_map (λ octets. x ∷ octets) (unescape rest)
unescape-octet x rest = elim (sent x) [
  | as_end e ↦ rw e refl
  | as_escape e ↦ rw e refl
  | as_itself no_end no_escape ↦ rw (escape_octet-itself x no_end no_escape) (unescape-plain x rest no_escape)
]

pub HasNoFend-append : (u v : List ℕ) → HasNoFend u → HasNoFend v → HasNoFend (u ++ v)
HasNoFend-append [] v a b = b
HasNoFend-append (x ∷ u) v a b = (a.0, HasNoFend-append u v a.1 b)

option_map-append : (front : List ℕ) (x : ℕ) (read : Option (List ℕ))
    → option_map (λ octets. x ∷ octets) (option_map (λ octets. front ++ octets) read) ≡ option_map (λ octets. (x ∷ front) ++ octets) read
option_map-append front x None = refl
option_map-append front x (Some octets) = refl

option_map-nil : (read : Option (List ℕ)) → read ≡ option_map (λ octets. [] ++ octets) read
option_map-nil None = refl
option_map-nil (Some octets) = refl

-- what was escaped is read back, whatever follows it
pub unescape-escape : (text rest : List ℕ) → unescape (escape text ++ rest) ≡ option_map (λ octets. text ++ octets) (unescape rest)
unescape-escape [] rest = option_map-nil (unescape rest)
unescape-escape (x ∷ text) rest =
    ap unescape (append_assoc (escape_octet x) (escape text) rest)
    ∙ unescape-octet x (escape text ++ rest)
    ∙ ap (option_map (λ (octets : List ℕ). x ∷ octets)) (unescape-escape text rest)
    ∙ option_map-append text x (unescape rest)

escape_octet-no_fend : (x : ℕ) → HasNoFend (escape_octet x)
escape_octet-no_fend x = elim (sent x) [
  | as_end e ↦ rw e (λ same. omega arith, (λ same. omega arith, tt))
  | as_escape e ↦ rw e (λ same. omega arith, (λ same. omega arith, tt))
  | as_itself no_end no_escape ↦ rw (escape_octet-itself x no_end no_escape) (no_end, tt)
]

pub escape-no_fend : (text : List ℕ) → HasNoFend (escape text)
escape-no_fend [] = tt
escape-no_fend (x ∷ text) = HasNoFend-append (escape_octet x) (escape text) (escape_octet-no_fend x) (escape-no_fend text)

-- an escaped octet has a first octet
escape_octet-form : (x : ℕ) → (y : ℕ) × (u : List ℕ) × (escape_octet x ≡ y ∷ u)
escape_octet-form x = elim (sent x) [
  | as_end e ↦ (fesc, tfend ∷ [], rw e refl)
  | as_escape e ↦ (fesc, tfesc ∷ [], rw e refl)
  | as_itself no_end no_escape ↦ (x, [], escape_octet-itself x no_end no_escape)
]

pub escape-form : (x : ℕ) (text : List ℕ) → (y : ℕ) × (u : List ℕ) × (escape (x ∷ text) ≡ y ∷ u)
escape-form x text = let (y, u, e) = escape_octet-form x in (y, u ++ escape text, ap (λ (front : List ℕ). front ++ escape text) e)

-- one more octet
pub escape-push : (text : List ℕ) (x : ℕ) → escape (text ++ x ∷ []) ≡ escape text ++ escape_octet x
escape-push text x = flat_map-append escape_octet text (x ∷ []) ∙ ap (λ (back : List ℕ). escape text ++ back) (append-nil (escape_octet x))

pub escape-push_itself : (text : List ℕ) (x : ℕ) → x ≢ fend → x ≢ fesc → escape (text ++ x ∷ []) ≡ escape text ++ x ∷ []
escape-push_itself text x no_end no_escape = escape-push text x ∙ ap (λ (back : List ℕ). escape text ++ back) (escape_octet-itself x no_end no_escape)

-- octets that stand for themselves, after others
pub escape-run : (text run : List ℕ) → All IsPlain run → escape (text ++ run) ≡ escape text ++ run
escape-run text [] plain = ap escape (append-nil text) ∙ sym (append-nil (escape text))
escape-run text (x ∷ run) plain =
    let (no_end, no_escape) = plain 0 x (omega arith) in
    ap escape (sym (append_assoc text (x ∷ []) run))
    ∙ escape-run (text ++ x ∷ []) run (All-tail IsPlain x run plain)
    ∙ ap (λ (front : List ℕ). front ++ run) (escape-push_itself text x no_end no_escape)
    ∙ append_assoc (escape text) (x ∷ []) run

option_map_some : {f : List ℕ → List ℕ} (read : Option (List ℕ)) (text : List ℕ) → option_map f read ≡ Some text
    → (octets : List ℕ) × (read ≡ Some octets) × (f octets ≡ text)
option_map_some None text e = absurd (cc)
option_map_some (Some octets) text e = (octets, refl, cc)

-- after FESC, one of two octets is read
after_escape : (x next : ℕ) (rest text : List ℕ) → x ≡ fesc → unescape (x ∷ next ∷ rest) ≡ Some text
    → ((octets : List ℕ) → unescape rest ≡ Some octets → rest ≡ escape octets) → x ∷ next ∷ rest ≡ escape text
after_escape x next rest text is_escape e again = ⊎_elim
    (λ is_tfend.
    let read : option_map (λ octets. fend ∷ octets) (unescape rest) ≡ Some text = rw (is_escape, eq-eqb next tfend is_tfend) at e in
    let (octets, rest_read, text_is) = option_map_some _ text read in
    rw (is_escape, is_tfend, ← text_is) (ap (λ (back : List ℕ). fesc ∷ tfend ∷ back) (again octets rest_read)))
    (λ no_tfend. ⊎_elim
    (λ is_tfesc.
    let read : option_map (λ octets. fesc ∷ octets) (unescape rest) ≡ Some text = rw (is_escape, ne_eqb next tfend no_tfend, eq-eqb next tfesc is_tfesc) at e in
    let (octets, rest_read, text_is) = option_map_some _ text read in
    rw (is_escape, is_tfesc, ← text_is) (ap (λ (back : List ℕ). fesc ∷ tfesc ∷ back) (again octets rest_read)))
    (λ no_tfesc.
    let read : None ≡ Some text = rw (is_escape, ne_eqb next tfend no_tfend, ne_eqb next tfesc no_tfesc) at e in
    absurd (cc))
    (cases_eq next tfesc))
    (cases_eq next tfend)

-- what is read from a piece without FEND was escaped so
pub unescape_some : (piece text : List ℕ) → HasNoFend piece → unescape piece ≡ Some text → piece ≡ escape text
unescape_some [] text none e = let nothing : text ≡ [] = cc in rw nothing refl
unescape_some (x ∷ []) text none e = elim (sent x) [
  | as_end is_end ↦ absurd (none.0 is_end)
  | as_escape is_escape ↦ let no : None ≡ Some text = rw is_escape at e in absurd (cc)
  | as_itself no_end no_escape ↦
      let read : Some (x ∷ []) ≡ Some text = rw (ne_eqb x fesc no_escape) at e in
      let text_is : x ∷ [] ≡ text = cc in
      rw (← text_is) (sym (append-nil (escape_octet x) ∙ escape_octet-itself x no_end no_escape))
]
unescape_some (x ∷ next ∷ rest) text none e = elim (sent x) [
  | as_end is_end ↦ absurd (none.0 is_end)
  | as_escape is_escape ↦ after_escape x next rest text is_escape e (λ octets read. unescape_some rest octets none.1.1 read)
  | as_itself no_end no_escape ↦
      let (octets, read, text_is) = option_map_some _ text (sym (unescape-plain x (next ∷ rest) no_escape) ∙ e) in
      ap (λ (back : List ℕ). x ∷ back) (unescape_some (next ∷ rest) octets none.1 read)
      ∙ ap (λ (front : List ℕ). front ++ escape octets) (sym (escape_octet-itself x no_end no_escape))
      ∙ ap escape text_is
]

-- octets that are escaped are a piece without FEND, and what is read from it
pub unescape-whole : (text : List ℕ) → unescape (escape text) ≡ Some text
unescape-whole text =
    ap unescape (sym (append-nil (escape text))) ∙ unescape-escape text [] ∙ ap (λ (octets : List ℕ). Some octets) (append-nil text)

-- an escape by another octet is ill, whatever follows
unescape-ill : (x : ℕ) (rest : List ℕ) → x ≢ tfend → x ≢ tfesc → unescape (fesc ∷ x ∷ rest) ≡ None
unescape-ill x rest no_tfend no_tfesc = rw (ne_eqb x tfend no_tfend, ne_eqb x tfesc no_tfesc) refl

-- a piece with such an escape is dropped
pub ill-dropped : (text : List ℕ) (x : ℕ) (rest : List ℕ) → x ≢ tfend → x ≢ tfesc
    → part_of (unescape ((escape text ++ fesc ∷ x ∷ []) ++ rest)) ≡ Dropped
ill-dropped text x rest no_tfend no_tfesc =
    ap (λ (piece : List ℕ). part_of (unescape piece)) (append_assoc (escape text) (fesc ∷ x ∷ []) rest)
    ∙ ap part_of (unescape-escape text (fesc ∷ x ∷ rest) ∙ ap (option_map (λ (octets : List ℕ). text ++ octets)) (unescape-ill x rest no_tfend no_tfesc))

-- so is one that ends in FESC
pub open-dropped : (text : List ℕ) → part_of (unescape (escape text ++ fesc ∷ [])) ≡ Dropped
open-dropped text = ap part_of (unescape-escape text (fesc ∷ []))

-- and one with more than 401 octets
pub long-dropped : (text rest : List ℕ) → most_octets + 1 < length text → part_of (unescape (escape text ++ rest)) ≡ Dropped
long-dropped text rest long = ap part_of (unescape-escape text rest) ∙ still_long text (unescape rest) long
  where
    still_long : (text : List ℕ) (read : Option (List ℕ)) → most_octets + 1 < length text → part_of (option_map (λ octets. text ++ octets) read) ≡ Dropped
    still_long text None long = refl
    still_long [] (Some octets) long = absurd (omega arith)
    still_long (kind ∷ text) (Some octets) long =
        rw (lt-ltb most_octets (length (text ++ octets)) (omega (arith, length-append text octets))) refl

-- the first octet that a piece was sent for
pub first-plain : (piece : List ℕ) → 0 < length piece → get_or piece 0 0 ≢ fesc
    → unescape piece ≡ option_map (λ octets. get_or piece 0 0 ∷ octets) (unescape (drop 1 piece))
first-plain [] some other = absurd (omega arith)
first-plain (x ∷ rest) some other = unescape-plain x rest other

pub first-escaped : (piece : List ℕ) → 1 < length piece → get_or piece 0 0 ≡ fesc
    → unescape piece ≡ unescape (fesc ∷ get_or piece 1 0 ∷ drop 2 piece)
first-escaped [] two is_escape = absurd (omega arith)
first-escaped (x ∷ []) two is_escape = absurd (omega arith)
first-escaped (x ∷ next ∷ rest) two is_escape = ap (λ (first : ℕ). unescape (first ∷ next ∷ rest)) is_escape

-- one more octet was read
pub option_map-push : (text : List ℕ) (x : ℕ) (read : Option (List ℕ))
    → option_map (λ octets. (text ++ x ∷ []) ++ octets) read ≡ option_map (λ octets. text ++ octets) (option_map (λ octets. x ∷ octets) read)
option_map-push text x None = refl
option_map-push text x (Some octets) = ap (λ (octets : List ℕ). Some octets) (append_assoc text (x ∷ []) octets)

pub option_map-append_nil : (text : List ℕ) → option_map (λ octets. text ++ octets) (Some []) ≡ Some text
option_map-append_nil text = ap (λ (octets : List ℕ). Some octets) (append-nil text)

-- a loop that reads a piece, one octet further
pub read_more : (piece text new : List ℕ) (at x len : ℕ)
    → option_map (λ octets. text ++ octets) (unescape (drop at piece)) ≡ unescape piece
    → unescape (drop at piece) ≡ with_front x (unescape (drop len (drop at piece)))
    → new ≡ text ++ x ∷ []
    → option_map (λ octets. new ++ octets) (unescape (drop (at + len) piece)) ≡ unescape piece
read_more piece text new at x len so_far first more =
    ap (λ (front : List ℕ). option_map (λ octets. front ++ octets) (unescape (drop (at + len) piece))) more
    ∙ option_map-push text x (unescape (drop (at + len) piece))
    ∙ ap (λ (rest : List ℕ). option_map (λ (octets : List ℕ). text ++ octets) (with_front x (unescape rest))) (sym (drop-drop len at piece))
    ∙ ap (option_map (λ (octets : List ℕ). text ++ octets)) (sym first)
    ∙ so_far
