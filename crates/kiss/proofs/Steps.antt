-- What one more octet makes of the parts.
use Rattle.std.proofs.Common.{append-nil, ◌≡◌, ◌≢◌, ◌<◌, ℕ, List, [], ◌∷◌, ◌++◌, Option, Some, None, length, map, refl, sym, ap, ◌∙◌, append_assoc, length-append, arith}
use Rattle.kiss.specs.declared.reader.KissFed.{KissFed}
use Rattle.kiss.specs.declared.reader.KissFed.TheVariants as fed
use Rattle.kiss.specs.declared.reader.State.TheVariants as state
use Rattle.kiss.specs.Hearing.{Hearing, parts_ended, frames_ended}
use Rattle.kiss.proofs.Names.{option_to_list, filter_map, Part, Frame, Dropped, fend, fesc, tfend, tfesc, most_octets, escape_octet, escape, unescape, part_of, frame_of, kiss_parts, kiss_frames, HasNoFend, State, heard_in, hearing, parts_of_text, IsStep}
use Rattle.kiss.proofs.Splitting.{split_form, one_piece, kiss_parts-fend, after_fend-piece, after_fend-swap}
use Rattle.kiss.proofs.Escapes.{escape-form, escape-no_fend, escape-push, escape-push_itself, unescape-whole, ill-dropped, open-dropped, long-dropped, HasNoFend-append}

-- a piece that is dropped however it goes on may be replaced by an ill escape
spoilt : (piece later : List ℕ) → ((y : ℕ) × (u : List ℕ) × (piece ≡ y ∷ u)) → HasNoFend piece
    → ((rest : List ℕ) → part_of (unescape (piece ++ rest)) ≡ Dropped)
    → kiss_parts (fend ∷ (piece ++ later)) ≡ kiss_parts (fend ∷ fesc ∷ fesc ∷ later)
spoilt piece later (y, u, form) none dropped =
    let none' : HasNoFend (y ∷ u) = rw form at none in
    let dropped' : (rest : List ℕ) → part_of (unescape ((y ∷ u) ++ rest)) ≡ Dropped = λ rest. rw form at (dropped rest) in
    ap (λ (front : List ℕ). kiss_parts (fend ∷ (front ++ later))) form
    ∙ kiss_parts-fend ((y ∷ u) ++ later)
    ∙ after_fend-swap y fesc u (fesc ∷ []) later none' ((λ same. omega arith), ((λ same. omega arith), tt)) dropped'
    ∙ sym (kiss_parts-fend (fesc ∷ fesc ∷ later))

-- a piece that a FEND ends is one part
pub ended : (piece later : List ℕ) → ((y : ℕ) × (u : List ℕ) × (piece ≡ y ∷ u)) → HasNoFend piece
    → kiss_parts (fend ∷ (piece ++ fend ∷ later)) ≡ part_of (unescape piece) ∷ kiss_parts (fend ∷ later)
ended piece later (y, u, form) none =
    let none' : HasNoFend (y ∷ u) = rw form at none in
    ap (λ (front : List ℕ). kiss_parts (fend ∷ (front ++ fend ∷ later))) form
    ∙ kiss_parts-fend ((y ∷ u) ++ fend ∷ later)
    ∙ after_fend-piece y u later none'
    ∙ ap (λ (rest : List Part). part_of (unescape (y ∷ u)) ∷ rest) (sym (kiss_parts-fend later))
    ∙ ap (λ (front : List ℕ). part_of (unescape front) ∷ kiss_parts (fend ∷ later)) (sym form)

-- two FENDs in a row are one
pub fend_again : (later : List ℕ) → kiss_parts (fend ∷ fend ∷ later) ≡ kiss_parts (fend ∷ later)
unfolding kiss_parts
fend_again later = let (piece, rest, e) = split_form later in rw e refl

-- after an ill escape nothing matters till the next FEND
pub spoilt-other : (x : ℕ) (later : List ℕ) → x ≢ fend → kiss_parts (fend ∷ fesc ∷ fesc ∷ x ∷ later) ≡ kiss_parts (fend ∷ fesc ∷ fesc ∷ later)
spoilt-other x later other =
    spoilt (fesc ∷ fesc ∷ x ∷ []) later (fesc, fesc ∷ x ∷ [], refl)
    ((λ same. omega arith), ((λ same. omega arith), (other, tt))) (λ rest. refl)

-- an octet that stands for itself
pub within-itself : (text : List ℕ) (x : ℕ) (later : List ℕ) → x ≢ fend → x ≢ fesc
    → (fend ∷ escape text) ++ x ∷ later ≡ fend ∷ (escape (text ++ x ∷ []) ++ later)
within-itself text x later no_end no_escape =
    ap (λ (back : List ℕ). fend ∷ back) (sym (append_assoc (escape text) (x ∷ []) later) ∙ ap (λ (front : List ℕ). front ++ later) (sym (escape-push_itself text x no_end no_escape)))

-- FESC begins an escape
pub within-escape : (text later : List ℕ) → (fend ∷ escape text) ++ fesc ∷ later ≡ (fend ∷ (escape text ++ fesc ∷ [])) ++ later
within-escape text later = ap (λ (back : List ℕ). fend ∷ back) (sym (append_assoc (escape text) (fesc ∷ []) later))

-- TFEND and TFESC end one
escaped-octet : (text : List ℕ) (x sent : ℕ) (later : List ℕ) → escape_octet x ≡ fesc ∷ sent ∷ []
    → (fend ∷ (escape text ++ fesc ∷ [])) ++ sent ∷ later ≡ fend ∷ (escape (text ++ x ∷ []) ++ later)
escaped-octet text x sent later form = ap (λ (back : List ℕ). fend ∷ back) (
    append_assoc (escape text) (fesc ∷ []) (sent ∷ later)
    ∙ sym (append_assoc (escape text) (fesc ∷ sent ∷ []) later)
    ∙ ap (λ (back : List ℕ). (escape text ++ back) ++ later) (sym form)
    ∙ ap (λ (front : List ℕ). front ++ later) (sym (escape-push text x)))

pub escaped-tfend : (text later : List ℕ) → (fend ∷ (escape text ++ fesc ∷ [])) ++ tfend ∷ later ≡ fend ∷ (escape (text ++ fend ∷ []) ++ later)
escaped-tfend text later = escaped-octet text fend tfend later refl

pub escaped-tfesc : (text later : List ℕ) → (fend ∷ (escape text ++ fesc ∷ [])) ++ tfesc ∷ later ≡ fend ∷ (escape (text ++ fesc ∷ []) ++ later)
escaped-tfesc text later = escaped-octet text fesc tfesc later refl

-- another octet after FESC spoils the part
pub escaped-ill : (text : List ℕ) (x : ℕ) (later : List ℕ) → x ≢ fend → x ≢ tfend → x ≢ tfesc
    → kiss_parts ((fend ∷ (escape text ++ fesc ∷ [])) ++ x ∷ later) ≡ kiss_parts (fend ∷ fesc ∷ fesc ∷ later)
escaped-ill text x later no_end no_tfend no_tfesc =
    ap (λ (back : List ℕ). kiss_parts (fend ∷ back)) (append_assoc (escape text) (fesc ∷ []) (x ∷ later) ∙ sym (append_assoc (escape text) (fesc ∷ x ∷ []) later))
    ∙ spoilt (escape text ++ fesc ∷ x ∷ []) later (form text)
    (HasNoFend-append (escape text) (fesc ∷ x ∷ []) (escape-no_fend text) ((λ same. omega arith), (no_end, tt)))
    (λ rest. ill-dropped text x rest no_tfend no_tfesc)
  where
    form : (text : List ℕ) → (y : ℕ) × (u : List ℕ) × (escape text ++ fesc ∷ x ∷ [] ≡ y ∷ u)
    form [] = (fesc, x ∷ [], refl)
    form (kind ∷ text) = let (y, u, e) = escape-form kind text in (y, u ++ fesc ∷ x ∷ [], ap (λ (front : List ℕ). front ++ fesc ∷ x ∷ []) e)

-- a 402nd octet spoils it too
pub too_long : (text : List ℕ) (x : ℕ) (later : List ℕ) → most_octets < length text
    → kiss_parts (fend ∷ (escape (text ++ x ∷ []) ++ later)) ≡ kiss_parts (fend ∷ fesc ∷ fesc ∷ later)
too_long text x later long =
    spoilt (escape (text ++ x ∷ [])) later (form text) (escape-no_fend (text ++ x ∷ []))
    (λ rest. long-dropped (text ++ x ∷ []) rest (omega (arith, length-append text (x ∷ []))))
  where
    form : (text : List ℕ) → (y : ℕ) × (u : List ℕ) × (escape (text ++ x ∷ []) ≡ y ∷ u)
    form [] = escape-form x []
    form (kind ∷ text) = escape-form kind (text ++ x ∷ [])

-- a FEND ends the octets that were read
pub within-end : (text later : List ℕ)
    → kiss_parts ((fend ∷ escape text) ++ fend ∷ later) ≡ parts_of_text text ++ kiss_parts (fend ∷ later)
within-end [] later = fend_again later
within-end (kind ∷ text) later =
    ended (escape (kind ∷ text)) later (escape-form kind text) (escape-no_fend (kind ∷ text))
    ∙ ap (λ (read : Option (List ℕ)). part_of read ∷ kiss_parts (fend ∷ later)) (unescape-whole (kind ∷ text))

-- an escape that a FEND breaks off is ill
pub escaped-end : (text later : List ℕ)
    → kiss_parts ((fend ∷ (escape text ++ fesc ∷ [])) ++ fend ∷ later) ≡ Dropped ∷ kiss_parts (fend ∷ later)
escaped-end text later =
    ended (escape text ++ fesc ∷ []) later (form text) (HasNoFend-append (escape text) (fesc ∷ []) (escape-no_fend text) ((λ same. omega arith), tt))
    ∙ ap (λ (part : Part). part ∷ kiss_parts (fend ∷ later)) (open-dropped text)
  where
    form : (text : List ℕ) → (y : ℕ) × (u : List ℕ) × (escape text ++ fesc ∷ [] ≡ y ∷ u)
    form [] = (fesc, [], refl)
    form (kind ∷ text) = let (y, u, e) = escape-form kind text in (y, u ++ fesc ∷ [], ap (λ (front : List ℕ). front ++ fesc ∷ []) e)

-- a part that was spoilt is dropped
pub spoilt-end : (later : List ℕ) → kiss_parts (fend ∷ fesc ∷ fesc ∷ fend ∷ later) ≡ Dropped ∷ kiss_parts (fend ∷ later)
spoilt-end later = ended (fesc ∷ fesc ∷ []) later (fesc, fesc ∷ [], refl) ((λ same. omega arith), ((λ same. omega arith), tt))

-- what a reader's memory stands for has no part
pub heard_in-no_part : (s : State) (text : List ℕ) → kiss_parts (heard_in s text) ≡ []
unfolding kiss_parts
heard_in-no_part state.Waiting text = refl
heard_in-no_part state.Within text = rw (one_piece (escape text) (escape-no_fend text)) refl
heard_in-no_part state.Escaped text =
    rw (one_piece (escape text ++ fesc ∷ []) (HasNoFend-append (escape text) (fesc ∷ []) (escape-no_fend text) ((λ same. omega arith), tt))) refl
heard_in-no_part state.Spoilt text = refl
heard_in-no_part state.Framed text = refl

-- where the parts go on, so do the frames
pub frames_go_on : (fed : KissFed) (hearing : Hearing) (before after : List ℕ)
    → kiss_parts before ≡ parts_ended fed hearing ++ kiss_parts after → kiss_frames before ≡ frames_ended fed hearing ++ kiss_frames after
unfolding kiss_frames
frames_go_on fed.More hearing before after e = ap (filter_map frame_of) e
frames_go_on fed.Frame hearing before after e = ap (filter_map frame_of) e ∙ with_frame hearing.frame
  where
    with_frame : (frame : Option (List ℕ)) → filter_map frame_of (map Frame (option_to_list frame) ++ kiss_parts after) ≡ option_to_list frame ++ filter_map frame_of (kiss_parts after)
    with_frame None = refl
    with_frame (Some octets) = refl
frames_go_on fed.Dropped hearing before after e = ap (filter_map frame_of) e
frames_go_on fed.Passed hearing before after e = ap (filter_map frame_of) e

pub no_frame : (octets : List ℕ) → kiss_parts octets ≡ [] → kiss_frames octets ≡ []
unfolding kiss_frames
no_frame octets e = rw e refl

-- what an octet ended is what there is now
pub step_verdict : (before : State) (text : List ℕ) (octet : ℕ) (now : State) (text_now : List ℕ) (answer : KissFed) → IsStep before text octet now text_now answer
    → parts_ended answer (hearing now text_now) ≡ kiss_parts (heard_in before text ++ octet ∷ [])
step_verdict before text octet now text_now answer h =
    sym (
    h.parts []
    ∙ ap (λ (rest : List Part). parts_ended answer (hearing now text_now) ++ rest) (ap kiss_parts (append-nil (heard_in now text_now)) ∙ heard_in-no_part now text_now)
    ∙ append-nil (parts_ended answer (hearing now text_now)))

-- and the frame among it
pub step_frames : (before : State) (text : List ℕ) (octet : ℕ) (now : State) (text_now : List ℕ) (answer : KissFed) → IsStep before text octet now text_now answer
    → (later : List ℕ) → kiss_frames (heard_in before text ++ octet ∷ later) ≡ frames_ended answer (hearing now text_now) ++ kiss_frames (heard_in now text_now ++ later)
step_frames before text octet now text_now answer h later = frames_go_on answer (hearing now text_now) _ _ (h.parts later)

-- a loop that goes from FEND to FEND, one piece further
pub piece_more : (parts new all : List Part) (rest piece after : List ℕ) (part : Part)
    → parts ++ kiss_parts (fend ∷ rest) ≡ all → HasNoFend piece → rest ≡ piece ++ fend ∷ after → 0 < length piece
    → part ≡ part_of (unescape piece) → new ≡ parts ++ part ∷ [] → new ++ kiss_parts (fend ∷ after) ≡ all
piece_more parts new all rest [] after part so_far none cut some is more = absurd (omega arith)
piece_more parts new all rest (x ∷ piece) after part so_far none cut some is more =
    ap (λ (front : List Part). front ++ kiss_parts (fend ∷ after)) more
    ∙ append_assoc parts (part ∷ []) (kiss_parts (fend ∷ after))
    ∙ ap (λ (next : Part). parts ++ next ∷ kiss_parts (fend ∷ after)) is
    ∙ ap (λ (back : List Part). parts ++ back) (sym (ended (x ∷ piece) after (x, piece, refl) none))
    ∙ ap (λ (octets : List ℕ). parts ++ kiss_parts (fend ∷ octets)) (sym cut)
    ∙ so_far

-- a piece without octets has no part
pub piece_empty : (parts all : List Part) (rest piece after : List ℕ)
    → parts ++ kiss_parts (fend ∷ rest) ≡ all → rest ≡ piece ++ fend ∷ after → length piece ≡ 0 → parts ++ kiss_parts (fend ∷ after) ≡ all
piece_empty parts all rest [] after so_far cut none =
    ap (λ (back : List Part). parts ++ back) (sym (fend_again after) ∙ ap (λ (octets : List ℕ). kiss_parts (fend ∷ octets)) (sym cut)) ∙ so_far
piece_empty parts all rest (x ∷ piece) after so_far cut none = absurd (omega arith)
