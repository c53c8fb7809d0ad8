-- The laws of KISS text.
use Rattle.std.proofs.Common.{◌≡◌, ◌≤◌, ◌≢◌, ℕ, List, [], ◌∷◌, ◌++◌, Bool, true, false, cond, Option, None, Some, length, map, refl, sym, ap, ◌∙◌, append_assoc, append-nil, ⊎_elim}
use Rattle.kiss.proofs.Names.{flat_map, filter_map, cons_option, list_any, AllByRecursion, le-ltb, cases_eq, cases_Bool, ne_eqb, or_parts, Part, Frame, fend, is_fend, data_on_port_0, most_octets, escape, unescape, part_of, frame_of, kiss_text, kiss_parts, kiss_frames, from_last_fend, HasNoFend, ReadsBack, AllReadBack, AllFramesReadBack, EscapesOneWay, PartsGoOn, FramesGoOn}
use Rattle.kiss.proofs.Splitting.{kiss_parts-before, kiss_parts-first, no_part, no_part_after}
use Rattle.kiss.proofs.Escapes.{HasNoFend-append, unescape-whole, unescape_some}
use Rattle.kiss.proofs.Steps.{within-end, fend_again, ended}

-- the text of x, with what comes after it
kiss_text-then : (x later : List ℕ) → length x ≤ most_octets → kiss_parts (kiss_text x ++ later) ≡ Frame x ∷ kiss_parts (fend ∷ later)
kiss_text-then x later short =
    ap (λ (back : List ℕ). kiss_parts (fend ∷ data_on_port_0 ∷ back)) (append_assoc (escape x) (fend ∷ []) later)
    ∙ within-end (data_on_port_0 ∷ x) later
    ∙ rw (le-ltb most_octets (length x) short) refl

pub reads_back : ReadsBack
reads_back before x none short =
    kiss_parts-first before (kiss_text x) none
    ∙ ap kiss_parts (sym (append-nil (kiss_text x)))
    ∙ kiss_text-then x [] short
    ∙ ap (λ (rest : List Part). Frame x ∷ rest) (no_part_after [] tt)

pub escapes_one_way : EscapesOneWay
escapes_one_way piece text none = (unescape_some piece text none, λ e. rw e (unescape-whole text))

after_a_fend : (xs : List (List ℕ)) → AllByRecursion (λ x. length x ≤ most_octets) xs → kiss_parts (fend ∷ flat_map kiss_text xs) ≡ map Frame xs
after_a_fend [] short = no_part_after [] tt
after_a_fend (x ∷ xs) short =
    fend_again (data_on_port_0 ∷ (escape x ++ fend ∷ []) ++ flat_map kiss_text xs)
    ∙ kiss_text-then x (flat_map kiss_text xs) short.0
    ∙ ap (λ (rest : List Part). Frame x ∷ rest) (after_a_fend xs short.1)

pub all_read_back : AllReadBack
all_read_back before [] none short = kiss_parts-first before [] none ∙ no_part [] tt
all_read_back before (x ∷ xs) none short =
    kiss_parts-first before (kiss_text x ++ flat_map kiss_text xs) none
    ∙ kiss_text-then x (flat_map kiss_text xs) short.0
    ∙ ap (λ (rest : List Part). Frame x ∷ rest) (after_a_fend xs short.1)

frames_alone : (xs : List (List ℕ)) → filter_map frame_of (map Frame xs) ≡ xs
frames_alone [] = refl
frames_alone (x ∷ xs) = ap (λ (rest : List (List ℕ)). x ∷ rest) (frames_alone xs)

pub all_frames_read_back : AllFramesReadBack
unfolding kiss_frames
all_frames_read_back before xs none short = ap (filter_map frame_of) (all_read_back before xs none short) ∙ frames_alone xs

-- the part that a piece is, where it has octets
piece_parts : List ℕ → List Part
piece_parts [] = []
piece_parts (x ∷ u) = part_of (unescape (x ∷ u)) ∷ []

cut : (u later : List ℕ) → HasNoFend u → kiss_parts (fend ∷ (u ++ fend ∷ later)) ≡ piece_parts u ++ kiss_parts (fend ∷ later)
unfolding piece_parts
cut [] later none = fend_again later
cut (x ∷ u) later none = ended (x ∷ u) later (x, u, refl) none

-- the octets from the last FEND on, where a FEND and u stand before
abbrev open_from : List ℕ → List ℕ → List ℕ
open_from u octets = cond (list_any is_fend octets) (from_last_fend octets) (fend ∷ (u ++ octets))

open_from-other : (u : List ℕ) (x : ℕ) (rest : List ℕ) → x ≢ fend → open_from (u ++ x ∷ []) rest ≡ open_from u (x ∷ rest)
open_from-other u x rest other = rw (ne_eqb x fend other) (by_rest (list_any is_fend rest))
  where
    by_rest : (b : Bool) → cond b (from_last_fend rest) (fend ∷ ((u ++ x ∷ []) ++ rest)) ≡ cond b (cond b (from_last_fend rest) []) (fend ∷ (u ++ x ∷ rest))
    by_rest true = refl
    by_rest false = ap (λ (back : List ℕ). fend ∷ back) (append_assoc u (x ∷ []) rest)

after_fend_go_on : (u octets later : List ℕ) → HasNoFend u
    → kiss_parts (fend ∷ (u ++ (octets ++ later))) ≡ kiss_parts (fend ∷ (u ++ octets)) ++ kiss_parts (open_from u octets ++ later)
after_fend_go_on u [] later none =
    rw (append-nil u, no_part_after u none) refl
after_fend_go_on u (x ∷ rest) later none = ⊎_elim
    (λ is_end. rw is_end (
    cut u (rest ++ later) none
    ∙ ap (λ (back : List Part). piece_parts u ++ back) (after_fend_go_on [] rest later tt)
    ∙ sym (append_assoc (piece_parts u) (kiss_parts (fend ∷ rest)) (kiss_parts (open_from [] rest ++ later)))
    ∙ ap (λ (front : List Part). front ++ kiss_parts (open_from [] rest ++ later)) (sym (cut u rest none))))
    (λ other.
    ap (λ (back : List ℕ). kiss_parts (fend ∷ back)) (sym (append_assoc u (x ∷ []) (rest ++ later)))
    ∙ after_fend_go_on (u ++ x ∷ []) rest later (HasNoFend-append u (x ∷ []) none (other, tt))
    ∙ ap (λ (back : List ℕ). kiss_parts (fend ∷ back) ++ kiss_parts (open_from (u ++ x ∷ []) rest ++ later)) (append_assoc u (x ∷ []) rest)
    ∙ ap (λ (front : List ℕ). kiss_parts (fend ∷ (u ++ x ∷ rest)) ++ kiss_parts (front ++ later)) (open_from-other u x rest other))
    (cases_eq x fend)

from_last_fend-none : (octets : List ℕ) → list_any is_fend octets ≡ false → from_last_fend octets ≡ []
from_last_fend-none [] none = refl
from_last_fend-none (x ∷ rest) none = let (no_end, no_rest) = or_parts (is_fend x) (list_any is_fend rest) none in rw (no_rest, no_end) refl

from_last_fend-other : (x : ℕ) (rest : List ℕ) → x ≢ fend → from_last_fend rest ≡ from_last_fend (x ∷ rest)
from_last_fend-other x rest other = rw (ne_eqb x fend other) (⊎_elim
    (λ some. rw some refl)
    (λ none. rw (from_last_fend-none rest none) (rw none refl))
    (cases_Bool (list_any is_fend rest)))

pub parts_go_on : PartsGoOn
parts_go_on [] later = ap (λ (front : List Part). front ++ kiss_parts later) (sym (no_part [] tt))
parts_go_on (x ∷ rest) later = ⊎_elim
    (λ is_end. rw is_end (after_fend_go_on [] rest later tt))
    (λ other.
    kiss_parts-before x (rest ++ later) other
    ∙ parts_go_on rest later
    ∙ ap (λ (front : List Part). front ++ kiss_parts (from_last_fend rest ++ later)) (sym (kiss_parts-before x rest other))
    ∙ ap (λ (front : List ℕ). kiss_parts (x ∷ rest) ++ kiss_parts (front ++ later)) (from_last_fend-other x rest other))
    (cases_eq x fend)

cons_option-append : (o : Option (List ℕ)) (a b : List (List ℕ)) → cons_option o (a ++ b) ≡ cons_option o a ++ b
cons_option-append None a b = refl
cons_option-append (Some octets) a b = refl

filter_map-append : (a b : List Part) → filter_map frame_of (a ++ b) ≡ filter_map frame_of a ++ filter_map frame_of b
filter_map-append [] b = refl
filter_map-append (part ∷ a) b =
    ap (cons_option (frame_of part)) (filter_map-append a b) ∙ cons_option-append (frame_of part) (filter_map frame_of a) (filter_map frame_of b)

pub frames_go_on : FramesGoOn
unfolding kiss_frames
frames_go_on octets later = ap (filter_map frame_of) (parts_go_on octets later) ∙ filter_map-append (kiss_parts octets) (kiss_parts (from_last_fend octets ++ later))
