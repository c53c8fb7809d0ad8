-- Octets cut into pieces.
use Rattle.std.proofs.Common.{◌≡◌, ℕ, zero, suc, ◌+◌, ◌-◌, ◌<◌, ◌≤◌, min, List, [], ◌∷◌, ◌++◌, length, take, drop, get_or, refl, ap, sym, ◌∙◌, subst, append_assoc, append-nil, ⊎_elim, length-drop, arith}
use Rattle.std.proofs.Math.Seq.{take-append-add, drop-append-add}
use Rattle.ax25_link.proofs.Names.{slice_get, unwrap_or, sum, All, concat, take-append-drop, take-append-le, drop-append-le, drop-drop, drop_all, take_all, take_min, drop_min, length-take-le, cases_lt, sum_by-cons, sum_by-le, sum_by_push, sum_by-take-drop, sum_by-take-le, All-drop, AreSizes, cut, queue_of, octets_of}

pub sum-cons : (size : ℕ) (sizes : List ℕ) → sum (size ∷ sizes) ≡ size + sum sizes
sum-cons size sizes = sum_by-cons (λ x. x) size sizes

pub length-cut : (sizes octets : List ℕ) → length (cut sizes octets) ≡ length sizes
length-cut [] octets = refl
length-cut (size ∷ sizes) octets = ap suc (length-cut sizes (drop size octets))

-- what follows the first piece's octets, and then those of the others
drop-cons : (size : ℕ) (sizes octets : List ℕ) → drop (sum (size ∷ sizes)) octets ≡ drop (sum sizes) (drop size octets)
drop-cons size sizes octets = ap (λ (n : ℕ). drop n octets) (sum-cons size sizes) ∙ sym (drop-drop (sum sizes) size octets)

pub concat-cut : (sizes octets : List ℕ) → concat (cut sizes octets) ++ drop (sum sizes) octets ≡ octets
concat-cut [] octets = refl
concat-cut (size ∷ sizes) octets =
    append_assoc (take size octets) (concat (cut sizes (drop size octets))) (drop (sum (size ∷ sizes)) octets)
    ∙ ap (λ (back : List ℕ). take size octets ++ (concat (cut sizes (drop size octets)) ++ back)) (drop-cons size sizes octets)
    ∙ ap (λ (back : List ℕ). take size octets ++ back) (concat-cut sizes (drop size octets))
    ∙ take-append-drop size octets

-- the octets of a queue
pub octets_of-queue_of : (sizes octets : List ℕ) → octets_of (queue_of sizes octets) ≡ octets
octets_of-queue_of sizes octets = concat-cut sizes octets

-- octets that come later leave the pieces as they are
pub cut-append : (sizes octets more : List ℕ) → sum sizes ≤ length octets → cut sizes (octets ++ more) ≡ cut sizes octets
cut-append [] octets more inside = refl
cut-append (size ∷ sizes) octets more inside =
    let whole : size + sum sizes ≤ length octets = subst (λ (n : ℕ). n ≤ length octets) (sum-cons size sizes) inside in
    let here : size ≤ length octets = omega arith in
    let later : sum sizes ≤ length (drop size octets) = omega (arith, length-drop size octets) in
    ap (λ (piece : List ℕ). piece ∷ cut sizes (drop size (octets ++ more))) (take-append-le size octets more here)
    ∙ ap (λ (rest : List ℕ). take size octets ∷ cut sizes rest) (drop-append-le size octets more here)
    ∙ ap (λ (pieces : List (List ℕ)). take size octets ∷ pieces) (cut-append sizes (drop size octets) more later)

pub queue-append : (sizes octets more : List ℕ) → sum sizes ≤ length octets
    → queue_of sizes (octets ++ more) ≡ record (queue_of sizes octets) { unsent = drop (sum sizes) octets ++ more }
queue-append sizes octets more inside =
    ap (λ (pieces : List (List ℕ)). record { pieces = pieces; unsent = drop (sum sizes) (octets ++ more) }) (cut-append sizes octets more inside)
    ∙ ap (λ (unsent : List ℕ). record { pieces = cut sizes octets; unsent = unsent }) (drop-append-le (sum sizes) octets more inside)

-- one piece more
pub cut_push : (sizes octets : List ℕ) (size : ℕ) → cut (sizes ++ size ∷ []) octets ≡ cut sizes octets ++ take size (drop (sum sizes) octets) ∷ []
cut_push [] octets size = refl
cut_push (first ∷ sizes) octets size =
    ap (λ (pieces : List (List ℕ)). take first octets ∷ pieces) (cut_push sizes (drop first octets) size)
    ∙ ap (λ (rest : List ℕ). take first octets ∷ (cut sizes (drop first octets) ++ take size rest ∷ [])) (sym (drop-cons first sizes octets))

pub drop_push : (sizes octets : List ℕ) (size : ℕ) → drop (sum (sizes ++ size ∷ [])) octets ≡ drop size (drop (sum sizes) octets)
drop_push sizes octets size = ap (λ (n : ℕ). drop n octets) (sum_by_push (λ x. x) sizes size) ∙ sym (drop-drop size (sum sizes) octets)

-- without the first pieces
pub drop-cut : (n : ℕ) (sizes octets : List ℕ) → drop n (cut sizes octets) ≡ cut (drop n sizes) (drop (sum (take n sizes)) octets)
drop-cut zero sizes octets = refl
drop-cut (suc n) [] octets = refl
drop-cut (suc n) (size ∷ sizes) octets =
    drop-cut n sizes (drop size octets)
    ∙ ap (λ (rest : List ℕ). cut (drop n sizes) rest) (sym (drop-cons size (take n sizes) octets))

pub queue-drop : (n : ℕ) (sizes octets : List ℕ)
    → queue_of (drop n sizes) (drop (sum (take n sizes)) octets) ≡ record (queue_of sizes octets) { pieces = drop n (cut sizes octets) }
queue-drop n sizes octets =
    ap (λ (pieces : List (List ℕ)). record { pieces = pieces; unsent = drop (sum (drop n sizes)) (drop (sum (take n sizes)) octets) }) (sym (drop-cut n sizes octets))
    ∙ ap (λ (unsent : List ℕ). record { pieces = drop n (cut sizes octets); unsent = unsent })
    (drop-drop (sum (drop n sizes)) (sum (take n sizes)) octets ∙ ap (λ (k : ℕ). drop k octets) (sum_by-take-drop (λ x. x) sizes n))

-- the pieces alone
pub queue-take : (sizes octets : List ℕ) → sum sizes ≤ length octets
    → queue_of sizes (take (sum sizes) octets) ≡ record (queue_of sizes octets) { unsent = [] }
queue-take sizes octets inside =
    let few : length (take (sum sizes) octets) ≡ sum sizes = length-take-le (sum sizes) octets inside in
    let same : cut sizes (take (sum sizes) octets) ≡ cut sizes octets =
    sym (cut-append sizes (take (sum sizes) octets) (drop (sum sizes) octets) (omega (arith, few)))
    ∙ ap (λ (all : List ℕ). cut sizes all) (take-append-drop (sum sizes) octets) in
    ap (λ (pieces : List (List ℕ)). record { pieces = pieces; unsent = drop (sum sizes) (take (sum sizes) octets) }) same
    ∙ ap (λ (unsent : List ℕ). record { pieces = cut sizes octets; unsent = unsent }) (drop_all (sum sizes) (take (sum sizes) octets) (omega (arith, few)))

-- the piece at a place
pub piece-cut : (sizes octets : List ℕ) (place : ℕ) → place < length sizes
    → unwrap_or (slice_get (cut sizes octets) place) [] ≡ take (get_or sizes place 0) (drop (sum (take place sizes)) octets)
piece-cut [] octets place inside = absurd (omega arith)
piece-cut (size ∷ sizes) octets zero inside = refl
piece-cut (size ∷ sizes) octets (suc place) inside =
    piece-cut sizes (drop size octets) place (omega arith)
    ∙ ap (λ (rest : List ℕ). take (get_or sizes place 0) rest) (sym (drop-cons size (take place sizes) octets))

-- a prefix of two lists taken as one
pub take-two : (n : ℕ) (front back : List ℕ) → take n (front ++ back) ≡ take n front ++ take (n - length front) back
take-two n front back = ⊎_elim {C = take n (front ++ back) ≡ take n front ++ take (n - length front) back}
    (λ (past : length front < n).
    let whole : n ≡ length front + (n - length front) = omega arith in
    ap (λ (k : ℕ). take k (front ++ back)) whole
    ∙ take-append-add front back (n - length front)
    ∙ ap (λ (xs : List ℕ). xs ++ take (n - length front) back) (sym (take_all n front (omega arith))))
    (λ (within : n ≤ length front).
    let none : n - length front ≡ 0 = omega arith in
    take-append-le n front back within
    ∙ sym (append-nil (take n front))
    ∙ ap (λ (k : ℕ). take n front ++ take k back) (sym none))
    (cases_lt (length front) n)

-- what is left of two lists taken as one
pub drop-two : (n : ℕ) (front back : List ℕ) → drop n (front ++ back) ≡ drop n front ++ drop (n - length front) back
drop-two n front back = ⊎_elim {C = drop n (front ++ back) ≡ drop n front ++ drop (n - length front) back}
    (λ (past : length front < n).
    let whole : n ≡ length front + (n - length front) = omega arith in
    ap (λ (k : ℕ). drop k (front ++ back)) whole
    ∙ drop-append-add front back (n - length front)
    ∙ ap (λ (xs : List ℕ). xs ++ drop (n - length front) back) (sym (drop_all n front (omega arith))))
    (λ (within : n ≤ length front).
    let none : n - length front ≡ 0 = omega arith in
    drop-append-le n front back within
    ∙ ap (λ (k : ℕ). drop n front ++ drop k back) (sym none))
    (cases_lt (length front) n)

-- a range of two lists taken as one
pub range-two : (front back : List ℕ) (start size : ℕ)
    → take size (drop start (front ++ back))
    ≡ take size (drop start front) ++ take (size - (length front - start)) (drop (start - length front) back)
range-two front back start size =
    ap (λ (xs : List ℕ). take size xs) (drop-two start front back)
    ∙ take-two size (drop start front) (drop (start - length front) back)
    ∙ ap (λ (n : ℕ). take size (drop start front) ++ take (size - n) (drop (start - length front) back)) (length-drop start front)

-- a range of two lists in two parts, each cut off where its list ends
pub range-parts : (front back : List ℕ) (start end first last first2 last2 : ℕ) → start ≤ end
    → first ≡ min start (length front) → last ≡ min end (length front) → first2 ≡ start - length front → last2 ≡ end - length front
    → take (last - first) (drop first front) ++ take (last2 - first2) (drop first2 back) ≡ take (end - start) (drop start (front ++ back))
range-parts front back start end first last first2 last2 order is_first is_last is_first2 is_last2 =
    let size : last - first ≡ min (end - start) (length (drop start front)) = omega (arith, length-drop start front) in
    let size2 : last2 - first2 ≡ (end - start) - (length front - start) = omega arith in
    ap (λ (n : ℕ). take (last - first) (drop n front) ++ take (last2 - first2) (drop first2 back)) is_first
    ∙ ap (λ (xs : List ℕ). take (last - first) xs ++ take (last2 - first2) (drop first2 back)) (drop_min start front)
    ∙ ap (λ (n : ℕ). take n (drop start front) ++ take (last2 - first2) (drop first2 back)) size
    ∙ ap (λ (xs : List ℕ). xs ++ take (last2 - first2) (drop first2 back)) (take_min (end - start) (drop start front))
    ∙ ap (λ (n : ℕ). take (end - start) (drop start front) ++ take n (drop first2 back)) size2
    ∙ ap (λ (n : ℕ). take (end - start) (drop start front) ++ take ((end - start) - (length front - start)) (drop n back)) is_first2
    ∙ sym (range-two front back start (end - start))

-- the outstanding pieces have few octets
pub few : (sizes : List ℕ) → All (λ size. size ≤ 256) sizes → length sizes ≤ 7 → sum sizes ≤ 1792
few sizes most seven = omega (arith, sum_by-le (λ x. x) 256 sizes most)

pub few-take : (sizes : List ℕ) (n : ℕ) → All (λ size. size ≤ 256) sizes → length sizes ≤ 7 → sum (take n sizes) ≤ 1792
few-take sizes n most seven = omega (arith, few sizes most seven, sum_by-take-le (λ x. x) sizes n)

pub drop-AreSizes : (n : ℕ) (sizes octets : List ℕ) (capacity : ℕ) → AreSizes sizes octets capacity
    → AreSizes (drop n sizes) (drop (sum (take n sizes)) octets) capacity
drop-AreSizes n sizes octets capacity are = record {
  inside = omega (arith, are.inside, sum_by-take-drop (λ x. x) sizes n, length-drop (sum (take n sizes)) octets);
  most = All-drop (λ (size : ℕ). size ≤ 256) n sizes are.most;
  room = are.room;
}
