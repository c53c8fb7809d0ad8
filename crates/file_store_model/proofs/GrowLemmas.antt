-- Octets that become held, one block after another.
use Rattle.std.proofs.Common.{◌≡◌, ℕ, suc, zero, ◌⊎◌, inl, inr, ◌+◌, ◌≤◌, ◌<◌, ◌==◌, Bool, true, false, ◌&&◌, ◌||◌, List, [], ◌∷◌, ◌++◌, length, map, take, drop, refl, ap, sym, ◌∙◌, subst, arith, Option, Some, ◌*◌, nat_le, length-append, length-drop, append_assoc}
use Rattle.std.proofs.lemmas.Bool.{eq-eqb, le-leb}
use Rattle.std.proofs.Math.Seq.{take-add}
use Rattle.file_store_model.proofs.Names.{IsTrue, nat_tests, length-take-le, append-nil, after_all_append, allowed_append, allowed_first, allowed_split, Command, IsAllowed, grow, can_take, passes, is_allowed, grown, changed, with_holding, with_more, after, after_all, AreAllowed, grows, last_grow, Entry, Holding, partial, complete, Store, entry_of}
use Rattle.file_store_model.proofs.EntriesLemmas.{find-map-changed}

-- ---- two changes are one

pub more-none : (h : Holding) → with_more [] h ≡ h
more-none (partial held) = ap partial (append-nil held)
more-none (complete octets moment) = refl

pub more-twice : (a b : List ℕ) (h : Holding) → with_more b (with_more a h) ≡ with_more (a ++ b) h
more-twice a b (partial held) = ap partial (append_assoc held a b)
more-twice a b (complete octets moment) = refl

pub changed-none : (number : ℕ) (e : Entry) → changed number (grown []) e ≡ e
changed-none number e = grind (arith, nat_tests, more-none)

pub changed-twice : (number : ℕ) (a b : List ℕ) (e : Entry) → changed number (grown b) (changed number (grown a) e) ≡ changed number (grown (a ++ b)) e
changed-twice number a b e = grind (arith, nat_tests, more-twice)

pub map-changed-none : (number : ℕ) (entries : List Entry) → map (changed number (grown [])) entries ≡ entries
map-changed-none number [] = refl
map-changed-none number (x ∷ xs) =
    ap (λ (y : Entry). y ∷ map (changed number (grown [])) xs) (changed-none number x) ∙ ap (λ (ys : List Entry). x ∷ ys) (map-changed-none number xs)

pub map-changed-twice : (number : ℕ) (a b : List ℕ) (entries : List Entry)
    → map (changed number (grown b)) (map (changed number (grown a)) entries) ≡ map (changed number (grown (a ++ b))) entries
map-changed-twice number a b [] = refl
map-changed-twice number a b (x ∷ xs) =
    ap (λ (y : Entry). y ∷ map (changed number (grown b)) (map (changed number (grown a)) xs)) (changed-twice number a b x)
    ∙ ap (λ (ys : List Entry). changed number (grown (a ++ b)) x ∷ ys) (map-changed-twice number a b xs)

pub with_holding-none : (store : Store) (number : ℕ) → with_holding store number (grown []) ≡ store
with_holding-none store number = ap (λ (es : List Entry). record store { entries = es }) (map-changed-none number store.entries)

pub with_holding-twice : (store : Store) (number : ℕ) (a b : List ℕ)
    → with_holding (with_holding store number (grown a)) number (grown b) ≡ with_holding store number (grown (a ++ b))
with_holding-twice store number a b = ap (λ (es : List Entry). record store { entries = es }) (map-changed-twice number a b store.entries)

-- ---- the store after grows

pub grows-after : (number n : ℕ) (octets : List ℕ) (store : Store) → after_all store (grows number n octets) ≡ with_holding store number (grown (take (512 * n) octets))
grows-after number zero octets store = sym (with_holding-none store number)
grows-after number (suc n) octets store =
    let step : 512 + 512 * n ≡ 512 * suc n = omega arith in
    grows-after number n (drop 512 octets) (with_holding store number (grown (take 512 octets)))
    ∙ (with_holding-twice store number (take 512 octets) (take (512 * n) (drop 512 octets))
    ∙ ap (λ (os : List ℕ). with_holding store number (grown os)) (sym (take-add 512 (512 * n) octets) ∙ ap (λ (k : ℕ). take k octets) step))

pub last_grow-after : (number : ℕ) (rest : List ℕ) (store : Store) → after_all store (last_grow number rest) ≡ with_holding store number (grown rest)
last_grow-after number [] store = sym (with_holding-none store number)
last_grow-after number (octet ∷ octets) store = refl

pub after_all-append : (a b : List Command) (store : Store) → after_all store (a ++ b) ≡ after_all (after_all store a) b
after_all-append = after_all_append after

-- ---- the condition of each holds

pub AreAllowed-append : (a b : List Command) (store : Store) → AreAllowed store a → AreAllowed (after_all store a) b → AreAllowed store (a ++ b)
AreAllowed-append = allowed_append after IsAllowed

pub AreAllowed-split : (a b : List Command) (store : Store) → AreAllowed store (a ++ b)
    → AreAllowed store a × AreAllowed (after_all store a) b
AreAllowed-split = allowed_split after IsAllowed

pub AreAllowed-first : (count : ℕ) (commands : List Command) (store : Store) → AreAllowed store commands
    → AreAllowed store (take count commands)
AreAllowed-first = allowed_first after IsAllowed

pub both-true : (a b : Bool) → IsTrue a → IsTrue b → IsTrue (a && b)
both-true a b p q = rw (p, q) refl

-- this number of further octets fits, and fills a block or is all that is lacking
pub partial-takes : (held : List ℕ) (l n : ℕ) → length held + n ≤ l → (n ≡ 512) ⊎ (length held + n ≡ l) → IsTrue (can_take (partial held) l n)
partial-takes held l n le fills = both-true (nat_le (length held + n) l) ((n == 512) || (length held + n == l)) (le-leb _ _ le) (either fills)
  where
    or_true : (a : Bool) → (a || true) ≡ true
    or_true true = refl
    or_true false = refl

    either : (n ≡ 512) ⊎ (length held + n ≡ l) → IsTrue ((n == 512) || (length held + n == l))
    either (inl block) = rw (eq-eqb n 512 block) refl
    either (inr all) = rw (eq-eqb (length held + n) l all) (or_true (n == 512))

pub entry-takes : (store : Store) (number : ℕ) (e : Entry) (held : List ℕ) (n : ℕ) → entry_of store number ≡ Some e → e.holding ≡ partial held → length held + n ≤ e.length
    → (n ≡ 512) ⊎ (length held + n ≡ e.length) → IsTrue (passes (λ e. can_take e.holding e.length n) (entry_of store number))
entry-takes store number e held n found is le fills =
    subst (λ (o : Option Entry). IsTrue (passes (λ e. can_take e.holding e.length n) o)) (sym found)
    (subst (λ (h : Holding). IsTrue (can_take h e.length n)) (sym is) (partial-takes held e.length n le fills))

pub grow-is_allowed : (store : Store) (number : ℕ) (octets : List ℕ) (e : Entry) (held : List ℕ) → entry_of store number ≡ Some e → e.holding ≡ partial held
    → 1 ≤ length octets → length octets ≤ 512 → length held + length octets ≤ e.length → (length octets ≡ 512) ⊎ (length held + length octets ≡ e.length)
    → IsTrue (is_allowed store (grow number octets))
grow-is_allowed store number octets e held found is some most le fills =
    let first : IsTrue (nat_le 1 (length octets)) = grind (arith, nat_tests) in
    let second : IsTrue (nat_le (length octets) 512) = grind (arith, nat_tests) in
    both-true (nat_le 1 (length octets) && nat_le (length octets) 512) _ (both-true (nat_le 1 (length octets)) (nat_le (length octets) 512) first second)
    (entry-takes store number e held (length octets) found is le fills)

pub grows-allowed : (number n : ℕ) (octets : List ℕ) (store : Store) (e : Entry) (held : List ℕ) → entry_of store number ≡ Some e → e.holding ≡ partial held
    → length held + 512 * n ≤ e.length → 512 * n ≤ length octets → AreAllowed store (grows number n octets)
grows-allowed number zero octets store e held found is fits some = tt
grows-allowed number (suc n) octets store e held found is fits some =
    let step : 512 + 512 * n ≡ 512 * suc n = omega arith in
    let block : length (take 512 octets) ≡ 512 = length-take-le 512 octets (omega arith) in (
      grow-is_allowed store number (take 512 octets) e held found is (omega arith) (omega arith) (omega arith) (inl block),
      grows-allowed number n (drop 512 octets) (with_holding store number (grown (take 512 octets))) (record e { holding = grown (take 512 octets) e }) (held ++ take 512 octets)
          (find-map-changed number (grown (take 512 octets)) store.entries e found) (ap (with_more (take 512 octets)) is) (simp length-append (omega arith)) (simp length-drop (omega arith)),
    )

pub last_grow-allowed : (number : ℕ) (rest : List ℕ) (store : Store) (e : Entry) (held : List ℕ) → entry_of store number ≡ Some e → e.holding ≡ partial held
    → length rest < 512 → length held + length rest ≡ e.length → AreAllowed store (last_grow number rest)
last_grow-allowed number [] store e held found is few all = tt
last_grow-allowed number (octet ∷ octets) store e held found is few all =
    (grow-is_allowed store number (octet ∷ octets) e held found is (omega arith) (omega arith) (omega (arith, all)) (inr all), tt)
