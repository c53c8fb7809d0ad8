-- The store after some of the commands of an upload's row.
use Rattle.std.proofs.Common.{◌≡◌, ◌≢◌, ◌⊎◌, inl, inr, ℕ, suc, zero, ◌+◌, ◌*◌, ◌/◌, ◌≤◌, ◌<◌, ◌==◌, true, false, List}
use Rattle.std.proofs.Common.{[], ◌∷◌, ◌++◌, length, take, drop, refl, ap, sym, ◌∙◌, subst, arith, length-append}
use Rattle.std.proofs.Common.{Option, None, Some}
use Rattle.file_store.specs.Command.{after_all}
use Rattle.air_world.proofs.files.Names.{find, IsTrue, Decides-eqb, nat_tests, take_all, CallSign, fault_code, AreAllowed-append, grows-allowed, last_grow-allowed, AreAllowed, Command, after, begin, grow, grown, grows, is_good, last_grow, passes, seal, sealed, whole_grows, with_holding, with_more, IsStore, after_first, Entry, Holding, Store, entry_of, new_entry, partial, after_all-append, find-map-changed, find-map-changed_other, find-push, find_past, grows-after, has_number, last_grow-after}

-- ---- the first of the commands

-- the first of these commands hold this many of the octets
take-grows : (number n count : ℕ) (octets : List ℕ)
    → (j : ℕ) × (take count (grows number n octets) ≡ grows number j octets)
take-grows number zero zero octets = (0, refl)
take-grows number zero (suc count) octets = (0, refl)
take-grows number (suc n) zero octets = (0, refl)
take-grows number (suc n) (suc count) octets =
    let later = take-grows number n count (drop 512 octets) in
    (suc later.0, ap (λ (rest : List Command). grow number (take 512 octets) ∷ rest) later.1)

-- this many of these octets are held too
abbrev pub with_front : Store → ℕ → List ℕ → ℕ → Store
with_front store number octets count = with_holding store number (grown (take count octets))

pub grows-first : (store : Store) (number : ℕ) (octets : List ℕ) (count : ℕ)
    → (k : ℕ) × (after_first count store (whole_grows number octets) ≡ with_front store number octets k)
grows-first store number octets count =
    let front = take-grows number (length octets / 512) count octets in
    (512 * front.0, ap (after_all store) front.1 ∙ grows-after number front.0 octets store)

-- none of them is
pub with_none : (store : Store) (number : ℕ) (octets : List ℕ) → store ≡ with_front store number octets (512 * 0)
with_none store number octets = grows-after number 0 octets store

-- all of them are, and the file is sealed
abbrev pub sealed_store : Store → ℕ → List ℕ → ℕ → Store
sealed_store store number rest moment = after (with_holding store number (grown rest)) (seal number moment)

abbrev pub ending_commands : ℕ → List ℕ → ℕ → List Command
ending_commands number rest moment = last_grow number rest ++ seal number moment ∷ []

pub ended-store : (store : Store) (number : ℕ) (rest : List ℕ) (moment : ℕ)
    → after_all store (ending_commands number rest moment) ≡ sealed_store store number rest moment
ended-store store number rest moment =
    after_all-append (last_grow number rest) (seal number moment ∷ []) store
    ∙ ap (λ (s : Store). after s (seal number moment)) (last_grow-after number rest store)

pub ended-first : (store : Store) (number : ℕ) (rest : List ℕ) (moment count : ℕ)
    → ((k : ℕ) × (after_first count store (ending_commands number rest moment) ≡ with_front store number rest k))
    ⊎ (after_first count store (ending_commands number rest moment) ≡ sealed_store store number rest moment)
ended-first store number [] moment zero = inl (512 * 0, with_none store number [])
ended-first store number [] moment (suc zero) = inr (ended-store store number [] moment)
ended-first store number [] moment (suc (suc count)) = inr (ended-store store number [] moment)
ended-first store number (octet ∷ octets) moment zero = inl (512 * 0, with_none store number (octet ∷ octets))
ended-first store number (octet ∷ octets) moment (suc zero) =
    inl (
      length (octet ∷ octets),
      ap (λ (os : List ℕ). with_holding store number (grown os))
          (sym (take_all (length (octet ∷ octets)) (octet ∷ octets) (omega arith))),
    )
ended-first store number (octet ∷ octets) moment (suc (suc zero)) =
    inr (ended-store store number (octet ∷ octets) moment)
ended-first store number (octet ∷ octets) moment (suc (suc (suc count))) =
    inr (ended-store store number (octet ∷ octets) moment)

-- ---- the entries then

-- all entries but that of this number are as they were
abbrev pub StayOthers : ℕ → Store → Store → Type 0
StayOthers number before now = (other : ℕ) → other ≢ number → entry_of now other ≡ entry_of before other

pub front-others : (store : Store) (number : ℕ) (octets : List ℕ) (count : ℕ)
    → StayOthers number store (with_front store number octets count)
front-others store number octets count other differs =
    find-map-changed_other number other (grown (take count octets)) store.entries differs

pub sealed-others : (store : Store) (number : ℕ) (rest : List ℕ) (moment : ℕ)
    → StayOthers number store (sealed_store store number rest moment)
sealed-others store number rest moment other differs =
    find-map-changed_other number other (sealed moment) (with_holding store number (grown rest)).entries differs
    ∙ find-map-changed_other number other (grown rest) store.entries differs

find-other : (number : ℕ) (entries : List Entry) (e : Entry) → e.number ≢ number
    → find (has_number number) (entries ++ e ∷ []) ≡ find (has_number number) entries
find-other number [] e differs = let test : (e.number == number) ≡ false = grind (arith, nat_tests) in rw test refl
find-other number (x ∷ xs) e differs = grind (arith, nat_tests, find-other number xs e differs)

pub begun-others : (store : Store) (number : ℕ) (caller : CallSign) (file_length moment : ℕ)
    → StayOthers number store (after store (begin number caller file_length moment))
begun-others store number caller file_length moment other differs =
    find-other other store.entries (new_entry number caller file_length moment) (λ same. differs (sym same))

pub begun-first : (store : Store) (number : ℕ) (caller : CallSign) (file_length moment count : ℕ)
    → StayOthers number store (after_first count store (begin number caller file_length moment ∷ []))
begun-first store number caller file_length moment zero other differs = refl
begun-first store number caller file_length moment (suc zero) other differs =
    begun-others store number caller file_length moment other differs
begun-first store number caller file_length moment (suc (suc count)) other differs =
    begun-others store number caller file_length moment other differs

-- the entry of the next number is the one that was begun
pub begun-there : (store : Store) (caller : CallSign) (file_length moment : ℕ) → IsStore store
    → entry_of (after store (begin store.next caller file_length moment)) store.next ≡ Some
    (new_entry store.next caller file_length moment)
begun-there store caller file_length moment is =
    find-push (has_number store.next) store.entries (new_entry store.next caller file_length moment)
    (find_past store.next 1 store.next store.entries is.entries (omega arith))
    ((Decides-eqb store.next store.next).1 refl)

module _ (store : Store) (number : ℕ) (entry : Entry) (held : List ℕ) (found : entry_of store number ≡ Some entry)
    (holds : entry.holding ≡ partial held) where
  pub front-entry : (octets : List ℕ) (count : ℕ)
      → entry_of (with_front store number octets count) number ≡ Some
      (record entry { holding = partial (held ++ take count octets) })
  front-entry octets count =
      find-map-changed number (grown (take count octets)) store.entries entry found
      ∙ ap (λ (h : Holding). Some (record entry { holding = h })) (ap (with_more (take count octets)) holds)

  -- what is held with the rest
  grown-entry : (rest : List ℕ)
      → entry_of (with_holding store number (grown rest)) number ≡ Some
      (record entry { holding = partial (held ++ rest) })
  grown-entry rest =
      find-map-changed number (grown rest) store.entries entry found
      ∙ ap (λ (h : Holding). Some (record entry { holding = h })) (ap (with_more rest) holds)

  -- DATA's commands are allowed
  pub grows-allowed-here : (octets : List ℕ) → length held + length octets ≤ entry.length
      → AreAllowed store (whole_grows number octets)
  grows-allowed-here octets room =
      let few : 512 * (length octets / 512) ≤ length octets = omega arith in
      grows-allowed number (length octets / 512) octets store entry held found holds (omega (arith, few, room)) few

  -- and so are DATA_END's
  pub ending-allowed : (rest : List ℕ) (moment : ℕ) → length rest < 512 → length held + length rest ≡ entry.length
      → fault_code (held ++ rest) ≡ None
      → AreAllowed store (ending_commands number rest moment)
  ending-allowed rest moment few all good =
      let now : Store = after_all store (last_grow number rest) in
      let there : entry_of now number ≡ Some (record entry { holding = partial (held ++ rest) }) =
      ap (λ (s : Store). entry_of s number) (last_grow-after number rest store) ∙ grown-entry rest in
      let long : (length (held ++ rest) == entry.length) ≡ true = (Decides-eqb _ _).1 (length-append held rest ∙ all) in
      let whole : IsTrue (is_good (partial (held ++ rest)) entry.length) = rw (long, good) refl in
      let test : IsTrue (passes (λ e. is_good e.holding e.length) (entry_of now number)) =
      subst (λ (o : Option Entry). IsTrue (passes (λ e. is_good e.holding e.length) o)) (sym there) whole in
      AreAllowed-append (last_grow number rest) (seal number moment ∷ []) store
      (last_grow-allowed number rest store entry held found holds few (omega (arith, all))) (test, tt)
