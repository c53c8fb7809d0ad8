-- The end of a file of which all octets came.
use Rattle.std.proofs.Common.{◌≡◌, ◌==◌, ℕ, ◌+◌, ◌<◌, List, [], ◌∷◌, ◌++◌, length, replicate, Option, None, Some, refl, sym, ◌∙◌, ap, subst, arith, length-append}
use Rattle.file_store_model.specs.Command.{is_partial}
use Rattle.file_store.proofs.Names.{IsTrue, is_none, is_some, not, length-replicate, option_map, eq-eqb, nat_tests, IsPlaced, outlined_entry, Placed, Seal, placed_of, is_partial as placed_partial, is_whole, holding_with, octets_in, seen, seen_entry, Passes, entry_seen, found_length, fault_code, AreAllowed, after_all, grown, is_allowed, is_good, last_grow, passes, with_more, octets_or_none, Entry, Holding, Store, entry_of, holding_of, octets_at, partial, AreAllowed-append, both-true, find-map-changed, last_grow-after, last_grow-allowed, Blocks, IsWhole, outlined_all, StoreState, placed_in, rest_in, store_in, IsWholeWaiting, come_of, ending}
use Rattle.file_store.proofs.TokenLemmas.{file-under}

-- ---- the commands, over a store

-- the command that ends a file of which all octets are held is allowed
pub ending-allowed : (store : Store) (number moment : ℕ) (entry : Entry) (held : List ℕ) (code : Option ℕ) → entry_of store number ≡ Some entry → entry.holding ≡ partial held
    → length held ≡ entry.length → fault_code held ≡ code → IsTrue (is_allowed store (ending number moment code))
ending-allowed store number moment entry held None found is all good =
    let here : IsTrue (is_good (partial held) entry.length) = both-true (length held == entry.length) (is_none (fault_code held)) (grind (arith, nat_tests)) (ap is_none good) in
    subst (λ (o : Option Entry). IsTrue (passes (λ e. is_good e.holding e.length) o)) (sym found) (subst (λ (h : Holding). IsTrue (is_good h entry.length)) (sym is) here)
ending-allowed store number moment entry held (Some code) found is all bad =
    subst (λ (o : Option Entry). IsTrue (passes (λ e. is_partial e.holding) o)) (sym found) (subst (λ (h : Holding). IsTrue (is_partial h)) (sym is) refl)

-- An entry under way that lacks no more octets than these: what it is once they are held, and that it may be ended
-- then.
module _ (store : Store) (number : ℕ) (entry : Entry) (held rest : List ℕ) (found : entry_of store number ≡ Some entry) (is : entry.holding ≡ partial held) where
  pub entry-then : entry_of (after_all store (last_grow number rest)) number ≡ Some (record entry { holding = partial (held ++ rest) })
  entry-then =
      ap (λ (s : Store). entry_of s number) (last_grow-after number rest store) ∙ find-map-changed number (grown rest) store.entries entry found
      ∙ ap (λ (h : Holding). Some (record entry { holding = with_more rest h })) is

  pub commands-allowed : (moment : ℕ) (code : Option ℕ) → length rest < 512 → length held + length rest ≡ entry.length → fault_code (held ++ rest) ≡ code
      → AreAllowed store (last_grow number rest ++ ending number moment code ∷ [])
  commands-allowed moment code few all fault =
      AreAllowed-append (last_grow number rest) (ending number moment code ∷ []) store
      (last_grow-allowed number rest store entry held found is few (omega arith)) (
        ending-allowed (after_all store (last_grow number rest)) number moment (record entry { holding = partial (held ++ rest) }) (held ++ rest) code entry-then refl
            (length-append held rest ∙ all) fault,
        tt,
      )

-- ---- a file under way, as memory shows it and as a disk does

-- the file of this number, of which memory shows this, and that it is under way
pub record IsUnder (self : StoreState) (number : ℕ) (entry : Entry) : Type 0 where
  pub file : Placed
  pub found : placed_of (placed_in self) number ≡ Some file
  pub seal : file.seal ≡ None
  pub is : entry ≡ outlined_entry file

pub under : (self : StoreState) (number : ℕ) (entry : Entry) (held : List ℕ) → entry_of (store_in self) number ≡ Some entry → entry.holding ≡ partial held → IsUnder self number entry
under self number entry held found is =
    let one = file-under (placed_in self) number entry held is found in
    record { file = one.file; found = one.found; seal = one.seal; is = sym one.shown }

module _ (self : StoreState) (number : ℕ) (entry : Entry) (one : IsUnder self number entry) where
  abbrev file : Placed
  file = one.file

  -- as many octets are held as memory shows
  pub under-held : (held : List ℕ) → entry.holding ≡ partial held → length held ≡ file.held
  under-held held is =
      let here : partial held ≡ holding_of (replicate file.held 0) (option_map (λ (m : Seal). m.moment) file.seal) = sym is ∙ ap (λ (e : Entry). e.holding) one.is in
      let zeros : partial held ≡ partial (replicate file.held 0) =
      here ∙ ap (λ (s : Option Seal). holding_of (replicate file.held 0) (option_map (λ (m : Seal). m.moment) s)) one.seal in
      let same : held ≡ replicate file.held 0 = cc zeros in
      ap length same ∙ length-replicate {A = ℕ} file.held 0

  pub under-length : entry.length ≡ file.length
  under-length = ap (λ (e : Entry). e.length) one.is

  -- the entry on a disk whose blocks hold this
  pub under-seen : (held : Blocks) → seen_entry held file ≡ record entry { holding = partial (octets_in held file) }
  under-seen held =
      ap (λ (s : Option Seal). record (seen_entry held file) { holding = holding_with s file (octets_in held file) }) one.seal
      ∙ ap (λ (e : Entry). record e { holding = partial (octets_in held file) }) (sym one.is)

  pub under-on : (held : Blocks) → entry_of (seen held (placed_in self)) number ≡ Some (record entry { holding = partial (octets_in held file) })
  under-on held = entry_seen held (placed_in self) number file one.found ∙ ap (λ (e : Entry). Some e) (under-seen held)

-- ---- a file of which all octets came

module _ (self : StoreState) (number : ℕ) (whole : IsWholeWaiting self number) (rules : IsPlaced (placed_in self)) where
  abbrev entry : Entry
  entry = whole.waits.entry

  abbrev rest : List ℕ
  rest = octets_or_none (rest_in self number)

  pub whole-under : IsUnder self number entry
  whole-under = under self number entry whole.waits.held whole.waits.is_entry whole.waits.partial_is

  pub rest-length : length rest ≡ length whole.waits.rest
  rest-length = ap (λ (o : Option (List ℕ)). length (octets_or_none o)) whole.waits.out

  module _ (held : Blocks) where
    -- the octets of it that are held on a disk whose blocks hold this
    abbrev octets : List ℕ
    octets = octets_in held whole-under.file

    pub octets-length : length octets ≡ length whole.waits.held
    octets-length =
        found_length held (placed_in self) number whole-under.file rules whole-under.found
        ∙ sym (under-held self number entry whole-under whole.waits.held whole.waits.partial_is)

    pub come-is : come_of (seen held (placed_in self)) self number ≡ octets ++ rest
    come-is = ap (λ (o : Option Entry). octets_at o ++ rest) (under-on self number entry whole-under held)

    pub sealing-allowed : (moment : ℕ) (code : Option ℕ) → code ≡ fault_code (come_of (seen held (placed_in self)) self number)
        → AreAllowed (seen held (placed_in self)) (last_grow number rest ++ ending number moment code ∷ [])
    sealing-allowed moment code tells =
        commands-allowed (seen held (placed_in self)) number (record entry { holding = partial octets }) octets rest (under-on self number entry whole-under held) refl
        moment code (omega (arith, rest-length, whole.few)) (omega (arith, octets-length, rest-length, whole.all)) (sym (ap fault_code come-is) ∙ sym tells)

-- ---- the same file once all octets are held

-- the octets that wait are held: what memory shows
pub outlined-last : (number : ℕ) (rest : List ℕ) → outlined_all (last_grow number rest) ≡ last_grow number (replicate (length rest) 0)
outlined-last number [] = refl
outlined-last number (x ∷ xs) = refl

module _ (self mid : StoreState) (number : ℕ) (whole : IsWholeWaiting self number)
    (held_is : store_in mid ≡ after_all (store_in self) (outlined_all (last_grow number (octets_or_none (rest_in self number))))) where
  abbrev zeros : List ℕ
  zeros = replicate (length (octets_or_none (rest_in self number))) 0

  mid-entry : entry_of (store_in mid) number ≡ Some (record whole.waits.entry { holding = partial (whole.waits.held ++ zeros) })
  mid-entry =
      ap (λ (s : Store). entry_of s number) (held_is ∙ ap (after_all (store_in self)) (outlined-last number (octets_or_none (rest_in self number))))
      ∙ entry-then (store_in self) number whole.waits.entry whole.waits.held zeros whole.waits.is_entry whole.waits.partial_is

  mid-length : length (whole.waits.held ++ zeros) ≡ whole.waits.entry.length
  mid-length =
      omega (
        arith,
        length-append whole.waits.held zeros,
        length-replicate {A = ℕ} (length (octets_or_none (rest_in self number))) 0,
        ap (λ (o : Option (List ℕ)). length (octets_or_none o)) whole.waits.out,
        whole.all,
      )

  -- it is whole, and under way
  pub mid-under : IsUnder mid number (record whole.waits.entry { holding = partial (whole.waits.held ++ zeros) })
  mid-under = under mid number _ (whole.waits.held ++ zeros) mid-entry refl

  pub mid-whole : Passes (placed_in mid) number is_whole
  mid-whole =
      let f = mid-under.file in
      let same : f.held ≡ f.length = sym (under-held mid number _ mid-under (whole.waits.held ++ zeros) refl) ∙ mid-length ∙ under-length mid number _ mid-under in
      record {
        file = f;
        found = mid-under.found;
        test_is = both-true (placed_partial f) (f.held == f.length) (ap (λ (s : Option Seal). not (is_some s)) mid-under.seal) (eq-eqb _ _ same);
      }

  pub mid-partial : Passes (placed_in mid) number placed_partial
  mid-partial = record { file = mid-under.file; found = mid-under.found; test_is = ap (λ (s : Option Seal). not (is_some s)) mid-under.seal }

  -- what is left of it, as it is
  pub mid-is : rest_in mid number ≡ Some [] → IsWhole self mid number
  mid-is out entry found =
      let same : entry ≡ whole.waits.entry = cc (sym found ∙ whole.waits.is_entry) in (
        whole.waits.held ++ zeros,
        mid-entry ∙ ap (λ (e : Entry). Some (record e { holding = partial (whole.waits.held ++ zeros) })) (sym same),
        mid-length ∙ ap (λ (e : Entry). e.length) (sym same),
        out,
      )

  -- the octets that are held are those that came
  pub mid-come : (rules : IsPlaced (placed_in self)) (held held_mid : Blocks)
      → seen held_mid (placed_in mid) ≡ after_all (seen held (placed_in self)) (last_grow number (octets_or_none (rest_in self number)))
      → octets_in held_mid mid-under.file ≡ come_of (seen held (placed_in self)) self number
  mid-come rules held held_mid made =
      let one = whole-under self number whole rules in
      let rest : List ℕ = octets_or_none (rest_in self number) in
      let here = under-on mid number _ mid-under held_mid in
      let there = ap (λ (s : Store). entry_of s number) made
      ∙ entry-then (seen held (placed_in self)) number (record whole.waits.entry { holding = partial (octets_in held one.file) }) (octets_in held one.file) rest
      (under-on self number whole.waits.entry one held) refl in
      octets-same _ _ whole.waits.entry (sym here ∙ there) ∙ sym (come-is self number whole rules held)
    where
      octets-same : (a b : List ℕ) (e : Entry) → Some (record e { holding = partial a }) ≡ Some (record e { holding = partial b }) → a ≡ b
      octets-same a b e same = ap (λ (o : Option Entry). octets_at o) same
