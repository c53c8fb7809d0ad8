-- A file that is sealed.
use Rattle.std.proofs.Common.{◌≡◌, ℕ, List, [], ◌∷◌, ◌++◌, Option, None, Some, Ok, refl, sym, ◌∙◌, ap, arith}
use Rattle.file_store_model.specs.Stamp.{stamped}
use Rattle.file_store_model.specs.Command.{sealed}
use Rattle.file_store.specs.declared.end.End.TheVariants as end
use Rattle.file_store.proofs.Names.{is_some, option_map, Ghosts, blocks_on, told_weaker, fault_code, after, after_all, last_grow, seal, octets_or_none, Entry, Store, complete, entry_of, octets_at, partial, after_all-append, find-map-changed, EndsFile, IsKeptInEach, IsKeptOn, IsKnown, StoreState, rest_in, store_on, Holds, Upload, come_of, ending, entry_for, held_whole, kept_file, octets_come, sealing, upload_stamp}
use Rattle.file_store.proofs.EndLemmas.{entry-then, under, under-on}
use Rattle.file_store.proofs.OnLemmas.{known_back, told_known}
use Rattle.file_store.proofs.TokenLemmas.{stands-each}

-- the upload's entry in this store, of which all octets came
module _ (store : Store) (self : StoreState) (up : Upload) (moment begun : ℕ) (held : List ℕ) (found : entry_of store up.number ≡ Some (entry_for up begun (partial held))) where
  -- the entry of a file without fault
  pub sealed-entry : (now : Store) → now ≡ after_all store (sealing store self up moment) → fault_code (octets_come store self up) ≡ None
      → entry_of now up.number ≡ Some (entry_for up begun (complete (kept_file store self up moment) moment))
  sealed-entry now made good =
      let rest : List ℕ = octets_or_none (rest_in self up.number) in
      let middle : Store = after_all store (last_grow up.number rest) in
      let entry : Entry = entry_for up begun (partial (held ++ rest)) in
      let end : after_all store (sealing store self up moment) ≡ after middle (seal up.number moment) =
      after_all-append (last_grow up.number rest) (ending up.number moment (fault_code (come_of store self up.number)) ∷ []) store
      ∙ ap (λ (o : Option ℕ). after middle (ending up.number moment o)) good in
      let then_is : entry_of middle up.number ≡ Some entry = entry-then store up.number (entry_for up begun (partial held)) held rest found refl in
      let come : come_of store self up.number ≡ held ++ rest = ap (λ (o : Option Entry). octets_at o ++ rest) found in
      ap (λ (s : Store). entry_of s up.number) (made ∙ end)
      ∙ find-map-changed up.number (sealed moment) middle.entries entry then_is
      ∙ ap (λ (octets : List ℕ). Some (entry_for up begun (complete (stamped (upload_stamp up moment) octets) moment))) (sym come)

-- ---- what the end of the upload's file leaves of it

module _ {D : Type 0} (g : Ghosts D) (self new : StoreState) (disk disk_now : D) (up : Upload) (moment : ℕ) (h : Holds self up) where
  abbrev on : Store
  on = store_on g self disk

  -- it is complete, if it is known what the files hold
  module _ (ends : EndsFile g (Ok end.Sealed) self new disk disk_now up.number moment) where
    ended-good : IsKnown g disk → fault_code (octets_come on self up) ≡ None
    ended-good known = (ends.file).3 known

    ended-made : IsKnown g disk → store_on g new disk_now ≡ after_all on (sealing on self up moment)
    ended-made known =
        (ends.does.done (λ e. cc e)).0 known
        ∙ ap (λ (code : Option ℕ). after_all on (last_grow up.number (octets_or_none (rest_in self up.number)) ++ ending up.number moment code ∷ [])) (ends.tells known)

    ended-entry : IsKnown g disk → entry_of (store_on g new disk_now) up.number ≡ Some (entry_for up h.begun (complete (kept_file on self up moment) moment))
    ended-entry known =
        let entry : Entry = entry_for up h.begun (partial h.held) in
        let one = under self up.number entry h.held h.entry refl in
        sealed-entry on self up moment h.begun _ (under-on self up.number entry one (blocks_on (g.content disk))) (store_on g new disk_now) (ended-made known) (ended-good known)

    pub ended-kept : IsKnown g disk → IsKeptOn g self new disk disk_now up moment
    ended-kept known = ap (option_map (λ (e : Entry). e.holding)) (ended-entry known)

    pub ended-each : IsKeptInEach g up (kept_file on self up moment) moment disk_now
    ended-each =
        told_weaker (g.content disk_now) _ _ (λ now told each image here. (
          store_on g new disk_now,
          h.begun,
          each image here,
          ended-entry (known_back g disk disk_now ends.does.puts.told (told_known g disk_now (ap is_some told))),
        )) (stands-each g new disk_now (ends.does.done (λ e. cc e)).1 ends.leaves.stands_on)

  -- it is under way still, with all octets held
  pub ended-unread : EndsFile g (Ok end.Unread) self new disk disk_now up.number moment → Holds new (held_whole up)
  ended-unread ends =
      let is = ends.file (entry_for up h.begun (partial h.held)) h.entry in
      record { begun = h.begun; held = is.0; entry = is.1; count = is.2; rest = []; out = is.3; few = omega arith; came = omega arith }
