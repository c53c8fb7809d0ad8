-- A store on its disk, and the same as far as memory shows.
use Rattle.std.proofs.Common.{◌≡◌, List, [], ◌∷◌, ℕ, Option, None, Some, inl, inr, refl, sym, ◌∙◌, ap, subst}
use Rattle.file_store_model.specs.Like.{AreLike, IsAsFar, IsStoreLike}
use Rattle.file_journal.specs.Position.{Position}
use Rattle.file_store.proofs.Names.{IsTold, Ghosts, KeepsSeals, outlined, PlacedStore, store_of, placed_steps, seen, kept_seals, seen_like, seen_store, TellsAlike, StandsAt, blocks_on, knew, knows_on, IsStore, Entry, Holding, Store, complete, partial, IsKnown, IsReady, StandsOn, StoreState, placed_in, store_form, store_in, store_on}
use Rattle.file_store.proofs.ZerosLemmas.{seen_zeros}

-- a store is like itself
far-same : (holding : Holding) → IsAsFar holding holding
far-same (partial held) = refl
far-same (complete octets moment) = (refl, refl)

are-same : (entries : List Entry) → AreLike entries entries
are-same [] = tt
are-same (e ∷ es) = (record { number = refl; caller = refl; length = refl; begun = refl; holding = far-same e.holding }, are-same es)

like-same : (store : Store) → IsStoreLike store store
like-same store = record { entries = are-same store.entries; next = refl; blocks = refl }

module _ {D : Type 0} (g : Ghosts D) where
  -- what is known of the octets is observed of the disk
  pub known_told : (disk : D) → IsKnown g disk → IsTold (g.content disk)
  known_told disk (inl growing) = absurd (cc growing)
  known_told disk (inr told) = told

  pub told_known : (disk : D) → IsTold (g.content disk) → IsKnown g disk
  told_known disk told = inr told

  -- the blocks hold what the seals say
  pub on-seals : (self : StoreState) (disk : D) → IsReady g self disk → IsKnown g disk → KeepsSeals (blocks_on (g.content disk)) (placed_in self)
  on-seals self disk ready known = kept_seals g self.journal (placed_in self) disk ready.stands_on ready.healthy (known_told disk known)

  -- what is known of the octets stays known, and was known before
  pub known_on : (disk disk_now : D) → TellsAlike (g.content disk) (g.content disk_now) → IsKnown g disk → IsKnown g disk_now
  known_on disk disk_now alike = knows_on store_form (g.content disk) (g.content disk_now) alike

  pub known_back : (disk disk_now : D) → TellsAlike (g.content disk) (g.content disk_now) → IsKnown g disk_now → IsKnown g disk
  known_back disk disk_now alike = knew store_form (g.content disk) (g.content disk_now) alike

  -- a disk of the same content
  pub on_same : (self : StoreState) (disk disk_now : D) → g.content disk_now ≡ g.content disk → store_on g self disk_now ≡ store_on g self disk
  on_same self disk disk_now same = ap (λ (o : Option (List ℕ)). seen (blocks_on o) (placed_in self)) same

  -- entries that are the same
  pub on_parked : (old new : StoreState) (disk : D) → store_of new.files ≡ store_of old.files → store_on g new disk ≡ store_on g old disk
  on_parked old new disk same = ap (seen (blocks_on (g.content disk))) same

  -- which are still on the disk
  pub stands_parked : (old new : StoreState) (disk : D) → store_of new.files ≡ store_of old.files → new.journal ≡ old.journal → StandsOn g old disk → StandsOn g new disk
  stands_parked old new disk same journal stands =
      subst (λ (p : Position). StandsAt g store_form placed_steps p (placed_in new) disk) (sym journal)
      (subst (λ (s : PlacedStore). StandsAt g store_form placed_steps old.journal s disk) (sym same) stands)

  -- what memory shows, except for the octets
  pub on_like : (self : StoreState) (disk : D) → IsReady g self disk → IsKnown g disk → IsStoreLike (store_in self) (store_on g self disk)
  on_like self disk ready known = seen_like (blocks_on (g.content disk)) (placed_in self) ready.stands_on.holds.reached (on-seals self disk ready known)

  -- which keeps the rules too
  pub on_rules : (self : StoreState) (disk : D) → IsReady g self disk → IsKnown g disk → IsStore (store_in self) → IsStore (store_on g self disk)
  on_rules self disk ready known rules =
      seen_store (blocks_on (g.content disk)) (placed_in self) ready.stands_on.holds.reached (on-seals self disk ready known) rules.some rules.most

pub in_parked : (old new : StoreState) → store_of new.files ≡ store_of old.files → store_in new ≡ store_in old
in_parked old new same = ap outlined same

-- ---- whether it is known what the files hold or not

module _ {D : Type 0} (g : Ghosts D) (self : StoreState) (disk : D) (ready : IsReady g self disk) where
  -- on a disk of which nothing is observed it is what memory shows
  at_none : g.content disk ≡ None → store_on g self disk ≡ store_in self
  at_none is = ap (λ (o : Option (List ℕ)). seen (blocks_on o) (placed_in self)) is ∙ seen_zeros (placed_in self) ready.stands_on.holds.reached

  pub on_untold : ¬ IsKnown g disk → store_on g self disk ≡ store_in self
  on_untold unknown = by (g.content disk) refl
    where
      by : (o : Option (List ℕ)) → g.content disk ≡ o → store_on g self disk ≡ store_in self
      by None is = at_none is
      by (Some octets) is = absurd (unknown (inr (subst IsTold (sym is) refl)))

  pub on_like_always : IsStoreLike (store_in self) (store_on g self disk)
  on_like_always = by (g.content disk) refl
    where
      by : (o : Option (List ℕ)) → g.content disk ≡ o → IsStoreLike (store_in self) (store_on g self disk)
      by None is = subst (λ (s : Store). IsStoreLike (store_in self) s) (sym (at_none is)) (like-same (store_in self))
      by (Some octets) is = on_like g self disk ready (inr (subst IsTold (sym is) refl))

  pub on_rules_always : IsStore (store_in self) → IsStore (store_on g self disk)
  on_rules_always rules = by (g.content disk) refl
    where
      by : (o : Option (List ℕ)) → g.content disk ≡ o → IsStore (store_on g self disk)
      by None is = subst (λ (s : Store). IsStore s) (sym (at_none is)) rules
      by (Some octets) is = on_rules g self disk ready (inr (subst IsTold (sym is) refl)) rules
