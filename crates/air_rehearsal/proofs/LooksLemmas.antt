-- Reads of a store, one after another.
use Rattle.std.proofs.Common.{◌≡◌, refl, ap, ◌∙◌, arith}
use Rattle.file_store.specs.Reads.{OnlyReads}
use Rattle.air_rehearsal.proofs.Names.{common_steps, Ghosts, ChangesReads, IsKnown, IsReady, StoreState, store_on, known_on, on_same, alike_same, changes_none, IsAtEnd, LooksOnly, Seat, Party, Stations}

module _ {D : Type 0} (g : Ghosts D) where
  -- no read
  pub looks-none : (store : StoreState) (disk : D) → g.lasts disk disk → IsReady g store disk
      → LooksOnly g store store disk disk
  looks-none store disk lasts ready =
      record { only = changes_none g disk; lasts = lasts; stays = record { same = refl; ready = ready } }

  -- one read, whatever its answer
  pub looks-read : (failed : Type 0) (old new : StoreState) (disk disk_now : D)
      → OnlyReads g failed old new disk disk_now → LooksOnly g old new disk disk_now
  looks-read failed old new disk disk_now reads =
      record { only = reads.reads.only; lasts = reads.reads.lasts; stays = reads.stays }

  changes-on : (old mid new : D) → ChangesReads g old mid → ChangesReads g mid new → ChangesReads g old new
  changes-on old mid new first second = grind (arith, common_steps)

  -- some reads, and then others
  pub looks-on : ((first second third : D) → g.lasts first second → g.lasts second third → g.lasts first third)
      → (old mid new : StoreState) (disk disk_mid disk_now : D) → LooksOnly g old mid disk disk_mid
      → LooksOnly g mid new disk_mid disk_now → LooksOnly g old new disk disk_now
  looks-on on old mid new disk disk_mid disk_now first second = record {
    only = changes-on disk disk_mid disk_now first.only second.only;
    lasts = on disk disk_mid disk_now first.lasts second.lasts;
    stays = record { same = second.stays.same ∙ first.stays.same; ready = second.stays.ready };
  }

  -- The store on the disk is as it was, and what its files hold is known still.
  pub looks-store : (old new : StoreState) (disk disk_now : D) → LooksOnly g old new disk disk_now
      → store_on g new disk_now ≡ store_on g old disk
  looks-store old new disk disk_now looks =
      ap (λ (s : StoreState). store_on g s disk_now) looks.stays.same
      ∙ on_same g old disk disk_now looks.only.same_content

  pub looks-known : (old new : StoreState) (disk disk_now : D) → LooksOnly g old new disk disk_now → IsKnown g disk
      → IsKnown g disk_now
  looks-known old new disk disk_now looks =
      known_on g disk disk_now (alike_same (g.content disk) (g.content disk_now) looks.only.same_content)

  -- So it is the store of the same world.
  pub looks-at-end : (old new : StoreState) (disk disk_now : D) (self : Stations) (party : Party) (seat : Seat)
      → LooksOnly g old new disk disk_now → IsAtEnd g self party old disk seat → IsAtEnd g self party new disk_now seat
  looks-at-end old new disk disk_now self party seat looks at = record {
    sound = at.sound;
    stations = at.stations;
    is_party = at.is_party;
    plays = at.plays;
    known = looks-known old new disk disk_now looks at.known;
    store_is = looks-store old new disk disk_now looks ∙ at.store_is;
  }
