-- Reads of a disk, one after another.
use Rattle.std.proofs.Common.{◌≡◌, ℕ, List, Option, Result, Ok, Err, OnErr, refl, ap, sym, ◌∙◌, subst}
use Rattle.ftl0_session.proofs.Names.{Ghosts, OnlyReads, TellsAlike, IsKnown, IsReady, StoreState, store_on, known_on, on_same, reads_none, reads_on, reads_same}

module _ {D : Type 0} (g : Ghosts D) where
  -- none yet
  pub none-yet : (store : StoreState) (disk : D) → IsReady g store disk → g.lasts disk disk → OnlyReads g ⊥ store store disk disk
  none-yet store disk ready same = record { reads = reads_none g disk ⊥ (λ never. never) same; stays = record { same = refl; ready = ready } }

  -- one more, which didn't fail
  pub one-more : ((first second third : D) → g.lasts first second → g.lasts second third → g.lasts first third) → (P : Type 0) → ¬ P → (old mid new : StoreState) (disk disk_mid disk_now : D)
      → OnlyReads g ⊥ old mid disk disk_mid → OnlyReads g P mid new disk_mid disk_now → OnlyReads g ⊥ old new disk disk_now
  one-more on P fine old mid new disk disk_mid disk_now first second = record {
    reads = reads_on g on disk disk_mid disk_now ⊥ ⊥ (λ never. never) first.reads (reads_same g disk_mid disk_now P ⊥ (λ is. fine is) (λ never. absurd never) second.reads);
    stays = record { same = second.stays.same ∙ first.stays.same; ready = second.stays.ready };
  }

-- what reads leave
module _ {D : Type 0} (g : Ghosts D) (P : Type 0) (old now : StoreState) (disk disk_now : D) (reads : OnlyReads g P old now disk disk_now) where
  -- what is known of the octets stays known
  pub known-then : IsKnown g disk → IsKnown g disk_now
  known-then = known_on g disk disk_now (subst (λ (c : Option (List ℕ)). TellsAlike (g.content disk) c) (sym reads.reads.only.same_content) ((λ told. told), (λ told. told)))

  -- and the octets of the store's files stay
  pub files-then : store_on g now disk_now ≡ store_on g old disk
  files-then = on_same g now disk disk_now reads.reads.only.same_content ∙ ap (λ (s : StoreState). store_on g s disk) reads.stays.same

-- what holds anyway holds at an error
pub at_error : {T E P : Type 0} (result : Result T E) → P → OnErr result P
at_error (Ok x) p = tt
at_error (Err e) p = p
