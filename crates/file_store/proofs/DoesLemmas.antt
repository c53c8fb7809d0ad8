-- What a store's commands do to its disk: what file_journal proves of a state that is kept, at the store's form.
use Rattle.std.proofs.Common.{◌≡◌, ℕ, ◌+◌, ◌≤◌, Bool, true, false, List, [], ◌++◌, length, Option, refl, sym, ap, subst}
use Rattle.std.proofs.Math.Nat.{add-zero}
use Rattle.file_journal.specs.AmongReads as among
use Rattle.file_journal.specs.Kept as kept
use Rattle.file_store.specs.Working.{one_if}
use Rattle.file_store.proofs.Names.{AtDisk, Ghosts, Reads, IsKept, KeptOn, kept_on, blocks_on, among_does, among_same, among_then, does_longer, does_none, does_same, does_then, first_all, first_then, held_kept, makes_first, makes_within, puts_among_then, reads_only, same_on, AreAllowed, Command, after_all, store_of, placed_seen, placed_steps, seen, Store, Does, MakesBetween, after_first, kept_at, IsKnown, IsReady, StandsOn, StoreState, placed_in, store_form, store_on, CutsOffAmongReads, DoesAmongReads, PutsAmongReads}

-- ---- the first of some commands

pub after_first-then : (count : ℕ) (a b : List Command) (store : Store) → after_first (length a + count) store (a ++ b) ≡ after_first count (after_all store a) b
after_first-then count a b store = first_then store_form count a b store

pub after_first-all : (commands : List Command) (store : Store) → after_first (length commands) store commands ≡ after_all store commands
after_first-all commands store = first_all store_form commands store

pub makes-first : (low high : ℕ) (store : Store) (a b : List Command) (image : List ℕ) → high ≤ length a → MakesBetween low high store a image → MakesBetween low high store (a ++ b) image
makes-first = makes_first store_form

pub makes-within : (low high least most : ℕ) (store : Store) (commands : List Command) (image : List ℕ) → least ≤ low → high ≤ most → MakesBetween low high store commands image
    → MakesBetween least most store commands image
makes-within = makes_within store_form

module _ {D : Type 0} (g : Ghosts D) where
  -- what a store stands for on its disk, if it is on it
  pub kept-on : (self : StoreState) (disk : D) → StandsOn g self disk → IsKept g store_form (kept_at g self disk)
  kept-on self disk stands = held_kept g placed_steps seen store_form placed_seen self.journal (placed_in self) disk stands

  -- a store that is the same, with the same journal
  at-same : (self other : StoreState) (disk : D) → store_of other.files ≡ store_of self.files → other.journal ≡ self.journal → kept_at g self disk ≡ kept_at g other disk
  at-same self other disk store journal = same_on (store_on g self disk) (store_on g other disk) self.journal other.journal disk (ap (seen (blocks_on (g.content disk))) (sym store)) (sym journal)

  -- ---- commands alone

  pub Does-none : (P : Type 0) (self : StoreState) (disk : D) → ¬ P → IsReady g self disk → g.lasts disk disk → Does g P self self disk disk []
  Does-none P self disk fine ready = does_none g store_form P (store_on g self disk) self.journal disk fine (kept-on self disk ready.stands_on) ready.healthy

  pub Does-same : (P Q : Type 0) (old new : StoreState) (disk disk_now : D) (commands : List Command) → (P → Q) → (Q → P) → Does g P old new disk disk_now commands → Does g Q old new disk disk_now commands
  Does-same P Q old new disk disk_now commands = does_same g store_form P Q commands (kept_at g old disk) (kept_at g new disk_now)

  pub Does-moved : (P : Type 0) (old new before after : StoreState) (disk disk_now : D) (commands : List Command) → store_of before.files ≡ store_of old.files → before.journal ≡ old.journal
      → store_of after.files ≡ store_of new.files → after.journal ≡ new.journal → Does g P old new disk disk_now commands → Does g P before after disk disk_now commands
  Does-moved P old new before after disk disk_now commands first from last journal does =
      subst (λ (k : KeptOn D Store). kept.Does g store_form P commands k (kept_at g after disk_now)) (at-same old before disk first from)
      (subst (λ (k : KeptOn D Store). kept.Does g store_form P commands (kept_at g old disk) k) (at-same new after disk_now last journal) does)

  pub Does-longer : (P : Type 0) (old new : StoreState) (disk disk_now : D) (a b : List Command) → P → (IsKnown g disk → AreAllowed (store_on g old disk) (a ++ b)) → Does g P old new disk disk_now a
      → Does g P old new disk disk_now (a ++ b)
  Does-longer P old new disk disk_now a b failed allowed = does_longer g store_form P a b (kept_at g old disk) (kept_at g new disk_now) failed allowed

  -- ---- among reads

  pub reads-only : (failed : Bool) (self : StoreState) (old new : D) → g.lasts old old → Reads g (failed ≡ true) old new → IsReady g self old
      → DoesAmongReads g ⊥ (one_if failed) self self old new []
  reads-only failed self old new same reads ready =
      subst (λ (k : KeptOn D Store). among.DoesAmongReads g store_form ⊥ (one_if failed) [] (kept_at g self old) k)
      (ap (λ (o : Option (List ℕ)). kept_on (seen (blocks_on o) (placed_in self)) self.journal new) (sym reads.only.same_content))
      (reads_only g store_form failed (store_on g self old) self.journal old new same reads ready.healthy (kept-on self old ready.stands_on))

  pub does-among : (P : Type 0) (old new : StoreState) (disk disk_now : D) (commands : List Command) → Does g P old new disk disk_now commands → DoesAmongReads g P 0 old new disk disk_now commands
  does-among P old new disk disk_now commands = among_does g store_form P commands (kept_at g old disk) (kept_at g new disk_now)

  pub among-same : (P Q : Type 0) (missed other : ℕ) (old new : StoreState) (disk disk_now : D) (commands : List Command) → (P → Q) → (Q → P) → missed ≡ other
      → DoesAmongReads g P missed old new disk disk_now commands → DoesAmongReads g Q other old new disk disk_now commands
  among-same P Q missed other old new disk disk_now commands = among_same g store_form P Q missed other commands (kept_at g old disk) (kept_at g new disk_now)

  -- the same commands, said otherwise
  pub among-at : (P : Type 0) (missed : ℕ) (old new : StoreState) (disk disk_now : D) (these those : List Command) → these ≡ those
      → DoesAmongReads g P missed old new disk disk_now these → DoesAmongReads g P missed old new disk disk_now those
  among-at P missed old new disk disk_now these those same does = subst (λ (cs : List Command). DoesAmongReads g P missed old new disk disk_now cs) same does

  -- the store at the end is another that is the same, with the same journal
  pub among-parked : (P : Type 0) (missed : ℕ) (old new after : StoreState) (disk disk_now : D) (commands : List Command) → store_of after.files ≡ store_of new.files → after.journal ≡ new.journal
      → DoesAmongReads g P missed old new disk disk_now commands → DoesAmongReads g P missed old after disk disk_now commands
  among-parked P missed old new after disk disk_now commands last journal does =
      subst (λ (n : KeptOn D Store). among.DoesAmongReads g store_form P missed commands (kept_at g old disk) n) (at-same new after disk_now last journal) does

  pub among-healthy : (missed : ℕ) (old new : StoreState) (disk disk_now : D) (commands : List Command) → DoesAmongReads g ⊥ missed old new disk disk_now commands → new.journal.failed ≡ false
  among-healthy missed old new disk disk_now commands does = (does.done (λ never. never)).1

  pub among-store : (missed : ℕ) (old new : StoreState) (disk disk_now : D) (commands : List Command) → IsKnown g disk → DoesAmongReads g ⊥ missed old new disk disk_now commands
      → store_on g new disk_now ≡ after_all (store_on g old disk) commands
  among-store missed old new disk disk_now commands known does = (does.done (λ never. never)).0 known

  -- ---- one part, and then another

  module _ (on : (first second third : D) → g.lasts first second → g.lasts second third → g.lasts first third) where
    pub Does-then : (P Q : Type 0) (old mid new : StoreState) (disk disk_mid disk_now : D) (a b : List Command) → ¬ P → Does g P old mid disk disk_mid a → Does g Q mid new disk_mid disk_now b
        → Does g Q old new disk disk_now (a ++ b)
    Does-then P Q old mid new disk disk_mid disk_now a b = does_then g store_form on P Q a b (kept_at g old disk) (kept_at g mid disk_mid) (kept_at g new disk_now)

    pub among-then : (P Q : Type 0) (missed other : ℕ) (old mid new : StoreState) (disk disk_mid disk_now : D) (a b : List Command) → ¬ P
        → DoesAmongReads g P missed old mid disk disk_mid a → DoesAmongReads g Q other mid new disk_mid disk_now b
        → DoesAmongReads g Q (missed + other) old new disk disk_now (a ++ b)
    among-then P Q missed other old mid new disk disk_mid disk_now a b = among_then g store_form on P Q missed other a b (kept_at g old disk) (kept_at g mid disk_mid) (kept_at g new disk_now)

    pub cuts-among-then : (F : Type 0) (missed other : ℕ) (a b c : AtDisk StoreState D) (xs done cut : List Command) → DoesAmongReads g ⊥ missed a.it b.it a.disk b.disk xs
        → CutsOffAmongReads g F other b c done cut → CutsOffAmongReads g F (missed + other) a c (xs ++ done) cut
    cuts-among-then F missed other a b c xs done cut first cuts = record {
      then_is = cuts.then_is;
      first = among-then ⊥ ⊥ missed other a.it b.it cuts.then_is.it a.disk b.disk cuts.then_is.disk xs done (λ never. never) first cuts.first;
      second = cuts.second;
    }

    pub cuts-among-puts : (F : Type 0) (missed : ℕ) (old now : AtDisk StoreState D) (done cut : List Command) → CutsOffAmongReads g F missed old now done cut → PutsAmongReads g F old.disk now.disk
    cuts-among-puts F missed old now done cut cuts =
        puts_among_then g on ⊥ F old.disk cuts.then_is.disk now.disk (λ never. never) cuts.first.puts cuts.second.puts

    -- all of them together
    pub cuts-among-all : (F : Type 0) (missed : ℕ) (old now : AtDisk StoreState D) (done cut : List Command) → CutsOffAmongReads g F missed old now done cut
        → DoesAmongReads g F missed old.it now.it old.disk now.disk (done ++ cut)
    cuts-among-all F missed old now done cut cuts =
        let then_is : AtDisk StoreState D = cuts.then_is in
        among-same F F (missed + 0) missed old.it now.it old.disk now.disk (done ++ cut) (λ p. p) (λ p. p) (add-zero missed)
        (among-then ⊥ F missed 0 old.it then_is.it now.it old.disk then_is.disk now.disk done cut (λ never. never) cuts.first cuts.second)

  pub cuts-among-same : (P Q : Type 0) (missed other : ℕ) (old now : AtDisk StoreState D) (done cut : List Command) → (P → Q) → (Q → P) → missed ≡ other
      → CutsOffAmongReads g P missed old now done cut → CutsOffAmongReads g Q other old now done cut
  cuts-among-same P Q missed other old now done cut there back same cuts = record {
    then_is = cuts.then_is;
    first = among-same ⊥ ⊥ missed other old.it cuts.then_is.it old.disk cuts.then_is.disk done (λ p. p) (λ p. p) same cuts.first;
    second = among-same P Q 0 0 cuts.then_is.it now.it cuts.then_is.disk now.disk cut there back refl cuts.second;
  }

  -- commands that were all done
  pub cuts-among-none : (F : Type 0) (missed : ℕ) (old now : AtDisk StoreState D) (done : List Command) → ¬ F → g.lasts now.disk now.disk
      → DoesAmongReads g ⊥ missed old.it now.it old.disk now.disk done → CutsOffAmongReads g F missed old now done []
  cuts-among-none F missed old now done fine lasts does = record {
    then_is = now;
    first = does;
    second =
        does-among F now.it now.it now.disk now.disk []
        (does_none g store_form F (store_on g now.it now.disk) now.it.journal now.disk fine does.stands_on (among-healthy missed old.it now.it old.disk now.disk done does) lasts);
  }
