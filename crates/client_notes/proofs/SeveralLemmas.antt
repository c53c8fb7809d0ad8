-- What several commands of a call do to the disk of the notes, one list of them after another.
use Rattle.std.proofs.Common.{◌≡◌, inl, inr, ℕ, ◌+◌, List, [], ◌∷◌, ◌++◌, length, refl, ◌∙◌, ap, subst, arith, length-append, take}
use Rattle.client_notes.proofs.Names.{IsTrue, Ghosts, images_now, StayDone, done_at, after_all_append, allowed_append, at_told, does_longer, does_none, does_same, does_then, first_then, if_told, makes_first, makes_within, paces_exactly, told_before, told_weaker, weaker, allowed_first, allowed_split, NotesCommand, after, is_allowed, AreAllowed, after_all, Lists, Does, IsBeforeOrAfter, notes_form, DoesSeveral, MakesBetween, MakesFirst, after_first, notes_on, IsReady, NotesState, StandsFor}

-- a list of no length
nothing : (commands : List NotesCommand) → length commands ≡ 0 → commands ≡ []
nothing [] is = refl
nothing (command ∷ commands) is = absurd (cc is)

-- ---- two lists of commands

pub after_all-append : (a b : List NotesCommand) (lists : Lists) → after_all lists (a ++ b) ≡ after_all (after_all lists a) b
after_all-append = after_all_append after

pub AreAllowed-append : (a b : List NotesCommand) (lists : Lists) → AreAllowed lists a → AreAllowed (after_all lists a) b → AreAllowed lists (a ++ b)
AreAllowed-append = allowed_append after (λ (lists : Lists) (command : NotesCommand). IsTrue (is_allowed lists command))

pub AreAllowed-split : (a b : List NotesCommand) (lists : Lists) → AreAllowed lists (a ++ b)
    → AreAllowed lists a × AreAllowed (after_all lists a) b
AreAllowed-split = allowed_split after (λ (lists : Lists) (command : NotesCommand). IsTrue (is_allowed lists command))

pub AreAllowed-first : (count : ℕ) (commands : List NotesCommand) (lists : Lists) → AreAllowed lists commands
    → AreAllowed lists (take count commands)
AreAllowed-first = allowed_first after (λ (lists : Lists) (command : NotesCommand). IsTrue (is_allowed lists command))

-- ---- the first of some commands

-- the first of two lists of commands, past the first list
pub after_first-then : (count : ℕ) (a b : List NotesCommand) (lists : Lists) → after_first (length a + count) lists (a ++ b) ≡ after_first count (after_all lists a) b
after_first-then = first_then notes_form

pub makes-one : (lists : Lists) (command : NotesCommand) (image : List ℕ) → IsBeforeOrAfter lists command image → MakesBetween 0 1 lists (command ∷ []) image
makes-one lists command image (inl before) = (0, omega arith, omega arith, before)
makes-one lists command image (inr now) = (1, omega arith, omega arith, now)

-- the first list's images are those of both
pub makes-longer : (lists : Lists) (a b : List NotesCommand) (image : List ℕ) → MakesFirst lists a image → MakesFirst lists (a ++ b) image
makes-longer lists a b image here =
    makes_within notes_form 0 (length a) 0 (length (a ++ b)) lists (a ++ b) image (omega arith) (omega (arith, length-append a b)) (makes_first notes_form 0 (length a) lists a b image (omega arith) here)

module _ {D : Type 0} (g : Ghosts D) where
  -- ---- the commands that are done stay

  -- since the one command is done
  pub stay-one : (lists : Lists) (command : NotesCommand) (disk disk_now : D) → g.moment disk_now ≡ g.moment disk + 4
      → ((image : List ℕ) → images_now g disk_now image → StandsFor image (after lists command)) → StayDone g notes_form (done_at notes_form (g.moment disk) (command ∷ [])) 1 lists (command ∷ []) disk_now
  stay-one lists command disk disk_now at each count some most image left =
      let first : count ≡ 1 = omega (arith, some, most) in
      let now : done_at notes_form (g.moment disk) (command ∷ []) count ≡ g.moment disk_now = ap (done_at notes_form (g.moment disk) (command ∷ [])) first ∙ omega (arith, at) in
      (1, omega arith, omega arith, each image (subst (λ (t : ℕ). g.images_since disk_now t image) now left))

  -- ---- one command

  pub Several-one : (P : Type 0) (old new : NotesState) (disk disk_now : D) (command : NotesCommand) → Does g P old new disk disk_now command → DoesSeveral g P old new disk disk_now (command ∷ [])
  Several-one P old new disk disk_now command does = record {
    does = record {
      time = done_at notes_form (g.moment disk) (command ∷ []);
      paces = paces_exactly notes_form old.journal (g.moment disk) (command ∷ []);
      healthy = does.healthy;
      stands_on = does.stands_on;
      allowed = λ known. (does.allowed, tt);
      since = told_weaker (g.content disk) _ _ (λ before told left.
          weaker g.moment g.images_since disk disk_now _ (MakesFirst old.lists (command ∷ [])) (λ image here. makes-one old.lists command image here) left) does.since;
      stay = λ fine. if_told (g.content disk) _ (λ before told.
          let now = told_before (g.content disk_now) (g.content disk) before (does.puts.told.1, does.puts.told.0) told in
          let made = does.done fine in
          stay-one old.lists command disk disk_now (at_told _ before told made.calls) (at_told _ now.0 now.1 made.images));
      calls = λ fine. (does.done fine).calls;
      at_most = omega (arith, does.at_most);
      none = λ is. absurd (cc is);
      within = λ in_halves. absurd (cc in_halves);
      puts = does.puts;
      reads = tt;
      done = λ fine. let made = does.done fine in (λ known. made.lists, made.healthy);
      cut = λ failed.
          let some = does.cut failed in
          record {
            count = 0;
            fewer = omega arith;
            state = λ known. some.lists;
            failed = some.failed;
            images = told_weaker (g.content disk_now) _ _ (λ now told each image here. makes-one old.lists command image (each image here)) some.images;
            stay = if_told (g.content disk) _ (λ before told count some most image left. absurd (omega (arith, some, most)));
            calls = told_weaker (g.content disk) _ _ (λ before told left. omega (arith, left.later)) does.since;
            at_most = if_told (g.content disk) _ (λ before told. omega (arith, does.at_most));
          };
      journal = does.journal;
      moves = λ fine room. let moved = does.moves fine in record { half = moved.half; place = omega (arith, moved.place) };
    };
    same = λ is. absurd (cc is);
  }

  -- ---- no command

  pub Several-none : (P : Type 0) (self : NotesState) (disk : D) → ¬ P → IsReady g self disk → g.lasts disk disk → DoesSeveral g P self self disk disk []
  Several-none P self disk fine ready same = record { does = does_none g notes_form P self.lists self.journal disk fine ready.stands_on ready.healthy same; same = λ is. refl }

  -- commands that were done leave them ready
  pub Several-ready : (old new : NotesState) (disk disk_now : D) (commands : List NotesCommand) → DoesSeveral g ⊥ old new disk disk_now commands → IsReady g new disk_now
  Several-ready old new disk disk_now commands it = record { healthy = (it.does.done (λ never. never)).1; stands_on = it.does.stands_on }

  -- ---- the same of what comes to the same

  pub Several-same : (P Q : Type 0) (old new : NotesState) (disk disk_now : D) (commands : List NotesCommand) → (P → Q) → (Q → P) → DoesSeveral g P old new disk disk_now commands → DoesSeveral g Q old new disk disk_now commands
  Several-same P Q old new disk disk_now commands there back it = record { does = does_same g notes_form P Q commands (notes_on old disk) (notes_on new disk_now) there back it.does; same = it.same }

  -- ---- further commands behind those in one of which the disk failed

  pub Several-longer : (P : Type 0) (old new : NotesState) (disk disk_now : D) (a b : List NotesCommand) → P → AreAllowed old.lists (a ++ b) → DoesSeveral g P old new disk disk_now a
      → DoesSeveral g P old new disk disk_now (a ++ b)
  Several-longer P old new disk disk_now a b failed allowed it =
      let few = (it.does.cut failed).fewer in
      record {
        does = does_longer g notes_form P a b (notes_on old disk) (notes_on new disk_now) failed (λ known. allowed) it.does;
        same = λ is. let empty : length (a ++ b) ≡ 0 = ap length is in absurd (omega (arith, length-append a b, few, empty));
      }

  -- ---- one list of commands, and then another

  module _ (on : (first second third : D) → g.lasts first second → g.lasts second third → g.lasts first third) where
    pub Several-then : (P Q : Type 0) (old mid new : NotesState) (disk disk_mid disk_now : D) (a b : List NotesCommand) → ¬ P → DoesSeveral g P old mid disk disk_mid a → DoesSeveral g Q mid new disk_mid disk_now b
        → DoesSeveral g Q old new disk disk_now (a ++ b)
    Several-then P Q old mid new disk disk_mid disk_now a b fine first second = record {
      does = does_then g notes_form on P Q a b (notes_on old disk) (notes_on mid disk_mid) (notes_on new disk_now) fine first.does second.does;
      same = λ is.
          let sum : length (a ++ b) ≡ length a + length b = length-append a b in
          let empty : length (a ++ b) ≡ 0 = ap length is in
          second.same (nothing b (omega (arith, sum, empty))) ∙ first.same (nothing a (omega (arith, sum, empty)));
    }
