-- What a state that a journal keeps stands for, and what putting one command does to it.
use Rattle.std.proofs.Common.{◌≡◌, ◌⊎◌, inl, inr, ℕ, ◌≤◌, true, false, List, [], ◌∷◌, IfSome, refl, sym, ◌∙◌, ap, subst, arith}
use Rattle.file_journal.proofs.Names.{Only, Ghosts, StaysInHalves, EachImage, Leaves, Puts, TellsAlike, images_now, MakesBetween, MakesFirst, StayDone, octets_of, Form, StandsFor, TellsItsNumber, Does, HasRoomFor, IsCut, IsKept, KeptOn, Paces, kept_on, IsSameJournal, MovesOn, Position, Knows, state, weaker, at_told, if_told, knew, known_told, told_before, told_weaker}
use Rattle.file_journal.proofs.CommandLemmas.{makes_one, stay_none}

module _ {S C : Type 0} (form : Form S C) where
  module _ {D : Type 0} (g : Ghosts D) where
    -- What a state that is kept has on its disk stands for it.
    pub images_here : TellsItsNumber form → (at : KeptOn D S) → IsKept g form at → at.journal.failed ≡ false → EachImage g at.disk (StandsFor form at.now)
    images_here own at keeps healthy = if_told (g.content at.disk) _ (λ octets told image left.
        subst (StandsFor form at.now) (sym (at_told (Only (images_now g at.disk)) octets told (keeps.quiet healthy) image left))
        (own at.journal.blocks octets at.now (at_told (λ (o : List ℕ). form.standing at.journal.blocks o ≡ state at.now) octets told (keeps.content healthy))))

    -- ---- one command

    module _ (old new : D) (now next : S) (journal after : Position) (command : C) (healthy : journal.failed ≡ false) (allowed : Knows form (g.content old) → form.allowed now command)
        (next_is : Knows form (g.content old) → next ≡ form.after now command)
        (moved : IsSameJournal journal after) (told : TellsAlike (g.content old) (g.content new))
        (since : Leaves g old new (λ _ image. StandsFor form now image ⊎ StandsFor form next image)) (time : ℕ → ℕ) (paces : Paces form journal (g.moment old) (command ∷ []) time) (at_most : g.moment new ≤ time 1)
        (within : StaysInHalves g form.layout journal.blocks old new) where
      one : Knows form (g.content old) → (image : List ℕ) → StandsFor form now image ⊎ StandsFor form next image → MakesBetween form 0 1 now (command ∷ []) image
      one known image (inl was) = makes_one form now command image (inl was)
      one known image (inr is) = makes_one form now command image (inr (subst (λ (s : S). StandsFor form s image) (next_is known) is))

      leaves : Leaves g old new (λ _. MakesFirst form now (command ∷ []))
      leaves = told_weaker (g.content old) _ _ (λ before told_old left. weaker g.moment g.images_since old new _ (MakesFirst form now (command ∷ [])) (one (known_told form before told_old)) left) since

      abbrev OneDone : Type 0 → S → Type 0
      OneDone P state_now = Does g form P (command ∷ []) (kept_on now journal old) (kept_on state_now after new)

      -- the journal goes on behind its record, where it has room for that
      abbrev OneMoves : Type 0
      OneMoves = HasRoomFor form journal (command ∷ []) → MovesOn (octets_of form (command ∷ [])) journal after

      -- what is done, by what comes of it where the disk failed and where it didn't
      does_put : (P : Type 0) (state_now : S) → IsKept g form (kept_on state_now after new) → Puts g P old new
          → (¬ P → IfSome (g.content old) (λ _. g.moment new ≡ time 1) × IfSome (g.content old) (λ _. StayDone g form time 1 now (command ∷ []) new) × (state_now ≡ next) × (after.failed ≡ false))
          → (P → IsCut g form time (command ∷ []) (kept_on now journal old) (kept_on state_now after new)) → (¬ P → OneMoves) → OneDone P state_now
      does_put P state_now keeps puts done cut moves = record {
        time = time;
        paces = paces;
        healthy = healthy;
        stands_on = keeps;
        allowed = λ known. (allowed known, tt);
        since = leaves;
        stay = λ still. (done still).1;
        calls = λ still. (done still).0;
        at_most = at_most;
        none = λ empty. absurd (cc empty);
        puts = puts;
        reads = tt;
        done = λ still. (λ known. (done still).2 ∙ next_is known, (done still).3);
        cut = cut;
        journal = moved;
        moves = moves;
        within = within;
      }

      -- it is done
      pub put_done : (P : Type 0) → ¬ P → Puts g P old new → IfSome (g.content old) (λ _. g.moment new ≡ time 1) → after.failed ≡ false
          → IsKept g form (kept_on next after new) → EachImage g new (StandsFor form next) → OneMoves → OneDone P next
      put_done P good puts calls fine keeps here moves = does_put P next keeps puts
          (λ still. (
            calls,
            if_told (g.content old) _ (λ before told_old count some most image left.
                let there = told_before (g.content new) (g.content old) before (told.1, told.0) told_old in
                let done : g.moment new ≡ time 1 = at_told (λ (_ : List ℕ). g.moment new ≡ time 1) before told_old calls in
                let first : count ≡ 1 = omega (arith, some, most) in
                let each = at_told (λ (_ : List ℕ). (image : List ℕ) → images_now g new image → StandsFor form next image) there.0 there.1 here in
                (1, omega (arith, most), omega arith, subst (λ (s : S). StandsFor form s image) (next_is (known_told form before told_old)) (each image (subst (λ (t : ℕ). g.images_since new t image) (ap time first ∙ sym done) left)))),
            refl,
            fine,
          ))
          (λ bad. absurd (good bad))
          (λ still. moves)

      -- or the disk failed in it
      pub put_cut : (P : Type 0) → P → Puts g P old new → after.failed ≡ true → IsKept g form (kept_on now after new) → EachImage g new (λ image. StandsFor form now image ⊎ StandsFor form next image)
          → OneDone P now
      put_cut P bad puts failed keeps here = does_put P now keeps puts (λ still. absurd (still bad)) (λ again. record {
        count = 0;
        fewer = omega arith;
        state = λ known. refl;
        failed = failed;
        images = told_weaker (g.content new) _ _ (λ octets told_new each image left. one (knew form _ _ told (known_told form octets told_new)) image (each image left)) here;
        stay = if_told (g.content old) _ (λ before told_old. stay_none form g time now (command ∷ []) new);
        calls = told_weaker (g.content old) _ _ (λ before told_old left. omega (arith, paces.starts, left.later)) since;
        at_most = if_told (g.content old) _ (λ before told_old. at_most);
      }) (λ still. absurd (still bad))
