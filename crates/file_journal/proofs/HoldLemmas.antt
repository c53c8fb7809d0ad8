-- What a journal holds of a state on its disk, and how it stays or turns into the next one.
use Rattle.std.proofs.Common.{◌≡◌, ◌≢◌, ◌⊎◌, inl, inr, ⊎_elim, ℕ, ◌+◌, ◌<◌, ◌≤◌, Bool, true, false, List, [], length, Option, None, Some, IfSome, is_some, Result, IsErr, refl, sym, ◌∙◌, ap, subst, arith}
use Rattle.file_journal.specs.Journal as journal
use Rattle.file_journal.proofs.Names.{common_steps, cases_lt, length-take, Only, Torn, LeavesOnly, Ghosts, Appends, IsAppending, IsTornFrom, LeavesAppending, IsWritingBlock, WritesBlock, IsQuietNow, Leaves, Puts, Reads, TakesStep, TellsAlike, images_now, Form, StandsFor, standing_of, Standing, store_of, with_last, IsKept, StandsAt, kept_on, Blocks, HasBlocks, HoldSame, block_in, block_place, blocks_on, half_gate, half_in, other_half, up_to, Takes, IsSameJournal, Position, StandsOn, end_of, gate_of, left_to_read, store_in, StandsForEither, StaysKept, TurnsInto, Record, reading_at, records_text, whole, IsRewriting, KeepsBlocks, LeavesRewriting, Rewrites, WritesAnew, other_gate, rewritten, HasPut, Holds, IsSeenBy, Knows, MayPut, PutBlock, StandsAs, Steps, Turn, WritesTurn, growing_steps, walked, number_or, stands_for, stands_of, state, Half, Layout, either_way, err_there, ok_there, on_err, on_ok_both, reads_now, weaker, at_told, content_now, if_told, told_before, told_weaker, Halves, Growing, InBlocks}
use Rattle.file_journal.proofs.OctetLemmas.{torn_behind, torn_other}
use Rattle.file_journal.proofs.PositionLemmas.{among_records}
use Rattle.file_journal.proofs.ReadingLemmas.{read_past}
use Rattle.file_journal.proofs.StandingLemmas.{journal_records}
use Rattle.file_journal.proofs.WalkLemmas.{made_there, reached_there, seen_standing, stands_made, store_same, one_step}

-- blocks hold the same, where they do on a disk that tells
same_on : (used : ℕ → Type 0) (before now : Option (List ℕ)) → TellsAlike before now → ((was is : List ℕ) → before ≡ Some was → now ≡ Some is → HoldSame used (block_in was) (block_in is))
    → HoldSame used (blocks_on before) (blocks_on now)
same_on used None None alike same block uses = refl
same_on used None (Some is) alike same block uses = absurd (let was = told_before None (Some is) is alike refl in cc was.1)
same_on used (Some was) None alike same block uses = absurd (let is = told_before None (Some was) was (alike.1, alike.0) refl in cc is.1)
same_on used (Some was) (Some is) alike same block uses = same was is refl refl block uses

-- a disk that is quiet leaves its content alone
quiet_image : {D : Type 0} (g : Ghosts D) (disk : D) (before : List ℕ) → g.content disk ≡ Some before → IsQuietNow g disk → (image : List ℕ) → images_now g disk image → image ≡ before
quiet_image g disk before told quiet image left = at_told (Only (images_now g disk)) before told quiet image left

-- Reads leave a state where it stands.
pub read_stands : {D S K V C : Type 0} (g : Ghosts D) (steps : Steps S K) (form : Form V C) (old new : D) (position : Position) (now : K) {P : Type 0} → Reads g P old new → StandsAt g form steps position now old
    → StandsOn g position new → StandsAt g form steps position now new
read_stands g steps form old new position now run at stands = record {
  magic_is = at.magic_is;
  layout_is = at.layout_is;
  holds = record {
    keeps = record {
      stands_on = stands;
      ended = at.holds.keeps.ended;
      content = λ fine. subst (λ (o : Option (List ℕ)). IfSome o (StandsAs steps position now)) (sym run.only.same_content) (at.holds.keeps.content fine);
      quiet = λ fine. if_told (g.content new) _ (λ octets told image left.
          at_told (Only (images_now g old)) octets (sym run.only.same_content ∙ told) (at.holds.keeps.quiet fine) image (reads_now g old new run.only image left));
    };
    reached = at.holds.reached;
    number = at.holds.number;
  };
}

-- a journal that goes on elsewhere is the same one
pub same_journal : (before after : Position) (there : Half) (place : ℕ) (failed : Bool) → after ≡ record before { half = there; place = place; failed = failed }
    → (before.layout ≢ Halves → there ≡ before.half) → IsSameJournal before after
same_journal before after there place failed is stays = subst (IsSameJournal before) (sym is) (record { same = refl; half = stays })

-- and so is one that goes on in its half
pub moved_journal : (before after : Position) (place : ℕ) (failed : Bool) → after ≡ record before { place = place; failed = failed } → IsSameJournal before after
moved_journal before after place failed is = same_journal before after before.half place failed is (λ one. refl)

-- and one whose records are written anew
same_rewritten : (before after : Position) (entries : List Record) → before.layout ≡ Halves → after ≡ rewritten before entries → IsSameJournal before after
same_rewritten before after entries in_halves is =
    same_journal before after (other_half before.half) (other_gate before + length (records_text entries)) false is (λ one. absurd (one in_halves))

-- where records end, the gate at the journal's place is among the octets
gate_there : (position : Position) (octets : List ℕ) → left_to_read position octets ≡ whole [] → position.place < length octets
gate_there position octets is = by (end_of position) is
  where
    read : (end : Option ℕ) → reading_at position.place (up_to end octets) ≡ whole [] → position.place < length (up_to end octets)
    read end ends = elim (cases_lt position.place (length (up_to end octets))) [
      | inl there ↦ there
      | inr past ↦ absurd (cc (sym (read_past position.place (up_to end octets) past) ∙ ends))
    ]

    by : (end : Option ℕ) → reading_at position.place (up_to end octets) ≡ whole [] → position.place < length octets
    by None ends = read None ends
    by (Some end) ends = omega (arith, read (Some end) ends, length-take end octets)

-- the blocks of a store stand before each half
blocks_before : (layout : Layout) (blocks : ℕ) (chosen : Half) → HasBlocks layout → block_place blocks ≤ half_gate layout blocks chosen
blocks_before layout blocks chosen has = grind arith

-- a layout has blocks or has none
growing_or : (l : Layout) → (l ≡ Growing) ⊎ HasBlocks l
growing_or Growing = inl refl
growing_or InBlocks = inr tt
growing_or Halves = inr tt

module _ {D S K V C : Type 0} (g : Ghosts D) (steps : Steps S K) (seen : Blocks → K → V) (form : Form V C) (law : IsSeenBy steps seen form) where
  -- with what blocks hold, a record takes each state of which this is kept to one of which that is
  abbrev StepsTo : Blocks → K → Record → K → Type 0
  StepsTo held now entry next = (before : S) → steps.is_state before → steps.kept before ≡ now → (after : S) × (steps.step held before entry ≡ Some after) × (steps.kept after ≡ next)

  -- the step that a record makes, where the content is told
  pub turn_step : (now : K) (turn : Turn K C) (entry : Record) (content : Option (List ℕ)) → WritesTurn form steps seen now turn entry → (Knows form content → turn.lets (blocks_on content))
      → (Knows form content → HasPut turn.puts (blocks_on content)) → (before : List ℕ) → content ≡ Some before → StepsTo (block_in before) now entry turn.next
  turn_step now turn entry content writes lets there before told =
      let known : Knows form content = inr (ap is_some told) in
      subst (λ (o : Option (List ℕ)). StepsTo (blocks_on o) now entry turn.next) told (writes.step (blocks_on content) (lets known) (there known))

  -- ---- what octets stand for

  module _ (position : Position) where
    -- with what blocks hold, a store comes to a state of which this is kept
    abbrev pub ComesTo : Blocks → Standing → K → Type 0
    ComesTo held found now =
        (made : S) × (stands_of steps.fresh (steps.step held) position.layout position.half position.blocks found ≡ state made) × (steps.kept made ≡ now)

    -- what octets stand for is what their store comes to
    pub store_comes : (octets : List ℕ) (now : K) → StandsAs steps position now octets → ComesTo (block_in octets) (store_in position octets) now
    store_comes octets now stands = (
      stands.0,
      store_same steps seen form law (block_in octets) (block_in octets) position.layout (half_in position.layout octets) position.half position.blocks (store_in position octets) stands.0 (λ block uses. refl) stands.1,
      stands.2,
    )

    -- Octets whose store comes to what is kept of a state with what the blocks of others hold stand for that, where they
    -- hold the same in the blocks that it uses.
    pub image_there : (before image : List ℕ) (now : K) → ComesTo (block_in before) (store_in position image) now → HoldSame (steps.uses now) (block_in before) (block_in image) → StandsAs steps position now image
    image_there before image now comes same = (
      comes.0,
      store_same steps seen form law (block_in before) (block_in image) position.layout position.half (half_in position.layout image) position.blocks (store_in position image) comes.0
          (subst (λ (k : K). HoldSame (steps.uses k) (block_in before) (block_in image)) (sym comes.2) same) comes.1,
      comes.2,
    )

    module _ (magic_is : position.magic ≡ form.magic) (layout_is : position.layout ≡ form.layout) (before : List ℕ) (now : K) where
      pub image_stands : (image : List ℕ) → ComesTo (block_in before) (store_in position image) now → HoldSame (steps.uses now) (block_in before) (block_in image)
          → standing_of form position.blocks image ≡ state (seen (block_in before) now)
      image_stands image comes same =
          let there = image_there before image now comes same in
          let reached : steps.is_kept now =
          subst steps.is_kept comes.2 (law.kept_state comes.0 (reached_there steps seen form law (block_in before) position.layout position.half position.blocks (store_in position image) comes.0 comes.1)) in
          seen_standing steps seen form law position.blocks image there.0
          (subst (λ (l : Layout). walked steps form.magic l position.blocks image ≡ state there.0) layout_is (subst (λ (m : List ℕ). walked steps m position.layout position.blocks image ≡ state there.0) magic_is there.1))
          ∙ ap (λ (k : K). state (seen (block_in image) k)) there.2
          ∙ ap (λ (v : V). state v) (law.same_seen (block_in before) (block_in image) now reached same)

      pub image_stands_for : (image : List ℕ) → ComesTo (block_in before) (store_in position image) now → HoldSame (steps.uses now) (block_in before) (block_in image)
          → StandsFor form (seen (block_in before) now) image
      image_stands_for image comes same = law.own_number position.blocks image (seen (block_in before) now) (image_stands image comes same)

  -- the same journal stands for the same
  pub stands_moved : (before after : Position) (octets : List ℕ) (now : K) → IsSameJournal before after → StandsAs steps before now octets → StandsAs steps after now octets
  stands_moved before after octets now moved stands = (stands.0, ap (λ (p : Position). walked steps p.magic p.layout p.blocks octets) moved.same ∙ stands.1, stands.2)

  -- What holds a state keeps what it is seen as.
  pub held_kept : (position : Position) (now : K) (disk : D) → StandsAt g form steps position now disk → IsKept g form (kept_on (seen (blocks_on (g.content disk)) now) position disk)
  held_kept position now disk at = record {
    stands_on = at.holds.keeps.stands_on;
    ended = at.holds.keeps.ended;
    content = λ fine. if_told (g.content disk) _ (λ octets told.
        image_stands position at.magic_is at.layout_is octets now octets (store_comes position octets now (at_told (StandsAs steps position now) octets told (at.holds.keeps.content fine))) (λ block uses. refl)
        ∙ ap (λ (o : Option (List ℕ)). state (seen (blocks_on o) now)) (sym told));
    quiet = at.holds.keeps.quiet;
  }

  -- it is failed
  pub failed_holds : (position : Position) (now : K) (disk : D) → steps.is_kept now → position.failed ≡ true → StandsOn g position disk → (HasBlocks position.layout → position.blocks ≡ steps.number now) → Holds g steps position now disk
  failed_holds position now disk reached failed stands number = record {
    keeps = record {
      stands_on = stands;
      ended = λ fine. absurd (cc (sym failed ∙ fine));
      content = λ fine. absurd (cc (sym failed ∙ fine));
      quiet = λ fine. absurd (cc (sym failed ∙ fine));
    };
    reached = reached;
    number = number;
  }

  -- it is what the content of a quiet disk stands for
  pub quiet_holds : (position : Position) (now : K) (disk : D) → steps.is_kept now → StandsOn g position disk → position.ended ≡ true → IfSome (g.content disk) (StandsAs steps position now) → IsQuietNow g disk
      → (HasBlocks position.layout → position.blocks ≡ steps.number now) → Holds g steps position now disk
  quiet_holds position now disk reached stands ended content quiet number = record {
    keeps = record {
      stands_on = stands;
      ended = λ fine. ended;
      content = λ fine. content;
      quiet = λ fine. quiet;
    };
    reached = reached;
    number = number;
  }

  -- ---- a state that is held, and calls from there

  module _ (counts_now : (disk : D) (t : ℕ) (image : List ℕ) → t ≤ g.moment disk → g.images disk image → g.images_since disk t image)
      (earlier : (disk : D) (t u : ℕ) (image : List ℕ) → t ≤ u → g.images_since disk u image → g.images_since disk t image)
      (is_image : (disk : D) → IfSome (g.content disk) (g.images disk))
      (old new : D) (position : Position) (now : K) (at : StandsAt g form steps position now old) (healthy : position.failed ≡ false) (alike : TellsAlike (g.content old) (g.content new)) where
    ended_there : position.ended ≡ true
    ended_there = at.holds.keeps.ended healthy

    quiet_there : (before : List ℕ) → g.content old ≡ Some before → (image : List ℕ) → images_now g old image → image ≡ before
    quiet_there before told image left = quiet_image g old before told (at.holds.keeps.quiet healthy) image left

    -- the content stands for the state
    stood : (before : List ℕ) → g.content old ≡ Some before → ComesTo position (block_in before) (store_in position before) now
    stood before told = store_comes position before now (at_told (StandsAs steps position now) before told (at.holds.keeps.content healthy))

    -- the journal's place is among the octets, behind all blocks
    place_there : (before : List ℕ) → g.content old ≡ Some before → (gate_of position ≤ position.place) × (position.place < length before)
    place_there before told =
        let among = at_told _ before told (among_records position (g.content old) (images_now g old) healthy at.holds.keeps.stands_on) in (
          omega (arith, among.1.place),
          gate_there position before (among.1.ended ended_there),
        )

    -- a block of the store stands before it
    block_there : (before : List ℕ) → g.content old ≡ Some before → HasBlocks form.layout → (block : ℕ) → block < steps.number now → block_place block + 512 ≤ position.place
    block_there before told has block below = grind (arith, common_steps, place_there, blocks_before)

    -- so does one that is used
    used_there : (before : List ℕ) → g.content old ≡ Some before → (other : K) → steps.is_kept other → steps.number other ≡ steps.number now → (block : ℕ) → steps.uses other block → block_place block + 512 ≤ position.place
    used_there before told other reached same block uses = grind (arith, common_steps, block_there, growing_or)

    -- what is left now was left before, or since
    left_since : (P : List ℕ → List ℕ → Type 0) → Leaves g old new P → (before : List ℕ) → g.content old ≡ Some before → (image : List ℕ) → images_now g new image → (image ≡ before) ⊎ P before image
    left_since P leaves before told image left =
        let made = at_told (λ (octets : List ℕ). _) before told leaves in
        ⊎_elim (λ was. inl (quiet_there before told image was)) (λ is. inr is) (made.each (g.moment old) image (omega arith) (earlier new (g.moment old) (g.moment new) image made.later left))

    -- the content now is one of these
    content_since : (P : List ℕ → List ℕ → Type 0) → Leaves g old new P → (before octets : List ℕ) → g.content old ≡ Some before → g.content new ≡ Some octets → (octets ≡ before) ⊎ P before octets
    content_since P leaves before octets told told_new =
        left_since P leaves before told octets (counts_now new (g.moment new) octets (omega arith) (at_told (g.images new) octets told_new (is_image new)))

    -- torn from an image from before it is torn from the content
    torn_there : (place count : ℕ) (before image : List ℕ) → g.content old ≡ Some before → IsTornFrom (g.images old) place count image → Torn place count before image
    torn_there place count before image told torn = subst (λ (l : List ℕ). Torn place count l image) (quiet_there before told torn.0 (counts_now old (g.moment old) torn.0 (omega arith) torn.1)) torn.2

    -- the same journal, of which the same blocks are said, holds a state
    same_holds : (after : Position) (next : K) → IsSameJournal position after → steps.number next ≡ steps.number now → ((HasBlocks after.layout → after.blocks ≡ steps.number next) → Holds g steps after next new)
        → StandsAt g form steps after next new
    same_holds after next moved same holds =
        let layout_is : after.layout ≡ position.layout = ap (λ (p : Position). p.layout) moved.same in
        record {
          magic_is = ap (λ (p : Position). p.magic) moved.same ∙ at.magic_is;
          layout_is = layout_is ∙ at.layout_is;
          holds = holds (λ has. ap (λ (p : Position). p.blocks) moved.same ∙ at.holds.number (subst HasBlocks layout_is has) ∙ sym same);
        }

    -- where it hasn't failed, by what the content of a quiet disk stands for
    moved_holds : (after : Position) (next : K) → IsSameJournal position after → steps.is_kept next → steps.number next ≡ steps.number now → StandsOn g after new → IsQuietNow g new
        → IfSome (g.content new) (StandsAs steps after next) → StandsAt g form steps after next new
    moved_holds after next moved reached same stands quiet content =
        same_holds after next moved same (quiet_holds after next new reached stands (ap (λ (p : Position). p.ended) moved.same ∙ ended_there) content quiet)

    -- ---- a record that is put

    module _ (after : Position) (entry : Record) (next : K) (reached : steps.is_kept next) (number : steps.number next ≡ steps.number now) (since : LeavesAppending g position entry old new) where
      -- what a crash in it leaves holds the same in each block that is used
      record_same : (other : K) → steps.is_kept other → steps.number other ≡ steps.number now → (before image : List ℕ) → g.content old ≡ Some before → IsTornFrom (g.images old) position.place (5 + length entry.content) image
          → HoldSame (steps.uses other) (block_in before) (block_in image)
      record_same other is_state same before image told torn block uses =
          torn_behind position.place (5 + length entry.content) block before image (used_there before told other is_state same block uses) (omega (arith, (place_there before told).1))
          (torn_there position.place (5 + length entry.content) before image told torn)

      pub put_same : (other : K) → steps.is_kept other → steps.number other ≡ steps.number now → HoldSame (steps.uses other) (blocks_on (g.content old)) (blocks_on (g.content new))
      put_same other is_state same = same_on (steps.uses other) (g.content old) (g.content new) alike (λ before octets told told_new block uses.
          ⊎_elim (λ was. ap (λ (l : List ℕ). block_in l block) was) (λ is. record_same other is_state same before octets told is.beside block uses) (content_since _ since before octets told told_new))

      module _ (steps_on : (before : List ℕ) → g.content old ≡ Some before → StepsTo (block_in before) now entry next) where
        -- with one record more the store comes to the next state
        next_there : (before : List ℕ) → g.content old ≡ Some before → (more : Standing) → more ≡ with_last (store_in position before) entry → ComesTo position (block_in before) more next
        next_there before told more is =
            let stands = stood before told in
            let on = steps_on before told stands.0 (reached_there steps seen form law (block_in before) position.layout position.half position.blocks (store_in position before) stands.0 stands.1) stands.2 in (
              on.0,
              ap (stands_of steps.fresh (steps.step (block_in before)) position.layout position.half position.blocks) is
                  ∙ one_step (steps.step (block_in before)) steps.fresh position.layout position.half position.blocks (store_in position before) stands.0 on.0 entry stands.1 on.1,
              on.2,
            )

        pub put_turns : (P : Type 0) → (¬ P → TakesStep g old new (Appends position entry) × IsQuietNow g new)
            → TurnsInto g form (seen (blocks_on (g.content old)) now) (seen (blocks_on (g.content old)) next) P old new
        put_turns P done = record {
          since = if_told (g.content old) _ (λ before told.
              subst (λ (held : Option (List ℕ)). LeavesOnly g.moment g.images_since old new (StandsForEither form (seen (blocks_on held) now) (seen (blocks_on held) next))) (sym told)
              (weaker g.moment g.images_since old new _ _ (λ image is.
              ⊎_elim (λ same. inl (image_stands_for position at.magic_is at.layout_is before now image (subst (λ (t : Standing). ComesTo position (block_in before) t now) (sym same) (stood before told))
              (record_same now at.holds.reached refl before image told is.beside)))
              (λ more. inr (image_stands_for position at.magic_is at.layout_is before next image (next_there before told (store_in position image) more) (record_same next reached number before image told is.beside)))
              is.store)
              (at_told (λ (octets : List ℕ). LeavesOnly g.moment g.images_since old new (IsAppending position entry (g.images old) octets)) before told since)));
          done = λ still. if_told (g.content new) _ (λ octets told_new image left.
              let was = content_now _ _ (Appends position entry) octets alike (done still).0 told_new in
              subst (λ (held : Option (List ℕ)). StandsFor form (seen (blocks_on held) next) image) (sym was.1)
              (subst (StandsFor form (seen (block_in was.0) next)) (sym (quiet_image g new octets told_new (done still).1 image left))
              (image_stands_for position at.magic_is at.layout_is was.0 next octets (next_there was.0 was.1 (store_in position octets) was.2.store)
              (λ block uses. ⊎_elim (λ same. ap (λ (l : List ℕ). block_in l block) same) (λ is. record_same next reached number was.0 octets was.1 is.beside block uses)
              (content_since _ since was.0 octets was.1 told_new)))));
        }

        -- the journal holds the next state then
        pub put_holds : StandsOn g after new → after ≡ record position { place = after.place; failed = after.failed } → TakesStep g old new (Appends position entry) → IsQuietNow g new → StandsAt g form steps after next new
        put_holds stands is ok quiet =
            let moved = moved_journal position after after.place after.failed is in
            moved_holds after next moved reached number stands quiet (if_told (g.content new) _ (λ octets told_new.
            let was = content_now _ _ (Appends position entry) octets alike ok told_new in
            stands_moved position after octets next moved
            (image_there position was.0 octets next (next_there was.0 was.1 (store_in position octets) was.2.store)
            (λ block uses. ⊎_elim (λ same. ap (λ (l : List ℕ). block_in l block) same) (λ is. record_same next reached number was.0 octets was.1 is.beside block uses)
            (content_since _ since was.0 octets was.1 told_new)))))

    -- or it failed, and holds whatever it held
    pub cut_holds : (after : Position) → StandsOn g after new → IsSameJournal position after → after.failed ≡ true → StandsAt g form steps after now new
    cut_holds after stands moved failed = same_holds after now moved refl (failed_holds after now new at.holds.reached failed stands)

    -- ---- octets that are put in a block

    module _ (after : Position) (put : PutBlock) (may : MayPut form steps now put) (moved : after ≡ record position { failed = after.failed })
        (since : Leaves g old new (IsWritingBlock position put.number (length put.octets) (g.images old))) where
      block_same : (before image : List ℕ) → g.content old ≡ Some before → IsTornFrom (g.images old) (block_place put.number) (length put.octets) image → HoldSame (steps.uses now) (block_in before) (block_in image)
      block_same before image told torn block uses =
          torn_other put.number block (length put.octets) before image (λ same. may.unused (subst (steps.uses now) (sym same) uses)) may.most (omega (arith, block_there before told may.has_blocks put.number may.there, (place_there before told).1))
          (torn_there (block_place put.number) (length put.octets) before image told torn)

      pub block_put_same : HoldSame (steps.uses now) (blocks_on (g.content old)) (blocks_on (g.content new))
      block_put_same = same_on (steps.uses now) (g.content old) (g.content new) alike (λ before octets told told_new block uses.
          ⊎_elim (λ was. ap (λ (l : List ℕ). block_in l block) was) (λ is. block_same before octets told is.beside block uses) (content_since _ since before octets told told_new))

      pub block_put_since : Leaves g old new (λ before. StandsFor form (seen (block_in before) now))
      block_put_since = if_told (g.content old) _ (λ before told.
          weaker g.moment g.images_since old new _ _ (λ image is.
          image_stands_for position at.magic_is at.layout_is before now image (subst (λ (t : Standing). ComesTo position (block_in before) t now) (sym is.store) (stood before told))
          (block_same before image told is.beside))
          (at_told (λ (octets : List ℕ). LeavesOnly g.moment g.images_since old new (IsWritingBlock position put.number (length put.octets) (g.images old) octets)) before told since))

      pub block_put_holds : StandsOn g after new → TakesStep g old new (WritesBlock position put.number put.octets) → IsQuietNow g new → StandsAt g form steps after now new
      block_put_holds stands ok quiet =
          let is = moved_journal position after position.place after.failed moved in
          moved_holds after now is at.holds.reached refl stands quiet (if_told (g.content new) _ (λ octets told_new.
          let was = content_now _ _ (WritesBlock position put.number put.octets) octets alike ok told_new in
          stands_moved position after octets now is
          (image_there position was.0 octets now
          (⊎_elim (λ same. subst (λ (l : List ℕ). ComesTo position (block_in was.0) (store_in position l) now) (sym same) (stood was.0 was.1))
          (λ is. subst (λ (t : Standing). ComesTo position (block_in was.0) t now) (sym is.store) (stood was.0 was.1)) (content_since _ since was.0 octets was.1 told_new))
          (λ block uses. ⊎_elim (λ was. ap (λ (l : List ℕ). block_in l block) was) (λ is. block_same was.0 octets was.1 is.beside block uses) (content_since _ since was.0 octets was.1 told_new)))))

      pub block_cut_holds : StandsOn g after new → after.failed ≡ true → StandsAt g form steps after now new
      block_cut_holds stands failed = cut_holds after stands (moved_journal position after position.place after.failed moved) failed

    -- ---- records that make what is kept anew, in place of all others

    module _ (after : Position) (in_halves : form.layout ≡ Halves) (leaves : LeavesRewriting g position (steps.anew now) old new) where
      since_anew : Leaves g old new (IsRewriting position (steps.anew now))
      since_anew = leaves healthy

      -- the blocks that are used hold what they held
      used_same : (before image : List ℕ) → KeepsBlocks position before image → HoldSame (steps.uses now) (block_in before) (block_in image)
      used_same before image keeps block uses =
          let has : HasBlocks position.layout = subst HasBlocks (sym (at.layout_is ∙ in_halves)) tt in
          keeps block (let within = law.within now block at.holds.reached uses in omega (arith, within, at.holds.number has))

      -- a store of these records comes to a state of which the same is kept
      anew_there : (before : List ℕ) → g.content old ≡ Some before → (made : Standing) → made ≡ store_of position.blocks (whole (steps.anew now)) → ComesTo position (block_in before) made now
      anew_there before told made is =
          let held = block_in before in
          let stands = stood before told in
          let among = at_told _ before told (among_records position (g.content old) (images_now g old) healthy at.holds.keeps.stands_on) in
          let was = made_there steps seen form law held position.layout position.half position.blocks (store_in position before) stands.0 stands.1 in
          let takes = subst (λ (n : Option ℕ). Takes (steps.step held) (steps.fresh (number_or position.blocks n)) was.1 stands.0) (let number : was.0 ≡ Some position.blocks = cc (sym was.2 ∙ among.1.records) in number) was.3 in
          let anew = (law.anew in_halves).makes held position.blocks was.1 stands.0 (journal_records position.magic position.layout before was.0 was.1 among.1.are_octets was.2) takes in (
            anew.0,
            ap (stands_of steps.fresh (steps.step held) position.layout position.half position.blocks) is
                ∙ stands_made steps seen form law held position.layout position.half position.blocks (Some position.blocks) (steps.anew now) anew.0
                (subst (λ (k : K). Takes (steps.step held) (steps.fresh position.blocks) (steps.anew k) anew.0) stands.2 anew.1),
            anew.2 ∙ stands.2,
          )

      rewriting_there : (before image : List ℕ) → g.content old ≡ Some before → IsRewriting position (steps.anew now) before image → ComesTo position (block_in before) (store_in position image) now
      rewriting_there before image told is =
          ⊎_elim (λ same. subst (λ (t : Standing). ComesTo position (block_in before) t now) (sym same) (stood before told)) (λ made. anew_there before told (store_in position image) made) is.store

      -- what is seen is known to stay
      anew_same : HoldSame (steps.uses now) (blocks_on (g.content old)) (blocks_on (g.content new))
      anew_same = same_on (steps.uses now) (g.content old) (g.content new) alike (λ before octets told told_new block uses.
          ⊎_elim (λ was. ap (λ (l : List ℕ). block_in l block) was) (λ is. used_same before octets is.blocks block uses) (content_since _ since_anew before octets told told_new))

      anew_since : Leaves g old new (λ before. StandsFor form (seen (block_in before) now))
      anew_since = if_told (g.content old) _ (λ before told.
          weaker g.moment g.images_since old new _ _ (λ image is.
          image_stands_for position at.magic_is at.layout_is before now image (rewriting_there before image told is) (used_same before image is.blocks))
          (at_told (λ (octets : List ℕ). LeavesOnly g.moment g.images_since old new (IsRewriting position (steps.anew now) octets)) before told since_anew))

      anew_holds : StandsOn g after new → IsSameJournal position after → TakesStep g old new (Rewrites position (steps.anew now)) → IsQuietNow g new → StandsAt g form steps after now new
      anew_holds stands moved ok quiet =
          moved_holds after now moved at.holds.reached refl stands quiet (if_told (g.content new) _ (λ octets told_new.
          let was = content_now _ _ (Rewrites position (steps.anew now)) octets alike ok told_new in
          stands_moved position after octets now moved
          (image_there position was.0 octets now (anew_there was.0 was.1 (store_in position octets) was.2.store) (used_same was.0 octets was.2.blocks))))

      -- so what is kept stays, whatever was answered
      pub anew_stays : {T E : Type 0} (result : Result T E) → WritesAnew g (steps.anew now) position after old new result → Puts g (IsErr result) old new
          → StaysKept g form steps seen (IsErr result) (kept_on now position old) (kept_on now after new)
      anew_stays result anew puts =
          let moved : IsSameJournal position after =
          either_way result (on_ok_both result (λ (j : after ≡ rewritten position (steps.anew now)) rest. same_rewritten position after (steps.anew now) (at.layout_is ∙ in_halves) j) anew.goes_on anew.quiet)
          (on_err result (λ (j : after ≡ record position { failed = true }). moved_journal position after position.place true j) anew.fails) in
          record {
            kept = refl;
            stands_at = either_way result (on_ok_both result (λ ok quiet. anew_holds anew.stands_on moved ok quiet) anew.ok anew.quiet)
                (on_err result (λ (j : after ≡ record position { failed = true }). cut_holds after anew.stands_on moved (ap (λ (p : Position). p.failed) j)) anew.fails);
            same = anew_same;
            since = anew_since;
            goes = record {
              journal = moved;
              fails = λ bad. ap (λ (p : Position). p.failed) (err_there result bad anew.fails);
              goes_on = λ good. ap (λ (p : Position). p.failed) (ok_there result good anew.goes_on);
              puts = puts;
              within = λ halves. anew.within;
            };
          }

-- What keeps a state that is seen as it is holds it.
module _ {D S C : Type 0} (g : Ghosts D) (fresh : ℕ → S) (number : S → ℕ) (step : S → Record → Option S) (form : Form S C) (layout_is : form.layout ≡ Growing)
    (standing : (blocks : ℕ) (octets : List ℕ) → form.standing blocks octets ≡ stands_for fresh step form.magic form.layout blocks octets) where
  pub kept_stands : (journal : Position) (now : S) (disk : D) → journal.magic ≡ form.magic → journal.layout ≡ form.layout → IsKept g form (kept_on now journal disk)
      → StandsAt g form (growing_steps fresh number step) journal now disk
  kept_stands journal now disk magic_is same_layout keeps = record {
    magic_is = magic_is;
    layout_is = same_layout;
    holds = record {
      keeps = record {
        stands_on = keeps.stands_on;
        ended = keeps.ended;
        content = λ fine. told_weaker (g.content disk) _ _ (λ octets told is. (
          now,
          ap (λ (m : List ℕ). stands_for fresh step m journal.layout journal.blocks octets) magic_is
              ∙ ap (λ (l : Layout). stands_for fresh step form.magic l journal.blocks octets) same_layout ∙ sym (standing journal.blocks octets) ∙ is,
          refl,
        )) (keeps.content fine);
        quiet = keeps.quiet;
      };
      reached = tt;
      number = λ has. absurd (subst HasBlocks (same_layout ∙ layout_is) has);
    };
  }
