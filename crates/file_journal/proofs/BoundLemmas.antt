-- How long a disk gets, and what stands behind its store.
use Rattle.std.proofs.Common.{◌≡◌, inl, inr, ⊎_elim, ℕ, ◌+◌, ◌<◌, ◌≤◌, true≢false, List, length, drop, is_some, Option, None, Some, IfSome, refl, sym, ◌∙◌, ap, subst, arith, ◌*◌, ◌⊎◌, false, [], ◌∷◌, length-append, Result}
use Rattle.file_journal.proofs.Names.{common_steps, cases_lt, drop_all, AreAmong, IsTold, TimePasses, Ghosts, IsTornFrom, LeavesAppending, HasBlock, LeavesWritingBlock, EndsIn, HasBehind, RecoversInHalves, StaysInHalves, StaysWithin, longest, ChangesReads, Leaves, TellsAlike, images_now, block_place, first_gate, half_end, half_gate, half_size, HasRoom, Position, Record, IsRecovering, gate_in, number_in, IsChoosing, Half, Layout, reads_now, joined, reads, weaker, alike_same, at_told, if_told, told_before, told_weaker, Halves, Form, StandsAt, Blocks, HasBlocks, rewriting_calls, MovesOn, end_of, room_in, record_text, records_text, MayRewrite, WritesAnew, IsSeenBy, Steps, Growing, InBlocks, kept_behind}

-- what is told is something
some_of : (o : Option (List ℕ)) → IsTold o → (x : List ℕ) × (o ≡ Some x)
some_of None told = absurd (true≢false (sym told))
some_of (Some x) told = (x, refl)

module _ {D : Type 0} (g : Ghosts D) where
  -- by reads alone
  pub stays_reads : (most : ℕ) (old new : D) → ChangesReads g old new → StaysWithin g most old new
  stays_reads most old new only bound behind le = record {
    told = (alike_same _ _ only.same_content).1;
    now = λ had.
        if_told (g.content new) _ (λ now told.
        let was = at_told _ now (sym only.same_content ∙ told) had in
        (was.0, λ image left. was.1 image (reads_now g old new only image left)));
    since = λ had. if_told (g.content old) _ (λ before told. reads g.moment g.images_since old new _ only.same_moment only.same_past);
  }

  -- where nothing is called
  pub stays_same : (most : ℕ) (disk : D) → StaysWithin g most disk disk
  stays_same most disk =
      stays_reads most disk disk
      (record { same_content = refl; same_images = λ image. (λ now. now, λ was. was); same_moment = refl; same_past = λ t image. (λ now. now, λ was. was); same_write_faults = refl })

  -- by one run of calls and another
  pub stays_on : (most : ℕ) (old mid new : D) → StaysWithin g most old mid → StaysWithin g most mid new → StaysWithin g most old new
  stays_on most old mid new first second bound behind le =
      let early = first bound behind le in
      let late = second bound behind le in
      record {
        told = λ told. late.told (early.told told);
        now = λ had. late.now (early.now had);
        since = λ had.
            if_told (g.content old) _ (λ before told.
            let mid_told = some_of _ (early.told (ap is_some told)) in
            joined g.moment g.images_since old mid new _ (at_told _ before told (early.since had)) (at_told _ mid_told.0 mid_told.1 (late.since (early.now had))));
      }

  -- what is torn from an image from before in a range that ends within so many octets has the same behind them
  pub torn_within : (counts_now : (disk : D) (t : ℕ) (image : List ℕ) → t ≤ g.moment disk → g.images disk image → g.images_since disk t image) (bound : ℕ) (behind : List ℕ) (old : D)
      → HasBehind g bound behind old → (before : List ℕ) → g.content old ≡ Some before → (at count : ℕ) → at + count ≤ bound → (image : List ℕ) → IsTornFrom (g.images old) at count image
      → EndsIn bound behind image
  torn_within counts_now bound behind old had before is at count ends image torn =
      kept_behind bound at count torn.0 image ends torn.2 ∙ (at_told _ before is had).1 torn.0 (counts_now old (g.moment old) torn.0 (omega arith) torn.1)

  -- by what a crash leaves of a run of calls
  module _ (counts_now : (disk : D) (t : ℕ) (image : List ℕ) → t ≤ g.moment disk → g.images disk image → g.images_since disk t image)
      (earlier : (disk : D) (t u : ℕ) (image : List ℕ) → t ≤ u → g.images_since disk u image → g.images_since disk t image)
      (is_image : (disk : D) → IfSome (g.content disk) (g.images disk)) (most : ℕ) (old new : D) (told : TellsAlike (g.content old) (g.content new)) where
    pub stays_by : (stands : List ℕ → List ℕ → Type 0) → Leaves g old new stands
        → ((bound : ℕ) (behind : List ℕ) → most ≤ bound → HasBehind g bound behind old → (before : List ℕ) → g.content old ≡ Some before → (image : List ℕ) → stands before image
        → EndsIn bound behind image)
        → StaysWithin g most old new
    stays_by stands leaves fits bound behind le =
        let since : HasBehind g bound behind old → Leaves g old new (λ before. EndsIn bound behind) =
        λ had. told_weaker (g.content old) _ _ (λ before is left. weaker g.moment g.images_since old new _ _ (fits bound behind le had before is) left) leaves in
        record {
          told = told.1;
          now = λ had.
              if_told (g.content new) _ (λ now is.
              let was = told_before _ _ now told is in
              let left = at_told _ was.0 was.1 (since had) in
              let each : (image : List ℕ) → images_now g new image → EndsIn bound behind image =
              λ image here. ⊎_elim (λ past. (at_told _ was.0 was.1 had).1 image past) (λ same. same) (left.each (g.moment old) image (omega arith) (earlier new (g.moment old) (g.moment new) image left.later here)) in
              (each now (counts_now new (g.moment new) now (omega arith) (at_told _ now is (is_image new))), each));
          since = since;
        }

    -- by a sync
    pub stays_sync : AreAmong (g.images new) (g.images old) → TimePasses g.moment g.images g.images_since old new → StaysWithin g most old new
    stays_sync among time =
        stays_by (λ before image. ⊥)
        (if_told (g.content old) _ (λ before is. record {
          later = time.later;
          each = λ t image le left. inl (⊎_elim (λ past. past) (λ here. counts_now old t image le (among image here)) (time.nothing_else t image le left));
        }))
        (λ bound behind le had before is image never. absurd never)

    -- by octets that are torn in a range that ends within so many
    pub stays_torn : (at count : ℕ) → at + count ≤ most → Leaves g old new (λ _. IsTornFrom (g.images old) at count) → StaysWithin g most old new
    stays_torn at count ends leaves =
        stays_by (λ _. IsTornFrom (g.images old) at count) leaves
        (λ bound behind le had before is image torn. torn_within counts_now bound behind old had before is at count (omega (arith, ends, le)) image torn)

module _ {D : Type 0} (g : Ghosts D) where
  -- the same of two halves
  pub halves_same : (layout : Layout) (blocks : ℕ) (disk : D) → StaysInHalves g layout blocks disk disk
  halves_same layout blocks disk in_halves = stays_same g (longest blocks) disk

  pub halves_reads : (layout : Layout) (blocks : ℕ) (old new : D) → ChangesReads g old new → StaysInHalves g layout blocks old new
  halves_reads layout blocks old new only in_halves = stays_reads g (longest blocks) old new only

  pub halves_on : (layout other_layout : Layout) (blocks other : ℕ) (old mid new : D) → other_layout ≡ layout → other ≡ blocks
      → StaysInHalves g layout blocks old mid → StaysInHalves g other_layout other mid new → StaysInHalves g layout blocks old new
  halves_on layout other_layout blocks other old mid new same number first second in_halves =
      stays_on g (longest blocks) old mid new (first in_halves) (subst (λ (n : ℕ). StaysWithin g (longest n) mid new) number (second (same ∙ in_halves)))

  -- a recovery, and reads behind it
  pub recovers_reads : (layout : Layout) (blocks : ℕ) (old mid new : D) → ChangesReads g mid new → RecoversInHalves g layout blocks old mid → RecoversInHalves g layout blocks old new
  recovers_reads layout blocks old mid new only first = told_weaker (g.content old) _ _ (λ before told within. halves_on layout layout (number_in blocks before) _ old mid new refl refl within (halves_reads layout _ mid new only)) first

  -- and calls behind it, of a journal that has that block number
  pub recovers_on : (layout : Layout) (blocks number : ℕ) (old mid new : D) → IfSome (g.content old) (λ before. number ≡ number_in blocks before) → RecoversInHalves g layout blocks old mid
      → StaysInHalves g layout number mid new → RecoversInHalves g layout blocks old new
  recovers_on layout blocks number old mid new same first later = if_told (g.content old) _ (λ before told.
      halves_on layout layout (number_in blocks before) number old mid new refl (at_told (λ (l : List ℕ). number ≡ number_in blocks l) before told same)
      (at_told (λ (l : List ℕ). StaysInHalves g layout (number_in blocks l) old mid) before told first) later)

  -- a recovery of a disk that got no longer before it
  pub recovers_none : (layout : Layout) (blocks : ℕ) (old new : D) → ((most : ℕ) → StaysWithin g most old new) → RecoversInHalves g layout blocks old new
  recovers_none layout blocks old new stays = if_told (g.content old) _ (λ before told in_halves. stays _)

  pub recovers_behind : (layout : Layout) (blocks : ℕ) (old mid new : D) → g.content mid ≡ g.content old → ((most : ℕ) → StaysWithin g most old mid) → RecoversInHalves g layout blocks mid new
      → RecoversInHalves g layout blocks old new
  recovers_behind layout blocks old mid new same stays later = if_told (g.content old) _ (λ before told.
      halves_on layout layout (number_in blocks before) (number_in blocks before) old mid new refl refl (λ in_halves. stays _)
      (at_told (λ (l : List ℕ). StaysInHalves g layout (number_in blocks l) mid new) before (same ∙ told) later))

-- ---- where a store in two halves has its records and its blocks

-- each half ends within the most octets of the store
pub half_longest : (blocks : ℕ) (chosen : Half) → half_gate Halves blocks chosen + half_size blocks ≤ longest blocks
half_longest blocks chosen = grind arith

-- so does a record with the gates around it that there is room for
pub room_longest : (journal : Position) (count : ℕ) → journal.layout ≡ Halves → HasRoom journal count → journal.place + 1 + count ≤ longest journal.blocks
room_longest journal count in_halves room = grind (arith, common_steps, half_longest)

-- so does the header
header_longest : (blocks : ℕ) → 16 ≤ longest blocks
header_longest blocks = omega arith

some_same : (a b : List ℕ) → Some a ≡ Some b → a ≡ b
some_same a b same = cc same

-- ---- the calls of a journal

module _ {D : Type 0} (g : Ghosts D) (counts_now : (disk : D) (t : ℕ) (image : List ℕ) → t ≤ g.moment disk → g.images disk image → g.images_since disk t image)
    (earlier : (disk : D) (t u : ℕ) (image : List ℕ) → t ≤ u → g.images_since disk u image → g.images_since disk t image) (is_image : (disk : D) → IfSome (g.content disk) (g.images disk))
    (old new : D) (told : TellsAlike (g.content old) (g.content new)) where
  pub append_stays : (journal : Position) (entry : Record) → HasRoom journal (4 + length entry.content) → LeavesAppending g journal entry old new → StaysInHalves g journal.layout journal.blocks old new
  append_stays journal entry room leaves in_halves =
      stays_torn g counts_now earlier is_image (longest journal.blocks) old new told journal.place (5 + length entry.content)
      (let ends = room_longest journal (4 + length entry.content) in_halves room in omega (arith, ends))
      (told_weaker (g.content old) _ _ (λ before is left. weaker g.moment g.images_since old new _ _ (λ image there. there.beside) left) leaves)

  pub block_stays : (journal : Position) (block count : ℕ) → HasBlock journal block → count ≤ 512 → LeavesWritingBlock g journal block count old new → StaysInHalves g journal.layout journal.blocks old new
  block_stays journal block count has most leaves in_halves =
      stays_torn g counts_now earlier is_image (longest journal.blocks) old new told (block_place block) count (omega (arith, has.there, most))
      (told_weaker (g.content old) _ _ (λ before is left. weaker g.moment g.images_since old new _ _ (λ image there. there.beside) left) leaves)

  pub rewrite_stays : (journal : Position) (text : List ℕ) (gate : ℕ) (chosen : Half) → journal.layout ≡ Halves → gate ≡ half_gate journal.layout journal.blocks chosen → length text ≤ half_size journal.blocks
      → Leaves g old new (IsChoosing gate text) → StaysWithin g (longest journal.blocks) old new
  rewrite_stays journal text gate chosen in_halves gate_is fits leaves =
      let ends : gate + length text ≤ longest journal.blocks = omega (arith, subst (λ (l : Layout). gate ≡ half_gate l journal.blocks chosen) in_halves gate_is, fits, half_longest journal.blocks chosen) in
      stays_by g counts_now earlier is_image (longest journal.blocks) old new told (IsChoosing gate text) leaves
      (λ bound behind le had before is image left.
      let same = (at_told _ before is had).0 in
      let inside : gate + length text ≤ bound = omega (arith, ends, le) in
      elim left [
        | inl torn ↦ kept_behind bound gate (length text) before image inside torn ∙ same
        | inr chosen_there ↦
            kept_behind bound 15 1 chosen_there.0 image (omega (arith, le, header_longest journal.blocks)) chosen_there.2
            ∙ kept_behind bound gate (length text) before chosen_there.0 inside chosen_there.1.torn ∙ same
      ])

  pub recovery_stays : (magic : List ℕ) (layout : Layout) (blocks : ℕ) → Leaves g old new (IsRecovering magic layout blocks) → RecoversInHalves g layout blocks old new
  recovery_stays magic layout blocks leaves = if_told (g.content old) _ (λ before told_before in_halves.
      stays_by g counts_now earlier is_image (longest (number_in blocks before)) old new told (IsRecovering magic layout blocks) leaves
      (λ bound behind le had other is image left.
      let had_before = (at_told _ other is had).0 in
      let gate : gate_in layout blocks other + 2 ≤ longest (number_in blocks before) =
      subst (λ (l : Layout). first_gate l (number_in blocks other) + 2 ≤ longest (number_in blocks before)) (sym in_halves)
      (subst (λ (l : List ℕ). first_gate Halves (number_in blocks other) + 2 ≤ longest (number_in blocks l)) (some_same other before (sym is ∙ told_before)) (omega arith)) in
      elim (cases_lt (length other) (gate_in layout blocks other + 2)) [
        | inl short ↦ drop_all bound image (omega (arith, left.no_longer short, gate, le)) ∙ sym (drop_all bound other (omega (arith, short, gate, le))) ∙ had_before
        | inr long ↦ ap (drop bound) (left.formatted long) ∙ had_before
      ]))

-- ---- where a journal has no room for a record, and how room is made for it

-- where there is room for so many octets, and where there isn't
pub room_there : (journal : Position) (count : ℕ) → 1 ≤ count → count ≤ room_in journal.place (end_of journal) → HasRoom journal count
room_there journal count some enough = by (end_of journal) enough
  where
    by : (end : Option ℕ) → count ≤ room_in journal.place end → IfSome end (λ e. journal.place + 1 + count ≤ e)
    by None there = tt
    by (Some end) there = omega (arith, there, some)

pub no_room : (journal : Position) (count : ℕ) → count ≤ 604 → room_in journal.place (end_of journal) < count → HasRoom journal count → ⊥
no_room journal count most less has = by (end_of journal) less has
  where
    by : (end : Option ℕ) → room_in journal.place end < count → IfSome end (λ e. journal.place + 1 + count ≤ e) → ⊥
    by None few there = omega (arith, few, most)
    by (Some end) few there = omega (arith, few, there)

-- records have an end where there is no room, and so two halves
pub halves_without : (journal : Position) (count : ℕ) → (HasRoom journal count → ⊥) → journal.layout ≡ Halves
halves_without journal count none = by journal.layout none
  where
    by : (l : Layout) → (IfSome (half_end l journal.blocks journal.half) (λ end. journal.place + 1 + count ≤ end) → ⊥) → l ≡ Halves
    by Growing full = absurd (full tt)
    by InBlocks full = absurd (full tt)
    by Halves full = refl

-- and there is room, or there is none
room_or : (journal : Position) (count : ℕ) → HasRoom journal count ⊎ (HasRoom journal count → ⊥)
room_or journal count = by (end_of journal)
  where
    by : (end : Option ℕ) → IfSome end (λ e. journal.place + 1 + count ≤ e) ⊎ (IfSome end (λ e. journal.place + 1 + count ≤ e) → ⊥)
    by None = inl tt
    by (Some end) = elim (cases_lt end (journal.place + 1 + count)) [
      | inl few ↦ inr (λ has. omega (arith, few, has))
      | inr enough ↦ inl enough
    ]

-- a journal of which nothing but its failing changed goes on in its half behind a record
pub moves_over : (first mid last : Position) (count len : ℕ) → mid ≡ record first { failed = mid.failed } → MovesOn len mid last → len ≡ count → MovesOn count first last
moves_over first mid last count len failed moves is = record {
  half = moves.half ∙ ap (λ (p : Position). p.half) failed;
  place = omega (arith, moves.place, ap (λ (p : Position). p.place) failed, is);
}

-- each record has four octets at least, so a rewriting makes no more calls than that
records_few : (entries : List Record) → 4 * length entries ≤ length (records_text entries)
records_few [] = omega arith
records_few (entry ∷ entries) = omega (arith, records_few entries, length-append (record_text entry) (records_text entries))

rewriting_most : (blocks : ℕ) (entries : List Record) → length (records_text entries) + 1 ≤ half_size blocks → length entries + 4 ≤ rewriting_calls blocks
rewriting_most blocks entries fits = omega (arith, records_few entries, fits)

module _ {D S K V C : Type 0} (g : Ghosts D) (steps : Steps S K) (seen : Blocks → K → V) (form : Form V C) (law : IsSeenBy steps seen form) (position : Position) (now : K) (disk : D)
    (at : StandsAt g form steps position now disk) (healthy : position.failed ≡ false) (in_halves : position.layout ≡ Halves) where
  number : position.blocks ≡ steps.number now
  number = at.holds.number (subst HasBlocks (sym in_halves) tt)

  -- the records that make what is kept anew may be written
  pub may_anew : MayRewrite position (steps.anew now)
  may_anew =
      let made = law.anew (sym at.layout_is ∙ in_halves) in
      record {
        in_halves = in_halves;
        ended = at.holds.keeps.ended healthy;
        records = made.are_records now at.holds.reached;
        fits = omega (arith, made.fits now at.holds.reached, ap half_size number);
      }

-- room is made in so many calls of the disk at most
pub made_few : {D S K V C T E : Type 0} (g : Ghosts D) (steps : Steps S K) (seen : Blocks → K → V) (form : Form V C) → IsSeenBy steps seen form → (position after : Position) (now : K) (old new : D) (count : ℕ) (result : Result T E)
    → StandsAt g form steps position now old → position.failed ≡ false → (HasRoom position count → new ≡ old) → (¬ HasRoom position count → WritesAnew g (steps.anew now) position after old new result)
    → g.moment new ≤ g.moment old + rewriting_calls position.blocks
made_few g steps seen form law position after now old new count result at healthy same anew = grind (arith, common_steps, rewriting_most, may_anew, halves_without, room_or)
