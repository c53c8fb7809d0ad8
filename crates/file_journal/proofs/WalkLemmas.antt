-- What a walk over records comes to, and how appends and recoveries keep what octets stand for.
use Rattle.std.proofs.Common.{◌≡◌, inl, inr, ℕ, ◌+◌, List, [], ◌∷◌, ◌++◌, length, Option, None, Some, refl, sym, ◌∙◌, ap, ap₂, arith, length-append, ◌⊎◌, subst}
use Rattle.file_journal.specs.Journal as journal
use Rattle.file_journal.specs.Walk.{no_store}
use Rattle.file_journal.proofs.Names.{half_gate, Takes, Reading, Record, broken, records_text, whole, with_end, with_record, with_records, IsOneStep, Stands, StandsForSame, damaged_at, number_or, on_from, stands_of, state, walk, walk_over, common_steps, Standing, ComesTo, IsOneWalk, IsRefusedAt, Half, Layout, Form, TellsItsNumber, standing_of, journal_of, Blocks, HasBlocks, HoldSame, block_in, half_in, IsSeenBy, Steps, growing_steps, walked, see, stands_for, Growing}
use Rattle.file_journal.proofs.ReadingLemmas.{all_broken, all_whole}

-- What comes of a gate is what comes of each state behind it.
on_step : {S : Type 0} (place : ℕ) (o : Option S) (f h : S → Stands S) (now after : S) → ((t : S) → f t ≡ state now → h t ≡ state after)
    → on_from place o f ≡ state now → on_from place o h ≡ state after
on_step place o f h now after each is = grind arith

on_none : {S : Type 0} (place : ℕ) (o : Option S) (f : S → Stands S) (now : S) → ((t : S) → f t ≡ state now → ⊥) → on_from place o f ≡ state now → ⊥
on_none place o f now each is = grind arith

module _ {S : Type 0} (step : S → Record → Option S) where
  -- a record in front
  walk_front : (before : S) (place : ℕ) (entry : Record) (reading : Reading)
      → walk step before place (with_record entry reading) ≡ on_from place (step before entry) (λ t. walk step t (place + 4 + length entry.content) reading)
  walk_front before place entry reading = grind arith

  -- one which is allowed
  pub walk_on : (before after : S) (place : ℕ) (entry : Record) (reading : Reading) → step before entry ≡ Some after
      → walk step before place (with_record entry reading) ≡ walk step after (place + 4 + length entry.content) reading
  walk_on before after place entry reading allowed = walk_front before place entry reading ∙ ap (λ (o : Option S). on_from place o (λ t. walk step t (place + 4 + length entry.content) reading)) allowed

  -- and one that isn't
  pub walk_refused : (before : S) (place : ℕ) (entry : Record) (reading : Reading) → step before entry ≡ None → walk step before place (with_record entry reading) ≡ damaged_at place
  walk_refused before place entry reading refused = walk_front before place entry reading ∙ ap (λ (o : Option S). on_from place o (λ t. walk step t (place + 4 + length entry.content) reading)) refused

  -- records in front, each of which is allowed
  pub walk_on_all : (entries : List Record) (before after : S) (place : ℕ) (reading : Reading) → Takes step before entries after
      → walk step before place (with_records entries reading) ≡ walk step after (place + length (records_text entries)) reading
  walk_on_all [] before after place reading takes =
      ap₂ (λ (s : S) (n : ℕ). walk step s n reading) (sym takes) (let same : place ≡ place + 0 = omega arith in same)
  walk_on_all (entry ∷ entries) before after place reading takes =
      let at : place + 4 + length entry.content + length (records_text entries) ≡ place + length (records_text (entry ∷ entries)) =
      omega (arith, length-append entry.content (records_text entries)) in
      walk_on before takes.0 place entry (with_records entries reading) takes.1
      ∙ walk_on_all entries takes.0 after (place + 4 + length entry.content) reading takes.2
      ∙ ap (λ (n : ℕ). walk step after n reading) at

  -- one record more
  pub takes_more : (entries : List Record) (before now after : S) (entry : Record) → Takes step before entries now → step now entry ≡ Some after → Takes step before (entries ++ entry ∷ []) after
  takes_more [] before now after entry takes allowed = (after, ap (λ (s : S). step s entry) (sym takes) ∙ allowed, refl)
  takes_more (first ∷ entries) before now after entry takes allowed = (takes.0, takes.1, takes_more entries takes.0 now after entry takes.2 allowed)

  -- no state stands before damage
  broken_no_state : (entries : List Record) (before now : S) (place at : ℕ) → walk_over step (λ s. damaged_at at) before place entries ≡ state now → ⊥
  broken_no_state [] before now place at is = cc is
  broken_no_state (entry ∷ entries) before now place at is =
      on_none place (step before entry) (λ t. walk_over step (λ s. damaged_at at) t (place + 4 + length entry.content) entries) now
      (λ t. broken_no_state entries t now (place + 4 + length entry.content) at) is

  -- a record behind whole ones
  whole_end : (entries : List Record) (before now after : S) (place : ℕ) (entry : Record) → walk_over step (λ s. state s) before place entries ≡ state now → step now entry ≡ Some after
      → walk_over step (λ s. state s) before place (entries ++ entry ∷ []) ≡ state after
  whole_end [] before now after place entry is allowed =
      let same : before ≡ now = cc is in
      ap (λ (o : Option S). on_from place o (λ t. state t)) (ap (λ (s : S). step s entry) same ∙ allowed)
  whole_end (first ∷ entries) before now after place entry is allowed =
      on_step place (step before first) (λ t. walk_over step (λ s. state s) t (place + 4 + length first.content) entries)
      (λ t. walk_over step (λ s. state s) t (place + 4 + length first.content) (entries ++ entry ∷ [])) now after
      (λ t here. whole_end entries t now after (place + 4 + length first.content) entry here allowed) is

  -- a record behind what was read
  pub walk_end : (reading : Reading) (before now after : S) (place : ℕ) (entry : Record) → walk step before place reading ≡ state now → step now entry ≡ Some after
      → walk step before place (with_end reading entry) ≡ state after
  walk_end x0 before now after place entry is allowed = grind (arith, common_steps, whole_end, broken_no_state)

  pub one_step : IsOneStep step
  one_step fresh layout chosen blocks (journal.no_store found) before after entry is allowed = absurd (cc is)
  one_step fresh layout chosen blocks journal.bad_number before after entry is allowed = absurd (cc is)
  one_step fresh layout chosen blocks (journal.store number reading) before after entry is allowed =
      walk_end reading (fresh (number_or blocks number)) before after (half_gate layout (number_or blocks number) chosen) entry is allowed

  pub for_same : StandsForSame step
  for_same fresh layout chosen blocks before now (inl same) = ap (stands_of fresh step layout chosen blocks) same
  for_same fresh layout chosen blocks before now (inr new) = ap (stands_of fresh step layout chosen blocks) new.1 ∙ sym (ap (stands_of fresh step layout chosen blocks) new.0)

-- ---- what is read comes to what the walk over it gives, and to nothing else

module _ {S : Type 0} (step : S → Record → Option S) where
  -- what is read comes to nothing else
  walk_from : (before : S) (place : ℕ) (reading : Reading) (stands : Stands S) → ComesTo step before place reading stands → stands ≡ walk step before place reading
  walk_from before place reading (no_store found) comes = absurd comes
  walk_from before place reading (state now) comes =
      sym (ap (walk step before place) (comes.1 ∙ sym (all_whole comes.0)) ∙ walk_on_all step comes.0 before now place (whole []) comes.2)
  walk_from before place reading (damaged_at at) comes = go comes.3
    where
      go : (reading ≡ broken comes.0 at) ⊎ IsRefusedAt step comes.1 place comes.0 reading at → damaged_at at ≡ walk step before place reading
      go (inl is) = sym (ap (walk step before place) (is ∙ sym (all_broken comes.0 at)) ∙ walk_on_all step comes.0 before comes.1 place (broken [] at) comes.2)
      go (inr refused) =
          ap (λ (n : ℕ). damaged_at n) refused.4
          ∙ sym (ap (walk step before place) refused.2 ∙ walk_on_all step comes.0 before comes.1 place (with_record refused.0 refused.1) comes.2
          ∙ walk_refused step comes.1 (place + length (records_text comes.0)) refused.0 refused.1 refused.3)

  -- a record in front, which is allowed
  comes_more : (before after : S) (place : ℕ) (entry : Record) (reading : Reading) (stands : Stands S) → step before entry ≡ Some after
      → ComesTo step after (place + 4 + length entry.content) reading stands → ComesTo step before place (with_record entry reading) stands
  comes_more before after place entry reading (no_store found) allowed comes = absurd comes
  comes_more before after place entry reading (state now) allowed comes =
      (entry ∷ comes.0, ap (with_record entry) comes.1, (after, allowed, comes.2))
  comes_more before after place entry reading (damaged_at at) allowed comes = (entry ∷ comes.0, comes.1, (after, allowed, comes.2), go comes.3)
    where
      go : (reading ≡ broken comes.0 at) ⊎ IsRefusedAt step comes.1 (place + 4 + length entry.content) comes.0 reading at
          → (with_record entry reading ≡ broken (entry ∷ comes.0) at) ⊎ IsRefusedAt step comes.1 place (entry ∷ comes.0) (with_record entry reading) at
      go (inl is) = inl (ap (with_record entry) is)
      go (inr refused) = inr (
        refused.0,
        refused.1,
        ap (with_record entry) refused.2,
        refused.3,
        omega (arith, refused.4, length-append entry.content (records_text comes.0)),
      )

  abbrev Comes : S → ℕ → Reading → Type 0
  Comes before place reading = ComesTo step before place reading (walk step before place reading)

  -- records in front of what ends a reading
  comes_all : (entries : List Record) (end : Reading) → ((before : S) (place : ℕ) → Comes before place end) → (before : S) (place : ℕ) → Comes before place (with_records entries end)
  comes_all [] end ends before place = ends before place
  comes_all (entry ∷ entries) end ends before place = go (λ s n. comes_all entries end ends s n) (step before entry) refl
    where
      go : ((s : S) (n : ℕ) → Comes s n (with_records entries end)) → (next : Option S) → step before entry ≡ next → Comes before place (with_record entry (with_records entries end))
      go on None refused =
          subst (λ (s : Stands S). ComesTo step before place (with_record entry (with_records entries end)) s) (sym (walk_refused step before place entry (with_records entries end) refused))
          ([], before, refl, inr (entry, with_records entries end, refl, refused, omega arith))
      go on (Some after) allowed =
          subst (λ (s : Stands S). ComesTo step before place (with_record entry (with_records entries end)) s) (sym (walk_on step before after place entry (with_records entries end) allowed))
          (comes_more before after place entry (with_records entries end) _ allowed (on after (place + 4 + length entry.content)))

  -- what is read comes to it
  comes : (before : S) (place : ℕ) (reading : Reading) → Comes before place reading
  comes before place (whole entries) =
      subst (λ (r : Reading). Comes before place r) (all_whole entries) (comes_all entries (whole []) (λ s n. ([], refl, refl)) before place)
  comes before place (broken entries at) =
      subst (λ (r : Reading). Comes before place r) (all_broken entries at) (comes_all entries (broken [] at) (λ s n. ([], s, refl, inl refl)) before place)

  pub one_walk : IsOneWalk step
  one_walk before place reading stands = grind (arith, common_steps, walk_from, comes)

  -- what each allowed record keeps is kept by all
  pub takes_keeps : (P : S → Type 0) → ((before after : S) (entry : Record) → P before → step before entry ≡ Some after → P after)
      → (entries : List Record) (before now : S) → P before → Takes step before entries now → P now
  takes_keeps P keeps [] before now holds takes = subst P (sym takes) holds
  takes_keeps P keeps (entry ∷ entries) before now holds takes =
      takes_keeps P keeps entries takes.0 now (keeps before takes.0 entry holds takes.1) takes.2

  pub walk_keeps : (P : S → Type 0) → ((before after : S) (entry : Record) → P before → step before entry ≡ Some after → P after)
      → (before now : S) (place : ℕ) (reading : Reading) → P before → walk step before place reading ≡ state now → P now
  walk_keeps P keeps before now place reading holds is =
      let came : ComesTo step before place reading (state now) = (one_walk before place reading (state now)).1 (sym is) in
      takes_keeps P keeps came.0 before now holds came.2

  module _ (fresh : ℕ → S) (layout : Layout) (chosen : Half) where
    -- Where a state tells the number of its fresh one, that number serves as well as the one that was given.
    pub own_number : (number : S → ℕ) → ((n : ℕ) → number (fresh n) ≡ n) → ((before after : S) (entry : Record) → step before entry ≡ Some after → number after ≡ number before)
        → (blocks : ℕ) (store : Standing) (now : S) → stands_of fresh step layout chosen blocks store ≡ state now → stands_of fresh step layout chosen (number now) store ≡ state now
    own_number number starts keeps blocks (journal.no_store found) now is = absurd (cc is)
    own_number number starts keeps blocks journal.bad_number now is = absurd (cc is)
    own_number number starts keeps blocks (journal.store (Some n) reading) now is = is
    own_number number starts keeps blocks (journal.store None reading) now is =
        let same : number now ≡ blocks =
        walk_keeps (λ (s : S). number s ≡ blocks) (λ before after entry holds allowed. keeps before after entry allowed ∙ holds) (fresh blocks) now (half_gate layout blocks chosen) reading (starts blocks) is in
        ap (λ (n : ℕ). walk step (fresh n) (half_gate layout n chosen) reading) same ∙ is

-- ---- what blocks hold that a state doesn't use changes nothing of it

-- nothing is seen otherwise than it is
pub see_same : {S : Type 0} (stands : Stands S) → see (λ (s : S). s) stands ≡ stands
see_same x0 = grind (arith, common_steps)

-- octets stand for a state, and are seen as this
pub seen_of : {S V : Type 0} (seen : S → V) (stands : Stands S) (now : V) → see seen stands ≡ state now → (s : S) × (stands ≡ state s) × (seen s ≡ now)
seen_of seen (no_store found) now is = absurd (cc is)
seen_of seen (damaged_at at) now is = absurd (cc is)
seen_of seen (state s) now is = (s, refl, cc is)

module _ {S K V C : Type 0} (steps : Steps S K) (seen : Blocks → K → V) (form : Form V C) (law : IsSeenBy steps seen form) where
  -- what octets stand for is what is kept of the state that they stand for, as it is seen
  pub seen_standing : (blocks : ℕ) (octets : List ℕ) (now : S) → walked steps form.magic form.layout blocks octets ≡ state now
      → standing_of form blocks octets ≡ state (seen (block_in octets) (steps.kept now))
  seen_standing blocks octets now is = law.standing blocks octets ∙ ap (see (λ (s : S). seen (block_in octets) (steps.kept s))) is

  -- what decided on a state decided on those that come of it
  decided_all : (held : Blocks) (entries : List Record) (before after : S) → steps.is_state before → Takes (steps.step held) before entries after → (block : ℕ) → steps.decides (steps.kept before) block
      → steps.decides (steps.kept after) block
  decided_all held [] before after reached takes block is = subst (λ (s : S). steps.decides (steps.kept s) block) (sym takes) is
  decided_all held (entry ∷ entries) before after reached takes block is =
      decided_all held entries takes.0 after (law.step_state held before takes.0 entry reached takes.1) takes.2 block (law.decided_on held before takes.0 entry reached takes.1 block is)

  -- records make states
  pub takes_state : (held : Blocks) (entries : List Record) (before after : S) → steps.is_state before → Takes (steps.step held) before entries after → steps.is_state after
  takes_state held [] before after reached takes = subst steps.is_state (sym takes) reached
  takes_state held (entry ∷ entries) before after reached takes = takes_state held entries takes.0 after (law.step_state held before takes.0 entry reached takes.1) takes.2

  -- a store that comes to a state is a list of records that make it
  pub made_there : (held : Blocks) (layout : Layout) (chosen : Half) (blocks : ℕ) (store : Standing) (now : S) → stands_of steps.fresh (steps.step held) layout chosen blocks store ≡ state now
      → (number : Option ℕ) × (entries : List Record) × (store ≡ journal.store number (whole entries)) × Takes (steps.step held) (steps.fresh (number_or blocks number)) entries now
  made_there held layout chosen blocks (journal.no_store found) now is = absurd (cc is)
  made_there held layout chosen blocks journal.bad_number now is = absurd (cc is)
  made_there held layout chosen blocks (journal.store number reading) now is =
      let came = (one_walk (steps.step held) (steps.fresh (number_or blocks number)) (half_gate layout (number_or blocks number) chosen) reading (state now)).1 (sym is) in
      (number, came.0, ap (journal.store number) came.1, came.2)

  -- and such records make a store that comes to it, in whichever half
  pub stands_made : (held : Blocks) (layout : Layout) (chosen : Half) (blocks : ℕ) (number : Option ℕ) (entries : List Record) (now : S) → Takes (steps.step held) (steps.fresh (number_or blocks number)) entries now
      → stands_of steps.fresh (steps.step held) layout chosen blocks (journal.store number (whole entries)) ≡ state now
  stands_made held layout chosen blocks number entries now takes =
      sym ((one_walk (steps.step held) (steps.fresh (number_or blocks number)) (half_gate layout (number_or blocks number) chosen) (whole entries) (state now)).0 (entries, refl, takes))

  -- so what a store comes to is a state that they make
  pub reached_there : (held : Blocks) (layout : Layout) (chosen : Half) (blocks : ℕ) (store : Standing) (now : S) → stands_of steps.fresh (steps.step held) layout chosen blocks store ≡ state now → steps.is_state now
  reached_there held layout chosen blocks found now is =
      let made = made_there held layout chosen blocks found now is in
      takes_state held made.1 (steps.fresh (number_or blocks made.0)) now (law.fresh_state (number_or blocks made.0)) made.3

  takes_same : (one other : Blocks) (entries : List Record) (before after : S) → steps.is_state before → HoldSame (steps.decides (steps.kept after)) one other → Takes (steps.step one) before entries after
      → Takes (steps.step other) before entries after
  takes_same one other [] before after reached same takes = takes
  takes_same one other (entry ∷ entries) before after reached same takes =
      let then = law.step_state one before takes.0 entry reached takes.1 in (
        takes.0,
        law.same_step one other before takes.0 entry reached takes.1 (λ block is. same block (decided_all one entries takes.0 after then takes.2 block is)),
        takes_same one other entries takes.0 after then same takes.2,
      )

  -- so records make a state whatever the other blocks hold
  pub uses_same : (one other : Blocks) (blocks : ℕ) (entries : List Record) (now : S) → HoldSame (steps.uses (steps.kept now)) one other → Takes (steps.step one) (steps.fresh blocks) entries now
      → Takes (steps.step other) (steps.fresh blocks) entries now
  uses_same one other blocks entries now same takes =
      takes_same one other entries (steps.fresh blocks) now (law.fresh_state blocks)
      (λ block decides. same block (law.decided (steps.kept now) block (law.kept_state now (takes_state one entries (steps.fresh blocks) now (law.fresh_state blocks) takes)) decides)) takes

  -- and a store stands for a state whatever they hold, and in whichever half its records are
  pub store_same : (one other : Blocks) (layout : Layout) (chosen half_now : Half) (blocks : ℕ) (store : Standing) (now : S) → HoldSame (steps.uses (steps.kept now)) one other
      → stands_of steps.fresh (steps.step one) layout chosen blocks store ≡ state now → stands_of steps.fresh (steps.step other) layout half_now blocks store ≡ state now
  store_same one other layout chosen half_now blocks found now same is =
      let made = made_there one layout chosen blocks found now is in
      ap (stands_of steps.fresh (steps.step other) layout half_now blocks) made.2
      ∙ stands_made other layout half_now blocks made.0 made.1 now (uses_same one other (number_or blocks made.0) made.1 now same made.3)

  -- a store without records stands for the same, whatever the blocks hold
  pub fresh_same : (one other : Blocks) (blocks : ℕ) → seen other (steps.kept (steps.fresh blocks)) ≡ seen one (steps.kept (steps.fresh blocks))
  fresh_same one other blocks = grind (arith, common_steps)

-- Whatever number octets were read with as what a state is seen as, they stand for that, where a state has the number of
-- its store.
pub seen_own_number : {S K V C : Type 0} (steps : Steps S K) (seen : Blocks → K → V) (form : Form V C)
    → ((blocks : ℕ) (octets : List ℕ) → form.standing blocks octets ≡ see (λ (s : S). seen (block_in octets) (steps.kept s)) (walked steps form.magic form.layout blocks octets))
    → ((held : Blocks) (now : K) → form.number (seen held now) ≡ steps.number now) → ((blocks : ℕ) → steps.number (steps.kept (steps.fresh blocks)) ≡ blocks)
    → ((held : Blocks) (before after : S) (entry : Record) → steps.step held before entry ≡ Some after → steps.number (steps.kept after) ≡ steps.number (steps.kept before)) → TellsItsNumber form
seen_own_number {S} {K} {V} steps seen form standing number_is fresh_number same_number blocks octets now is =
    let sees = λ (s : S). seen (block_in octets) (steps.kept s) in
    let made = seen_of sees (walked steps form.magic form.layout blocks octets) now (sym (standing blocks octets) ∙ is) in
    standing (form.number now) octets
    ∙ ap (see sees)
    (ap (λ (n : ℕ). walked steps form.magic form.layout n octets) (ap form.number (sym made.2) ∙ number_is (block_in octets) (steps.kept made.0))
    ∙ own_number (steps.step (block_in octets)) steps.fresh form.layout (half_in form.layout octets) (λ (s : S). steps.number (steps.kept s)) fresh_number
    (λ before after entry step. same_number (block_in octets) before after entry step) blocks (journal_of form.magic form.layout octets) made.0 made.1)
    ∙ ap (λ (v : V). state v) made.2

-- ---- a state that uses no blocks

module _ {S C : Type 0} (fresh : ℕ → S) (number : S → ℕ) (step : S → Record → Option S) (form : Form S C) (layout_is : form.layout ≡ Growing)
    (standing : (blocks : ℕ) (octets : List ℕ) → form.standing blocks octets ≡ stands_for fresh step form.magic form.layout blocks octets) where
  -- it is seen as it is
  pub growing_seen : TellsItsNumber form → ((before after : S) (entry : Record) → step before entry ≡ Some after → number after ≡ number before)
      → IsSeenBy (growing_steps fresh number step) (λ held now. now) form
  growing_seen own same_number = record {
    standing = λ blocks octets. standing blocks octets ∙ sym (see_same (stands_for fresh step form.magic form.layout blocks octets));
    own_number = own;
    fresh_state = λ blocks. tt;
    step_state = λ held before after entry reached is. tt;
    kept_state = λ now reached. tt;
    fresh_number = λ has blocks. absurd (subst HasBlocks layout_is has);
    same_number = λ held before after entry is. same_number before after entry is;
    fresh_none = λ blocks block uses. uses;
    growing = λ is now block uses. uses;
    within = λ now block reached uses. absurd uses;
    decided = λ now block reached uses. uses;
    decided_on = λ held before after entry reached is block uses. uses;
    same_step = λ one other before after entry reached is same. is;
    same_seen = λ one other now reached same. refl;
    anew = λ is. absurd (cc (sym layout_is ∙ is));
  }

  -- A fresh state that is the same whatever the number, or one that tells it: octets stand for the same by the number of
  -- what they stand for.
  pub own_always : ((one other : ℕ) → fresh one ≡ fresh other) → TellsItsNumber form
  own_always always blocks octets now is =
      standing (form.number now) octets ∙ by (journal_of form.magic form.layout octets) ∙ sym (standing blocks octets) ∙ is
    where
      chosen : Half
      chosen = half_in form.layout octets

      place : (one other : ℕ) → half_gate form.layout one chosen ≡ half_gate form.layout other chosen
      place one other = ap (λ (l : Layout). half_gate l one chosen) layout_is ∙ sym (ap (λ (l : Layout). half_gate l other chosen) layout_is)

      by : (stands : Standing) → stands_of fresh step form.layout chosen (form.number now) stands ≡ stands_of fresh step form.layout chosen blocks stands
      by x0 = grind (arith, common_steps, place)

  pub own_told : ((blocks : ℕ) → form.number (fresh blocks) ≡ blocks) → ((before after : S) (entry : Record) → step before entry ≡ Some after → form.number after ≡ form.number before) → TellsItsNumber form
  own_told starts keeps blocks octets now is =
      standing (form.number now) octets
      ∙ own_number step fresh form.layout (half_in form.layout octets) form.number starts keeps blocks (journal_of form.magic form.layout octets) now (sym (standing blocks octets) ∙ is)
