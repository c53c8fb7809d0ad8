-- What a rewriting makes of a journal's store, and what a crash leaves of it.
use Rattle.std.proofs.Common.{◌≡◌, ◌⊎◌, inl, inr, ℕ, ◌+◌, ◌≤◌, Bool, true, false, true≢false, List, [], ◌∷◌, length, length-append, Some, IfSome, Result, Ok, Err, IsErr, OnErr, OnOk, refl, sym, ◌∙◌, ap, subst, arith, ◌≢◌, ◌<◌, ◌++◌, take, drop, append_assoc, length-drop, take-append-drop, take-take}
use Rattle.file_journal.proofs.Names.{common_steps, IsOctets, Only, Ghosts, TakesCalls, Makes, images_now, journal_of, store_of, half_gate, other_half, selector_of, IsAt, Position, StandsOn, left_to_read, Record, records_text, whole, Chooses, IsChoosing, IsRewriting, KeepsBlocks, MayRewrite, Rewrites, WritesAnew, anew_text, other_gate, rewritten, Half, Layout, either_way, makes_weaker, on_err, on_ok_both, at_told, content_now, if_told, Halves, drop_at, length-take-le, take_all, take_at, AllByRecursion, Torn, HasHeader, HoldSame, block_in, first_gate, half_by, half_end, half_in, half_size, IsRecord, Lays, First, Second, kept_behind, torn_by}
use Rattle.file_journal.proofs.AppendLemmas.{Ends, all_end, ends_at, ends_store, ends_half, ends_kept, ends_there}
use Rattle.file_journal.proofs.BoundLemmas.{rewrite_stays, stays_same}
use Rattle.file_journal.proofs.FormatLemmas.{octet_there}
use Rattle.file_journal.proofs.JournalLemmas.{same_header}
use Rattle.file_journal.proofs.LayoutLemmas.{gate_behind, half_behind, same_half}
use Rattle.file_journal.proofs.OctetLemmas.{same_back, same_front}

-- ---- what a store stands for while the records in its other half are written anew, and once that half is chosen

-- what a torn write leaves before it
kept_front : (m at n : ℕ) (old new : List ℕ) → m ≤ at → m ≤ length old → Torn at n old new → take m new ≡ take m old
kept_front m at n old new before inside torn =
    sym (take-take m (length old) new inside) ∙ sym (take-take m at (take (length old) new) before) ∙ ap (take m) torn.before ∙ take-take m at old before

-- from a gate on stand these records, and then a gate that isn't open
pub record EndsFrom (entries : List Record) (octets : List ℕ) : Type 0 where
  pub gate : ℕ
  pub rest : List ℕ
  pub split : octets ≡ records_text entries ++ gate ∷ rest
  pub shut : gate ≢ 1

-- such octets are longer than the records
from_long : (entries : List Record) (at : ℕ) (octets : List ℕ) → EndsFrom entries (drop at octets) → at + length (records_text entries) < length octets
from_long entries at octets from = omega (arith, ap length from.split, length-drop at octets, length-append (records_text entries) (from.gate ∷ from.rest))

-- Octets that have a header, and in their half these records and then a gate that isn't open, end there.
module _ (magic : List ℕ) (layout : Layout) (blocks : ℕ) (chosen : Half) (entries : List Record) (place : ℕ) where
  abbrev start : ℕ
  start = half_gate layout blocks chosen

  behind_header : 16 ≤ half_gate layout blocks chosen
  behind_header = omega (arith, gate_behind layout blocks, half_behind layout blocks chosen)

  pub ends_of : (octets : List ℕ) → HasHeader magic blocks octets → half_in layout octets ≡ chosen → first_gate layout blocks + 2 ≤ length octets → AllByRecursion IsRecord entries
      → place ≡ half_gate layout blocks chosen + length (records_text entries) → IfSome (half_end layout blocks chosen) (λ end. place < end)
      → EndsFrom entries (drop (half_gate layout blocks chosen) octets) → Ends magic layout blocks chosen entries place octets
  ends_of octets head half_is long are is_place inside from =
      let at = half_gate layout blocks chosen in
      let same : take at (take at octets) ≡ take at octets = take-take at at octets (omega arith) in
      record {
        header = take at octets;
        gate = from.gate;
        rest = from.rest;
        head = same_header at magic blocks octets (take at octets) (omega (arith, behind_header)) same head;
        size = length-take-le at octets (omega (arith, from_long entries at octets from));
        half = same_half at layout octets (take at octets) behind_header same ∙ half_is;
        long = long;
        are = are;
        is_place = is_place;
        inside = inside;
        split =
            sym (take-append-drop at octets) ∙ ap (λ (l : List ℕ). take at octets ++ l) from.split
            ∙ sym (append_assoc (take at octets) (records_text entries) (from.gate ∷ from.rest));
        shut = from.shut;
      }

  module _ (octets : List ℕ) (ends : Ends magic layout blocks chosen entries place octets) where
    pub ends_rest : EndsFrom entries (drop (half_gate layout blocks chosen) octets)
    ends_rest = record {
      gate = ends.gate;
      rest = ends.rest;
      split =
          ap (drop (half_gate layout blocks chosen)) (ends.split ∙ append_assoc ends.header (records_text entries) (ends.gate ∷ ends.rest))
          ∙ drop_at ends.header (records_text entries ++ ends.gate ∷ ends.rest) (half_gate layout blocks chosen) ends.size;
      shut = ends.shut;
    }

    pub ends_head : HasHeader magic blocks octets
    ends_head =
        let at = half_gate layout blocks chosen in
        same_header at magic blocks ends.header octets (omega (arith, behind_header))
        (ap (take at) (ends.split ∙ append_assoc ends.header (records_text entries) (ends.gate ∷ ends.rest)) ∙ front ∙ sym (take_all at ends.header (omega (arith, ends.size)))) ends.head
      where
        front : take (half_gate layout blocks chosen) (ends.header ++ (records_text entries ++ ends.gate ∷ ends.rest)) ≡ ends.header
        front = take_at ends.header (records_text entries ++ ends.gate ∷ ends.rest) (half_gate layout blocks chosen) ends.size

-- What stands in a half is as it was where the other one is torn.
kept_from : (magic : List ℕ) (blocks : ℕ) (chosen : Half) (passed : List Record) (place n : ℕ) (before image : List ℕ) → Ends magic Halves blocks chosen passed place before → n ≤ half_size blocks
    → Torn (half_gate Halves blocks (other_half chosen)) n before image → EndsFrom passed (drop (half_gate Halves blocks chosen) image)
kept_from magic blocks First passed place n before image ends within torn =
    let same = kept_front (place + 1) (half_gate Halves blocks Second) n before image (omega (arith, ends.inside)) (omega (arith, ends_there magic Halves blocks First passed place before ends)) torn in
    ends_rest magic Halves blocks First passed place image (ends_kept magic Halves blocks First passed place before ends image same torn.no_shorter)
kept_from magic blocks Second passed place n before image ends within torn =
    let there = ends_there magic Halves blocks Second passed place before ends in
    subst (λ (l : List ℕ). EndsFrom passed l) (sym (kept_behind (half_gate Halves blocks Second) (half_gate Halves blocks First) n before image (omega (arith, within)) torn)) (ends_rest magic Halves blocks Second passed place before ends)

-- so many octets have room in a half, with a gate
half_inside : (blocks n : ℕ) (chosen : Half) → n + 1 ≤ half_size blocks → IfSome (half_end Halves blocks chosen) (λ end. half_gate Halves blocks chosen + n < end)
half_inside blocks n chosen le = grind arith

-- there are two halves
one_half : (one chosen : Half) → (one ≡ chosen) ⊎ (one ≡ other_half chosen)
one_half First First = inl refl
one_half Second Second = inl refl
one_half First Second = inr refl
one_half Second First = inr refl

-- a selector says its half
by_selector : (chosen : Half) → half_by Halves (selector_of chosen) ≡ chosen
by_selector chosen = grind arith

-- A store of two halves whose records end in one, and records for the other.
module _ (magic : List ℕ) (blocks : ℕ) (chosen : Half) (passed entries : List Record) (place : ℕ) (before : List ℕ) (ends : Ends magic Halves blocks chosen passed place before)
    (are : AllByRecursion IsRecord entries) (fits : length (records_text entries) + 1 ≤ half_size blocks) where
  -- the blocks and the header stand before both halves
  new_behind : first_gate Halves blocks ≤ half_gate Halves blocks (other_half chosen)
  new_behind = half_behind Halves blocks (other_half chosen)

  -- While the other half is torn.
  module _ (image : List ℕ) (torn : Torn (half_gate Halves blocks (other_half chosen)) (length (records_text entries ++ 0 ∷ [])) before image) where
    torn_front : (m : ℕ) → m ≤ first_gate Halves blocks → take m image ≡ take m before
    torn_front m le = grind (arith, common_steps, kept_front, new_behind)

    torn_long : first_gate Halves blocks + 2 ≤ length image
    torn_long = omega (arith, ends.long, torn.no_shorter)

    torn_head : HasHeader magic blocks image
    torn_head = same_header 16 magic blocks before image (omega arith) (torn_front 16 (omega arith)) (ends_head magic Halves blocks chosen passed place before ends)

    torn_half : half_in Halves image ≡ chosen
    torn_half = same_half 16 Halves before image (omega arith) (torn_front 16 (omega arith)) ∙ ends_half magic Halves blocks chosen passed place before ends

    pub torn_blocks : (block : ℕ) → block < blocks → block_in image block ≡ block_in before block
    torn_blocks block lt = same_front before image (first_gate Halves blocks) block (omega (arith, lt)) (torn_front (first_gate Halves blocks) (omega arith))

    torn_from : EndsFrom passed (drop (half_gate Halves blocks chosen) image)
    torn_from = kept_from magic blocks chosen passed place (length (records_text entries ++ 0 ∷ [])) before image ends (omega (arith, (length-append (records_text entries) (0 ∷ [])), fits)) torn

    pub torn_ends : Ends magic Halves blocks chosen passed place image
    torn_ends = ends_of magic Halves blocks chosen passed place image torn_head torn_half torn_long ends.are ends.is_place ends.inside torn_from

  -- Once it is written, and octet 15 is any.
  module _ (staged image : List ℕ) (lays : Lays (half_gate Halves blocks (other_half chosen)) (records_text entries ++ 0 ∷ []) before staged) (torn : Torn 15 1 staged image) where
    staged_long : first_gate Halves blocks + 2 ≤ length staged
    staged_long = torn_long staged lays.torn

    image_long : first_gate Halves blocks + 2 ≤ length image
    image_long = omega (arith, staged_long, torn.no_shorter)

    image_head : HasHeader magic blocks image
    image_head = same_header 15 magic blocks staged image (omega arith) (kept_front 15 15 1 staged image (omega arith) (omega (arith, staged_long)) torn) (torn_head staged lays.torn)

    image_behind : (m : ℕ) → 16 ≤ m → drop m image ≡ drop m staged
    image_behind m le = kept_behind m 15 1 staged image (omega (arith, le)) torn

    pub image_blocks : (block : ℕ) → block < blocks → block_in image block ≡ block_in before block
    image_blocks block lt = same_back staged image 16 block (omega arith) (image_behind 16 (omega arith)) ∙ torn_blocks staged lays.torn block lt

    old_from : EndsFrom passed (drop (half_gate Halves blocks chosen) image)
    old_from = subst (λ (l : List ℕ). EndsFrom passed l) (sym (image_behind (half_gate Halves blocks chosen) (omega (arith, half_behind Halves blocks chosen)))) (torn_from staged lays.torn)

    new_from : EndsFrom entries (drop (half_gate Halves blocks (other_half chosen)) image)
    new_from =
        let at = half_gate Halves blocks (other_half chosen) in
        let n = length (records_text entries ++ 0 ∷ []) in
        record {
          gate = 0;
          rest = drop n (drop at staged);
          split =
              image_behind at (omega (arith, new_behind)) ∙ sym (take-append-drop n (drop at staged)) ∙ ap (λ (l : List ℕ). l ++ drop n (drop at staged)) lays.there
              ∙ append_assoc (records_text entries) (0 ∷ []) (drop n (drop at staged));
          shut = λ is_open. cc;
        }

    pub old_ends : half_in Halves image ≡ chosen → Ends magic Halves blocks chosen passed place image
    old_ends is = ends_of magic Halves blocks chosen passed place image image_head is image_long ends.are ends.is_place ends.inside old_from

    pub new_ends : half_in Halves image ≡ other_half chosen
        → Ends magic Halves blocks (other_half chosen) entries (half_gate Halves blocks (other_half chosen) + length (records_text entries)) image
    new_ends is =
        ends_of magic Halves blocks (other_half chosen) entries (half_gate Halves blocks (other_half chosen) + length (records_text entries)) image image_head is image_long are refl
        (half_inside blocks (length (records_text entries)) (other_half chosen) fits) new_from

  -- each image while it is done
  pub choosing : (image : List ℕ) → IsChoosing (half_gate Halves blocks (other_half chosen)) (records_text entries ++ 0 ∷ []) before image
      → ((journal_of magic Halves image ≡ journal_of magic Halves before) ⊎ (journal_of magic Halves image ≡ store_of blocks (whole entries)))
      × HoldSame (λ block. block < blocks) (block_in before) (block_in image)
  choosing image (inl torn) = (
    inl (ends_store magic Halves blocks chosen passed place image (torn_ends image torn) ∙ sym (ends_store magic Halves blocks chosen passed place before ends)),
    torn_blocks image torn,
  )
  choosing image (inr chosen_there) =
      let staged = chosen_there.0 in
      let lays = chosen_there.1 in
      let torn = chosen_there.2 in (
        elim (one_half (half_in Halves image) chosen) [
          | inl old ↦
              inl (ends_store magic Halves blocks chosen passed place image (old_ends staged image lays torn old) ∙ sym (ends_store magic Halves blocks chosen passed place before ends))
          | inr new ↦ inr (ends_store magic Halves blocks (other_half chosen) entries _ image (new_ends staged image lays torn new))
        ],
        image_blocks staged image lays torn,
      )

  -- what it makes
  pub chosen_ends : (now : List ℕ) → Chooses (half_gate Halves blocks (other_half chosen)) (records_text entries ++ 0 ∷ []) (selector_of (other_half chosen)) before now
      → Ends magic Halves blocks (other_half chosen) entries (half_gate Halves blocks (other_half chosen) + length (records_text entries)) now
      × HoldSame (λ block. block < blocks) (block_in before) (block_in now)
  chosen_ends now chooses =
      let selector = selector_of (other_half chosen) in
      let torn = torn_by 15 (selector ∷ []) chooses.staged now chooses.chosen in
      let is : half_in Halves now ≡ other_half chosen = ap (half_by Halves) (octet_there 15 selector now chooses.chosen.there) ∙ by_selector (other_half chosen) in (
        new_ends chooses.staged now chooses.lays torn is,
        image_blocks chooses.staged now chooses.lays torn,
      )

-- ---- what a rewriting makes of a journal's store

-- the journal that goes on in the other half
pub rewritten_is : (journal seen : Position) (entries : List Record) (gate end : ℕ) (chosen : Half) → seen ≡ record journal { half = chosen; place = end } → chosen ≡ other_half journal.half
    → gate ≡ half_gate journal.layout journal.blocks (other_half journal.half) → end ≡ gate + length (records_text entries) → journal.failed ≡ false → seen ≡ rewritten journal entries
rewritten_is journal seen entries gate end chosen seen_is chosen_is gate_is end_is ok = grind (arith, common_steps)

-- the same of another answer of the same kind
pub anew_other : {D T E U F : Type 0} (g : Ghosts D) (entries : List Record) (before now : Position) (old new : D) (result : Result T E) (other : Result U F) → (IsErr result → IsErr other) → (IsErr other → IsErr result)
    → WritesAnew g entries before now old new result → WritesAnew g entries before now old new other
anew_other g entries before now old new (Ok x) (Ok y) there back anew =
    record { stands_on = anew.stands_on; ok = anew.ok; quiet = anew.quiet; goes_on = anew.goes_on; fails = tt; since = anew.since; calls = record { each = anew.calls.each; at_most = anew.calls.at_most }; within = anew.within }
anew_other g entries before now old new (Err e) (Err f) there back anew =
    record { stands_on = anew.stands_on; ok = tt; quiet = tt; goes_on = tt; fails = anew.fails; since = anew.since; calls = record { each = tt; at_most = anew.calls.at_most }; within = anew.within }
anew_other g entries before now old new (Ok x) (Err f) there back anew = absurd (true≢false (sym (back refl)))
anew_other g entries before now old new (Err e) (Ok y) there back anew = absurd (true≢false (sym (there refl)))

-- where the journal had failed before, nothing is written
pub anew_none : {D T E : Type 0} (g : Ghosts D) (entries : List Record) (journal : Position) (disk : D) (e : E) → journal.failed ≡ true → StandsOn g journal disk → WritesAnew {T = T} g entries journal journal disk disk (Err e)
anew_none g entries journal disk e failed stands = record {
  stands_on = stands;
  ok = tt;
  quiet = tt;
  goes_on = tt;
  fails = ap (λ (b : Bool). let so : Position = record journal { failed = b } in so) failed;
  since = λ healthy. absurd (true≢false (sym failed ∙ healthy));
  calls = record { each = tt; at_most = omega arith };
  within = stays_same g _ disk;
}

-- A journal of two halves that hasn't failed, and records that have room in the other one.
module _ {D : Type 0} (g : Ghosts D) (journal : Position) (entries : List Record) (old : D) (ok : journal.failed ≡ false) (may : MayRewrite journal entries) (stands : StandsOn g journal old) where
  now_ends : (before : List ℕ) → g.content old ≡ Some before → (passed : List Record) × Ends journal.magic Halves journal.blocks journal.half passed journal.place before
  now_ends before told =
      let all = all_end g journal old ok may.ended stands before told in
      (all.entries, subst (λ (l : Layout). Ends journal.magic l journal.blocks journal.half all.entries journal.place before) may.in_halves all.content)

  rewriting : (before image : List ℕ) → g.content old ≡ Some before → IsChoosing (other_gate journal) (anew_text entries) before image → IsRewriting journal entries before image
  rewriting before image told left =
      let ends = now_ends before told in
      let is =
      choosing journal.magic journal.blocks journal.half ends.0 entries journal.place before ends.1 may.records may.fits image
      (subst (λ (l : Layout). IsChoosing (half_gate l journal.blocks (other_half journal.half)) (anew_text entries) before image) may.in_halves left) in
      record {
        store =
            subst (λ (l : Layout). (journal_of journal.magic l image ≡ journal_of journal.magic l before) ⊎ (journal_of journal.magic l image ≡ store_of journal.blocks (whole entries)))
            (sym may.in_halves) is.0;
        octets = left;
        blocks = is.1;
      }

  now_chosen : (before now : List ℕ) → g.content old ≡ Some before → Chooses (other_gate journal) (anew_text entries) (selector_of (other_half journal.half)) before now
      → Ends journal.magic journal.layout journal.blocks (other_half journal.half) entries (other_gate journal + length (records_text entries)) now × KeepsBlocks journal before now
  now_chosen before now told chooses =
      let ends = now_ends before told in
      let is =
      chosen_ends journal.magic journal.blocks journal.half ends.0 entries journal.place before ends.1 may.records may.fits now
      (subst (λ (l : Layout). Chooses (half_gate l journal.blocks (other_half journal.half)) (anew_text entries) (selector_of (other_half journal.half)) before now) may.in_halves chooses) in (
        subst (λ (l : Layout). Ends journal.magic l journal.blocks (other_half journal.half) entries (half_gate l journal.blocks (other_half journal.half) + length (records_text entries)) now)
            (sym may.in_halves) is.0,
        is.1,
      )

  -- what it makes and leaves
  module _ {U E : Type 0} (result : Result U E) (new : D) (gate : ℕ) (chosen : Half) (gate_is : gate ≡ other_gate journal) (chosen_is : chosen ≡ other_half journal.half)
      (at_makes : Makes g result old new (Chooses gate (anew_text entries) (selector_of chosen)) (IsChoosing gate (anew_text entries))) where
    makes : Makes g result old new (Chooses (other_gate journal) (anew_text entries) (selector_of (other_half journal.half))) (IsChoosing (other_gate journal) (anew_text entries))
    makes =
        subst (λ (n : ℕ). Makes g result old new (Chooses n (anew_text entries) (selector_of (other_half journal.half))) (IsChoosing n (anew_text entries))) gate_is
        (subst (λ (h : Half). Makes g result old new (Chooses gate (anew_text entries) (selector_of h)) (IsChoosing gate (anew_text entries))) chosen_is at_makes)

    makes_anew : Makes g result old new (Rewrites journal entries) (IsRewriting journal entries)
    makes_anew = makes_weaker g result old new _ _ (Rewrites journal entries) (IsRewriting journal entries)
        (λ before now told chooses. let is = now_chosen before now told chooses in record { store = ends_store _ _ _ _ entries _ now is.0; octets = chooses; blocks = is.1 })
        (λ before image told left. rewriting before image told left) makes

    stands_anew : IfSome (g.content new) IsOctets → OnOk result (StandsOn g (rewritten journal entries) new)
    stands_anew are = on_ok_both result (λ step rest. inr (if_told (g.content new) _ (λ now told_now.
        let was = content_now _ _ _ now at_makes.puts.told step told_now in
        let at = ends_at (rewritten journal entries) entries now (at_told IsOctets now told_now are) (now_chosen was.0 now was.1 was.2).0 in (
          entries,
          at.0,
          λ image here.
              let same = at_told (Only (images_now g new)) now told_now rest image here in
              (subst (λ (l : List ℕ). IsAt (rewritten journal entries) entries l) (sym same) at.0, ap (left_to_read (rewritten journal entries)) same),
        )))) makes.ok makes.quiet

    pub writes_anew : (counts_now : (disk : D) (t : ℕ) (image : List ℕ) → t ≤ g.moment disk → g.images disk image → g.images_since disk t image)
        → (earlier : (disk : D) (t u : ℕ) (image : List ℕ) → t ≤ u → g.images_since disk u image → g.images_since disk t image) → (is_image : (disk : D) → IfSome (g.content disk) (g.images disk))
        → (after : Position) → OnOk result (after ≡ rewritten journal entries) → OnErr result (after ≡ record journal { failed = true }) → IfSome (g.content new) IsOctets
        → TakesCalls g (length entries + 4) old new result → WritesAnew g entries journal after old new result
    writes_anew counts_now earlier is_image after goes fails are calls = record {
      stands_on = either_way result (on_ok_both result (λ is there. subst (λ (p : Position). StandsOn g p new) (sym is) there) goes (stands_anew are)) (on_err result (λ is. inl (ap (λ (p : Position). p.failed) is)) fails);
      ok = makes_anew.ok;
      quiet = makes_anew.quiet;
      goes_on = goes;
      fails = fails;
      since = λ healthy. makes_anew.since;
      calls = calls;
      within = rewrite_stays g counts_now earlier is_image old new at_makes.puts.told journal (anew_text entries) (other_gate journal) (other_half journal.half) may.in_halves refl
          (let fits = may.fits in omega (arith, fits, length-append (records_text entries) (0 ∷ []))) makes.since;
    }
