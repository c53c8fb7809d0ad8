-- What a look finds in octets, and what is owed to them.
use Rattle.std.proofs.Common.{◌≡◌, ⊎_elim, inl, inr, ℕ, ◌+◌, ◌<◌, ◌≤◌, List, [], length, get_or, None, Some, IfSome, refl, sym, ◌∙◌, ap, subst, arith, nat_le}
use Rattle.file_journal.specs.Header.{AreBlocks}
use Rattle.file_journal.specs.Looking.{Begins, IsFormatted, IsFound, IsInterrupted, IsUnformatted, Owes, SettlesInCalls}
use Rattle.file_journal.specs.Recovery.{RecoversInCalls}
use Rattle.file_journal.specs.declared.found.Found.{Found}
use Rattle.file_journal.specs.declared.found.Owed.{Owed}
use Rattle.file_journal.specs.declared.found.Owed.TheVariants as owed
use Rattle.file_journal.proofs.Names.{First, Half, HasGoodHeader, HasHeader, cond-false, gate_in, lt-leb, le32, number_in, IsAt, IsOctets, IsQuietNow, IsRecovered, IsSyncedFirst, Layout, Leaves, ChangesReads, Ghosts, Only, Position, Reading, Standing, StandsOn, at_told, changes_none, first_gate, half_in, if_told, images_now, joined, journal_of, left_to_read, position_at_first, reads, reads_now, store, told_weaker, TimePasses}
use Rattle.disk_model.proofs.Offered.{once}
use Rattle.file_journal.proofs.JournalLemmas.{of_full, of_interrupted, of_short}
use Rattle.file_journal.proofs.LayoutLemmas.{gate_behind}
use Rattle.file_journal.proofs.RecoverLemmas.{known_formatted, recovered}

-- a standing with a store has a good header
good : (standing : Standing) (number : _) (reading : Reading) → standing ≡ store number reading → HasGoodHeader standing
good standing number reading is = (λ found other. cc (sym is ∙ other), λ other. cc (sym is ∙ other))

module _ (magic : List ℕ) (layout : Layout) (blocks : ℕ) (octets : List ℕ) where
  pub is_unformatted : length octets ≤ 16 → IsUnformatted (position_at_first magic layout blocks First) octets
  is_unformatted short = record { short = short; store_is = of_short magic layout octets short }

  pub is_interrupted : (selector : ℕ) → 16 < length octets → HasHeader magic blocks octets → length octets < first_gate layout blocks + 2 → selector ≡ get_or octets 15 0
      → IsInterrupted (position_at_first magic layout blocks First) selector octets
  is_interrupted selector long head short is = record { header = head; long = long; short = short; selector_is = is; store_is = of_interrupted magic layout octets blocks head long short }

  pub is_formatted : (chosen : Half) → HasHeader magic blocks octets → first_gate layout blocks + 2 ≤ length octets → half_in layout octets ≡ chosen → IsFormatted (position_at_first magic layout blocks chosen) octets
  is_formatted chosen head long is = record { header = head; long = long; half_is = is; store_is = of_full magic layout octets blocks head chosen is long }

-- what is found isn't refused
pub found_good : (journal : Position) (owes : Owed) (octets : List ℕ) → Owes journal owes octets → HasGoodHeader (journal_of journal.magic journal.layout octets)
found_good journal owed.Nothing octets is = good _ _ _ is.store_is
found_good journal owed.Formatting octets is = good _ _ _ is.store_is
found_good journal (owed.Gates selector) octets is = good _ _ _ is.store_is

module _ {D : Type 0} (g : Ghosts D) (magic : List ℕ) (layout : Layout) (blocks : ℕ) (disk : D) where
  -- a quiet disk with a formatted store, on which nothing was read
  pub stands_formatted : (number : ℕ) (chosen : Half) → IfSome (g.content disk) IsOctets → IfSome (g.content disk) (IsFormatted (position_at_first magic layout number chosen)) → IsQuietNow g disk
      → StandsOn g (position_at_first magic layout number chosen) disk
  stands_formatted number chosen are formatted rest = inr (if_told (g.content disk) _ (λ octets told.
      let first = position_at_first magic layout number chosen in
      let is = at_told _ octets told formatted in
      let at : IsAt first [] octets = record {
        are_octets = at_told _ octets told are;
        formatted = is.long;
        half = is.half_is;
        place = omega arith;
        records = is.store_is;
        ended = λ end. cc;
      } in (
        [],
        at,
        λ image here.
            let same = at_told (Only (images_now g disk)) octets told rest image here in
            (subst (λ (l : List ℕ). IsAt first [] l) (sym same) at, ap (left_to_read first) same),
      )))

  pub found_as : (journal : Position) (number : ℕ) (chosen : Half) (owes : Owed) → journal ≡ position_at_first magic layout number chosen → AreBlocks number
      → Begins blocks (position_at_first magic layout number chosen) owes
      → IfSome (g.content disk) (Owes (position_at_first magic layout number chosen) owes)
      → (owes ≡ owed.Nothing → IsQuietNow g disk → StandsOn g (position_at_first magic layout number chosen) disk)
      → IsFound g magic layout blocks disk (record { journal = journal; owed = owes })
  found_as journal number chosen owes is are begins here stands =
      subst (λ (j : Position). IsFound g magic layout blocks disk (record { journal = j; owed = owes })) (sym is)
      (record { at_first = refl; number = are; begins = begins; owes = here; stands_on = stands })

  -- nothing is owed, and so nothing is done
  pub settled_so : (journal : Position) → journal ≡ position_at_first magic layout journal.blocks journal.half → IfSome (g.content disk) IsOctets
      → IfSome (g.content disk) (IsFormatted (position_at_first magic layout journal.blocks journal.half)) → IsQuietNow g disk → IsRecovered g magic layout blocks disk disk journal
  settled_so journal is are formatted rest =
      let first = position_at_first magic layout journal.blocks journal.half in
      let long : (octets : List ℕ) → IsFormatted first octets → 16 < length octets = λ octets here. omega (arith, here.long, gate_behind layout journal.blocks) in
      recovered g magic layout blocks disk disk journal.blocks journal.half journal is (λ told. told, λ told. told) rest are
      (known_formatted g magic layout blocks disk disk disk journal.blocks (changes_none g disk) (told_weaker (g.content disk) _ _ (λ octets told here. here.header) formatted)
      (told_weaker (g.content disk) _ _ (λ octets told here. long octets here) formatted)
      journal.half (told_weaker (g.content disk) _ _ (λ octets told here. (λ short. absurd (omega (arith, short, here.long)), λ full. sym here.half_is)) formatted)
      (told_weaker (g.content disk) _ _ (λ octets told here. (octets, told, record { finished = λ short. absurd (omega (arith, short, here.long)); same = λ full. refl })) formatted))

-- nothing is called, and so a crash leaves what it might have left
pub leaves_same : {D : Type 0} (g : Ghosts D) (disk : D) (P : List ℕ → List ℕ → Type 0) → Leaves g disk disk P
leaves_same g disk P = if_told (g.content disk) _ (λ octets told. record { later = omega arith; each = λ t image early since. inl since })

-- After the first sync the disk is quiet, and reads change nothing: a crash since then leaves what one leaves since the
-- reads.
pub synced_first : {D : Type 0} (g : Ghosts D) (old synced mid new : D) (P : List ℕ → List ℕ → Type 0) → g.content synced ≡ g.content old → IfSome (g.content old) (λ _. g.moment synced ≡ g.moment old + 1)
    → IsQuietNow g synced → ChangesReads g synced mid → ((octets : List ℕ) → P octets octets) → Leaves g mid new P → IfSome (g.content old) (λ before. IsSyncedFirst g old new (P before))
synced_first g old synced mid new P same one rest only here leaves = if_told (g.content old) _ (λ before told.
    let first : g.moment old + 1 ≡ g.moment mid = sym (at_told _ before told one) ∙ sym only.same_moment in
    let since_mid = at_told _ before (only.same_content ∙ same ∙ told) leaves in
    record {
      later = omega (arith, first, since_mid.later);
      each = λ image since. ⊎_elim
          (λ past. subst (P before) (sym ((at_told (Only (images_now g synced)) before (same ∙ told) rest) image (reads_now g synced mid only image past))) (here before))
          (λ left. left)
          (since_mid.each (g.moment mid) image (omega arith) (subst (λ (t : ℕ). g.images_since new t image) first since));
    })

-- since the start, a crash leaves what it might have left before too
pub synced_start : {D : Type 0} (g : Ghosts D) (old synced mid new : D) (P : List ℕ → List ℕ → Type 0) → g.content synced ≡ g.content old → IfSome (g.content old) (Only (g.images synced))
    → TimePasses g.moment g.images g.images_since old synced → ChangesReads g synced mid → ((octets : List ℕ) → P octets octets) → Leaves g mid new P → Leaves g old new P
synced_start g old synced mid new P same durable time only here leaves = if_told (g.content old) _ (λ before told.
    joined g.moment g.images_since old synced new (P before)
    (once g.moment g.images_since old synced (P before) (g.images synced) time (λ image left. subst (P before) (sym (at_told (Only (g.images synced)) before told durable image left)) (here before)))
    (joined g.moment g.images_since synced mid new (P before) (reads g.moment g.images_since synced mid (P before) only.same_moment only.same_past)
    (at_told _ before (only.same_content ∙ same ∙ told) leaves)))

-- octets with both gates owe nothing
pub owes_nothing : (magic : List ℕ) (layout : Layout) (blocks number : ℕ) (chosen : Half) (owes : Owed) (octets : List ℕ) → Owes (position_at_first magic layout number chosen) owes octets
    → gate_in layout blocks octets + 2 ≤ length octets → owes ≡ owed.Nothing
owes_nothing magic layout blocks number chosen owed.Nothing octets is full = refl
owes_nothing magic layout blocks number chosen owed.Formatting octets is full =
    let here : first_gate layout (number_in blocks octets) + 2 ≤ length octets = full in
    absurd (omega (arith, is.short, here, gate_behind layout (number_in blocks octets)))
owes_nothing magic layout blocks number chosen (owed.Gates selector) octets is full =
    let here : first_gate layout (number_in blocks octets) + 2 ≤ length octets = full in
    let same : number_in blocks octets ≡ number = cond-false (nat_le (length octets) 16) blocks (le32 octets 8) (lt-leb (length octets) 16 is.long) ∙ is.header.blocks_are in
    absurd (omega (arith, is.short, here, ap (first_gate layout) same))

-- How many writes and syncs a recovery makes.
module _ {D : Type 0} (g : Ghosts D) (magic : List ℕ) (layout : Layout) (blocks : ℕ) where
  -- its first sync alone
  pub synced_calls : (old new : D) → g.moment new ≤ g.moment old + 1 → RecoversInCalls g magic layout blocks old new
  synced_calls old new one = record {
    most = omega (arith, one);
    formatted = if_told (g.content old) _ (λ before told full. one);
    refused = if_told (g.content old) _ (λ before told bad. one);
  }

  -- and what is owed
  pub settled_calls : (old synced mid new : D) (found : Found) → g.moment synced ≤ g.moment old + 1 → g.content synced ≡ g.content old → ChangesReads g synced mid → IsFound g magic layout blocks mid found
      → SettlesInCalls g found.owed mid new → RecoversInCalls g magic layout blocks old new
  settled_calls old synced mid new found one same only is calls =
      let here : (before : List ℕ) → g.content old ≡ Some before → Owes (position_at_first magic layout found.journal.blocks found.journal.half) found.owed before =
      λ before told. subst (λ (j : Position). Owes j found.owed before) is.at_first (at_told _ before (only.same_content ∙ same ∙ told) is.owes) in
      record {
        most = omega (arith, one, only.same_moment, calls.most);
        formatted = if_told (g.content old) _ (λ before told full.
            omega (arith, one, only.same_moment, calls.nothing (owes_nothing magic layout blocks found.journal.blocks found.journal.half found.owed before (here before told) full)));
        refused = if_told (g.content old) _ (λ before told bad. absurd (bad (found_good _ found.owed before (here before told))));
      }

  -- reads make none
  pub calls_reads : (old mid new : D) → RecoversInCalls g magic layout blocks old mid → ChangesReads g mid new → RecoversInCalls g magic layout blocks old new
  calls_reads old mid new calls only = record {
    most = omega (arith, calls.most, only.same_moment);
    formatted = told_weaker (g.content old) _ _ (λ before told one full. omega (arith, one full, only.same_moment)) calls.formatted;
    refused = told_weaker (g.content old) _ _ (λ before told one bad. omega (arith, one bad, only.same_moment)) calls.refused;
  }
