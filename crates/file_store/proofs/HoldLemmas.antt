-- Octets that come and those that wait become held.
use Rattle.std.proofs.Common.{◌≡◌, ℕ, zero, suc, ◌+◌, ◌-◌, ◌*◌, ◌/◌, ◌<◌, ◌≤◌, List, [], ◌∷◌, ◌++◌, length, replicate, take, drop, Option, Some, refl, sym, ◌∙◌, ap, subst, arith, inl, zero-add, length-append, length-drop, drop-drop}
use Rattle.std.proofs.Math.Seq.{drop-append-add, take-append-add}
use Rattle.file_store.proofs.Names.{option_map, length-replicate, length-take-le, map-append, Ghosts, IsPlaced, ChangesRest, octets_or_none, rest_with, AreAllowed, Command, after, after_all, grow, grown, grows, whole_grows, with_more, Store, entry_of, partial, after_all-append, find-map-changed, grows-allowed, blocks_on, DoesTo, after_first, outlined_all, outlined_command, IsKnown, IsReady, StoreState, placed_in, rest_in, store_in, store_on, FillsBlock, FitsBytes, FitsWaiting, waiting_with}
use Rattle.file_store.proofs.DoesLemmas.{Does-longer, Does-moved, Does-none, Does-same, Does-then, after_first-then}
use Rattle.file_store.proofs.OnLemmas.{in_parked, stands_parked}
use Rattle.file_store.proofs.TokenLemmas.{seen-partial}

-- ---- commands on the file of one number

-- the first of some commands are the first of more
first-longer : (count : ℕ) (a b : List Command) (store : Store) → (done : ℕ) × (after_first count store a ≡ after_first done store (a ++ b))
first-longer zero a b store = (0, refl)
first-longer (suc n) [] b store = (0, refl)
first-longer (suc n) (command ∷ a) b store =
    let rest = first-longer n a b (after store command) in
    (suc rest.0, rest.1)

module _ {D : Type 0} (g : Ghosts D) where
  pub DoesTo-none : (P : Type 0) (self : StoreState) (disk : D) (number : ℕ) → ¬ P → IsReady g self disk → g.lasts disk disk → DoesTo g P self self disk disk [] number
  DoesTo-none P self disk number fine ready lasts = record {
    does = Does-none g P self disk fine ready lasts;
    stands_on = ready.stands_on;
    part = (0, refl);
    whole = λ held. refl;
    rests = λ other ne. refl;
  }

  module _ (disk disk_now : D) (commands : List Command) (number : ℕ) where
    pub DoesTo-same : (P Q : Type 0) (old new : StoreState) → (P → Q) → (Q → P) → DoesTo g P old new disk disk_now commands number → DoesTo g Q old new disk disk_now commands number
    DoesTo-same P Q old new there back to = record {
      does = Does-same g P Q old new disk disk_now commands there back to.does;
      stands_on = to.stands_on;
      part = to.part;
      whole = λ fine. to.whole (λ p. fine (there p));
      rests = to.rests;
    }

    -- of a store from which this one came by octets that began to wait, or that wait no more
    pub DoesTo-from : (P : Type 0) (before old new : StoreState) (rest : Option (List ℕ)) → ChangesRest before.files old.files number rest → old.journal ≡ before.journal
        → DoesTo g P old new disk disk_now commands number → DoesTo g P before new disk disk_now commands number
    DoesTo-from P before old new rest changes journal to =
        let same = in_parked before old changes.store_is in
        record {
          does = Does-moved g P old new before new disk disk_now commands (sym changes.store_is) (sym journal) refl refl to.does;
          stands_on = to.stands_on;
          part = (to.part.0, to.part.1 ∙ ap (λ (s : Store). after_first to.part.0 s (outlined_all commands)) same);
          whole = λ fine. to.whole fine ∙ ap (λ (s : Store). after_all s (outlined_all commands)) same;
          rests = λ other ne. to.rests other ne ∙ changes.others other ne;
        }

    -- to a store that came so from this one
    pub DoesTo-to : (P : Type 0) (old new after : StoreState) (rest : Option (List ℕ)) → ChangesRest new.files after.files number rest → after.journal ≡ new.journal
        → DoesTo g P old new disk disk_now commands number → DoesTo g P old after disk disk_now commands number
    DoesTo-to P old new after rest changes journal to =
        let same = in_parked new after changes.store_is in
        record {
          does = Does-moved g P old new old after disk disk_now commands refl refl changes.store_is journal to.does;
          stands_on = stands_parked g new after disk_now changes.store_is journal to.stands_on;
          part = (to.part.0, same ∙ to.part.1);
          whole = λ fine. same ∙ to.whole fine;
          rests = λ other ne. changes.others other ne ∙ to.rests other ne;
        }

  module _ (a b : List Command) (number : ℕ) where
    both : outlined_all (a ++ b) ≡ outlined_all a ++ outlined_all b
    both = map-append outlined_command a b

    -- all of some commands, and then others
    pub DoesTo-then : ((first second third : D) → g.lasts first second → g.lasts second third → g.lasts first third) → (P : Type 0) (old mid new : StoreState) (disk disk_mid disk_now : D)
        → DoesTo g ⊥ old mid disk disk_mid a number → DoesTo g P mid new disk_mid disk_now b number → DoesTo g P old new disk disk_now (a ++ b) number
    DoesTo-then on P old mid new disk disk_mid disk_now first second =
        let made = first.whole (λ never. never) in
        let count : ℕ = second.part.0 in
        record {
          does = Does-then g on ⊥ P old mid new disk disk_mid disk_now a b (λ never. never) first.does second.does;
          stands_on = second.stands_on;
          part = (
            length (outlined_all a) + count,
            second.part.1 ∙ ap (λ (s : Store). after_first count s (outlined_all b)) made ∙ sym (after_first-then count (outlined_all a) (outlined_all b) (store_in old))
                ∙ ap (after_first (length (outlined_all a) + count) (store_in old)) (sym both),
          );
          whole = λ fine.
              second.whole fine ∙ ap (λ (s : Store). after_all s (outlined_all b)) made ∙ sym (after_all-append (outlined_all a) (outlined_all b) (store_in old))
              ∙ ap (after_all (store_in old)) (sym both);
          rests = λ other ne. second.rests other ne ∙ first.rests other ne;
        }

    -- the disk failed in one of these, and others were to come
    pub DoesTo-longer : (P : Type 0) (old new : StoreState) (disk disk_now : D) → P → (IsKnown g disk → AreAllowed (store_on g old disk) (a ++ b)) → DoesTo g P old new disk disk_now a number
        → DoesTo g P old new disk disk_now (a ++ b) number
    DoesTo-longer P old new disk disk_now failed allowed to =
        let more = first-longer to.part.0 (outlined_all a) (outlined_all b) (store_in old) in
        record {
          does = Does-longer g P old new disk disk_now a b failed allowed to.does;
          stands_on = to.stands_on;
          part = (more.0, to.part.1 ∙ more.1 ∙ ap (after_first more.0 (store_in old)) (sym both));
          whole = λ fine. absurd (fine failed);
          rests = to.rests;
        }

-- ---- octets that come

-- what waits
pub waits-is : (self : StoreState) (number : ℕ) (fits : FitsWaiting self number) → octets_or_none (rest_in self number) ≡ fits.rest
waits-is self number fits = ap octets_or_none fits.out

-- once these wait too
pub brought-waits : (self mid : StoreState) (number : ℕ) (bytes : List ℕ) → FitsWaiting self number → ChangesRest self.files mid.files number (rest_with self.files number bytes)
    → rest_in mid number ≡ Some (waiting_with self number bytes)
brought-waits self mid number bytes fits changes =
    changes.here ∙ ap (option_map (λ (r : List ℕ). r ++ bytes)) fits.out ∙ ap (λ (r : List ℕ). Some (r ++ bytes)) (sym (waits-is self number fits))

-- once those wait that a block lacks, of these
module _ (self mid : StoreState) (number n : ℕ) (bytes lacking later : List ℕ) (fits : FitsBytes self number bytes) (there : 512 ≤ length (waiting_with self number bytes))
    (n_is : n ≡ length (octets_or_none (rest_in self number))) (front : lacking ≡ take (512 - n) bytes) (back : later ≡ drop (512 - n) bytes)
    (changes : ChangesRest self.files mid.files number (rest_with self.files number lacking)) where
  abbrev under : FitsWaiting self number
  under = fits.waits

  abbrev waits : List ℕ
  waits = octets_or_none (rest_in self number)

  abbrev block : List ℕ
  block = take 512 (waiting_with self number bytes)

  block-sum : length waits + (512 - n) ≡ 512
  block-sum = omega (arith, fits.few, n_is, ap length (waits-is self number under))

  all-long : length (waits ++ bytes) ≡ length (under.rest ++ bytes)
  all-long = ap (λ (r : List ℕ). length (r ++ bytes)) (waits-is self number under)

  block-long : length block ≡ 512
  block-long = length-take-le 512 (waits ++ bytes) there

  pub lacking-waits : waits ++ lacking ≡ block
  lacking-waits =
      ap (λ (octets : List ℕ). waits ++ octets) front ∙ sym (take-append-add waits bytes (512 - n)) ∙ ap (λ (k : ℕ). take k (waits ++ bytes)) block-sum

  pub later-is : later ≡ drop 512 (waits ++ bytes)
  later-is = back ∙ sym (drop-append-add waits bytes (512 - n)) ∙ ap (λ (k : ℕ). drop k (waits ++ bytes)) block-sum

  pub block-waits : rest_in mid number ≡ Some block
  block-waits = brought-waits self mid number lacking under changes ∙ ap (λ (octets : List ℕ). Some octets) lacking-waits

  pub block-fills : FillsBlock mid number 512
  block-fills = record {
    waits = record {
      entry = under.entry;
      is_entry = ap (λ (s : Store). entry_of s number) (in_parked self mid changes.store_is) ∙ under.is_entry;
      held = under.held;
      partial_is = under.partial_is;
      rest = block;
      out = block-waits;
      fits = omega (arith, fits.fits, there, all-long, block-long);
    };
    some = omega arith;
    most = omega arith;
    all = block-long;
    fills = inl refl;
  }

  -- the entry is under way still once the block is held, and what is left fits it
  pub later-fits : (new : StoreState) → store_in new ≡ after_all (store_in mid) (outlined_all (grow number (octets_or_none (rest_in mid number)) ∷ [])) → rest_in new number ≡ Some []
      → FitsBytes new number later
  later-fits new made none =
      let zeros : List ℕ = replicate (length (octets_or_none (rest_in mid number))) 0 in
      let zeros_long = length-replicate {A = ℕ} (length (octets_or_none (rest_in mid number))) 0 ∙ ap (λ (o : Option (List ℕ)). length (octets_or_none o)) block-waits ∙ block-long in
      let left = ap length later-is ∙ length-drop 512 (waits ++ bytes) in
      let room : length (under.held ++ zeros) + length later ≤ under.entry.length =
      omega (arith, fits.fits, there, all-long, length-append under.held zeros, zeros_long, left) in
      record {
        waits = record {
          entry = record under.entry { holding = grown zeros under.entry };
          is_entry = ap (λ (s : Store). entry_of s number) made ∙ find-map-changed number (grown zeros) (store_in mid).entries under.entry (ap (λ (s : Store). entry_of s number) (in_parked self mid changes.store_is) ∙ under.is_entry);
          held = under.held ++ zeros;
          partial_is = ap (with_more zeros) under.partial_is;
          rest = [];
          out = none;
          fits = omega (arith, room);
        };
        few = omega arith;
        fits = room;
      }

-- ---- one block after another

-- m blocks, and then n more
grows-add : (number m n : ℕ) (octets : List ℕ) → grows number (m + n) octets ≡ grows number m octets ++ grows number n (drop (512 * m) octets)
grows-add number zero n octets = ap (λ (k : ℕ). grows number k octets) (zero-add n)
grows-add number (suc m) n octets =
    let step : suc m + n ≡ suc (m + n) = omega arith in
    let place : 512 + 512 * m ≡ 512 * suc m = omega arith in
    ap (λ (k : ℕ). grows number k octets) step
    ∙ ap (λ (commands : List Command). grow number (take 512 octets) ∷ commands)
    (grows-add number m n (drop 512 octets) ∙ ap (λ (rest : List ℕ). grows number m (drop 512 octets) ++ grows number n rest) (drop-drop (512 * m) 512 octets ∙ ap (λ (k : ℕ). drop k octets) place))

-- of these octets `i` blocks were held, and these are left
module _ (number i : ℕ) (all now : List ℕ) (left : now ≡ drop (512 * i) all) where
  pub left-later : drop 512 now ≡ drop (512 * (i + 1)) all
  left-later =
      let place : 512 * i + 512 ≡ 512 * (i + 1) = omega arith in
      ap (drop 512) left ∙ drop-drop 512 (512 * i) all ∙ ap (λ (k : ℕ). drop k all) place

  pub one-more : grows number i all ++ grow number (take 512 now) ∷ [] ≡ grows number (i + 1) all
  one-more = ap (λ (octets : List ℕ). grows number i all ++ grow number (take 512 octets) ∷ []) left ∙ sym (grows-add number i 1 all)

  module _ (blocks : ℕ) (below : i < blocks) (whole : blocks ≡ length all / 512) where
    pub block-there : 512 ≤ length now
    block-there = omega (arith, below, whole, ap length left ∙ length-drop (512 * i) all)

    pub all-later : grows number (i + 1) all ++ grows number (blocks - (i + 1)) (drop (512 * (i + 1)) all) ≡ whole_grows number all
    all-later =
        let sum : i + 1 + (blocks - (i + 1)) ≡ length all / 512 = omega (arith, below, whole) in
        sym (grows-add number (i + 1) (blocks - (i + 1)) all) ∙ ap (λ (k : ℕ). grows number k all) sum

-- the disk failed in one of these blocks
pub blocks-cut : {D : Type 0} (g : Ghosts D) (P : Type 0) (old new : StoreState) (disk disk_now : D) (number : ℕ) (bytes : List ℕ) (these those : List Command) → P → IsPlaced (placed_in old)
    → FitsBytes old number bytes → these ++ those ≡ whole_grows number (waiting_with old number bytes) → DoesTo g P old new disk disk_now these number
    → DoesTo g P old new disk disk_now (whole_grows number (waiting_with old number bytes)) number
blocks-cut g P old new disk disk_now number bytes these those failed is fits same to =
    subst (λ (cs : List Command). DoesTo g P old new disk disk_now cs number) same
    (DoesTo-longer g these those number P old new disk disk_now failed (λ known. subst (AreAllowed (store_on g old disk)) (sym same) allowed) to)
  where
    allowed : AreAllowed (store_on g old disk) (whole_grows number (waiting_with old number bytes))
    allowed =
        let under = fits.waits in
        let all : List ℕ = waiting_with old number bytes in
        let long : length all ≡ length (under.rest ++ bytes) = ap (λ (r : List ℕ). length (r ++ bytes)) (waits-is old number under) in
        let shown = seen-partial (blocks_on (g.content disk)) (placed_in old) number is under.entry under.held under.partial_is under.is_entry in
        grows-allowed number (length all / 512) all (store_on g old disk) (record under.entry { holding = partial shown.octets }) shown.octets shown.found refl
        (omega (arith, fits.fits, long, shown.many)) (omega arith)
