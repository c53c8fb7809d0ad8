-- How the parts of the end of a file come together.
use Rattle.std.proofs.Common.{◌≡◌, ◌≢◌, inl, inr, ℕ, ◌+◌, ◌≤◌, Bool, true, false, List, [], ◌∷◌, ◌++◌, length, Option, None, Some, Result, Ok, Err, IsErr, OnOk, OnErr, refl, sym, ◌∙◌, ap, subst, arith, zero-add}
use Rattle.file_store_blocks.specs.declared.file_check.CheckedHeader.{CheckedHeader}
use Rattle.file_store.specs.declared.end.End.{End}
use Rattle.file_store.specs.declared.end.End.TheVariants as end
use Rattle.file_store.proofs.Names.{IfSome, IsSome, IsTrue, is_some, replicate, option_map, append-nil, ChecksFile, HasFault, IsFaultCode, IsSealable, IsPlaced, outlined, outlined_entry, Placed, PlacedStore, Seal, placed_of, is_partial, is_whole, sealed, with_sealed, without_file, Becomes, KeepsRests, PlacedFiles, octets_or_none, rest_of, store_of, octets_in, stamp_at, Passes, TakesSeal, changed_is, changed_leaves, outlined_found, without_is, without_leaves, at, IsTold, Ghosts, DiskFault, one_if, Reads, Blocks, blocks_on, reads_same, Command, after_all, drop_entry, grow, last_grow, seal, fault_code, IsCompleteIn, is_complete, Entry, Holding, Store, entry_of, EndsFile, EndsInOrder, IsSealedAt, LeavesOthers, KeepsOtherFiles, Does, DoesTo, outlined_all, IsKnown, IsReady, StandsOn, StoreState, placed_in, rest_in, store_in, store_on, Holds, IsWholeWaiting, Upload, come_of, ending, DoesAmongReads}
use Rattle.file_store.proofs.DoesLemmas.{among-at, among-same, among-then, does-among, Does-longer, Does-same, reads-only}
use Rattle.file_store.proofs.EndLemmas.{mid-come, mid-is, mid-partial, mid-under, mid-whole, sealing-allowed}
use Rattle.file_store.proofs.GrowsLemmas.{AreGrows}
use Rattle.file_store.proofs.HoldLemmas.{DoesTo-none}
use Rattle.file_store.proofs.OnLemmas.{in_parked, known_on, known_told}
use Rattle.file_store.proofs.OnlyLemmas.{only-first, only-same, only-then}
use Rattle.file_store.proofs.UploadLemmas.{only-keeps}

-- ---- the file itself

-- the file is complete, and was sealed in the moment of its seal
pub sealed-complete : (old new : StoreState) (number : ℕ) (mark : Seal) → Passes (placed_in old) number is_whole
    → Becomes old.files new.files (with_sealed (placed_in old) number mark) number None → IsSealedAt (store_in new) number mark.moment
sealed-complete old new number mark passes becomes = (
  outlined_entry (sealed mark passes.file),
  replicate passes.file.held 0,
  outlined_found (placed_in new) number
      ∙ ap (option_map outlined_entry) (ap (λ (s : PlacedStore). placed_of s number) becomes.store_is ∙ changed_is number (sealed mark) (λ f. refl) (placed_in old) ∙ ap (option_map (sealed mark)) passes.found),
  refl,
)

pub sealed-whole : (store : Store) (number moment : ℕ) → IsSealedAt store number moment → IsCompleteIn store number
sealed-whole store number moment is = (is.0, is.2, subst (λ (h : Holding). IsTrue (is_complete h)) (sym is.3) refl)

-- the file is gone
pub dropped-gone : (old new : StoreState) (number : ℕ) → Becomes old.files new.files (without_file (placed_in old) number) number None → entry_of (store_in new) number ≡ None
dropped-gone old new number becomes =
    outlined_found (placed_in new) number ∙ ap (option_map outlined_entry) (ap (λ (s : PlacedStore). placed_of s number) becomes.store_is ∙ without_is (placed_in old) number)

-- ---- what each part leaves of the other files

last-are : (number : ℕ) (rest : List ℕ) → AreGrows number (last_grow number rest)
last-are number [] = tt
last-are number (octet ∷ octets) = ((octet ∷ octets, refl), tt)

module _ {D : Type 0} (g : Ghosts D) where
  pub held-leaves : {P : Type 0} (old new : StoreState) (disk disk_now : D) (number : ℕ) (rest : List ℕ) → DoesTo g P old new disk disk_now (last_grow number rest) number
      → LeavesOthers g old new disk_now number
  held-leaves old new disk disk_now number rest does = record {
    stands_on = does.stands_on;
    only = only-first (store_in old) (store_in new) number (last_grow number rest) (last-are number rest) does.part;
    rests = does.rests;
  }

  pub leaves-then : (old mid new : StoreState) (disk_mid disk_now : D) (number : ℕ) → LeavesOthers g old mid disk_mid number → LeavesOthers g mid new disk_now number
      → LeavesOthers g old new disk_now number
  leaves-then old mid new disk_mid disk_now number first second = record {
    stands_on = second.stands_on;
    only = only-then number (store_in old) (store_in mid) (store_in new) first.only second.only;
    rests = λ other ne. second.rests other ne ∙ first.rests other ne;
  }

  -- what reads leave
  pub leaves-read : (old new : StoreState) (disk_now disk_read : D) (number : ℕ) → StandsOn g new disk_read → LeavesOthers g old new disk_now number → LeavesOthers g old new disk_read number
  leaves-read old new disk_now disk_read number stands leaves = record { stands_on = stands; only = leaves.only; rests = leaves.rests }

  pub leaves-keeps : (old new : StoreState) (disk_now : D) (up : Upload) → Holds old up → LeavesOthers g old new disk_now up.number → KeepsOtherFiles g old new disk_now up.number
  leaves-keeps old new disk_now up h leaves = only-keeps g old new disk_now up h leaves.stands_on leaves.rests leaves.only

  -- ---- a store of which one file changed

  -- each other file is as it was, and that one was there before, and is what it was except for how far it has come
  leaves-placed : (old new : StoreState) (disk_now : D) (number : ℕ) → StandsOn g new disk_now → KeepsRests old.files new.files number
      → ((placed_in new).next ≡ (placed_in old).next) × ((placed_in new).blocks ≡ (placed_in old).blocks)
      → ((other : ℕ) → other ≢ number → placed_of (placed_in new) other ≡ placed_of (placed_in old) other)
      → ((entry : Entry) → entry_of (store_in new) number ≡ Some entry → (was : Entry) × (entry_of (store_in old) number ≡ Some was) × (entry ≡ record was { holding = entry.holding }))
      → LeavesOthers g old new disk_now number
  leaves-placed old new disk_now number stands rests same others own = record {
    stands_on = stands;
    only = record {
      next = same.0;
      blocks = same.1;
      others = λ other ne.
          outlined_found (placed_in new) other ∙ ap (option_map outlined_entry) (others other ne) ∙ sym (outlined_found (placed_in old) other);
      own = own;
    };
    rests = rests;
  }

  pub sealed-leaves : (old new : StoreState) (disk_now : D) (number : ℕ) (mark : Seal) → StandsOn g new disk_now → Passes (placed_in old) number is_whole
      → Becomes old.files new.files (with_sealed (placed_in old) number mark) number None → LeavesOthers g old new disk_now number
  sealed-leaves old new disk_now number mark stands passes becomes =
      leaves-placed old new disk_now number stands becomes.others
      (ap (λ (s : PlacedStore). s.next) becomes.store_is, ap (λ (s : PlacedStore). s.blocks) becomes.store_is)
      (λ other ne. ap (λ (s : PlacedStore). placed_of s other) becomes.store_is ∙ changed_leaves number (sealed mark) (λ f. refl) (placed_in old) other ne)
      (λ entry found.
      let now : entry_of (store_in new) number ≡ Some (outlined_entry (sealed mark passes.file)) =
      outlined_found (placed_in new) number
      ∙ ap (option_map outlined_entry) (ap (λ (s : PlacedStore). placed_of s number) becomes.store_is ∙ changed_is number (sealed mark) (λ f. refl) (placed_in old) ∙ ap (option_map (sealed mark)) passes.found) in
      let same : outlined_entry (sealed mark passes.file) ≡ entry = cc (sym now ∙ found) in (
        outlined_entry passes.file,
        outlined_found (placed_in old) number ∙ ap (option_map outlined_entry) passes.found,
        subst (λ (e : Entry). e ≡ record (outlined_entry passes.file) { holding = e.holding }) same refl,
      ))

  pub dropped-leaves : (old new : StoreState) (disk_now : D) (number : ℕ) → StandsOn g new disk_now → Becomes old.files new.files (without_file (placed_in old) number) number None
      → LeavesOthers g old new disk_now number
  dropped-leaves old new disk_now number stands becomes =
      leaves-placed old new disk_now number stands becomes.others
      (ap (λ (s : PlacedStore). s.next) becomes.store_is, ap (λ (s : PlacedStore). s.blocks) becomes.store_is)
      (λ other ne. ap (λ (s : PlacedStore). placed_of s other) becomes.store_is ∙ without_leaves (placed_in old) number other ne)
      (λ entry found. absurd (cc (sym (dropped-gone old new number becomes) ∙ found)))

  -- nothing changed except that the upload isn't out any more
  pub parked-leaves : (old new : StoreState) (disk_now : D) (number : ℕ) → StandsOn g new disk_now → Becomes old.files new.files (placed_in old) number None → LeavesOthers g old new disk_now number
  parked-leaves old new disk_now number stands becomes = record {
    stands_on = stands;
    only = only-same number (store_in old) (store_in new) (in_parked old new becomes.store_is);
    rests = becomes.others;
  }

-- ---- by what a put answered

-- the upload was given up before
given-up : (old : StoreState) (parked now : PlacedFiles) (number : ℕ) (make : PlacedStore → PlacedStore) → Becomes old.files parked (placed_in old) number None
    → Becomes parked now (make (store_of parked)) number None → Becomes old.files now (make (placed_in old)) number None
given-up old parked now number make first second = record {
  store_is = second.store_is ∙ ap make first.store_is;
  here = second.here;
  others = λ other ne. second.others other ne ∙ first.others other ne;
}

module _ {D : Type 0} (g : Ghosts D) {T E : Type 0} where
  pub put-sealed : (result : Result T E) (old : StoreState) (parked : PlacedFiles) (new : StoreState) (disk_now : D) (number : ℕ) (mark : Seal) → StandsOn g new disk_now → Passes (placed_in old) number is_whole
      → Becomes old.files parked (placed_in old) number None → OnOk result (Becomes parked new.files (with_sealed (store_of parked) number mark) number None) → OnErr result (new.files ≡ parked)
      → LeavesOthers g old new disk_now number × OnOk result (IsSealedAt (store_in new) number mark.moment)
  put-sealed (Ok x) old parked new disk_now number mark stands passes first made same =
      let becomes = given-up old parked new.files number (λ s. with_sealed s number mark) first made in
      (sealed-leaves g old new disk_now number mark stands passes becomes, sealed-complete old new number mark passes becomes)
  put-sealed (Err e) old parked new disk_now number mark stands passes first made same =
      (parked-leaves g old new disk_now number stands (subst (λ (files : PlacedFiles). Becomes old.files files (placed_in old) number None) (sym same) first), tt)

  pub put-dropped : (result : Result T E) (old new : StoreState) (disk_now : D) (number : ℕ) → StandsOn g new disk_now
      → OnOk result (Becomes old.files new.files (without_file (placed_in old) number) number None) → OnErr result (new.files ≡ old.files)
      → LeavesOthers g old new disk_now number × OnOk result (entry_of (store_in new) number ≡ None)
  put-dropped (Ok x) old new disk_now number stands made same = (dropped-leaves g old new disk_now number stands made, dropped-gone old new number made)
  put-dropped (Err e) old new disk_now number stands made same = (
    record {
      stands_on = stands;
      only = only-same number (store_in old) (store_in new) (ap (λ (files : PlacedFiles). outlined (store_of files)) same);
      rests = λ other ne. ap (λ (files : PlacedFiles). rest_of files other) same;
    },
    tt,
  )

-- ---- the commands together

module _ {D : Type 0} (g : Ghosts D) (on : (first second third : D) → g.lasts first second → g.lasts second third → g.lasts first third) (old mid : StoreState) (disk disk_mid disk_read : D)
    (first : List Command) (does : Does g ⊥ old mid disk disk_mid first) (ready : IsReady g mid disk_mid) (same : g.lasts disk_mid disk_mid) where
  -- those that wait became held, and the file was read
  pub held-read : (failed : Bool) → Reads g (failed ≡ true) disk_mid disk_read → DoesAmongReads g ⊥ (one_if failed) old mid disk disk_read first
  held-read failed reads =
      among-at g ⊥ (one_if failed) old mid disk disk_read (first ++ []) first (append-nil first)
      (among-same g ⊥ ⊥ (0 + one_if failed) (one_if failed) old mid disk disk_read (first ++ []) (λ never. never) (λ never. never) (zero-add (one_if failed))
      (among-then g on ⊥ ⊥ 0 (one_if failed) old mid mid disk disk_mid disk_read first [] (λ never. never) (does-among g ⊥ old mid disk disk_mid first does) (reads-only g failed mid disk_mid disk_read same reads ready)))

  -- and then it was ended
  pub held-ended : (P : Type 0) (new : StoreState) (disk_now : D) (command : Command) → Reads g (false ≡ true) disk_mid disk_read → Does g P mid new disk_read disk_now (command ∷ [])
      → DoesAmongReads g P 0 old new disk disk_now (first ++ command ∷ [])
  held-ended P new disk_now command reads last =
      among-then g on ⊥ P 0 0 old mid new disk disk_read disk_now first (command ∷ []) (λ never. never) (held-read false reads) (does-among g P mid new disk_read disk_now (command ∷ []) last)

-- ---- the end of a file

module _ {D : Type 0} (g : Ghosts D) (old : StoreState) (disk : D) (number moment : ℕ) (whole : IsWholeWaiting old number) (ready : IsReady g old disk) where
  abbrev rest : List ℕ
  rest = octets_or_none (rest_in old number)

  abbrev blocks : Blocks
  blocks = blocks_on (g.content disk)

  rules : IsPlaced (placed_in old)
  rules = ready.stands_on.holds.reached

  -- the disk failed before all octets were held
  pub ends-cut : (e : DiskFault) (new : StoreState) (disk_now : D) → DoesTo g (true ≡ true) old new disk disk_now (last_grow number rest) number
      → EndsFile g (Err e) old new disk disk_now number moment
  ends-cut e new disk_now does =
      let code : Option ℕ = fault_code (come_of (store_on g old disk) old number) in
      record {
        code = code;
        tells = λ known. refl;
        answers = tt;
        order = inl (refl, does.does);
        does =
            does-among g (true ≡ true) old new disk disk_now (last_grow number rest ++ ending number moment code ∷ [])
            (Does-longer g (true ≡ true) old new disk disk_now (last_grow number rest) (ending number moment code ∷ []) refl
            (λ known. sealing-allowed old number whole rules blocks moment code refl) does.does);
        leaves = held-leaves g old new disk disk_now number rest does;
        file = tt;
      }

  module _ (same : (disk : D) → g.lasts disk disk) (on : (first second third : D) → g.lasts first second → g.lasts second third → g.lasts first third) (mid : StoreState) (disk_mid disk_read : D)
      (does : DoesTo g (false ≡ true) old mid disk disk_mid (last_grow number rest) number) where
    made : store_in mid ≡ after_all (store_in old) (outlined_all (last_grow number rest))
    made = does.whole (λ e. cc e)

    mid-ready : IsReady g mid disk_mid
    mid-ready = record { healthy = (does.does.done (λ e. cc e)).1; stands_on = does.stands_on }

    all-held : Does g ⊥ old mid disk disk_mid (last_grow number rest)
    all-held = Does-same g (false ≡ true) ⊥ old mid disk disk_mid (last_grow number rest) (λ e. cc e) (λ never. absurd never) does.does

    -- the file is there, whole and under way
    pub ends-there : IsSome (placed_of (placed_in mid) number)
    ends-there = ap is_some (mid-under old mid number whole made).found

    pub ends-takes : (len : ℕ) → IfSome (placed_of (placed_in mid) number) (λ f. len ≤ f.held) → TakesSeal (placed_in mid) number len
    ends-takes len inside =
        let passes = mid-whole old mid number whole made in
        record { passes = passes; inside = subst (λ (o : Option Placed). IfSome o (λ f. len ≤ f.held)) passes.found inside }

    pub ends-partial : Passes (placed_in mid) number is_partial
    ends-partial = mid-partial old mid number whole made

    -- if it is known what the files hold, its octets are those that came
    come-known : IsKnown g disk
        → octets_in (blocks_on (g.content disk_mid)) (mid-under old mid number whole made).file ≡ come_of (store_on g old disk) old number
    come-known known =
        mid-come old mid number whole made rules blocks (blocks_on (g.content disk_mid)) ((does.does.done (λ e. cc e)).0 known)

    mid-told : IsKnown g disk → IsTold (g.content disk_mid)
    mid-told known = known_told g disk_mid (known_on g disk disk_mid does.does.puts.told known)

    -- a read failed
    pub ends-unread : (failed : Type 0) → (failed → true ≡ true) → (true ≡ true → failed) → Reads g failed disk_mid disk_read → StandsOn g mid disk_read → rest_in mid number ≡ Some []
        → EndsFile g (Ok end.Unread) old mid disk disk_read number moment
    ends-unread failed there back reads stands out =
        record {
          code = fault_code (come_of (store_on g old disk) old number);
          tells = λ known. refl;
          answers = tt;
          order =
              inr (record {
                then_is = at mid disk_mid;
                disk_read = disk_read;
                holds = all-held;
                reads = reads_same g disk_mid disk_read failed (true ≡ true) there back reads;
                unread = λ is. refl;
                ends = λ fine. absurd (fine refl);
              });
          does =
              among-same g ⊥ (false ≡ true) 1 1 old mid disk disk_read (last_grow number rest) (λ never. absurd never) (λ e. cc e) refl
              (held-read g on old mid disk disk_mid disk_read (last_grow number rest) all-held mid-ready (same disk_mid) true (reads_same g disk_mid disk_read failed (true ≡ true) there back reads));
          leaves = leaves-read g old mid disk_mid disk_read number stands (held-leaves g old mid disk disk_mid number rest does);
          file = mid-is old mid number whole made out;
        }

    module _ (failed : Type 0) (fine : ¬ failed) (reads : Reads g failed disk_mid disk_read) (new : StoreState) (disk_now : D) (last : LeavesOthers g mid new disk_now number) where
      read-fine : Reads g (false ≡ true) disk_mid disk_read
      read-fine = reads_same g disk_mid disk_read failed (false ≡ true) (λ f. absurd (fine f)) (λ e. cc e) reads

      both : LeavesOthers g old new disk_now number
      both = leaves-then g old mid new disk_mid disk_now number (held-leaves g old mid disk disk_mid number rest does) last

      ended : (P : Type 0) (command : Command) → Does g P mid new disk_read disk_now (command ∷ []) → DoesAmongReads g P 0 old new disk disk_now (last_grow number rest ++ command ∷ [])
      ended P command = held-ended g on old mid disk disk_mid disk_read (last_grow number rest) all-held mid-ready (same disk_mid) P new disk_now command read-fine

      -- in their order
      in-order : (P : Type 0) (command : Command) → Does g P mid new disk_read disk_now (command ∷ []) → EndsInOrder g P false (at old disk) (at new disk_now) (last_grow number rest) (command ∷ [])
      in-order P command does =
          inr (record { then_is = at mid disk_mid; disk_read = disk_read; holds = all-held; reads = read-fine; unread = λ is. absurd (cc is); ends = λ fine. does })

      -- no fault was found
      module _ (header : CheckedHeader) (found : ChecksFile (g.content disk_mid) (placed_of (placed_in mid) number) moment header) where
        good : IsKnown g disk → fault_code (come_of (store_on g old disk) old number) ≡ None
        good known =
            let one = mid-under old mid number whole made in
            let here = subst (λ (o : Option Placed). IfSome o (λ f. IsSealable (stamp_at moment f) (octets_in (blocks_on (g.content disk_mid)) f) header.sum header.len)) one.found (found (mid-told known)) in
            ap fault_code (sym (come-known known)) ∙ here.faultless

        pub ends-uncertain : (e : DiskFault) → Does g (true ≡ true) mid new disk_read disk_now (seal number moment ∷ []) → EndsFile g (Err e) old new disk disk_now number moment
        ends-uncertain e sealing = record {
          code = None;
          tells = λ known. sym (good known);
          answers = tt;
          does = ended (true ≡ true) (seal number moment) sealing;
          order = in-order (true ≡ true) (seal number moment) sealing;
          leaves = both;
          file = tt;
        }

        pub ends-sealed : Does g (false ≡ true) mid new disk_read disk_now (seal number moment ∷ []) → IsSealedAt (store_in new) number moment → rest_in new number ≡ None
            → EndsFile g (Ok end.Sealed) old new disk disk_now number moment
        ends-sealed sealing at_moment out = record {
          code = None;
          tells = λ known. sym (good known);
          answers = refl;
          does = ended (false ≡ true) (seal number moment) sealing;
          order = in-order (false ≡ true) (seal number moment) sealing;
          leaves = both;
          file = (at_moment, sealed-whole (store_in new) number moment at_moment, out, good);
        }

      -- one was found
      module _ (code : ℕ) (found : HasFault (g.content disk_mid) (placed_of (placed_in mid) number) code) where
        bad : IsKnown g disk → fault_code (come_of (store_on g old disk) old number) ≡ Some code
        bad known =
            let one = mid-under old mid number whole made in
            let here = subst (λ (o : Option Placed). IfSome o (λ f. fault_code (octets_in (blocks_on (g.content disk_mid)) f) ≡ Some code)) one.found (found (mid-told known)) in
            ap fault_code (sym (come-known known)) ∙ here

        pub ends-doubtful : (e : DiskFault) → Does g (true ≡ true) mid new disk_read disk_now (drop_entry number ∷ []) → EndsFile g (Err e) old new disk disk_now number moment
        ends-doubtful e dropping = record {
          code = Some code;
          tells = λ known. sym (bad known);
          answers = tt;
          does = ended (true ≡ true) (drop_entry number) dropping;
          order = in-order (true ≡ true) (drop_entry number) dropping;
          leaves = both;
          file = tt;
        }

        pub ends-dropped : Does g (false ≡ true) mid new disk_read disk_now (drop_entry number ∷ []) → entry_of (store_in new) number ≡ None → rest_in new number ≡ None → IsFaultCode code
            → EndsFile g (Ok (end.Dropped code)) old new disk disk_now number moment
        ends-dropped dropping gone out is =
            record {
              code = Some code;
              tells = λ known. sym (bad known);
              answers = refl;
              does = ended (false ≡ true) (drop_entry number) dropping;
              order = in-order (false ≡ true) (drop_entry number) dropping;
              leaves = both;
              file = (gone, out, is, bad);
            }

-- the only Grow of octets that wait
pub rest-grow : (number : ℕ) (waits : List ℕ) → ¬ (length waits ≡ 0) → grow number waits ∷ [] ≡ last_grow number waits
rest-grow number [] some = absurd (some refl)
rest-grow number (x ∷ xs) some = refl

-- nothing waits, and so nothing is done
pub rest-none : {D : Type 0} (g : Ghosts D) (P : Type 0) (self : StoreState) (disk : D) (number : ℕ) (waits : List ℕ) → length waits ≡ 0 → ¬ P → IsReady g self disk → g.lasts disk disk
    → DoesTo g P self self disk disk (last_grow number waits) number
rest-none g P self disk number [] none fine ready lasts = DoesTo-none g P self disk number fine ready lasts
rest-none g P self disk number (x ∷ xs) none fine ready lasts = absurd (omega (arith, none))

-- what was answered is that the disk failed
pub ends-err : {D : Type 0} (g : Ghosts D) (result : Result End DiskFault) (old new : StoreState) (disk disk_now : D) (number moment : ℕ) → IsErr result
    → ((e : DiskFault) → EndsFile g (Err e) old new disk disk_now number moment) → EndsFile g result old new disk disk_now number moment
ends-err g (Ok x) old new disk disk_now number moment is ends = absurd (cc is)
ends-err g (Err e) old new disk disk_now number moment is ends = ends e
