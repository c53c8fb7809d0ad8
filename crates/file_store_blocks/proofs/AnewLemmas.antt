-- The file at a place, and the commands that rebuild it.
use Rattle.std.proofs.Common.{◌≡◌, ℕ, zero, suc, ◌+◌, ◌-◌, ◌*◌, ◌≤◌, ◌<◌, min, List, [], ◌∷◌, ◌++◌, length, drop, get_or, Option, None, Some, refl, ap, sym, ◌∙◌, subst, arith}
use Rattle.file_store_blocks.proofs.Names.{IfSome, slice_get, option_and_then, option_map, length-map, slice_get-get_or, IsAt, command_in, commands_in, commands_of, grows_in, left_from, left_in, seals_in, written, ArePlaced, IsPlaced, IsPlacedFile, Placed, PlacedStore, Seal, run_of, runs_of, with_next, PlacedCommand, begin, grow, seal, AreKept, PlacedFile, PlacedFiles, entries_of, files_from, in_runs, placed_info, store_of, with_run, record_of_placed, next_placed, Run, new_run, Info}
use Rattle.file_store_blocks.proofs.ChangeLemmas.{own_runs}
use Rattle.file_store_blocks.proofs.RunsLemmas.{length_in_runs}

-- ---- the file at a place

entry_slice : (runs : List Run) (files : List PlacedFile) (k : ℕ) (d : Run) → length runs ≡ length files
    → slice_get (entries_of (in_runs runs files)) k ≡ option_map (λ f. (with_run (get_or runs k d) f).entry) (slice_get files k)
entry_slice [] [] k d same = refl
entry_slice [] (f ∷ fs) k d same = absurd (omega (arith, same))
entry_slice (r ∷ rs) [] k d same = absurd (omega (arith, same))
entry_slice (r ∷ rs) (f ∷ fs) zero d same = refl
entry_slice (r ∷ rs) (f ∷ fs) (suc k) d same = entry_slice rs fs k d (omega (arith, same))

run_slice : (files : List Placed) (k : ℕ) (f : Placed) (d : Run) → slice_get files k ≡ Some f → get_or (runs_of files) k d ≡ run_of f
run_slice [] k f d is = absurd (cc)
run_slice (x ∷ xs) zero f d is = let same : x ≡ f = cc in ap run_of same
run_slice (x ∷ xs) (suc k) f d is = run_slice xs k f d is

module _ (runs : List Run) (items : List PlacedFile) (next blocks : ℕ) (kept : AreKept runs items next blocks) (now : PlacedFiles) (view : files_from (in_runs runs items) next blocks ≡ now) where
  -- another next number
  pub kept_next : (number least : ℕ) → IsPlaced (with_next least (store_of now)) → least ≤ number → AreKept runs items number blocks
  kept_next number least rules le = record {
    rules = next_placed least number (store_of (files_from (in_runs runs items) next blocks)) le (subst (λ (n : PlacedFiles). IsPlaced (with_next least (store_of n))) (sym view) rules);
    runs_are = kept.runs_are;
    count = kept.count;
    some = kept.some;
    most = kept.most;
  }

  pub count_entries : length (store_of now).entries ≡ length items
  count_entries =
      ap (λ (n : PlacedFiles). length (store_of n).entries) (sym view)
      ∙ length-map (in_runs runs items) (λ (f : PlacedFile). f.entry)
      ∙ length_in_runs runs items kept.count

  pub in_runs_range : (at : ℕ) → at < length (store_of now).entries → at < length runs
  in_runs_range at there = omega (arith, there, count_entries, kept.count)

  -- the file that the code has at a place
  pub file_at : (at : ℕ) (x : PlacedFile) → x ≡ get_or items at x → at < length items
      → slice_get (store_of now).entries at ≡ Some (with_run (get_or runs at (new_run 0)) x).entry
  file_at at x read there =
      ap (λ (n : PlacedFiles). slice_get (store_of n).entries at) (sym view)
      ∙ entry_slice runs items at (new_run 0) kept.count
      ∙ ap (option_map (λ (f : PlacedFile). (with_run (get_or runs at (new_run 0)) f).entry)) (slice_get-get_or items at x there ∙ ap Some (sym read))

  pub none_at : (at : ℕ) → length items ≤ at → slice_get (store_of now).entries at ≡ None
  none_at at past = by (store_of now).entries at (omega (arith, past, count_entries))
    where
      by : (files : List Placed) (k : ℕ) → length files ≤ k → slice_get files k ≡ None
      by [] k le = refl
      by (f ∷ fs) zero le = absurd (omega (arith, le))
      by (f ∷ fs) (suc k) le = by fs k (omega (arith, le))

  -- the run of the file at a place
  pub run_at_is : (at : ℕ) (f : Placed) → slice_get (store_of now).entries at ≡ Some f → get_or runs at (new_run 0) ≡ run_of f
  run_at_is at f is =
      ap (λ (rs : List Run). get_or rs at (new_run 0)) (own_runs runs items next blocks kept now view)
      ∙ run_slice (store_of now).entries at f (new_run 0) is

-- a file is at each place before the end
pub entry_there : (files : List Placed) (at : ℕ) → at < length files → (f : Placed) × (slice_get files at ≡ Some f)
entry_there [] at there = absurd (omega (arith, there))
entry_there (f ∷ fs) zero there = (f, refl)
entry_there (f ∷ fs) (suc at) there = entry_there fs at (omega (arith, there))

pub some_same : {A : Type 0} {x y : A} → Some x ≡ Some y → x ≡ y
some_same is = cc

-- what is true of the file at a place, if there is one
pub says_at : (store : PlacedStore) (at : ℕ) (P : Placed → Type 0) → ((f : Placed) → slice_get store.entries at ≡ Some f → P f) → IsAt store at P
says_at store at P says = by (slice_get store.entries at) refl
  where
    by : (o : Option Placed) → slice_get store.entries at ≡ o → IfSome o P
    by None is = tt
    by (Some f) is = says f is

pub at_says : (store : PlacedStore) (at : ℕ) (P : Placed → Type 0) (f : Placed) → slice_get store.entries at ≡ Some f → IsAt store at P → P f
at_says store at P f is says = subst (λ (o : Option Placed). IfSome o P) is says

-- ---- the commands of a file

-- the Grow of the block at this place
pub grow_at : (number count : ℕ) (blocks : List ℕ) (later : List PlacedCommand) (place block : ℕ) → slice_get blocks place ≡ Some block
    → slice_get (grows_in number count blocks ++ later) place ≡ Some (grow number block (min 512 (count - 512 * place)))
grow_at number count [] later place block is = absurd (cc)
grow_at number count (b ∷ bs) later zero block is =
    let same : b ≡ block = cc in
    ap (λ (x : ℕ). Some (grow number x (min 512 count))) same ∙ ap (λ (n : ℕ). Some (grow number block (min 512 n))) (omega arith)
grow_at number count (b ∷ bs) later (suc place) block is =
    grow_at number (count - 512) bs later place block is
    ∙ ap (λ (n : ℕ). Some (grow number block (min 512 n))) (omega arith)

-- what comes after them
pub behind_grows : (number count : ℕ) (blocks : List ℕ) (later : List PlacedCommand) (more : ℕ)
    → slice_get (grows_in number count blocks ++ later) (length blocks + more) ≡ slice_get later more
behind_grows number count [] later more = let same : 0 + more ≡ more = omega arith in ap (λ (k : ℕ). slice_get later k) same
behind_grows number count (b ∷ bs) later more =
    let next : length (b ∷ bs) + more ≡ suc (length bs + more) = omega arith in
    ap (λ (k : ℕ). slice_get (grow number b (min 512 count) ∷ (grows_in number (count - 512) bs ++ later)) k) next
    ∙ behind_grows number (count - 512) bs later more

pub seal_there : (number : ℕ) (mark : Option Seal) → slice_get (seals_in number mark) 0 ≡ option_map (λ s. seal number s.moment s.sum) mark
seal_there number None = refl
seal_there number (Some mark) = refl

pub past_seal : (number : ℕ) (mark : Option Seal) (more : ℕ) → 1 ≤ more → slice_get (seals_in number mark) more ≡ None
past_seal number None more some = refl
past_seal number (Some mark) zero some = absurd (omega (arith, some))
past_seal number (Some mark) (suc more) some = refl

-- ---- a command of the file at a place

slice_range : (files : List Placed) (k : ℕ) (f : Placed) → slice_get files k ≡ Some f → k < length files
slice_range [] k f is = absurd (cc)
slice_range (x ∷ xs) zero f is = omega arith
slice_range (x ∷ xs) (suc k) f is = omega (arith, slice_range xs k f is)

slice_is : (limit : ℕ) (files : List Placed) (k : ℕ) (f : Placed) → ArePlaced limit files → slice_get files k ≡ Some f → IsPlacedFile limit f
slice_is limit [] k f are is = absurd (cc)
slice_is limit (x ∷ xs) zero f are is = let same : x ≡ f = cc in subst (IsPlacedFile limit) same are.0
slice_is limit (x ∷ xs) (suc k) f are is = slice_is limit xs k f are.1 is

-- the file about which this is reported
pub info_there : (o : Option Placed) (result : Option Info) (info : Info) → result ≡ option_map placed_info o → result ≡ Some info → (f : Placed) × (o ≡ Some f) × (info ≡ placed_info f)
info_there None result info told is = absurd (cc (sym is ∙ told))
info_there (Some f) result info told is = (f, refl, some_same (sym is ∙ told))

module _ (store : PlacedStore) (is : IsPlaced store) (at : ℕ) (f : Placed) (there : slice_get store.entries at ≡ Some f) where
  file_here : IsPlacedFile store.blocks f
  file_here = slice_is store.blocks store.entries at f is.files there

  pub at_range : at < length store.entries
  at_range = slice_range store.entries at f there

  pub at_small : at < 1024
  at_small = omega (arith, at_range, is.few)

  command_of : (part : ℕ) → command_in store at part ≡ slice_get (commands_of f) part
  command_of part = ap (option_and_then (λ (g : Placed). slice_get (commands_of g) part)) there

  pub part_small : (part : ℕ) → part ≤ length f.blocks + 1 → part < 131072
  part_small part few = omega (arith, few, file_here.count, file_here.fits, file_here.short)

  pub first_command : command_in store at 0 ≡ Some (begin f.number f.caller f.length f.begun)
  first_command = command_of 0

  module _ (place : ℕ) where
    -- the command after the Begin
    command_behind : command_in store at (suc place) ≡ slice_get (grows_in f.number f.held f.blocks ++ seals_in f.number f.seal) place
    command_behind = command_of (suc place)

    pub grow_command : (block : ℕ) → slice_get f.blocks place ≡ Some block → command_in store at (suc place) ≡ Some (grow f.number block (min 512 (f.held - 512 * place)))
    grow_command block block_is = command_behind ∙ grow_at f.number f.held f.blocks (seals_in f.number f.seal) place block block_is

    behind : (more : ℕ) → place ≡ length f.blocks + more → command_in store at (suc place) ≡ slice_get (seals_in f.number f.seal) more
    behind more past =
        command_behind ∙ ap (λ (k : ℕ). slice_get (grows_in f.number f.held f.blocks ++ seals_in f.number f.seal) k) past
        ∙ behind_grows f.number f.held f.blocks (seals_in f.number f.seal) more

    pub past_command : length f.blocks < place → command_in store at (suc place) ≡ None
    past_command past = behind (place - length f.blocks) (omega (arith, past)) ∙ past_seal f.number f.seal (place - length f.blocks) (omega (arith, past))

    pub seal_command : place ≡ length f.blocks → command_in store at (suc place) ≡ option_map (λ s. seal f.number s.moment s.sum) f.seal
    seal_command last = behind 0 (omega (arith, last)) ∙ seal_there f.number f.seal

-- ---- the records that are left

drop_at : {A : Type 0} (xs : List A) (k : ℕ) (x : A) → slice_get xs k ≡ Some x → drop k xs ≡ x ∷ drop (suc k) xs
drop_at [] k x is = absurd (cc)
drop_at (y ∷ ys) zero x is = let same : y ≡ x = cc in ap (λ z. z ∷ ys) same
drop_at (y ∷ ys) (suc k) x is = drop_at ys k x is

drop_past : {A : Type 0} (xs : List A) (k : ℕ) → slice_get xs k ≡ None → drop k xs ≡ []
drop_past [] zero is = refl
drop_past [] (suc k) is = refl
drop_past (y ∷ ys) zero is = absurd (cc)
drop_past (y ∷ ys) (suc k) is = drop_past ys k is

drop_beyond : {A : Type 0} (xs : List A) (k : ℕ) → slice_get xs k ≡ None → drop (suc k) xs ≡ []
drop_beyond [] k none = refl
drop_beyond (y ∷ ys) zero none = absurd (cc)
drop_beyond (y ∷ ys) (suc k) none = drop_beyond ys k none

module _ (store : PlacedStore) (at part : ℕ) where
  -- a command that is there is the first one that is left
  left_some : (command : PlacedCommand) → command_in store at part ≡ Some command → left_from store (suc at) part ≡ record_of_placed command ∷ left_from store (suc at) (suc part)
  left_some command is = by (slice_get store.entries at) refl is
    where
      by : (o : Option Placed) → slice_get store.entries at ≡ o → option_and_then (λ f. slice_get (commands_of f) part) o ≡ Some command
          → left_from store (suc at) part ≡ record_of_placed command ∷ left_from store (suc at) (suc part)
      by None none here = absurd (cc here)
      by (Some f) some here =
          let files = drop_at store.entries at f some in
          ap (λ (fs : List Placed). left_in fs part) files
          ∙ ap (λ (cs : List PlacedCommand). written (cs ++ commands_in (drop (suc at) store.entries))) (drop_at (commands_of f) part command here)
          ∙ sym (ap (λ (fs : List Placed). record_of_placed command ∷ left_in fs (suc part)) files)

  -- if none is there, those of the next file are left
  left_next : command_in store at part ≡ None → left_from store (suc at) part ≡ left_from store (suc (suc at)) 0
  left_next is = by (slice_get store.entries at) refl is
    where
      all_in : (fs : List Placed) → written (commands_in fs) ≡ left_in fs 0
      all_in [] = refl
      all_in (f ∷ fs) = refl

      by : (o : Option Placed) → slice_get store.entries at ≡ o → option_and_then (λ f. slice_get (commands_of f) part) o ≡ None
          → left_from store (suc at) part ≡ left_from store (suc (suc at)) 0
      by None none here =
          ap (λ (fs : List Placed). left_in fs part) (drop_past store.entries at none)
          ∙ sym (ap (λ (fs : List Placed). left_in fs 0) (drop_beyond store.entries at none))
      by (Some f) some here =
          ap (λ (fs : List Placed). left_in fs part) (drop_at store.entries at f some)
          ∙ ap (λ (cs : List PlacedCommand). written (cs ++ commands_in (drop (suc at) store.entries))) (drop_past (commands_of f) part here)
          ∙ all_in (drop (suc at) store.entries)

-- if no first command is there, no file is
left_none : (store : PlacedStore) (at : ℕ) → command_in store at 0 ≡ None → left_from store (suc at) 0 ≡ []
left_none store at is = by (slice_get store.entries at) refl is
  where
    by : (o : Option Placed) → slice_get store.entries at ≡ o → option_and_then (λ f. slice_get (commands_of f) 0) o ≡ None → left_from store (suc at) 0 ≡ []
    by None none here = ap (λ (fs : List Placed). left_in fs 0) (drop_past store.entries at none)
    by (Some f) some here = absurd (cc here)

-- ---- the same by the entry's number, which is one more than the place of its file

module _ (store : PlacedStore) (entry part : ℕ) (file : 1 ≤ entry) where
  entry_is : entry ≡ suc (entry - 1)
  entry_is = omega (arith, file)

  pub anew_some : (command : PlacedCommand) → command_in store (entry - 1) part ≡ Some command → left_from store entry part ≡ record_of_placed command ∷ left_from store entry (part + 1)
  anew_some command is =
      let one : part + 1 ≡ suc part = omega arith in
      subst (λ (e : ℕ). left_from store e part ≡ record_of_placed command ∷ left_from store e (part + 1)) (sym entry_is)
      (left_some store (entry - 1) part command is
      ∙ sym (ap (λ (k : ℕ). record_of_placed command ∷ left_from store (suc (entry - 1)) k) one))

  module _ (none : command_in store (entry - 1) part ≡ None) where
    to_next : left_from store entry part ≡ left_from store (suc (suc (entry - 1))) 0
    to_next = ap (λ (e : ℕ). left_from store e part) entry_is ∙ left_next store (entry - 1) part none

    pub anew_next : (command : PlacedCommand) → command_in store (entry - 1 + 1) 0 ≡ Some command → left_from store entry part ≡ record_of_placed command ∷ left_from store (entry + 1) 1
    anew_next command is =
        let at : entry - 1 + 1 ≡ suc (entry - 1) = omega arith in
        let after : entry + 1 ≡ suc (suc (entry - 1)) = omega (arith, file) in
        let here = left_some store (suc (entry - 1)) 0 command (ap (λ (k : ℕ). command_in store k 0) (sym at) ∙ is) in
        to_next ∙ here ∙ sym (ap (λ (e : ℕ). record_of_placed command ∷ left_from store e 1) after)

    pub anew_none : command_in store (entry - 1 + 1) 0 ≡ None → left_from store entry part ≡ []
    anew_none is =
        let at : entry - 1 + 1 ≡ suc (entry - 1) = omega arith in
        to_next ∙ left_none store (suc (entry - 1)) (ap (λ (k : ℕ). command_in store k 0) (sym at) ∙ is)
