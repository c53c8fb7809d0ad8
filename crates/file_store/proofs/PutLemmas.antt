-- What a change of the entries makes of what memory shows.
use Rattle.std.proofs.Common.{◌≡◌, ℕ, ◌+◌, ◌≤◌, ◌<◌, Bool, not, [], ◌∷◌, length, replicate, nat_le, nat_lt, Option, None, Some, Result, Ok, Err, IsErr, OnOk, OnErr, inl, inr, refl, sym, ◌∙◌, ap, subst, arith}
use Rattle.std.specs.Prelude.{◌&&◌}
use Rattle.file_store_model.specs.Bars.{Bars}
use Rattle.file_store_model.specs.declared.begin_bar.BeginBar.{BeginBar}
use Rattle.file_store_model.specs.declared.begin_bar.BeginBar.TheVariants.{TooLong, TooMany, NumbersGone, NoRoom}
use Rattle.file_store.specs.Refusals.{refusal_of_bar}
use Rattle.file_store.specs.declared.change.EntriesChange.TheVariants as change
use Rattle.file_store.proofs.Names.{IfErr, IfNone, IsErrAnd, IsTrue, is_some, and_parts, eqb-true, ltb-true, nat_tests, length-map, Ghosts, IsPlaced, blocks_seen, rooms_files, sum_map, outlined, outlined_entry, Placed, PlacedStore, Seal, can_grow, is_partial, EntriesState, IsLowest, KeepsRests, PlacedFiles, lacks_octets, store_of, seen, seen_entry, Grows, Passes, outlined_grown, MayBegin, after, after_all, grow, Entry, blocks_for, blocks_of, entry_count, free_blocks, both-true, Blocks, RefusesBegin, MakesOf, MayMake, waiting_in, Does, DoesTo, after_first, outlined_all, StandsOn, StoreState, placed_in, rest_in, store_in, FillsBlock, BeginRefusal}
use Rattle.file_store.proofs.TokenLemmas.{IsFileUnder, file-under}
use Rattle.file_store.proofs.TurnLemmas.{waits-length}

-- ---- whether a file can be begun, as far as memory shows

module _ (held : Blocks) (store : PlacedStore) where
  count-shown : entry_count (outlined store) ≡ entry_count (seen held store)
  count-shown = length-map store.entries outlined_entry ∙ sym (length-map store.entries (seen_entry held))

  blocks-shown : blocks_of (outlined store) ≡ blocks_of (seen held store)
  blocks-shown =
      sum_map (λ (e : Entry). blocks_for e.length) outlined_entry store.entries ∙ sym (rooms_files store.entries) ∙ sym (blocks_seen held store)

  free-shown : free_blocks (outlined store) ≡ free_blocks (seen held store)
  free-shown = omega (arith, blocks-shown)

  pub may-begin-shown : (file_length : ℕ) → MayBegin (seen held store) file_length → MayBegin (outlined store) file_length
  may-begin-shown file_length may = record {
    short = may.short;
    few = omega (arith, may.few, count-shown);
    left = may.left;
    room = omega (arith, may.room, free-shown);
  }

  pub bars-shown : (bar : BeginBar) (file_length : ℕ) → Bars bar (seen held store) file_length → Bars bar (outlined store) file_length
  bars-shown TooLong file_length bars = bars
  bars-shown TooMany file_length bars = (bars.0, omega (arith, bars.1, count-shown))
  bars-shown NumbersGone file_length bars = (bars.0, omega (arith, bars.1, count-shown), bars.2)
  bars-shown (NoRoom blocks free) file_length bars =
      (bars.0, omega (arith, bars.1, count-shown), bars.2, omega (arith, bars.3, free-shown), bars.4, omega (arith, bars.5, free-shown))

pub bar-refuses : (self : StoreState) (bar : BeginBar) (file_length : ℕ) → Bars bar (store_in self) file_length → RefusesBegin self file_length (refusal_of_bar bar)
bar-refuses self TooLong file_length bars = bars
bar-refuses self TooMany file_length bars = bars
bar-refuses self NumbersGone file_length bars = bars
bar-refuses self (NoRoom blocks free) file_length bars = bars

-- what is claimed for every content of the blocks, of a store that is another's value
pub begin-barred : (inside self : StoreState) (bar : BeginBar) (file_length : ℕ) → inside ≡ self → ((held : Blocks) → Bars bar (seen held (placed_in inside)) file_length)
    → RefusesBegin self file_length (refusal_of_bar bar)
begin-barred inside self bar file_length same bars =
    subst (λ (s : StoreState). RefusesBegin s file_length (refusal_of_bar bar)) same (bar-refuses inside bar file_length (bars-shown (λ b. []) (placed_in inside) bar file_length (bars (λ b. []))))

pub begin-may : (inside self : StoreState) (bar : Option BeginBar) (file_length : ℕ) → inside ≡ self → bar ≡ None → ((held : Blocks) → IfNone bar (MayBegin (seen held (placed_in inside)) file_length))
    → MayBegin (store_in self) file_length
begin-may inside self None file_length same none may =
    subst (λ (s : StoreState). MayBegin (store_in s) file_length) same (may-begin-shown (λ b. []) (placed_in inside) file_length (may (λ b. [])))
begin-may inside self (Some bar) file_length same none may = absurd (cc none)

pub none-may : (bar : Option BeginBar) (P : Type 0) → bar ≡ None → IfNone bar P → P
none-may None P none may = may
none-may (Some bar) P none may = absurd (cc none)

pub refused-as : {T : Type 0} (self : StoreState) (file_length : ℕ) (result : Result T BeginRefusal) (refusal : BeginRefusal) → IsErrAnd result (λ r. r ≡ refusal) → RefusesBegin self file_length refusal
    → IfErr result (RefusesBegin self file_length)
refused-as self file_length (Ok v) refusal is refuses = tt
refused-as self file_length (Err r) refusal is refuses = subst (λ (x : BeginRefusal). RefusesBegin self file_length x) (sym is) refuses

-- ---- octets that become held

module _ (self : StoreState) (number count : ℕ) (fills : FillsBlock self number count) where
  abbrev under : IsFileUnder (placed_in self) number (length fills.waits.held) fills.waits.entry
  under = file-under (placed_in self) number fills.waits.entry fills.waits.held fills.waits.partial_is fills.waits.is_entry

  long : under.file.length ≡ fills.waits.entry.length
  long = ap (λ (e : Entry). e.length) under.shown

  -- the file lacks octets
  pub fills-lacks : Passes (placed_in self) number lacks_octets
  fills-lacks =
      let some = fills.some in
      let all = fills.all in
      let fits = fills.waits.fits in
      let below : under.file.held < under.file.length = omega (arith, long, under.many) in
      record { file = under.file; found = under.found; test_is = grind (arith, nat_tests) }

  can-fill : IsTrue (can_grow under.file count)
  can-fill =
      let f : Placed = under.file in
      let all = fills.all in
      let fits = fills.waits.fits in
      let room : IsTrue (nat_le (f.held + count) f.length) = let sum : f.held + count ≤ f.length = omega (arith, long, under.many) in grind (arith, nat_tests) in
      let partial : IsTrue (is_partial f) = ap (λ (s : Option Seal). not (is_some s)) under.seal in
      both-true (is_partial f && nat_le (f.held + count) f.length) _ (both-true (is_partial f) _ partial room) (elim fills.fills [
        | inl full ↦ grind (arith, nat_tests)
        | inr all ↦ let sum : f.held + count ≡ f.length = omega (arith, long, under.many, all) in grind (arith, nat_tests)
      ])

  pub fills-grows : (block : ℕ) → IsLowest (placed_in self) block → Grows (placed_in self) number block count
  fills-grows block lowest =
      let free = and_parts (nat_lt block (placed_in self).blocks) _ lowest.free in
      record {
        takes = record { some = fills.some; most = fills.most; there = ltb-true _ _ free.0; free = eqb-true _ _ free.1 };
        passes = record { file = under.file; found = under.found; test_is = can-fill };
      }

  pub fills-may : (block least : ℕ) (first : Bool) → IsPlaced (placed_in self) → IsLowest (placed_in self) block
      → MayMake (change.Hold number block count) (record { files = self.files; least = least; first = first })
  fills-may block least first is lowest = record {
    rules = is;
    has = ((fills.waits.rest, fills.waits.out, fills.all), fills-grows block lowest, lowest);
  }

  -- what memory shows then
  pub hold-whole : (new : StoreState) (block : ℕ) → IsPlaced (placed_in self) → IsLowest (placed_in self) block → MakesOf (change.Hold number block count) self.files new.files
      → store_in new ≡ after_all (store_in self) (outlined_all (grow number (waiting_in self.files number) ∷ []))
  hold-whole new block is lowest makes =
      ap outlined makes.store_is
      ∙ outlined_grown (placed_in self) number block count is (fills-grows block lowest)
      ∙ ap (λ (n : ℕ). after (store_in self) (grow number (replicate n 0))) (sym (waits-length self.files number count fills.waits.rest fills.waits.out fills.all))

  pub hold-part : {T E : Type 0} (result : Result T E) (new : StoreState) (block : ℕ) → IsPlaced (placed_in self) → IsLowest (placed_in self) block
      → OnOk result (MakesOf (change.Hold number block count) self.files new.files) → OnErr result (new.files ≡ self.files)
      → (done : ℕ) × (store_in new ≡ after_first done (store_in self) (outlined_all (grow number (waiting_in self.files number) ∷ [])))
  hold-part (Ok v) new block is lowest makes same = (1, hold-whole new block is lowest makes)
  hold-part (Err e) new block is lowest makes same = (0, ap (λ (f : PlacedFiles). outlined (store_of f)) same)

  pub hold-rests : {T E : Type 0} (result : Result T E) (new : StoreState) (block : ℕ) → OnOk result (MakesOf (change.Hold number block count) self.files new.files) → OnErr result (new.files ≡ self.files)
      → KeepsRests self.files new.files number
  hold-rests (Ok v) new block makes same = makes.others
  hold-rests (Err e) new block makes same = λ other ne. ap (λ (f : PlacedFiles). rest_in (record self { files = f }) other) same

-- ---- what a call's result says

pub ok-made : {T E : Type 0} (result : Result T E) (P : Type 0) → ¬ IsErr result → OnOk result P → P
ok-made (Ok v) P fine made = made
ok-made (Err e) P fine made = absurd (fine refl)

pub err-files : {T E : Type 0} (result : Result T E) (old new : EntriesState) → OnErr result (new ≡ old) → OnErr result (new.files ≡ old.files)
err-files (Ok v) old new same = tt
err-files (Err e) old new same = ap (λ (s : EntriesState). s.files) same

module _ {D T E : Type 0} (g : Ghosts D) (result : Result T E) (self new : StoreState) (disk disk_now : D) (number count block : ℕ) (fills : FillsBlock self number count) where
  pub hold-does : IsPlaced (placed_in self) → IsLowest (placed_in self) block → Does g (IsErr result) self new disk disk_now (grow number (waiting_in self.files number) ∷ [])
      → StandsOn g new disk_now → OnOk result (MakesOf (change.Hold number block count) self.files new.files) → OnErr result (new.files ≡ self.files)
      → DoesTo g (IsErr result) self new disk disk_now (grow number (waiting_in self.files number) ∷ []) number
  hold-does is lowest does stands makes same = record {
    does = does;
    stands_on = stands;
    part = hold-part self number count fills result new block is lowest makes same;
    whole = λ fine. hold-whole self number count fills new block is lowest (ok-made result _ fine makes);
    rests = hold-rests self number count fills result new block makes same;
  }
