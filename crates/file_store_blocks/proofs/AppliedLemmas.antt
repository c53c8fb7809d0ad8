-- What the answer to a command says.
use Rattle.std.proofs.Common.{◌≡◌, ℕ, ◌+◌, ◌==◌, ◌≤◌, ◌&&◌, nat_le, nat_lt, length, Bool, true, false, List, [], Option, None, Some, refl, ap, ap₂, sym, ◌∙◌, subst, arith}
use Rattle.file_store_model.specs.Bars.{Bars}
use Rattle.file_store_model.specs.Store.{blocks_of}
use Rattle.file_store_model.specs.declared.begin_bar.BeginBar.{BeginBar}
use Rattle.file_store_model.specs.declared.begin_bar.BeginBar.TheVariants.{TooLong, TooMany, NumbersGone, NoRoom}
use Rattle.file_store_blocks.proofs.Names.{le-max_right, and_parts, eq-eqb, le-leb, leb-true, lt-ltb, option_map, IfNone, IfSome, IsTrue, is_some, nat_tests, Applied, AppliesRecord, TakesNext, IsSealable, IsPlaced, after_placed, blocks_seen, drop_placed, grow_placed, seal_placed, Placed, PlacedStore, new_placed, placed_of, with_next, PlacedCommand, begin, can_seal, drop_entry, grow, header_at, is_allowed, is_partial, is_whole, passes_at, seal, seal_with, with_grown, with_sealed, without_file, EntriesState, KeepsReading, placed_info, read_of, store_of, may_number, next_placed, IsReadStore, ReadStore, change, may_change, may_have, next_is, with_later, octets_in, seen, stamp_at, Grows, Passes, TakesSeal, passes_found, IsTold, MayBegin, can_begin, last_next, longest_file, most_entries, Store, blocks_for, Info, Blocks, blocks_on, CallSign, IsCall, fault_code}

-- a command whose condition doesn't hold
pub refused_is : (content : Option (List ℕ)) (before now : EntriesState) (command : PlacedCommand) → IsReadStore (read_of before)
    → (IsTold content → may_change (blocks_on content) (read_of before) command ≡ false) → now ≡ before → Applied content false before now command
refused_is content before now command rules refused same =
    record {
      answers = λ told. refused told;
      same = λ is. same;
      number = ap (λ (s : EntriesState). s.files.blocks) same;
      least = ap (λ (s : EntriesState). s.least) same;
      first = ap (λ (s : EntriesState). s.first) same;
      rules = subst (λ (s : EntriesState). IsReadStore (read_of s)) (sym same) rules;
    }

-- entries keep their rules if what they became does
rules_are : (now : EntriesState) (store : PlacedStore) (least : ℕ) → store_of now.files ≡ store → now.least ≡ least → IsPlaced (with_next least store) → least ≤ store.next → IsReadStore (read_of now)
rules_are now store least store_is least_is rules le =
    record {
      rules = subst IsPlaced (sym (ap₂ (λ (n : ℕ) (s : PlacedStore). with_next n s) least_is store_is)) rules;
      least = omega (arith, le, least_is, ap (λ (s : PlacedStore). s.next) store_is);
    }

-- a file that may be begun
pub begin_allowed : (held : Blocks) (store : PlacedStore) (caller : CallSign) (file_length moment : ℕ) → IsPlaced store → MayBegin (seen held store) file_length
    → IsTrue (is_allowed held store (begin store.next caller file_length moment))
begin_allowed held store caller file_length moment is may =
    let short : nat_le file_length longest_file ≡ true = le-leb _ _ may.short in
    let few : nat_lt (length (seen held store).entries) most_entries ≡ true = lt-ltb _ _ may.few in
    let left : nat_lt store.next last_next ≡ true = lt-ltb _ _ may.left in
    let room : nat_le (blocks_of (seen held store) + blocks_for file_length) store.blocks ≡ true =
    le-leb _ _ (omega (arith, may.room, blocks_seen held store, is.rooms)) in
    rw (eq-eqb store.next store.next refl, short, few, left, room) refl

module _ (before now : EntriesState) (rules : IsReadStore (read_of before)) where
  abbrev store : PlacedStore
  store = store_of before.files

  -- a Begin
  pub begun_is : (number file_length moment : ℕ) (caller : CallSign) → IsCall caller → IsTrue (may_have (read_of before) number)
      → ((held : Blocks) → MayBegin (seen held (with_next number store)) file_length)
      → store_of now.files ≡ with_later store (new_placed number caller file_length moment) → now.least ≡ number + 1 → now.first ≡ before.first
      → (content : Option (List ℕ)) → Applied content true before now (begin number caller file_length moment)
  begun_is number file_length moment caller call have may store_is least_is first_is content =
      let numbers = may_number (read_of before) number have in
      let below = next_placed before.least number store numbers.0 rules.rules in
      let begins : (held : Blocks) → IsTrue (is_allowed held (with_next number store) (begin number caller file_length moment)) =
      λ held. begin_allowed held (with_next number store) caller file_length moment below (may held) in
      let ok : (held : Blocks) → IsTrue (may_change held (read_of before) (begin number caller file_length moment)) = λ held. rw have (begins held) in
      record {
        answers = λ told. record { may = ok (blocks_on content); store = store_is };
        same = λ is. absurd (cc is);
        number = ap (λ (s : PlacedStore). s.blocks) store_is;
        least = least_is;
        first = first_is;
        rules =
            rules_are now (with_later store (new_placed number caller file_length moment)) (number + 1) store_is least_is
            (after_placed (λ b. []) (with_next number store) (begin number caller file_length moment) below call (begins (λ b. [])))
            (le-max_right store.next (number + 1));
      }

  -- a Grow
  pub grown_is_read : (number block used : ℕ) → Grows store number block used → store_of now.files ≡ with_grown store number block used → KeepsReading before now
      → ((held : Blocks) → IsTrue (is_allowed held store (grow number block used)))
      → (content : Option (List ℕ)) → Applied content true before now (grow number block used)
  grown_is_read number block used grows store_is keeps ok content =
      record {
        answers = λ told. record { may = ok (blocks_on content); store = store_is };
        same = λ is. absurd (cc is);
        number = ap (λ (s : PlacedStore). s.blocks) store_is;
        least = keeps.least;
        first = keeps.first;
        rules =
            rules_are now (with_grown store number block used) before.least store_is keeps.least
            (grow_placed (with_next before.least store) number block used rules.rules grows_least) rules.least;
      }
    where
      grows_least : Grows (with_next before.least store) number block used
      grows_least = record {
        takes = record { some = grows.takes.some; most = grows.takes.most; there = grows.takes.there; free = grows.takes.free };
        passes = record { file = grows.passes.file; found = grows.passes.found; test_is = grows.passes.test_is };
      }

  -- a Seal
  pub sealed_is_read : (content : Option (List ℕ)) (number moment sum header : ℕ) → TakesSeal store number header
      → store_of now.files ≡ with_sealed store number (seal_with moment sum header) → KeepsReading before now
      → (IsTold content → IsTrue (passes_at store number (λ f. can_seal (blocks_on content) f moment sum)) × (header ≡ header_at (blocks_on content) store number))
      → Applied content true before now (seal number moment sum)
  sealed_is_read content number moment sum header takes store_is keeps tells =
      record {
        answers = λ told. record {
          may = (tells told).0;
          store = store_is ∙ ap (λ (n : ℕ). with_sealed store number (seal_with moment sum n)) (tells told).1;
        };
        same = λ is. absurd (cc is);
        number = ap (λ (s : PlacedStore). s.blocks) store_is;
        least = keeps.least;
        first = keeps.first;
        rules =
            rules_are now (with_sealed store number (seal_with moment sum header)) before.least store_is keeps.least
            (seal_placed (with_next before.least store) number (seal_with moment sum header) rules.rules takes_least) rules.least;
      }
    where
      takes_least : TakesSeal (with_next before.least store) number header
      takes_least = record {
        passes = record { file = takes.passes.file; found = takes.passes.found; test_is = takes.passes.test_is };
        inside = takes.inside;
      }

  -- a Drop
  pub dropped_is_read : (number : ℕ) → Passes store number is_partial → store_of now.files ≡ without_file store number → KeepsReading before now
      → (content : Option (List ℕ)) → Applied content true before now (drop_entry number)
  dropped_is_read number passes store_is keeps content =
      record {
        answers = λ told. record { may = passes_found store number is_partial passes.file passes.found ∙ passes.test_is; store = store_is };
        same = λ is. absurd (cc is);
        number = ap (λ (s : PlacedStore). s.blocks) store_is;
        least = keeps.least;
        first = keeps.first;
        rules =
            rules_are now (without_file store number) before.least store_is keeps.least
            (drop_placed (with_next before.least store) number rules.rules (record { file = passes.file; found = passes.found; test_is = passes.test_is })) rules.least;
      }

-- ---- what a record says

-- a store that is read, after its first record
abbrev some_read : PlacedStore → ℕ → Option ReadStore
some_read store least = Some (record { store = store; least = least; first = false })

-- nothing changes except that a record came
abbrev passed_first : EntriesState → EntriesState
passed_first now = record now { first = false }

pub command_record : (content : Option (List ℕ)) (done : Bool) (before made now : EntriesState) (command : PlacedCommand) → Applied content done before made command
    → (done ≡ true → now ≡ passed_first made) → (done ≡ false → now ≡ made) → AppliesRecord content done before now (change command)
command_record content true before made now command applied passes stays =
    let same : now ≡ passed_first made = passes refl in
    subst (λ (s : EntriesState). AppliesRecord content true before s (change command)) (sym same)
    (record {
      answers = λ told.
          let is = applied.answers told in
          rw is.may
          (ap₂ some_read (sym is.store) (sym applied.least));
      same = λ is. absurd (cc is);
      number = applied.number;
      rules = record { rules = applied.rules.rules; least = applied.rules.least };
    })
command_record content false before made now command applied passes stays =
    let same : now ≡ before = stays refl ∙ applied.same refl in
    record {
      answers = λ told. rw (applied.answers told) refl;
      same = λ is. same;
      number = ap (λ (s : EntriesState). s.files.blocks) same;
      rules = subst (λ (s : EntriesState). IsReadStore (read_of s)) (sym (stays refl)) applied.rules;
    }

pub next_record : (content : Option (List ℕ)) (done : Bool) (before made now : EntriesState) (number : ℕ) → IsReadStore (read_of before) → TakesNext done before made number
    → (done ≡ true → now ≡ passed_first made) → (done ≡ false → now ≡ made) → AppliesRecord content done before now (next_is number)
next_record content true before made now number rules takes passes stays =
    let same : now ≡ passed_first made = passes refl in
    let store_is = takes.store refl in
    let may : (before.first && nat_le before.least number) ≡ true = sym takes.may in
    let le : before.least ≤ number = leb-true _ _ (and_parts before.first (nat_le before.least number) may).1 in
    subst (λ (s : EntriesState). AppliesRecord content true before s (next_is number)) (sym same)
    (record {
      answers = λ told.
          rw may
          (ap₂ some_read (sym store_is) (sym takes.reading.least));
      same = λ is. absurd (cc is);
      number = ap (λ (s : PlacedStore). s.blocks) store_is;
      rules = rules_are (passed_first made) (with_next number (store_of before.files)) before.least store_is takes.reading.least rules.rules le;
    })
next_record content false before made now number rules takes passes stays =
    let same : now ≡ before = stays refl ∙ takes.same refl in
    let may : (before.first && nat_le before.least number) ≡ false = sym takes.may in
    record {
      answers = λ told. rw may refl;
      same = λ is. same;
      number = ap (λ (s : EntriesState). s.files.blocks) same;
      rules = subst (λ (s : EntriesState). IsReadStore (read_of s)) (sym same) rules;
    }

-- ---- what is reported about a file

-- the file about which this is reported
pub record Told (store : PlacedStore) (number : ℕ) (info : Info) : Type 0 where
  pub file : Placed
  pub found : placed_of store number ≡ Some file
  pub is : info ≡ placed_info file

pub told : (store : PlacedStore) (number : ℕ) (info : Info) → Some info ≡ option_map placed_info (placed_of store number) → Told store number info
told store number info h = by (placed_of store number) refl h
  where
    by : (o : Option Placed) → placed_of store number ≡ o → Some info ≡ option_map placed_info o → Told store number info
    by None e h = absurd (cc)
    by (Some file) e h = record { file = file; found = e; is = cc }

-- ---- whether a file may be sealed

module _ (held : Blocks) (store : PlacedStore) (number moment sum : ℕ) (passes : Passes store number is_whole) where
  pub sum_decides : (found len : ℕ) → IsSealable (stamp_at moment passes.file) (octets_in held passes.file) found len
      → (sum == found) ≡ passes_at store number (λ f. can_seal held f moment sum)
  sum_decides found len is =
      rw (passes_found store number (λ f. can_seal held f moment sum) passes.file passes.found, passes.test_is, is.faultless)
      (ap (λ (n : ℕ). sum == n) is.sum_is)

  pub header_takes : (len : ℕ) (o : Option ℕ) → IfSome (placed_of store number) (λ f. len ≤ f.held) → IfSome o (λ l. l ≡ len)
      → IfSome o (TakesSeal store number)
  header_takes len None within is = tt
  header_takes len (Some l) within is =
      let inside : len ≤ passes.file.held = subst (λ (p : Option Placed). IfSome p (λ f. len ≤ f.held)) passes.found within in
      record { passes = passes; inside = subst (λ (n : ℕ). n ≤ passes.file.held) (sym is) inside }

  pub fault_refuses : (code : ℕ) → IfSome (placed_of store number) (λ f. fault_code (octets_in held f) ≡ Some code)
      → passes_at store number (λ f. can_seal held f moment sum) ≡ false
  fault_refuses code fault =
      let is = subst (λ (o : Option Placed). IfSome o (λ f. fault_code (octets_in held f) ≡ Some code)) passes.found fault in
      rw (passes_found store number (λ f. can_seal held f moment sum) passes.file passes.found, passes.test_is, is) refl

-- ---- whether a file may be begun

bar_refuses : (bar : BeginBar) (store : Store) (file_length : ℕ) → Bars bar store file_length → can_begin store file_length ≡ false
bar_refuses TooLong store file_length bars = grind (arith, nat_tests)
bar_refuses TooMany store file_length bars = grind (arith, nat_tests)
bar_refuses NumbersGone store file_length bars = grind (arith, nat_tests)
bar_refuses (NoRoom blocks free) store file_length bars = grind (arith, nat_tests)

pub barred : (o : Option BeginBar) (store : Store) (file_length : ℕ) → IfSome o (λ bar. Bars bar store file_length) → is_some o ≡ true → can_begin store file_length ≡ false
barred None store file_length bars is = absurd (cc)
barred (Some bar) store file_length bars is = bar_refuses bar store file_length bars

pub not_barred : {P : Type 0} (o : Option BeginBar) → IfNone o P → is_some o ≡ false → P
not_barred None may is = may
not_barred (Some bar) may is = absurd (cc)

pub first_false : (first second : Bool) → first ≡ false → (first && second) ≡ false
first_false first second is = rw is refl

pub second_false : (first second : Bool) → second ≡ false → (first && second) ≡ false
second_false true second is = is
second_false false second is = refl
