-- What a record makes of a store that is read: it keeps its rules, and what blocks hold that it doesn't use changes
-- nothing of it.
use Rattle.std.proofs.Common.{◌≡◌, ℕ, ◌+◌, ◌≤◌, List, [], ◌∷◌, refl, sym, ◌∙◌, ap, subst, arith, nat_le}
use Rattle.std.proofs.Common.{◌&&◌, ◌==◌, Bool, true, false}
use Rattle.std.specs.Prelude.{IsTrue, sum_by, ⊤}
use Rattle.std.proofs.Math.Nat.{le-max_right, max-eq_right}
use Rattle.std.proofs.lemmas.Bool.{and_parts, eqb-true, leb-true, le-leb}
use Rattle.file_store_blocks.specs.IsPlaced.{IsPlaced, Rise}
use Rattle.file_store_blocks.specs.KeptLaws.{after_placed}
use Rattle.file_store_blocks.specs.Placed.{Decides, Placed, PlacedStore, times_sealed, with_next}
use Rattle.file_store_blocks.specs.PlacedCommand.{PlacedCommand, after, begin, drop_entry, grow, is_allowed, seal}
use Rattle.file_store_blocks.specs.PlacedCommand.{seen_command}
use Rattle.file_store_blocks.specs.ReadStore.{IsReadStore, ReadStore, Recorded, after_recorded, change, is_recordable}
use Rattle.file_store_blocks.specs.ReadStore.{least_after, may_change, may_have, next_is, store_after}
use Rattle.file_store_blocks.specs.SameLaws.{after_same, allowed_same, decides_after}
use Rattle.file_store_model.specs.Command.{HasCall}
use Rattle.file_journal.specs.Layout.{Blocks, HoldSame}

-- ---- the next number may be higher

rise_higher : (low next higher : ℕ) (files : List Placed) → next ≤ higher → Rise low files next → Rise low files higher
rise_higher low next higher [] le rise = tt
rise_higher low next higher (f ∷ fs) le rise =
    (rise.0, omega (arith, le, rise.1), rise_higher (f.number + 1) next higher fs le rise.2)

pub next_placed :
    (next higher : ℕ) (store : PlacedStore) → next ≤ higher → IsPlaced (with_next next store)
    → IsPlaced (with_next higher store)
next_placed next higher store le is = record {
  numbers = rise_higher 1 next higher store.entries le is.numbers;
  files = is.files;
  once = is.once;
  next = omega (arith, le, is.next);
  few = is.few;
  rooms = is.rooms;
}

-- what is kept of a store that is read keeps the rules
pub read_placed : (read : ReadStore) → IsReadStore read → IsPlaced read.store
read_placed read is = next_placed read.least read.store.next read.store is.least is.rules

-- ---- a command of a store that is read

-- the store of which it is that command: its next number is that of the file that is begun, or the least one
abbrev pub store_for : ReadStore → PlacedCommand → PlacedStore
store_for read (begin number caller file_length moment) = with_next number read.store
store_for read (grow number block used) = with_next read.least read.store
store_for read (seal number moment sum) = with_next read.least read.store
store_for read (drop_entry number) = with_next read.least read.store

-- a number that a file may have
pub may_number :
    (read : ReadStore) (number : ℕ) → IsTrue (may_have read number)
    → (read.least ≤ number) × (number ≤ read.store.next)
may_number read number ok =
    let both = and_parts (nat_le read.least number) (nat_le number read.store.next) ok in
    (leb-true _ _ both.0, leb-true _ _ both.1)

module _ (held : Blocks) (read : ReadStore) where
  pub may_for :
      (command : PlacedCommand) → IsTrue (may_change held read command)
      → IsTrue (is_allowed held (store_for read command) command)
  may_for (begin number caller file_length moment) ok = (and_parts (may_have read number) _ ok).1
  may_for (grow number block used) ok = ok
  may_for (seal number moment sum) ok = ok
  may_for (drop_entry number) ok = ok

  pub rules_for :
      (command : PlacedCommand) → IsReadStore read → IsTrue (may_change held read command)
      → IsPlaced (store_for read command)
  rules_for (begin number caller file_length moment) is ok =
      let may = may_number read number (and_parts (may_have read number) _ ok).0 in
      next_placed read.least number read.store may.0 is.rules
  rules_for (grow number block used) is ok = is.rules
  rules_for (seal number moment sum) is ok = is.rules
  rules_for (drop_entry number) is ok = is.rules

  -- what it makes is what the command makes of that store, except for the next number
  pub made_for :
      (command : PlacedCommand)
      → with_next (least_after read.least command) (store_after held read.store command)
      ≡ after held (store_for read command) command
  made_for (begin number caller file_length moment) = refl
  made_for (grow number block used) = refl
  made_for (seal number moment sum) = refl
  made_for (drop_entry number) = refl

  -- the least number stays no higher than the next one
  least_for :
      (command : PlacedCommand) → read.least ≤ read.store.next
      → least_after read.least command ≤ (store_after held read.store command).next
  least_for (begin number caller file_length moment) le = le-max_right read.store.next (number + 1)
  least_for (grow number block used) le = le
  least_for (seal number moment sum) le = le
  least_for (drop_entry number) le = le

-- a record leaves the number of blocks
pub recorded_blocks :
    (held : Blocks) (read : ReadStore) (recorded : Recorded)
    → (after_recorded held read recorded).store.blocks ≡ read.store.blocks
recorded_blocks held read (next_is number) = refl
recorded_blocks held read (change (begin number caller file_length moment)) = refl
recorded_blocks held read (change (grow number block used)) = refl
recorded_blocks held read (change (seal number moment sum)) = refl
recorded_blocks held read (change (drop_entry number)) = refl

-- ---- a record keeps the rules

-- the caller that it names is a call, if it names one
abbrev pub NamesCall : Blocks → Recorded → Type 0
NamesCall held (next_is number) = ⊤
NamesCall held (change command) = HasCall (seen_command held command)

module _ (held : Blocks) (read : ReadStore) (is : IsReadStore read) where
  pub recorded_rules :
      (recorded : Recorded) → NamesCall held recorded → IsTrue (is_recordable held read recorded)
      → IsReadStore (after_recorded held read recorded)
  recorded_rules (next_is number) call ok = record {
    rules = is.rules;
    least = leb-true _ _ (and_parts read.first (nat_le read.least number) ok).1;
  }
  recorded_rules (change command) call ok = record {
    rules =
        subst IsPlaced (sym (made_for held read command))
        (after_placed held (store_for read command) command (rules_for held read command is ok) call
        (may_for held read command ok));
    least = least_for held read command is.least;
  }

  -- what decided on it decides on it still
  pub recorded_decides :
      (recorded : Recorded) → IsTrue (is_recordable held read recorded) → (block : ℕ) → Decides read.store block
      → Decides (after_recorded held read recorded).store block
  recorded_decides (next_is number) ok block decides = decides
  recorded_decides (change command) ok block decides =
      let before : Decides (store_for read command) block = decides_for command decides in
      let made =
      decides_after held (store_for read command) command (rules_for held read command is ok)
      (may_for held read command ok) block before in
      subst (λ (s : PlacedStore). 1 ≤ sum_by (times_sealed block) s.entries) (sym (made_for held read command)) made
    where
      decides_for : (c : PlacedCommand) → Decides read.store block → Decides (store_for read c) block
      decides_for (begin number caller file_length moment) d = d
      decides_for (grow number at used) d = d
      decides_for (seal number moment sum) d = d
      decides_for (drop_entry number) d = d

-- ---- what decides on it afterwards is all that matters

module _ (one other : Blocks) (read : ReadStore) where
  allowed_may :
      (command : PlacedCommand) → IsTrue (may_change one read command)
      → IsTrue (is_allowed other (store_for read command) command) → IsTrue (may_change other read command)
  allowed_may (begin number caller file_length moment) ok allowed =
      let may = (and_parts (may_have read number) _ ok).0 in
      ap
      (λ (b : Bool).
      b && is_allowed other (with_next number read.store) (begin number caller file_length moment)) may ∙ allowed
  allowed_may (grow number block used) ok allowed = allowed
  allowed_may (seal number moment sum) ok allowed = allowed
  allowed_may (drop_entry number) ok allowed = allowed

  made_same :
      (command : PlacedCommand)
      → after other (store_for read command) command ≡ after one (store_for read command) command
      → store_after other read.store command ≡ store_after one read.store command
  made_same (begin number caller file_length moment) same = refl
  made_same (grow number block used) same = refl
  made_same (seal number moment sum) same = ap (with_next read.store.next) same
  made_same (drop_entry number) same = refl

  -- the blocks that decide on it afterwards hold the same
  abbrev AreSame : Recorded → Type 0
  AreSame recorded = HoldSame (Decides (after_recorded one read recorded).store) one other

  same_for :
      (command : PlacedCommand) → AreSame (change command)
      → HoldSame (Decides (after one (store_for read command) command)) one other
  same_for command same block decides =
      same block
      (subst (λ (s : PlacedStore). 1 ≤ sum_by (times_sealed block) s.entries) (sym (made_for one read command))
      decides)

  pub recorded_allowed :
      (recorded : Recorded) → IsReadStore read → IsTrue (is_recordable one read recorded) → AreSame recorded
      → IsTrue (is_recordable other read recorded)
  recorded_allowed (next_is number) is ok same = ok
  recorded_allowed (change command) is ok same =
      allowed_may command ok
      (allowed_same one other (store_for read command) command (rules_for one read command is ok)
      (may_for one read command ok) (same_for command same))

  pub recorded_same :
      (recorded : Recorded) → IsReadStore read → IsTrue (is_recordable one read recorded) → AreSame recorded
      → after_recorded other read recorded ≡ after_recorded one read recorded
  recorded_same (next_is number) is ok same = refl
  recorded_same (change command) is ok same =
      ap
      (λ (s : PlacedStore).
      record { store = s; least = least_after read.least command; first = false })
      (made_same command
      (after_same one other (store_for read command) command (rules_for one read command is ok)
      (may_for one read command ok) (same_for command same)))

-- ---- a command of what is kept

-- A command that the kept store allows is allowed by each store that is read of which that is kept, and makes one of
-- which what the command makes is kept.
module _ (held : Blocks) (read : ReadStore) (is : IsReadStore read) where
  pub kept_allowed :
      (command : PlacedCommand) → IsTrue (is_allowed held read.store command)
      → IsTrue (may_change held read command)
  kept_allowed (begin number caller file_length moment) ok =
      let next : number ≡ read.store.next = eqb-true _ _ (and_parts (number == read.store.next) _ ok).0 in
      let low : nat_le read.least number ≡ true = le-leb _ _ (subst (λ (n : ℕ). read.least ≤ n) (sym next) is.least) in
      let high : nat_le number read.store.next ≡ true = le-leb _ _ (omega (arith, next)) in
      let same : IsTrue (is_allowed held (with_next number read.store) (begin number caller file_length moment)) =
      subst (λ (n : ℕ). IsTrue (is_allowed held (with_next n read.store) (begin number caller file_length moment)))
      (sym next) ok in
      rw (low, high) same
  kept_allowed (grow number block used) ok = ok
  kept_allowed (seal number moment sum) ok = ok
  kept_allowed (drop_entry number) ok = ok

  pub kept_after :
      (command : PlacedCommand) → IsTrue (is_allowed held read.store command)
      → store_after held read.store command ≡ after held read.store command
  kept_after (begin number caller file_length moment) ok =
      let next : number ≡ read.store.next = eqb-true _ _ (and_parts (number == read.store.next) _ ok).0 in
      ap (λ (n : ℕ). with_next n (after held read.store (begin number caller file_length moment)))
      (max-eq_right (omega (arith, next)))
  kept_after (grow number block used) ok = refl
  kept_after (seal number moment sum) ok = refl
  kept_after (drop_entry number) ok = refl
