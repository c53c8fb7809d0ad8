-- What the records of a journal say of a store of placed files, with the condition of each and what it does.
use Rattle.std.specs.Prelude.{ℕ, ◌+◌, ◌≤◌, max, Bool, true, false, ◌&&◌, nat_le}
use Rattle.file_store_blocks.specs.IsPlaced.{IsPlaced}
use Rattle.file_store_blocks.specs.Placed.{Placed, PlacedStore, new_placed, no_entries, with_next}
use Rattle.file_store_blocks.specs.PlacedCommand.{PlacedCommand, after, begin, drop_entry, grow, is_allowed, seal}
use Rattle.file_store_blocks.specs.PlacedCommand.{with_new}
use Rattle.file_journal.specs.Layout.{Blocks}

-- a store whose records are read: what they made so far, the least number that a further file may have, and whether no
-- record came yet
pub record ReadStore : Type 0 where
  pub store : PlacedStore
  pub least : ℕ
  pub first : Bool

-- no record came yet
abbrev pub nothing_read : ℕ → ReadStore
nothing_read blocks = record { store = no_entries blocks; least = 1; first = true }

-- what a record says: which number the next file gets, whatever numbers come before it; or a command
pub data Recorded : Type 0 where
  next_is : ℕ → Recorded
  change : PlacedCommand → Recorded

-- whether a file may be begun with this number: it is above those of all that were begun, and the next one at most
abbrev pub may_have : ReadStore → ℕ → Bool
may_have read number = nat_le read.least number && nat_le number read.store.next

-- Whether the condition of the command holds, with what the blocks hold. If no record said which number is next, the
-- least number is the next one, and a file that is begun has it.
abbrev pub may_change : Blocks → ReadStore → PlacedCommand → Bool
may_change held read (begin number caller file_length moment) =
    may_have read number && is_allowed held (with_next number read.store) (begin number caller file_length moment)
may_change held read (grow number block used) = is_allowed held read.store (grow number block used)
may_change held read (seal number moment sum) = is_allowed held read.store (seal number moment sum)
may_change held read (drop_entry number) = is_allowed held read.store (drop_entry number)

-- the store with one more file, which was just begun, and whose number the next one is above
abbrev pub with_later : PlacedStore → Placed → PlacedStore
with_later store file = with_next (max store.next (file.number + 1)) (with_new store file)

-- the store after a command whose condition holds
abbrev pub store_after : Blocks → PlacedStore → PlacedCommand → PlacedStore
store_after held store (begin number caller file_length moment) =
    with_later store (new_placed number caller file_length moment)
store_after held store (grow number block used) = after held store (grow number block used)
store_after held store (seal number moment sum) = after held store (seal number moment sum)
store_after held store (drop_entry number) = after held store (drop_entry number)

-- the least number that a further file may have after a command
abbrev pub least_after : ℕ → PlacedCommand → ℕ
least_after least (begin number caller file_length moment) = number + 1
least_after least (grow number block used) = least
least_after least (seal number moment sum) = least
least_after least (drop_entry number) = least

-- Whether the store allows the record, with what the blocks hold. Which number is next is said by no record except the
-- first one, and it is 1 at least.
abbrev pub is_recordable : Blocks → ReadStore → Recorded → Bool
is_recordable held read (next_is number) = read.first && nat_le read.least number
is_recordable held read (change command) = may_change held read command

-- the store after a record that it allows
abbrev pub after_recorded : Blocks → ReadStore → Recorded → ReadStore
after_recorded held read (next_is number) =
    record { store = with_next number read.store; least = read.least; first = false }
after_recorded held read (change command) =
    record {
      store = store_after held read.store command;
      least = least_after read.least command;
      first = false;
    }

-- What is true of each store that records make: it keeps its rules, its files have numbers below the least one that a
-- further file may have, and that is the next one at most.
pub record IsReadStore (read : ReadStore) : Type 0 where
  pub rules : IsPlaced (with_next read.least read.store)
  pub least : read.least ≤ read.store.next
