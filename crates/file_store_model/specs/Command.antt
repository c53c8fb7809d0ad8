-- The commands that change a store, with the condition of each and what it does.
use Rattle.std.specs.Prelude.{◌≡◌, ℕ, zero, suc, ◌+◌, ◌*◌, ◌/◌, ◌≤◌, ◌<◌, ◌==◌, List, [], ◌∷◌, ◌++◌, length, take, drop}
use Rattle.std.specs.Prelude.{map, filter, Bool, not, true, false, ◌&&◌, ◌||◌, nat_le, nat_lt, if◌then◌else◌}
use Rattle.std.specs.Prelude.{Option, None, Some, is_none, IsTrue, ⊤}
use Rattle.std.specs.List.{AllByRecursion}
use Rattle.px_base.specs.CallSign.{CallSign, IsCall}
use Rattle.file_journal.specs.Commands as kept
use Rattle.file_store_model.specs.Limits.{last_next, longest_file, most_entries}
use Rattle.pfh_items.specs.Faults.{fault_code}
use Rattle.pfh_items.specs.Stamp.{StampValue, stamped}
use Rattle.file_store_model.specs.Store.{Entry, Holding, partial, complete, Store, blocks_for, blocks_of, entry_count}
use Rattle.file_store_model.specs.Store.{entry_of, free_blocks, new_entry, octets_of}

pub data Command : Type 0 where
  -- a file of this number, caller, length and moment is begun
  begin : ℕ → CallSign → ℕ → ℕ → Command
  -- these octets are held too
  grow : ℕ → List ℕ → Command
  -- the file is whole, and is kept with its stamp of this moment
  seal : ℕ → ℕ → Command
  -- the file is given up
  drop_entry : ℕ → Command

-- the caller that the command names is a call, if it names one
abbrev pub HasCall : Command → Type 0
HasCall (begin number caller file_length moment) = IsCall caller
HasCall (grow number octets) = ⊤
HasCall (seal number moment) = ⊤
HasCall (drop_entry number) = ⊤

-- the same of each command
abbrev pub HaveCalls : List Command → Type 0
HaveCalls commands = AllByRecursion HasCall commands

-- the command gives up no file
abbrev pub KeepsFile : Command → Type 0
KeepsFile (begin number caller file_length moment) = ⊤
KeepsFile (grow number octets) = ⊤
KeepsFile (seal number moment) = ⊤
KeepsFile (drop_entry number) = ⊥

-- the same of each command
abbrev pub DropsNothing : List Command → Type 0
DropsNothing commands = AllByRecursion KeepsFile commands

-- whether a file of this length may be begun
abbrev pub can_begin : Store → ℕ → Bool
can_begin store file_length =
    nat_le file_length longest_file && nat_lt (length store.entries) most_entries && nat_lt store.next last_next
    && nat_le (blocks_of store + blocks_for file_length) store.blocks

-- the same as a fact: a file of this length may be begun
pub record MayBegin (store : Store) (file_length : ℕ) : Type 0 where
  pub short : file_length ≤ longest_file
  pub few : entry_count store < most_entries
  pub left : store.next < last_next
  pub room : blocks_for file_length ≤ free_blocks store

-- whether this number of further octets fits a file of this length that has come so far
abbrev pub has_room : Holding → ℕ → ℕ → Bool
has_room (partial held) file_length more = nat_le (length held + more) file_length
has_room (complete octets moment) file_length more = false

-- the same, and whether they fill a block or are all that the file lacks
abbrev pub can_take : Holding → ℕ → ℕ → Bool
can_take holding file_length more =
    has_room holding file_length more && ((more == 512) || (length (octets_of holding) + more == file_length))

-- whether all octets of a file of this length are held, and the file breaks no rule
abbrev pub is_good : Holding → ℕ → Bool
is_good (partial held) file_length = (length held == file_length) && is_none (fault_code held)
is_good (complete octets moment) file_length = false

-- whether the file is under way
abbrev pub is_partial : Holding → Bool
is_partial (partial held) = true
is_partial (complete octets moment) = false

-- whether there is an entry, and it passes the test
abbrev pub passes : (Entry → Bool) → Option Entry → Bool
passes test None = false
passes test (Some entry) = test entry

-- whether the condition of the command holds in the store
abbrev pub is_allowed : Store → Command → Bool
is_allowed store (begin number caller file_length moment) = (number == store.next) && can_begin store file_length
is_allowed store (grow number octets) =
    nat_le 1 (length octets) && nat_le (length octets) 512
    && passes (λ e. can_take e.holding e.length (length octets)) (entry_of store number)
is_allowed store (seal number moment) = passes (λ e. is_good e.holding e.length) (entry_of store number)
is_allowed store (drop_entry number) = passes (λ e. is_partial e.holding) (entry_of store number)

-- these octets at the end of those held
abbrev pub with_more : List ℕ → Holding → Holding
with_more octets (partial held) = partial (held ++ octets)
with_more octets (complete all moment) = complete all moment

-- how far an entry has come with these octets too
abbrev pub grown : List ℕ → Entry → Holding
grown octets entry = with_more octets entry.holding

-- the octets held are the file, kept with this stamp
abbrev pub kept_with : StampValue → Holding → Holding
kept_with stamp (partial held) = complete (stamped stamp held) stamp.moment
kept_with stamp (complete all before) = complete all before

-- what the file of an entry is stamped with: its number, its caller and this moment
abbrev pub stamp_of : ℕ → Entry → StampValue
stamp_of moment entry = record { number = entry.number; by = entry.caller; moment = moment }

-- how far an entry has come once it is sealed at this moment: its file is kept with its stamp
abbrev pub sealed : ℕ → Entry → Holding
sealed moment entry = kept_with (stamp_of moment entry) entry.holding

-- an entry of this number changed so, and any other as it is
abbrev pub changed : ℕ → (Entry → Holding) → Entry → Entry
changed number change entry =
    if entry.number == number then record entry { holding = change entry } else entry

-- the entry of this number changed so, and no other
abbrev pub with_holding : Store → ℕ → (Entry → Holding) → Store
with_holding store number change = record store { entries = map (changed number change) store.entries }

-- the store after a command whose condition holds
abbrev pub after : Store → Command → Store
after store (begin number caller file_length moment) =
    record store {
      entries = store.entries ++ new_entry number caller file_length moment ∷ [];
      next = number + 1;
    }
after store (grow number octets) = with_holding store number (grown octets)
after store (seal number moment) = with_holding store number (sealed moment)
after store (drop_entry number) =
    record store { entries = filter (λ e. not (e.number == number)) store.entries }

-- the store after these commands, one after another
abbrev pub after_all : Store → List Command → Store
after_all store commands = kept.after_all after store commands

-- the command's condition holds
abbrev pub IsAllowed : Store → Command → Type 0
IsAllowed store command = IsTrue (is_allowed store command)

-- the condition of each command holds when its turn comes
abbrev pub AreAllowed : Store → List Command → Type 0
AreAllowed store commands = kept.AreAllowed IsAllowed after store commands

-- each command's condition holds in its turn, and this is the store after them
abbrev pub DoesAll : Store → Store → List Command → Type 0
DoesAll before now commands = AreAllowed before commands × (now ≡ after_all before commands)

-- One grow for each whole 512 octets, of n of them.
abbrev pub grows : ℕ → ℕ → List ℕ → List Command
grows number zero octets = []
grows number (suc n) octets = grow number (take 512 octets) ∷ grows number n (drop 512 octets)

-- the commands by which octets become held: one grow for each whole 512 of them
abbrev pub whole_grows : ℕ → List ℕ → List Command
whole_grows number octets = grows number (length octets / 512) octets

-- the octets that are left after the last whole 512
abbrev pub unfilled_block : List ℕ → List ℕ
unfilled_block octets = drop (512 * (length octets / 512)) octets

-- the last grow, of the octets that are left, if there are any
abbrev pub last_grow : ℕ → List ℕ → List Command
last_grow number [] = []
last_grow number (octet ∷ octets) = grow number (octet ∷ octets) ∷ []
