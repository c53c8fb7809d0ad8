-- Stores that commands make of one another, each command allowed in its turn.
use Rattle.std.specs.Prelude.{◌≡◌, ◌≢◌, ◌↔◌, ℕ, ◌≤◌, ◌<◌, List, length, take, None, Some, ⊤}
use Rattle.std.specs.List.{AllByRecursion}
use Rattle.px_base.specs.CallSign.{CallSign, IsCall}
use Rattle.px_base.specs.Octets.{IsOctets}
use Rattle.file_journal.specs.Commands as kept
use Rattle.file_store_model.specs.Command.{Command, HaveCalls, DoesAll, after, after_all, begin, grow, seal, drop_entry}
use Rattle.file_store_model.specs.Headers.{KeepsRules}
use Rattle.file_store_model.specs.IsStore.{IsStore}
use Rattle.file_store_model.specs.Kept.{KeepsComplete}
use Rattle.file_store_model.specs.Store.{Entry, Holding, Store, entry_of, octets_of}

-- now is what these commands make of before
pub record Follows (before now : Store) : Type 0 where
  pub commands : List Command
  pub calls : HaveCalls commands
  pub does : DoesAll before now commands

-- the entry of this number, if there is one, is the caller's
abbrev pub IsOwnEntry : CallSign → Store → ℕ → Type 0
IsOwnEntry caller store number = (entry : Entry) → entry_of store number ≡ Some entry → entry.caller ≡ caller

-- the command begins a file as this caller, or is of an entry of this caller's
abbrev pub IsOf : CallSign → Store → Command → Type 0
IsOf caller store (begin number by file_length moment) = by ≡ caller
IsOf caller store (grow number octets) = IsOwnEntry caller store number
IsOf caller store (seal number moment) = IsOwnEntry caller store number
IsOf caller store (drop_entry number) = IsOwnEntry caller store number

-- each command is of this caller in its turn
abbrev pub AreOf : CallSign → Store → List Command → Type 0
AreOf caller store commands = kept.AreAllowed (IsOf caller) after store commands

-- now is what these commands of this caller make of before
pub record FollowsBy (caller : CallSign) (before now : Store) : Type 0 where
  pub commands : List Command
  pub own : AreOf caller before commands
  pub does : DoesAll before now commands

-- the same file, of which no fewer octets are held
pub record Continues (old new : Entry) : Type 0 where
  pub same : new ≡ record old { holding = new.holding }
  pub longer : length (octets_of old.holding) ≤ length (octets_of new.holding)

-- The rules of a store still hold. A complete entry is as it was, an entry that is still there is of the same file and
-- holds no fewer octets, a number that was given and has no entry gets none again, and the next number is no lower.
pub record KeepsEntries (before now : Store) : Type 0 where
  pub rules : IsStore now
  pub complete : KeepsComplete before now
  pub stands :
      (number : ℕ) (old new : Entry) → entry_of before number ≡ Some old → entry_of now number ≡ Some new
      → Continues old new
  pub gone : (number : ℕ) → number < before.next → entry_of before number ≡ None → entry_of now number ≡ None
  pub next : before.next ≤ now.next

-- the entries of all other callers are as they were, and none is new
abbrev pub KeepsOthers : CallSign → Store → Store → Type 0
KeepsOthers caller before now =
    (number : ℕ) (entry : Entry) → entry.caller ≢ caller
    → (entry_of before number ≡ Some entry) ↔ (entry_of now number ≡ Some entry)

-- what is held are octets, and a complete file keeps the rules of file headers
pub record IsFile (holding : Holding) : Type 0 where
  pub octets : IsOctets (octets_of holding)
  pub rules : KeepsRules holding

-- the same of each entry
abbrev pub HaveFiles : Store → Type 0
HaveFiles store = (number : ℕ) (entry : Entry) → entry_of store number ≡ Some entry → IsFile entry.holding

-- what the command brings are octets
abbrev pub BringsOctets : Command → Type 0
BringsOctets (begin number caller file_length moment) = ⊤
BringsOctets (grow number octets) = IsOctets octets
BringsOctets (seal number moment) = ⊤
BringsOctets (drop_entry number) = ⊤

-- What is true of each store that follows another: of its entries, by commands of one caller of those of the others,
-- and by octets alone of what is held. A store follows another by way of a third one, and so does that after the first
-- of the commands.
pub record FollowsLaw : Type 0 where
  pub entries : (before now : Store) → IsStore before → Follows before now → KeepsEntries before now
  pub others :
      (caller : CallSign) (before now : Store) → IsStore before → IsCall caller → FollowsBy caller before now
      → Follows before now × KeepsOthers caller before now
  pub files :
      (before now : Store) (commands : List Command) → IsStore before → HaveFiles before → HaveCalls commands
      → AllByRecursion BringsOctets commands → DoesAll before now commands → HaveFiles now
  pub joined : (before between now : Store) → Follows before between → Follows between now → Follows before now
  pub joined_by :
      (caller : CallSign) (before between now : Store) → FollowsBy caller before between
      → FollowsBy caller between now → FollowsBy caller before now
  pub first :
      (before now : Store) (count : ℕ) (follows : Follows before now)
      → Follows before (after_all before (take count follows.commands))
  pub first_by :
      (caller : CallSign) (before now : Store) (count : ℕ) (follows : FollowsBy caller before now)
      → FollowsBy caller before (after_all before (take count follows.commands))
