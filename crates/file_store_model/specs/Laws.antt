-- Laws of the commands, over every store and every command whose condition holds.
use Rattle.std.specs.Prelude.{◌≡◌, ℕ, ◌≤◌, ◌<◌, List, None, IsTrue}
use Rattle.file_store_model.specs.Command.{Command, HasCall, is_allowed, after, after_all, AreAllowed}
use Rattle.file_store_model.specs.IsStore.{IsStore}
use Rattle.file_store_model.specs.Kept.{KeepsComplete}
use Rattle.file_store_model.specs.Store.{Store, empty_store, entry_of}

-- An empty store keeps the rules of a store, and so does each command, if the caller that it names is a call: the
-- numbers rise and are below the next one, no entry holds more than its file has, a complete one as much, and no more
-- entries and blocks are taken than may be. No command changes a complete entry, and the next number never falls.
abbrev pub CommandsLaw : Type 0
CommandsLaw =
    ((blocks : ℕ) → 1 ≤ blocks → blocks ≤ 65536 → IsStore (empty_store blocks))
    × ((store : Store) (command : Command) → IsStore store → HasCall command → IsTrue (is_allowed store command)
    → IsStore (after store command) × KeepsComplete store (after store command)
    × (store.next ≤ (after store command).next))

-- A number that was given, and has no entry any more, never gets one again, whatever commands follow.
abbrev pub NumbersLaw : Type 0
NumbersLaw =
    (store : Store) (commands : List Command) (number : ℕ) → AreAllowed store commands → number < store.next
    → entry_of store number ≡ None → entry_of (after_all store commands) number ≡ None
