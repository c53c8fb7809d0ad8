-- The laws of the commands.
use Rattle.std.proofs.Common.{◌≡◌, ℕ, ◌≤◌, ◌<◌, List, [], ◌∷◌, arith, None}
use Rattle.file_store_model.proofs.Names.{IsTrue, nat_tests, Command, begin, is_allowed, after, after_all, AreAllowed, IsStore, Store, empty_store, entry_of}
use Rattle.file_store_model.proofs.AfterLemmas.{after-same, begin-allowed, given-under_way}

pub empty-IsStore : (blocks : ℕ) → 1 ≤ blocks → blocks ≤ 65536 → IsStore (empty_store blocks)
empty-IsStore blocks some most = record { entries = tt; callers = tt; next = omega arith; count = omega arith; blocks = omega arith; some = some; most = most }

pub after-next : (store : Store) (command : Command) → IsTrue (is_allowed store command) → store.next ≤ (after store command).next
after-next store (begin number caller file_length moment) ok = let same = (begin-allowed store number caller file_length moment ok).0 in omega (arith, same)
after-next store command ok = omega arith

after-gone : (store : Store) (command : Command) (number : ℕ) → IsTrue (is_allowed store command) → number < store.next → entry_of store number ≡ None
    → entry_of (after store command) number ≡ None
after-gone store command number ok below gone = grind (arith, nat_tests, after-same store command number, given-under_way store command)

pub after_all-gone : (store : Store) (commands : List Command) (number : ℕ) → AreAllowed store commands → number < store.next → entry_of store number ≡ None
    → entry_of (after_all store commands) number ≡ None
after_all-gone store [] number ok below gone = gone
after_all-gone store (command ∷ commands) number ok below gone =
    after_all-gone (after store command) commands number ok.1 (let rises = after-next store command ok.0 in omega (arith, rises)) (after-gone store command number ok.0 below gone)
