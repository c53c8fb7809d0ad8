-- While no file is given up, each number that was given is that of an entry.
use Rattle.std.proofs.Common.{◌≡◌, ◌+◌, List, [], ◌∷◌, length, arith, length-append}
use Rattle.file_store_model.proofs.Names.{IsTrue, length-map, AreAllowed, Command, DropsNothing, KeepsFile, after, after_all, begin, changed, drop_entry, grow, grown, is_allowed, seal, sealed, Store, new_entry}
use Rattle.file_store_model.proofs.AfterLemmas.{begin-allowed}

one_kept : (store : Store) (command : Command) → IsTrue (is_allowed store command) → KeepsFile command → length store.entries + 1 ≡ store.next
    → length (after store command).entries + 1 ≡ (after store command).next
one_kept store (begin number caller file_length moment) ok keeps all =
    omega (arith, all, (begin-allowed store number caller file_length moment ok).0, length-append store.entries (new_entry number caller file_length moment ∷ []))
one_kept store (grow number octets) ok keeps all = omega (arith, all, length-map store.entries (changed number (grown octets)))
one_kept store (seal number moment) ok keeps all = omega (arith, all, length-map store.entries (changed number (sealed moment)))
one_kept store (drop_entry number) ok keeps all = absurd keeps

pub none_dropped : (commands : List Command) (store : Store) → AreAllowed store commands → DropsNothing commands → length store.entries + 1 ≡ store.next
    → length (after_all store commands).entries + 1 ≡ (after_all store commands).next
none_dropped [] store ok keeps all = all
none_dropped (command ∷ commands) store ok keeps all =
    none_dropped commands (after store command) ok.1 keeps.1 (one_kept store command ok.0 keeps.0 all)
