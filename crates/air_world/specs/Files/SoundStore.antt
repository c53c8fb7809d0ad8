-- What is true of the server's store in the world.
use Rattle.std.specs.Prelude.{◌≡◌, ◌+◌, length}
use Rattle.std.specs.List.{AllByRecursion}
use Rattle.px_base.specs.Octets.{IsOctets}
use Rattle.file_store.specs.Headers.{KeepsRules}
use Rattle.file_store.specs.IsStore.{IsStore}
use Rattle.file_store.specs.Store.{Store, octets_of}

-- What is true of the store: the rules of a store; each complete file keeps the rules of files; and what is held are
-- octets.
pub record IsSoundStore (store : Store) : Type 0 where
  pub is_store : IsStore store
  pub keeps_rules : AllByRecursion (λ entry. KeepsRules entry.holding) store.entries
  pub octets : AllByRecursion (λ entry. IsOctets (octets_of entry.holding)) store.entries

-- No entry was ever given up: each number below the next one has its own.
abbrev pub NoneGone : Store → Type 0
NoneGone store = length store.entries + 1 ≡ store.next
