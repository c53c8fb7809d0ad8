-- What is told of an entry is so.
use Rattle.std.proofs.Common.{◌≡◌, ℕ, length, refl, ap, sym, ◌∙◌, true}
use Rattle.std.specs.Prelude.{Option, None, Some}
use Rattle.std.specs.Option.{option_map}
use Rattle.file_store_model.specs.declared.info.Info.{Info}
use Rattle.file_store_model.specs.Info.{IsCompleteIn, info_of}
use Rattle.file_store_model.specs.Store.{Entry, Store, entry_of, octets_at}

info-same : (a b : Info) → Some a ≡ Some b → a ≡ b
info-same a b e = cc

-- an entry that is told to be complete is
complete-by : (store : Store) (number : ℕ) (info : Info) (found : Option Entry) → entry_of store number ≡ found → option_map info_of found ≡ Some info → info.complete ≡ true → IsCompleteIn store number
complete-by store number info None is told whole = absurd (cc)
complete-by store number info (Some entry) is told whole = (entry, is, ap (λ (i : Info). i.complete) (info-same (info_of entry) info told) ∙ whole)

pub told-complete : (store : Store) (number : ℕ) (info : Info) → option_map info_of (entry_of store number) ≡ Some info → info.complete ≡ true → IsCompleteIn store number
told-complete store number info told whole = complete-by store number info (entry_of store number) refl told whole

-- and so many of its octets are held
held-by : (info : Info) (found : Option Entry) → option_map info_of found ≡ Some info → info.held ≡ length (octets_at found)
held-by info None told = absurd (cc)
held-by info (Some entry) told = sym (ap (λ (i : Info). i.held) (info-same (info_of entry) info told))

pub told-held : (store : Store) (number : ℕ) (info : Info) → option_map info_of (entry_of store number) ≡ Some info → info.held ≡ length (octets_at (entry_of store number))
told-held store number info told = held-by info (entry_of store number) told
