-- What is reported about an entry, and the tests of it.
use Rattle.std.proofs.Common.{◌≡◌, ℕ, ◌≤◌, length, refl, sym, subst, arith, Option, None, Some}
use Rattle.file_store_model.proofs.Names.{option_map, Info, info_of, FitsLength, IsStore, Entry, Holding, Store, complete, partial, entry_of, octets_of}
use Rattle.file_store_model.proofs.EntriesLemmas.{found-fits}

-- what is reported about an entry that holds no more than its file has
pub record Told (store : Store) (number : ℕ) (info : Info) : Type 0 where
  pub entry : Entry
  pub found : entry_of store number ≡ Some entry
  pub is : info ≡ info_of entry
  pub fits : length (octets_of entry.holding) ≤ entry.length

fits-length : (h : Holding) (l : ℕ) → FitsLength h l → length (octets_of h) ≤ l
fits-length (partial held) l fits = fits
fits-length (complete octets moment) l fits = omega arith

pub told : (store : Store) (number : ℕ) (info : Info) → IsStore store → Some info ≡ option_map info_of (entry_of store number) → Told store number info
told store number info rules h = by (entry_of store number) refl h
  where
    by : (o : Option Entry) → entry_of store number ≡ o → Some info ≡ option_map info_of o → Told store number info
    by None e h = absurd (cc)
    by (Some entry) e h =
        let fits = found-fits number 1 store.next store.entries entry rules.entries e in
        record { entry = entry; found = e; is = cc; fits = fits-length entry.holding entry.length fits.0 }

pub told-held : (store : Store) (number : ℕ) (info : Info) → Told store number info → info.held ≤ info.length
told-held store number info t = subst (λ (i : Info). i.held ≤ i.length) (sym t.is) t.fits
