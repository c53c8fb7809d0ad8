-- Complete files of the store.
use Rattle.std.proofs.Common.{◌≡◌, ℕ, List, [], ◌∷◌, Bool, true, false, ◌&&◌, Option, None, Some, refl, sym, ap, ◌∙◌}
use Rattle.ftl0_session.proofs.Names.{is_some, list_all, option_and_then, All-cons, All-nil, IsCompleteIn, is_complete, Entry, Holding, Store, complete, entry_of, octets_at, octets_of, partial, AreFiles, complete_octets, file_of, has_file, octets_in}

-- the octets of the file of an entry, if it is complete
abbrev pub file_in : Option Entry → Option (List ℕ)
file_in entry = option_and_then (λ (e : Entry). complete_octets e.holding) entry

whole : (holding : Holding) → is_complete holding ≡ true → complete_octets holding ≡ Some (octets_of holding)
whole (partial held) is = absurd (cc)
whole (complete octets moment) is = refl

is_whole : (holding : Holding) (file : List ℕ) → complete_octets holding ≡ Some file → (is_complete holding ≡ true) × (octets_of holding ≡ file)
is_whole (partial held) file is = absurd (cc)
is_whole (complete octets moment) file is = (refl, cc)

-- ---- a complete file

pub complete-file : (store : Store) (number : ℕ) → IsCompleteIn store number → file_of store number ≡ Some (octets_in store number)
complete-file store number is =
    ap file_in is.1 ∙ whole is.0.holding is.2 ∙ ap (λ (e : Option Entry). Some (octets_at e)) (sym is.1)

pub file-complete : (store : Store) (number : ℕ) (file : List ℕ) → file_of store number ≡ Some file → IsCompleteIn store number × (octets_in store number ≡ file)
file-complete store number file is = by (entry_of store number) refl
  where
    by : (o : Option Entry) → entry_of store number ≡ o → IsCompleteIn store number × (octets_in store number ≡ file)
    by None e = absurd (let f : file_in None ≡ Some file = ap file_in (sym e) ∙ is in cc)
    by (Some entry) e =
        let both = is_whole entry.holding file (ap file_in (sym e) ∙ is) in
        ((entry, e, both.0), ap octets_at e ∙ both.1)

-- ---- several files

has-complete : (store : Store) (number : ℕ) → has_file store number ≡ true → IsCompleteIn store number
has-complete store number is = by (file_of store number) refl
  where
    by : (o : Option (List ℕ)) → file_of store number ≡ o → IsCompleteIn store number
    by None e = absurd (let f : false ≡ true = ap is_some (sym e) ∙ is in cc)
    by (Some file) e = (file-complete store number file e).0

pub all-complete : (store : Store) (numbers : List ℕ) → list_all (has_file store) numbers ≡ true → AreFiles store numbers
all-complete store [] is = All-nil _
all-complete store (number ∷ numbers) is = by (all-complete store numbers) (has_file store number) refl is
  where
    by : (list_all (has_file store) numbers ≡ true → AreFiles store numbers) → (b : Bool) → has_file store number ≡ b → b && list_all (has_file store) numbers ≡ true → AreFiles store (number ∷ numbers)
    by rest true e all = All-cons (IsCompleteIn store) number numbers (has-complete store number e) (rest all)
    by rest false e all = absurd (cc)
