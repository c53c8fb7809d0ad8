-- What reaches a device while octets are moved, call by call.
use Rattle.std.proofs.Common.{◌≡◌, inr, inl, ℕ, ◌+◌, ◌<◌, ◌≤◌, List, [], ◌∷◌, ◌++◌, length, take, Bool, true, false, Result, Ok, Err, IsErr, refl, sym, ◌∙◌, ap, subst, append_assoc, length-take-le}
use Rattle.disk_model.specs.declared.disk.DiskFault.{DiskFault}
use Rattle.real_outside.proofs.Names.{take-append-add, false≢true, append-nil, take-append-le, post_of, put_mid, FillsFrom, GoesOn, ReadsAll, all_given, moved, octets_given, DeviceCall}

module _ (IsNext : ℕ → DeviceCall → Type 0) (all : ℕ) where
  -- whatever moves the octets that are left moves all of them after these calls
  abbrev pub Leads : ℕ → List DeviceCall → Type 0
  Leads before calls = (later : List DeviceCall) (done : Bool) → GoesOn IsNext all before later done → GoesOn IsNext all 0 (calls ++ later) done

  pub leads_none : Leads 0 []
  leads_none = λ later done goes_on. goes_on

  pub leads_more : (before : ℕ) (calls : List DeviceCall) (next : DeviceCall) → before < all → IsNext before next → 0 < moved next → Leads before calls → Leads (before + moved next) (calls ++ next ∷ [])
  leads_more before calls next below is some leads = λ later done goes_on.
      subst (λ (l : List DeviceCall). GoesOn IsNext all 0 l done) (sym (append_assoc calls (next ∷ []) later)) (leads (next ∷ later) done (below, is, inr (some, goes_on)))

  pub leads_fault : (before : ℕ) (calls : List DeviceCall) (next : DeviceCall) → before < all → IsNext before next → moved next ≡ 0 → Leads before calls → GoesOn IsNext all 0 (calls ++ next ∷ []) false
  leads_fault before calls next below is none leads = leads (next ∷ []) false (below, is, inl (none, refl, refl))

  pub leads_end : (before : ℕ) (calls : List DeviceCall) → before ≡ all → Leads before calls → GoesOn IsNext all 0 calls true
  leads_end before calls is leads = subst (λ (l : List DeviceCall). GoesOn IsNext all 0 l true) (append-nil calls) (leads [] true (is, refl))

-- the octets of one more call
pub given_more : (calls : List DeviceCall) (next : DeviceCall) → all_given (calls ++ next ∷ []) ≡ all_given calls ++ octets_given next
given_more [] next = append-nil (octets_given next)
given_more (first ∷ calls) next =
    ap (λ (l : List ℕ). octets_given first ++ l) (given_more calls next) ∙ sym (append_assoc (octets_given first) (all_given calls) (octets_given next))

-- the beginning of the room after a read into what comes after its first octets
pub front_of_room : (done k count : ℕ) (room part : List ℕ) → done ≤ length room → count ≤ length part → take (done + count) (put_mid done k room part) ≡ take done room ++ take count part
front_of_room done k count room part within few =
    subst (λ (n : ℕ). take (n + count) (put_mid done k room part) ≡ take done room ++ take count part) (length-take-le done room within)
    (take-append-add (take done room) (part ++ post_of done k room) count ∙ ap (λ (l : List ℕ). take done room ++ l) (take-append-le count part (post_of done k room) few))

-- a room that isn't filled
pub fills_not : {T : Type 0} (at : ℕ) (room : List ℕ) (result : Result T DiskFault) (calls : List DeviceCall) → IsErr result → ReadsAll at (length room) calls false → FillsFrom at room result calls
fills_not at room (Ok value) calls err reads = absurd (false≢true err)
fills_not at room (Err fault) calls err reads = record { reads = reads; given = λ ok. absurd (false≢true ok) }
