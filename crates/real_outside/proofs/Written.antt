-- What the calls that write octets add up to.
use Rattle.std.proofs.Common.{◌≡◌, inl, inr, ℕ, ◌+◌, ◌<◌, List, [], ◌∷◌, ◌++◌, length, take, drop, Bool, false, None, Some, refl, sym, ◌∙◌, ap, subst, arith, append_assoc}
use Rattle.real_outside.specs.StreamCalls.{WritesSome}
use Rattle.real_outside.specs.declared.stream.StreamCall.{StreamCall}
use Rattle.real_outside.proofs.Names.{drop-drop, drop-take, drop_all, take-append-drop, take-take, Writes}

-- whatever writes the octets from this place on, after this number of writes, writes all of them after these calls
abbrev pub Leads : List ℕ → ℕ → ℕ → List StreamCall → Type 0
Leads octets made written calls =
    (done : Bool) (later : List StreamCall)
    → Writes made (drop written octets) done later
    → Writes 0 octets done (calls ++ later)

pub leads_none : (octets : List ℕ) → Leads octets 0 0 []
leads_none octets = λ done later run. run

-- a write that the others follow
write_more :
    (made : ℕ) (left : List ℕ) (count : ℕ) (done : Bool) (calls later : List StreamCall)
    → 0 < length left → WritesSome left (Some count) calls → Writes (made + 1) (drop count left) done later
    → Writes made left done (calls ++ later)
write_more made left count done calls later some (answer, is, takes) run =
    subst (λ (l : List StreamCall). Writes made left done (l ++ later)) (sym is)
    (some, refl, inr (count, sym takes, run))

-- one that is the last call
pub write_none :
    (made : ℕ) (left : List ℕ) (calls : List StreamCall)
    → 0 < length left → WritesSome left None calls → Writes made left false calls
write_none made left calls some (answer, is, takes) =
    subst (λ (l : List StreamCall). Writes made left false l) (sym is) (some, refl, inl (sym takes, refl, refl))

-- a write that the others follow leads further
pub leads_more :
    (octets : List ℕ) (made written count : ℕ) (first later : List StreamCall)
    → 0 < length (drop written octets) → Leads octets made written first
    → WritesSome (drop written octets) (Some count) later
    → Leads octets (made + 1) (written + count) (first ++ later)
leads_more octets made written count first later some leads writes = λ done rest run.
    subst (λ (l : List StreamCall). Writes 0 octets done l) (sym (append_assoc first later rest))
    (leads done (later ++ rest)
    (write_more made (drop written octets) count done later rest some writes
    (subst (λ (l : List ℕ). Writes (made + 1) l done rest) (sym (drop-drop count written octets)) run)))

-- nothing is left
pub leads_end :
    (octets : List ℕ) (made written : ℕ) (done : Bool) (first later : List StreamCall)
    → written ≡ length octets → Leads octets made written first → Writes made [] done later
    → Writes 0 octets done (first ++ later)
leads_end octets made written done first later whole leads run =
    leads done later
    (subst (λ (l : List ℕ). Writes made l done later) (sym (drop_all written octets (omega (arith, whole)))) run)

-- the first octets and those after them
pub take_sum : (n m : ℕ) (octets : List ℕ) → take n octets ++ take m (drop n octets) ≡ take (n + m) octets
take_sum n m octets =
    let front = take (n + m) octets in
    ap (λ (l : List ℕ). take n octets ++ l) (sym (drop-take n m octets))
    ∙ ap (λ (l : List ℕ). l ++ drop n front) (sym (take-take n (n + m) octets (omega arith)))
    ∙ take-append-drop n front
