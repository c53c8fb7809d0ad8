-- Octets that are written to a file, write by write.
use Rattle.std.proofs.Common.{◌≡◌, inl, inr, ℕ, ◌+◌, ◌<◌, List, [], ◌∷◌, ◌++◌, length, drop, Result, Ok, Err, refl, sym, subst, append_assoc}
use Rattle.real_outside.specs.declared.files.file_call.FileCall.TheVariants as call
use Rattle.real_outside.proofs.Names.{append-nil, drop-drop, WritesFrom, WritesSome, FileCall, SystemError}

-- whatever writes the octets that are left writes all of them after these calls
abbrev pub Leads : List ℕ → ℕ → ℕ → List FileCall → Type 0
Leads octets file written calls =
    (result : Result Unit SystemError) (later : List FileCall)
    → WritesFrom written (drop written octets) result file later
    → WritesFrom 0 octets result file (calls ++ later)

-- nothing is written yet
pub leads_none : (octets : List ℕ) (file : ℕ) → Leads octets file 0 []
leads_none octets file = λ result later writes. writes

-- one write more, and what follows
writes_more : (at count file : ℕ) (octets : List ℕ) (result : Result Unit SystemError) (piece later : List FileCall) → 0 < length octets → WritesSome at octets (Ok count) file piece → WritesFrom (at + count) (drop count octets) result file later → WritesFrom at octets result file (piece ++ later)
writes_more at count file octets result piece later some (more, (limit, inl (below, is))) rest =
    subst (λ (calls : List FileCall). WritesFrom at octets result file (calls ++ later)) (sym is)
    (some, inr (count, (more, (limit, inl (below, refl))), rest))
writes_more at count file octets result piece later some (more, (limit, inr (past, is, error))) rest = absurd (cc error)

pub leads_more : (octets : List ℕ) (file written count : ℕ) (calls piece : List FileCall) → 0 < length (drop written octets) → WritesSome written (drop written octets) (Ok count) file piece → Leads octets file written calls → Leads octets file (written + count) (calls ++ piece)
leads_more octets file written count calls piece some writes leads = λ result later rest.
    subst (λ (l : List FileCall). WritesFrom 0 octets result file l) (sym (append_assoc calls piece later))
    (leads result (piece ++ later)
    (writes_more written count file (drop written octets) result piece later some writes
    (subst (λ (l : List ℕ). WritesFrom (written + count) l result file later) (sym (drop-drop count written octets)) rest)))

-- the end of all
pub leads_end : (octets : List ℕ) (file written : ℕ) (calls : List FileCall) → drop written octets ≡ [] → Leads octets file written calls → WritesFrom 0 octets (Ok tt) file calls
leads_end octets file written calls none leads =
    subst (λ (l : List FileCall). WritesFrom 0 octets (Ok tt) file l) (append-nil calls) (leads (Ok tt) [] (none, refl))

-- the last write, which is refused
writes_last : (at file : ℕ) (octets : List ℕ) (error : SystemError) (piece : List FileCall) → 0 < length octets → WritesSome at octets (Err error) file piece → WritesFrom at octets (Err error) file piece
writes_last at file octets error piece some (inl (limit, inl (below, is))) =
    subst (λ (calls : List FileCall). WritesFrom at octets (Err error) file calls) (sym is)
    (some, inl (error, inl (limit, inl (below, refl)), refl, refl))
writes_last at file octets error piece some (inl (limit, inr (past, is, why))) =
    subst (λ (calls : List FileCall). WritesFrom at octets (Err error) file calls) (sym is)
    (error, some, inl (limit, inr (past, refl, why)), refl)
writes_last at file octets error piece some (inr ((limit, inl (below, is)), why)) =
    subst (λ (calls : List FileCall). WritesFrom at octets (Err error) file calls) (sym is)
    (some, inl (error, inr ((limit, inl (below, refl)), why), refl, refl))
writes_last at file octets error piece some (inr ((limit, inr (past, is, why)), other)) = absurd (cc why)

pub leads_last : (octets : List ℕ) (file written : ℕ) (error : SystemError) (calls piece : List FileCall) → 0 < length (drop written octets) → WritesSome written (drop written octets) (Err error) file piece → Leads octets file written calls → WritesFrom 0 octets (Err error) file (calls ++ piece)
leads_last octets file written error calls piece some writes leads =
    leads (Err error) piece (writes_last written file (drop written octets) error piece some writes)
