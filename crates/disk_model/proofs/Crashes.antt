-- What stands of a surface that is torn write by write.
use Rattle.std.proofs.Common.{◌≡◌, ◌⊎◌, inl, inr, ⊎_elim, ℕ, ◌+◌, ◌/◌, ◌%◌, ◌<◌, ◌≤◌, List, [], ◌∷◌, length, get_or, Option, Some, Result, Ok, Err, OnOk, refl, ◌∙◌, subst, arith, fold}
use Rattle.disk_model.specs.declared.disk_call.DiskCall.TheVariants as call
use Rattle.disk_model.proofs.Names.{cases_lt, All-tail, IsCrash, IsFilled, Tears, AllLeaveOpen, Closes, IsImage, IsInRange, IsOpen, Surface, with_range, surface_after_call, DiskCall}

-- what stands of a surface that is torn write by write, where each octet that may be any is this one, if there is one
pub record IsTorn (surface : Surface) (picked : Option ℕ) (image : List ℕ) : Type 0 where
  pub kept : (place : ℕ) → place < length surface.synced → (IsOpen surface.writes place → ⊥) → get_or image place 0 ≡ get_or surface.synced place 0
  pub filled : (octet place : ℕ) → picked ≡ Some octet → place < length image → (length surface.synced ≤ place) ⊎ IsOpen surface.writes place → get_or image place 0 ≡ octet

-- the same, of equal octets
pub tears_same : (at count : ℕ) (picked picked' : Option ℕ) (old old' new : List ℕ) → picked ≡ picked' → old ≡ old' → Tears at count picked old new → Tears at count picked' old' new
tears_same at count picked picked' old old' new e f tears =
    subst (λ (p : Option ℕ). Tears at count p old' new) e (subst (λ (o : List ℕ). Tears at count picked o new) f tears)

-- inside a range, or not
pub inside_or_not : (at count place : ℕ) → IsInRange at count place ⊎ (IsInRange at count place → ⊥)
inside_or_not at count place = elim (cases_lt place at) [
  | inl before ↦ inr (λ inside. omega (arith, before, inside.0))
  | inr from ↦ elim (cases_lt place (at + count)) [ inl to ↦ inl (from, to) | inr past ↦ inr (λ inside. omega (arith, past, inside.1)) ]
]

pub with_range_torn : (surface : Surface) (at count : ℕ) (picked : Option ℕ) (old new : List ℕ) → Tears at count picked old new → IsTorn surface picked old → IsTorn (with_range surface at count) picked new
with_range_torn surface at count picked old new tears torn = record {
  kept = λ place below shut. tears.outside place (λ inside. shut (inl inside)) ∙ torn.kept place below (λ inside. shut (inr inside));
  filled = filled;
}
  where
    filled : (octet place : ℕ) → picked ≡ Some octet → place < length new → (length surface.synced ≤ place) ⊎ (IsInRange at count place ⊎ IsOpen surface.writes place) → get_or new place 0 ≡ octet
    filled octet place is below reached =
        let within : place < length old = omega (arith, tears.size, below) in
        elim (inside_or_not at count place) [
          | inl inside ↦ tears.filled octet place is inside within
          | inr outside ↦
              tears.outside place outside
              ∙ torn.filled octet place is within (⊎_elim (λ past. inl past) (⊎_elim (λ inside. absurd (outside inside)) (λ open_before. inr open_before)) reached)
        ]

synced_same : (surface : Surface) (done : DiskCall) → (Closes done → ⊥) → (surface_after_call surface done).synced ≡ surface.synced
synced_same surface (call.Write at octets) no_sync = refl
synced_same surface (call.TornWrite at count) no_sync = refl
synced_same surface call.Sync no_sync = absurd (no_sync tt)
synced_same surface call.FailedSync no_sync = refl
synced_same surface (call.PowerCut inside behind) no_sync = absurd (no_sync tt)

-- the octets that the last sync left stay until another sync passes
pub synced_kept : (surface : Surface) (calls : List DiskCall) → AllLeaveOpen calls → (fold surface_after_call surface calls).synced ≡ surface.synced
synced_kept surface [] none = refl
synced_kept surface (done ∷ calls) none =
    synced_kept (surface_after_call surface done) calls (All-tail (λ (d : DiskCall). Closes d → ⊥) done calls none)
    ∙ synced_same surface done (none 0 done (omega arith))

-- what is torn is what a crash leaves
pub crash_of : {T E : Type 0} (surface : Surface) (pick : ℕ) (result : Result T E) (image : List ℕ) → OnOk result (IsImage surface image)
    → (pick % 4 ≡ 2 → OnOk result (IsFilled surface (pick / 4 % 256) image))
    → (pick % 4 ≡ 0 → ⊥) → (pick % 4 ≡ 1 → ⊥) → OnOk result (IsCrash surface pick image)
crash_of surface pick (Ok done) image left filled not_synced not_written =
    record { left = left; synced = λ is. absurd (not_synced is); written = λ is. absurd (not_written is); filled = filled }
crash_of surface pick (Err fault) image left filled not_synced not_written = tt
