-- What the recovery of the store refuses, stated for the start.
use Rattle.std.proofs.Common.{◌≡◌, ◌↔◌, ℕ, List, Option, inl, inr, sym, ◌∙◌, ap}
use Rattle.file_store.specs.Recovery.{LeavesAlikeSinceSync, RefusesRecovery}
use Rattle.file_store.specs.StoreFault.{StoreFault}
use Rattle.file_store.specs.StoreFault.TheVariants as fault
pub use Rattle.ftl0_server.proofs.Names.{Result, Ok, Err, IsErrOf, Ghosts, recovered_good, told_weaker}

-- two answers of which each is the same fault as the other, if it is one
abbrev pub FaultsAlike : {A B : Type 0} → Result A StoreFault → Result B StoreFault → Type 0
FaultsAlike result other = (x : StoreFault) → IsErrOf result x ↔ IsErrOf other x

pub alike-fine : {A B : Type 0} (a : A) (b : B) → FaultsAlike {A = A} {B = B} (Ok a) (Ok b)
alike-fine a b x = (λ same. absurd (cc same), λ same. absurd (cc same))

pub alike-fault : {A B : Type 0} (result : Result A StoreFault) (other : Result B StoreFault) (e : StoreFault) → result ≡ Err e → other ≡ Err e → FaultsAlike result other
alike-fault result other e is other_is x = (λ same. other_is ∙ ap Err (cc (sym is ∙ same)), λ same. is ∙ ap Err (cc (sym other_is ∙ same)))

module _ {A B : Type 0} (result : Result A StoreFault) (other : Result B StoreFault) (alike : FaultsAlike result other) (blocks : ℕ) where
  exactly : {P : Type 0} (x : StoreFault) → IsErrOf result x ↔ P → IsErrOf other x ↔ P
  exactly x both = (λ is. both.0 ((alike x).1 is), λ stands. (alike x).0 (both.1 stands))

  pub refuses-other : (content : Option (List ℕ)) → RefusesRecovery blocks content result → RefusesRecovery blocks content other
  refuses-other content refuses no_disk no_memory =
      told_weaker content _ _
      (λ before told exact. record { not_a_store = λ found. exactly (fault.NotAStore found) (exact.not_a_store found); damaged = λ at. exactly (fault.Damaged at) (exact.damaged at) })
      (refuses (λ is. no_disk ((alike fault.Disk).0 is)) (λ is. no_memory ((alike fault.OutOfMemory).0 is)))

  pub since-other : {D : Type 0} (g : Ghosts D) (disk disk_now : D) → LeavesAlikeSinceSync g blocks result disk disk_now → LeavesAlikeSinceSync g blocks other disk disk_now
  since-other g disk disk_now since =
      told_weaker (g.content disk) _ _ (λ before told either. elim either [ inl synced ↦ inl synced | inr failed ↦ inr ((alike fault.Disk).0 failed.0, failed.1) ]) since
