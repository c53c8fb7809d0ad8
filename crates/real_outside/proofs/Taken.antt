-- What reaches the files by a call of a device over one of them.
use Rattle.std.proofs.Common.{◌≡◌, ℕ, List, ◌∷◌, ◌++◌, Option, None, Some, Result, Ok, Err, refl, subst}
use Rattle.real_outside.specs.declared.disk.device.DeviceDown.{DeviceDown}
use Rattle.real_outside.proofs.Names.{Asks, AfterOpening, FileDeviceState, TakesFile, FileCall, asks_as, asks_then}

module _ {S F T : Type 0} (number : F → ℕ) (before now : FileDeviceState S F) (result : Result T DeviceDown)
    (P : ℕ → List FileCall → Type 0) where
  -- the file is taken, asked, and put back
  pub taken_then :
      (was mid from told : Option (List FileCall)) (file : F) → from ≡ mid → now.file ≡ Some file
      → Asks was mid (TakesFile number before.path before.file (Ok file)) → Asks from told (P (number file))
      → Asks was told (AfterOpening number before now result P)
  taken_then was mid from told file same is taken asked =
      asks_then (TakesFile number before.path before.file (Ok file)) (P (number file))
      (AfterOpening number before now result P) was mid told
      (λ opening later takes asks. rw is (opening, later, refl, takes, asks)) taken
      (subst (λ (m : Option (List FileCall)). Asks m told (P (number file))) same asked)

  -- it can't be taken
  pub not_taken :
      (was told : Option (List FileCall)) (down : DeviceDown) → now.file ≡ None → result ≡ Err down
      → Asks was told (TakesFile number before.path before.file (Err down))
      → Asks was told (AfterOpening number before now result P)
  not_taken was told down is fails taken =
      asks_as (TakesFile number before.path before.file (Err down)) (AfterOpening number before now result P) was told
      (λ calls takes. rw is (down, fails, takes)) taken
