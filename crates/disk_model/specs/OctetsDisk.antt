-- Octets in memory as a disk, as contracts see it.
use Rattle.std.specs.Prelude.{◌≡◌, ℕ, ◌^◌, ◌≤◌, List, length, Option, Some, IfSome, ⊤}
use Rattle.std.proofs.Common.{refl, sym, ◌∙◌, subst}
use Rattle.std.proofs.Math.Nat.{le_refl, le_trans}
use Rattle.px_base.specs.Octets.{IsOctets}
use Rattle.disk_model.specs.declared.octets_disk.OctetsDisk.{OctetsDisk}

-- the octets
abbrev pub octets_in : OctetsDisk → List ℕ
octets_in disk = disk.octets.now

-- It as a disk: it tells the octets, and a crash leaves them at any moment. No call is a moment of it.
abbrev pub content : OctetsDisk → Option (List ℕ)
content disk = Some (octets_in disk)

abbrev pub images : OctetsDisk → List ℕ → Type 0
images disk image = image ≡ octets_in disk

abbrev pub moment : OctetsDisk → ℕ
moment disk = 0

abbrev pub images_since : OctetsDisk → ℕ → List ℕ → Type 0
images_since disk since = images disk

-- no read fails, and each write and sync does: it is down
abbrev pub read_faults : OctetsDisk → ℕ
read_faults disk = 0

abbrev pub write_faults : OctetsDisk → ℕ
write_faults disk = disk.write_faults

abbrev pub is_down : OctetsDisk → Type 0
is_down disk = ⊤

-- what lasts through its calls: the octets, and that the count never falls
pub record lasts (old new : OctetsDisk) : Type 0 where
  pub octets : octets_in new ≡ octets_in old
  pub writes : write_faults old ≤ write_faults new

-- it keeps the laws of disks
pub content_is_image : (disk : OctetsDisk) → IfSome (content disk) (images disk)
content_is_image disk = refl

pub images_fit : (disk : OctetsDisk) (image : List ℕ) → images disk image → IsOctets image × (length image ≤ 2 ^ 63)
images_fit disk image is =
    subst (λ (octets : List ℕ). IsOctets octets × (length octets ≤ 2 ^ 63)) (sym is) (disk.are_octets, disk.most)

pub counts_now :
    (disk : OctetsDisk) (t : ℕ) (image : List ℕ) → t ≤ moment disk → images disk image → images_since disk t image
counts_now disk t image early is = is

pub earlier :
    (disk : OctetsDisk) (t u : ℕ) (image : List ℕ) → t ≤ u → images_since disk u image → images_since disk t image
earlier disk t u image before since = since

pub lasts_same : (disk : OctetsDisk) → lasts disk disk
lasts_same disk = record { octets = refl; writes = le_refl (write_faults disk) }

pub lasts_on :
    (first second third : OctetsDisk) → lasts first second → lasts second third → lasts first third
lasts_on first second third early late =
    record { octets = late.octets ∙ early.octets; writes = le_trans early.writes late.writes }
