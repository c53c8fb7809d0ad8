-- A disk that stops keeps the laws of disks, as the one in it does, and those of disks that can be armed.
use Rattle.std.specs.Prelude.{ℕ, ◌^◌, ◌≤◌, List, length, IfSome}
use Rattle.px_base.specs.Octets.{IsOctets}
use Rattle.disk_model.specs.Fuse.{content, cut_of, fuse, images, images_since, lasts, moment}
use Rattle.disk_model.specs.CutLaws.{lasts_longer, lasts_still}
use Rattle.disk_model.specs.MemoryLaws as law
use Rattle.disk_model.specs.declared.fuse_disk.FuseDisk.{FuseDisk}

pub content_is_image : (disk : FuseDisk) → IfSome (content disk) (images disk)
content_is_image disk = law.content_is_image disk.disk

pub images_fit : (disk : FuseDisk) (image : List ℕ) → images disk image → IsOctets image × (length image ≤ 2 ^ 63)
images_fit disk image is = law.images_fit disk.disk image is

pub counts_now :
    (disk : FuseDisk) (t : ℕ) (image : List ℕ) → t ≤ moment disk → images disk image → images_since disk t image
counts_now disk t image early is = law.counts_now disk.disk t image early is

pub earlier :
    (disk : FuseDisk) (t u : ℕ) (image : List ℕ) → t ≤ u → images_since disk u image → images_since disk t image
earlier disk t u image before since = law.earlier disk.disk t u image before since

pub lasts_same : (disk : FuseDisk) → lasts disk disk
lasts_same disk = lasts_still (cut_of (fuse disk))

pub lasts_on : (first second third : FuseDisk) → lasts first second → lasts second third → lasts first third
lasts_on first second third early late =
    lasts_longer (cut_of (fuse first)) (cut_of (fuse second)) (cut_of (fuse third)) early late
