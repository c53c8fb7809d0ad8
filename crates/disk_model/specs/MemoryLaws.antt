-- A disk in memory keeps the laws of disks.
use Rattle.std.specs.Prelude.{ℕ, ◌^◌, ◌≤◌, List, [], ◌++◌, length, IfSome}
use Rattle.std.proofs.Common.{refl, sym, ◌∙◌, ap, subst, append_assoc}
use Rattle.std.proofs.Math.Nat.{le_refl, le_trans}
use Rattle.std.proofs.lemmas.List.{append-nil, take_all}
use Rattle.px_base.specs.Octets.{IsOctets}
use Rattle.disk_model.specs.Calls.{surface}
use Rattle.disk_model.specs.Memory.{content, images, images_since, lasts, moment, read_faults, state, write_faults}
use Rattle.disk_model.specs.Surface.{IsImage, moments_in, surface_after}
use Rattle.disk_model.specs.declared.disk_call.DiskCall.{DiskCall}
use Rattle.disk_model.specs.declared.memory_disk.MemoryDisk.{MemoryDisk}

pub content_is_image : (disk : MemoryDisk) → IfSome (content disk) (images disk)
content_is_image disk = subst (IsImage (surface (state disk))) disk.history.content disk.history.image

pub images_fit : (disk : MemoryDisk) (image : List ℕ) → images disk image → IsOctets image × (length image ≤ 2 ^ 63)
images_fit disk image is = (is.octets, le_trans is.no_longer disk.history.most)

pub counts_now :
    (disk : MemoryDisk) (t : ℕ) (image : List ℕ) → t ≤ moment disk → images disk image → images_since disk t image
counts_now disk t image early is =
    let calls = (state disk).calls in
    let all = take_all (length calls) calls (le_refl (length calls)) in (
      length calls,
      subst (λ (l : List DiskCall). t ≤ moments_in l) (sym all) early,
      le_refl (length calls),
      subst (λ (l : List DiskCall). IsImage (surface_after (state disk).first l) image) (sym all) is,
    )

pub earlier :
    (disk : MemoryDisk) (t u : ℕ) (image : List ℕ) → t ≤ u → images_since disk u image → images_since disk t image
earlier disk t u image before since = (since.0, le_trans before since.1, since.2, since.3)

pub lasts_same : (disk : MemoryDisk) → lasts disk disk
lasts_same disk =
    record {
      first = refl;
      further = [];
      calls = sym (append-nil (state disk).calls);
      reads = le_refl (read_faults disk);
      writes = le_refl (write_faults disk);
    }

pub lasts_on :
    (first second third : MemoryDisk) → lasts first second → lasts second third → lasts first third
lasts_on first second third early late =
    record {
      first = late.first ∙ early.first;
      further = early.further ++ late.further;
      calls =
          late.calls
          ∙ ap (λ (l : List DiskCall). l ++ late.further) early.calls
          ∙ append_assoc (state first).calls early.further late.further;
      reads = le_trans early.reads late.reads;
      writes = le_trans early.writes late.writes;
    }
