-- What a run of calls does to a disk.
use Rattle.std.specs.Prelude.{◌≡◌, ◌⊎◌, ◌↔◌, ℕ, ◌+◌, ◌≤◌, List, Bool, if◌then◌else◌}
use Rattle.std.specs.Prelude.{Option, IfSome, Result, IsErr, OnOk}
use Rattle.px_base.specs.Outside.{Rose}
use Rattle.disk_model.specs.Disk.{HasContent, IsQuiet, IsTold}
use Rattle.disk_model.specs.Moments.{LeavesOnly, OnlyReads, TimePasses}
use Rattle.disk_model.specs.declared.disk.Disk.{Ghosts}

-- what a crash since this moment might have left: the images, and right after a power cut maybe more
abbrev pub images_now : {D : Type 0} → Ghosts D → D → List ℕ → Type 0
images_now g disk = g.images_since disk (g.moment disk)

-- quiet: where the content is told, a crash since this moment leaves it and nothing else
abbrev pub IsQuietNow : {D : Type 0} → Ghosts D → D → Type 0
IsQuietNow g disk = IsQuiet (g.content disk) (images_now g disk)

-- each image that a crash since this moment might have left, where the disk tells, has P
abbrev pub EachImage : {D : Type 0} → Ghosts D → D → (List ℕ → Type 0) → Type 0
EachImage g disk P = IfSome (g.content disk) (λ _. (image : List ℕ) → images_now g disk image → P image)

-- the content is told now exactly where it was told before
abbrev pub TellsAlike : Option (List ℕ) → Option (List ℕ) → Type 0
TellsAlike before now = IsTold now ↔ IsTold before

-- the content, where it is told, takes this step
abbrev pub TakesStep : {D : Type 0} → Ghosts D → D → D → (List ℕ → List ℕ → Type 0) → Type 0
TakesStep g old new step = HasContent (g.content old) (g.content new) step

-- it becomes what this makes of it
abbrev pub Becomes : (List ℕ → List ℕ) → List ℕ → List ℕ → Type 0
Becomes after before now = now ≡ after before

-- since the call began, a crash leaves what stands so to the content before it
abbrev pub Leaves : {D : Type 0} → Ghosts D → D → D → (List ℕ → List ℕ → Type 0) → Type 0
Leaves g old new stands = IfSome (g.content old) (λ before. LeavesOnly g.moment g.images_since old new (stands before))

-- A count of faults never falls. It rose where the disk failed, and stands as it stood where it didn't.
pub record CountsFault (before now : ℕ) (failed : Type 0) : Type 0 where
  pub no_less : before ≤ now
  pub rose : failed → Rose before now
  pub same : ¬ failed → now ≡ before

-- the same of both counts of a disk, of which one rose
pub record CountsFaults {D : Type 0} (g : Ghosts D) (failed : Type 0) (old new : D) : Type 0 where
  pub reads : g.read_faults old ≤ g.read_faults new
  pub writes : g.write_faults old ≤ g.write_faults new
  pub rose : failed → Rose (g.read_faults old) (g.read_faults new) ⊎ Rose (g.write_faults old) (g.write_faults new)
  pub same : ¬ failed → (g.read_faults new ≡ g.read_faults old) × (g.write_faults new ≡ g.write_faults old)

-- nothing but the count of failed reads changes
abbrev pub ChangesReads : {D : Type 0} → Ghosts D → D → D → Type 0
ChangesReads g = OnlyReads g.content g.images g.moment g.images_since g.write_faults

-- No write and no sync comes after a call that failed: up to some disk between the two none failed, and since that came
-- one write or sync at most, or nothing but reads.
pub record StopsAtFault {D : Type 0} (g : Ghosts D) (old new : D) : Type 0 where
  pub last : D
  pub lasts : g.lasts old last
  pub lasts_on : g.lasts last new
  pub reads : g.read_faults last ≡ g.read_faults old
  pub writes : g.write_faults last ≡ g.write_faults old
  pub since :
      ((g.read_faults new ≡ g.read_faults last) × (g.moment new ≤ g.moment last + 1)
      × TimePasses g.moment g.images g.images_since last new)
      ⊎ ChangesReads g last new

-- A run of reads, which failed or didn't.
pub record Reads {D : Type 0} (g : Ghosts D) (failed : Type 0) (old new : D) : Type 0 where
  pub only : ChangesReads g old new
  pub faults : CountsFault (g.read_faults old) (g.read_faults new) failed
  pub lasts : g.lasts old new

-- A run of writes and syncs, which failed or didn't.
pub record Puts {D : Type 0} (g : Ghosts D) (failed : Type 0) (old new : D) : Type 0 where
  pub told : TellsAlike (g.content old) (g.content new)
  pub reads : g.read_faults new ≡ g.read_faults old
  pub faults : CountsFault (g.write_faults old) (g.write_faults new) failed
  pub stops : StopsAtFault g old new
  pub lasts : g.lasts old new

-- A run of writes and syncs: where none failed, the content took this step, and the disk is quiet; a crash since the
-- start leaves what stands so to the content before.
pub record Makes {D T E : Type 0} (g : Ghosts D) (result : Result T E) (old new : D)
    (step stands : List ℕ → List ℕ → Type 0) : Type 0 where
  pub ok : OnOk result (TakesStep g old new step)
  pub quiet : OnOk result (IsQuietNow g new)
  pub since : Leaves g old new stands
  pub puts : Puts g (IsErr result) old new

-- A run of calls, which failed or didn't.
pub record Runs {D : Type 0} (g : Ghosts D) (failed : Type 0) (old new : D) : Type 0 where
  pub told : TellsAlike (g.content old) (g.content new)
  pub faults : CountsFaults g failed old new
  pub stops : StopsAtFault g old new
  pub lasts : g.lasts old new

-- No write and no sync comes after one that failed: up to some disk between the two none failed, and since that came
-- one at most, or nothing but reads. A read that failed stops nothing.
pub record StopsAtFailedWrite {D : Type 0} (g : Ghosts D) (old new : D) : Type 0 where
  pub last : D
  pub lasts : g.lasts old last
  pub lasts_on : g.lasts last new
  pub writes : g.write_faults last ≡ g.write_faults old
  pub since :
      ((g.moment new ≤ g.moment last + 1) × TimePasses g.moment g.images g.images_since last new)
      ⊎ ChangesReads g last new

-- A run of writes and syncs, which failed or didn't, with reads among them.
pub record PutsAmongReads {D : Type 0} (g : Ghosts D) (failed : Type 0) (old new : D) : Type 0 where
  pub told : TellsAlike (g.content old) (g.content new)
  pub reads : g.read_faults old ≤ g.read_faults new
  pub faults : CountsFault (g.write_faults old) (g.write_faults new) failed
  pub stops : StopsAtFailedWrite g old new
  pub lasts : g.lasts old new

-- one call that failed, or none
abbrev pub one_if : Bool → ℕ
one_if failed = if failed then 1 else 0

-- A count of faults never falls. It rose by so many at least, or stands at its last number, 2 ^ 64 - 1; where there was
-- none it stands as it stood.
pub record CountsSome (before now some : ℕ) : Type 0 where
  pub no_less : before ≤ now
  pub rose : (before + some ≤ now) ⊎ (18446744073709551615 ≤ now)
  pub same : some ≡ 0 → now ≡ before
