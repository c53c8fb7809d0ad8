-- What a call does to a disk over time.
use Rattle.std.specs.Prelude.{◌≡◌, ◌↔◌, ◌⊎◌, ℕ, ◌+◌, ◌<◌, ◌≤◌, List, Option, IfSome, Result, IsErr, OnOk}

-- a crash may leave the same as before
abbrev pub SameImages : (List ℕ → Type 0) → (List ℕ → Type 0) → Type 0
SameImages before now = (image : List ℕ) → now image ↔ before image

-- and might have left the same since each moment
abbrev pub SamePast : (ℕ → List ℕ → Type 0) → (ℕ → List ℕ → Type 0) → Type 0
SamePast before now = (t : ℕ) (image : List ℕ) → now t image ↔ before t image

-- Time goes on: a crash since t might have left what it might have left before, or what it may leave now.
pub record Elapses (before now : ℕ) (past since : ℕ → List ℕ → Type 0) (images : List ℕ → Type 0) : Type 0 where
  pub later : before ≤ now
  pub nothing_else : (t : ℕ) (image : List ℕ) → t ≤ before → since t image → past t image ⊎ images image
  pub keeps : (t : ℕ) (image : List ℕ) → t ≤ before → past t image → since t image

-- A call that answered Ok is one moment, where it is told; one that failed is one at most.
pub record TakesOneMoment {T E : Type 0} (content : Option (List ℕ)) (before now : ℕ) (result : Result T E)
    : Type 0 where
  pub one : OnOk result (IfSome content (λ octets. now ≡ before + 1))
  pub at_most : now ≤ before + 1

-- time goes on from one disk to the next
abbrev pub TimePasses : {D : Type 0} → (D → ℕ) → (D → List ℕ → Type 0) → (D → ℕ → List ℕ → Type 0) → D → D → Type 0
TimePasses moment images since old new = Elapses (moment old) (moment new) (since old) (since new) (images new)

-- where the moment rose, a crash since this moment leaves what a crash may leave now
abbrev pub SinceNow : {D : Type 0} → (D → ℕ) → (D → List ℕ → Type 0) → (D → ℕ → List ℕ → Type 0) → D → D → Type 0
SinceNow moment images since old new =
    moment old < moment new → (image : List ℕ) → since new (moment new) image → images new image

-- Since the call began, a crash leaves what has P; or, where it is asked since an earlier moment, what it might have
-- left before the call.
pub record LeavesOnly {D : Type 0} (moment : D → ℕ) (since : D → ℕ → List ℕ → Type 0) (old new : D)
    (P : List ℕ → Type 0) : Type 0 where
  pub later : moment old ≤ moment new
  pub each : (t : ℕ) (image : List ℕ) → t ≤ moment old → since new t image → since old t image ⊎ P image

-- a crash since this moment leaves what has P
abbrev pub LeavesSince : ℕ → (ℕ → List ℕ → Type 0) → (List ℕ → Type 0) → Type 0
LeavesSince moment since P = (image : List ℕ) → since moment image → P image

module _ {D : Type 0} (content : D → Option (List ℕ)) (images : D → List ℕ → Type 0) (moment : D → ℕ)
    (since : D → ℕ → List ℕ → Type 0) where
  -- all but the counts of faults is as it was
  pub record ChangesNothing (old new : D) : Type 0 where
    pub same_content : content new ≡ content old
    pub same_images : SameImages (images old) (images new)
    pub same_moment : moment new ≡ moment old
    pub same_past : SamePast (since old) (since new)

  -- the call failed, and all but the counts of faults is as it was
  abbrev pub OnlyFails : {T E : Type 0} → D → D → Result T E → Type 0
  OnlyFails old new result = IsErr result × ChangesNothing old new

  -- the call made no write and no sync, and all but the count of failed reads is as it was
  pub record OnlyReads (write_faults : D → ℕ) (old new : D) : Type 0 where
    pub same_content : content new ≡ content old
    pub same_images : SameImages (images old) (images new)
    pub same_moment : moment new ≡ moment old
    pub same_past : SamePast (since old) (since new)
    pub same_write_faults : write_faults new ≡ write_faults old
