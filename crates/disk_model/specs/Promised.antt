-- What a disk promises of each of its calls.
use Rattle.std.specs.Prelude.{◌≡◌, ◌↔◌, ◌⊎◌, ℕ, ◌+◌, ◌^◌, ◌<◌, ◌≤◌, List, length, IfOk, IfSome, IsErr, OnErr}
use Rattle.std.specs.Prelude.{OnOk, Result}
use Rattle.px_base.specs.Outside.{HasCause}
use Rattle.disk_model.specs.Disk.{AreAmong, FillsRoom, Follows, HasContent, IsTold, LeavesOpen, Only, Torn, Writes}
use Rattle.disk_model.specs.Moments.{OnlyFails, OnlyReads, SinceNow, TakesOneMoment, TimePasses}
use Rattle.disk_model.specs.declared.disk.Disk.{Ghosts}

module _ {D : Type 0} (g : Ghosts D) where
  -- of `len`
  pub record PromisesLen {E : Type 0} (old new : D) (result : Result ℕ E) : Type 0 where
    pub len : IfOk result (λ n. IfSome (g.content old) (λ octets. n ≡ length octets))
    pub most : IfOk result (λ n. n ≤ 2 ^ 63)
    pub only_reads : OnlyReads g.content g.images g.moment g.images_since g.write_faults old new
    pub read_faults : HasCause (g.read_faults old) (g.read_faults new) result
    pub down : g.is_down new ↔ g.is_down old
    pub lasts : g.lasts old new

  -- of `read` into this room
  pub record PromisesRead {T E : Type 0} (at : ℕ) (room room_now : List ℕ) (old new : D) (result : Result T E)
      : Type 0 where
    pub room_is : OnOk result (IfSome (g.content old) (λ octets. FillsRoom octets at (length room) room_now))
    pub only_reads : OnlyReads g.content g.images g.moment g.images_since g.write_faults old new
    pub read_faults : HasCause (g.read_faults old) (g.read_faults new) result
    pub down : g.is_down new ↔ g.is_down old
    pub lasts : g.lasts old new

  -- of `write_at`
  pub record PromisesWrite {T E : Type 0} (at : ℕ) (octets : List ℕ) (old new : D) (result : Result T E)
      : Type 0 where
    pub written : OnOk result (HasContent (g.content old) (g.content new) (Writes at octets))
    pub told : IsTold (g.content old) → IsTold (g.content new)
    pub untold : IsTold (g.content new) → IsTold (g.content old)
    pub torn : Follows (Torn at (length octets)) (g.images old) (g.images new)
    pub leaves_open : LeavesOpen g.is_down g.images at (length octets) old new
    pub kept : AreAmong (g.images old) (g.images new)
    pub far : 2 ^ 63 < at + length octets → OnlyFails g.content g.images g.moment g.images_since old new result
    pub down : g.is_down old → OnlyFails g.content g.images g.moment g.images_since old new result
    pub stays_down : g.is_down old → g.is_down new
    pub goes_down : g.is_down new → g.is_down old ⊎ (IsErr result × (at + length octets ≤ 2 ^ 63))
    pub moment : TakesOneMoment (g.content old) (g.moment old) (g.moment new) result
    pub past : TimePasses g.moment g.images g.images_since old new
    pub since_now : SinceNow g.moment g.images g.images_since old new
    pub read_faults : g.read_faults new ≡ g.read_faults old
    pub write_faults : HasCause (g.write_faults old) (g.write_faults new) result
    pub lasts : g.lasts old new

  -- of `sync`
  pub record PromisesSync {T E : Type 0} (old new : D) (result : Result T E) : Type 0 where
    pub durable : OnOk result (IfSome (g.content old) (Only (g.images new)))
    pub content : g.content new ≡ g.content old
    pub images : AreAmong (g.images new) (g.images old)
    pub kept : OnErr result (AreAmong (g.images old) (g.images new))
    pub down : g.is_down old → OnlyFails g.content g.images g.moment g.images_since old new result
    pub stays_down : g.is_down new ↔ g.is_down old
    pub moment : TakesOneMoment (g.content old) (g.moment old) (g.moment new) result
    pub past : TimePasses g.moment g.images g.images_since old new
    pub since_now : SinceNow g.moment g.images g.images_since old new
    pub read_faults : g.read_faults new ≡ g.read_faults old
    pub write_faults : HasCause (g.write_faults old) (g.write_faults new) result
    pub lasts : g.lasts old new
