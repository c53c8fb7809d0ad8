-- What is said of disks that can be armed to fail, and that lose power.
use Rattle.std.specs.Prelude.{◌≡◌, ◌↔◌, ◌⊎◌, ℕ, ◌+◌, ◌<◌, ◌≤◌, List, [], ◌∷◌, ◌++◌, length, All, Option, Some}
use Rattle.std.specs.Prelude.{None, IfSome, Bool, true, false}
use Rattle.std.specs.Option.{option_map}
use Rattle.px_base.specs.Outside.{Rose}
use Rattle.disk_model.specs.Crash.{IsCrash}
use Rattle.disk_model.specs.Disk.{IsQuiet, IsTold}
use Rattle.disk_model.specs.Moments.{ChangesNothing, SamePast}
use Rattle.disk_model.specs.Surface.{IsImage, Surface}
use Rattle.disk_model.specs.declared.disk.Disk.{Ghosts}

-- It isn't armed; or so many further calls of `write_at` and `sync` pass; or a call failed by the arming.
pub data Arming : Type 0 where
  Unarmed : Arming
  Passes : ℕ → Arming
  Failed : Arming

-- as it is armed by a number of calls, or by none disarmed
abbrev pub arming_of : Option ℕ → Arming
arming_of None = Unarmed
arming_of (Some calls) = Passes calls

-- What a disk that can be armed tells beside what each disk tells: the contents that the power cuts left, in order,
-- where they are told; how it is armed; that no call of it is listed to fail; and whether a call found no memory.
pub record Cuts (D : Type 0) : Type 1 where
  pub restarts : D → Option (List (List ℕ))
  pub arming : D → Arming
  pub plain : D → Type 0
  pub is_starved : D → Bool

abbrev pub cuts_by :
    {D : Type 0} → (D → Option (List (List ℕ))) → (D → Arming) → (D → Type 0) → (D → Bool) → Cuts D
cuts_by restarts arming plain is_starved =
    record { restarts = restarts; arming = arming; plain = plain; is_starved = is_starved }

-- How far the arming is used up: how many calls of `write_at` and `sync` were made, both counts of faults, and how the
-- disk is armed.
pub record Use : Type 0 where
  pub moment : ℕ
  pub read_faults : ℕ
  pub write_faults : ℕ
  pub arming : Arming

-- no fault is counted
pub record SameFaults (old new : Use) : Type 0 where
  pub reads : new.read_faults ≡ old.read_faults
  pub writes : new.write_faults ≡ old.write_faults

-- Of so many calls some passed, which are moments of the disk, and as many as it says are left; no fault is counted.
pub record PassesOn (calls : ℕ) (old new : Use) : Type 0 where
  pub left : ℕ
  pub armed : new.arming ≡ Passes left
  pub passed : new.moment + left ≡ old.moment + calls
  pub faults : SameFaults old new

-- So many calls passed, and the one after them failed by the arming, all of them moments of the disk; the count of
-- failed writes and syncs rose.
pub record FailsSo (calls : ℕ) (old new : Use) : Type 0 where
  pub failed : new.arming ≡ Failed
  pub passed : old.moment + calls < new.moment
  pub rose : Rose old.write_faults new.write_faults

-- A disk that isn't armed stays so, and no fault is counted. Of one that is armed calls pass, up to the one that fails.
abbrev pub UsesUp : Arming → Use → Use → Type 0
UsesUp Unarmed old new = (new.arming ≡ Unarmed) × SameFaults old new
UsesUp (Passes calls) old new = PassesOn calls old new ⊎ FailsSo calls old new
UsesUp Failed old new = Unit {0}

-- what such a disk tells at one moment
pub record CutState : Type 1 where
  pub use_of : Use
  pub restarts : Option (List (List ℕ))
  pub plain : Type 0
  pub starved : Bool

-- What lasts through calls that know nothing of the arming. The moment and both counts never fall. Of a disk that is
-- plain, and has memory still, the arming is used up by moments.
pub record LastsSo (old new : CutState) : Type 0 where
  pub restarts : new.restarts ≡ old.restarts
  pub plain : new.plain ↔ old.plain
  pub starved : old.starved ≡ true → new.starved ≡ true
  pub failed : old.use_of.arming ≡ Failed → new.use_of.arming ≡ Failed
  pub moments : old.use_of.moment ≤ new.use_of.moment
  pub reads : old.use_of.read_faults ≤ new.use_of.read_faults
  pub writes : old.use_of.write_faults ≤ new.use_of.write_faults
  pub uses : old.plain → new.starved ≡ false → UsesUp old.use_of.arming old.use_of new.use_of

-- What a read gives is the content of what stands on the disk, and what a crash may leave are its images.
pub record ShowsWhatStands {D : Type 0} (g : Ghosts D) (surface : D → Surface) (disk : D) : Type 0 where
  pub content : g.content disk ≡ Some (surface disk).content
  pub images : (image : List ℕ) → g.images disk image ↔ IsImage (surface disk) image

-- what a read gives now, where it is told, is what a power cut by this number picks of what stood on the disk
abbrev pub Picks : {D : Type 0} → Ghosts D → (D → Surface) → ℕ → D → D → Type 0
Picks g surface pick old new = IfSome (g.content new) (IsCrash (surface old) pick)

module _ {D : Type 0} (g : Ghosts D) (cuts : Cuts D) where
  abbrev pub cut_state : D → CutState
  cut_state disk =
      record {
        use_of = record {
          moment = g.moment disk;
          read_faults = g.read_faults disk;
          write_faults = g.write_faults disk;
          arming = cuts.arming disk;
        };
        restarts = cuts.restarts disk;
        plain = cuts.plain disk;
        starved = cuts.is_starved disk;
      }

  -- It is armed by this number of calls, or disarmed, and nothing else is changed.
  pub record ArmsOnly (calls : Option ℕ) (old new : D) : Type 0 where
    pub armed : cuts.arming new ≡ arming_of calls
    pub nothing_else : ChangesNothing g.content g.images g.moment g.images_since old new
    pub reads : g.read_faults new ≡ g.read_faults old
    pub writes : g.write_faults new ≡ g.write_faults old
    pub restarts : cuts.restarts new ≡ cuts.restarts old
    pub plain : cuts.plain new ↔ cuts.plain old
    pub starved : cuts.is_starved new ≡ cuts.is_starved old

  -- What stays through a power cut: the moment, both counts, what a crash since each moment might have left; where no
  -- memory was found, the restarts too.
  pub record KeepsPast (old new : D) : Type 0 where
    pub moment : g.moment new ≡ g.moment old
    pub reads : g.read_faults new ≡ g.read_faults old
    pub writes : g.write_faults new ≡ g.write_faults old
    pub past : SamePast (g.images_since old) (g.images_since new)
    pub told : IsTold (g.content new) ↔ IsTold (g.content old)
    pub plain : cuts.plain new ↔ cuts.plain old
    pub stays_starved : cuts.is_starved old ≡ true → cuts.is_starved new ≡ true
    pub restarts : cuts.is_starved new ≡ true → cuts.restarts new ≡ cuts.restarts old

  -- Power is lost: what a read gives now is what a crash might have left, and a crash leaves nothing else now; the disk
  -- is up and not armed; and what was left is told as one restart more, where these are told.
  pub record LosesPower (old new : D) : Type 0 where
    pub left : IfSome (g.content new) (g.images old)
    pub only : IsQuiet (g.content new) (g.images new)
    pub up : g.is_down new → ⊥
    pub disarmed : cuts.arming new ≡ Unarmed
    pub restarted :
        IfSome (g.content new) (λ left. cuts.restarts new ≡ option_map (λ all. all ++ left ∷ []) (cuts.restarts old))

  -- A disk for a rehearsal: its content is told, and is no octet, nor is one left; it is plain, has memory, and was not
  -- restarted; and the count of its failed reads can rise. It may be armed.
  pub record IsFresh (disk : D) : Type 0 where
    pub told : g.content disk ≡ Some []
    pub quiet : IsQuiet (g.content disk) (g.images disk)
    pub plain : cuts.plain disk
    pub not_starved : cuts.is_starved disk ≡ false
    pub no_restart : IfSome (cuts.restarts disk) (λ all. all ≡ [])
    pub reads : g.read_faults disk < 18446744073709551615

  -- nine such disks: a server's, and those of eight clients
  abbrev pub AreFresh : List D → Type 0
  AreFresh bench = (length bench ≡ 9) × All IsFresh bench
