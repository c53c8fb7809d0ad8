-- What each event of a schedule does to the disk of a station: a chain of disks, one for each world.
use Rattle.std.specs.Prelude.{◌≡◌, ℕ, ◌-◌, ◌<◌, List, [], ◌∷◌, false, Option, None, Some, IfSome}
use Rattle.disk_model.specs.Cuts.{ArmsOnly, Cuts, KeepsPast, LosesPower}
use Rattle.disk_model.specs.declared.disk.Disk.{Ghosts}
use Rattle.disk_model.specs.Runs.{IsQuietNow, Leaves, TellsAlike}
use Rattle.air_world.specs.Schedule.{Event}
use Rattle.air_world.specs.World.{World}
use Rattle.air_rehearsal.specs.Standing.{Makes, StandsAlike, StandsDuring, StandsFor, StandsNow, least_done}
use Rattle.air_rehearsal.specs.Stations.{Role, Station, acts, breaks_off, looks_on, role_of, waiting_after, will_be_cut}

-- A station between two events: the world, the cut that waits for it, by the number of its call, and its disk.
pub record Stage (B : Type 0) : Type 0 where
  pub world : World
  pub waiting : Option ℕ
  pub disk : B

-- the last one of these, the first one where no other comes
abbrev pub last_stage : {B : Type 0} → Stage B → List (Stage B) → Stage B
last_stage first [] = first
last_stage first (next ∷ later) = last_stage next later

module _ {B : Type 0} (g : Ghosts B) (station : Station) where
  -- The event is carried out on the disk, which knows of no cut. A crash since it began leaves what stands for the
  -- world before it, after the first of its commands.
  pub record CarriesOut (old : World) (event : Event) (disk disk_now : B) : Type 0 where
    pub told : TellsAlike (g.content disk) (g.content disk_now)
    pub since : Leaves g disk disk_now (λ _. StandsDuring station old event)
    pub lasts : g.lasts disk disk_now

  -- The station starts again from its disk, which is quiet then. A crash since this began leaves what it might have
  -- left before, or what stands for the same as the content.
  pub record StartsAgain (disk disk_now : B) : Type 0 where
    pub told : TellsAlike (g.content disk) (g.content disk_now)
    pub since : Leaves g disk disk_now (StandsAlike station)
    pub quiet : IsQuietNow g disk_now
    pub lasts : g.lasts disk disk_now

module _ {B : Type 0} (g : Ghosts B) (cuts : Cuts B) (station : Station) where
  -- At a cut the disk is armed so that the call of this number fails, and the event is carried out on it, as far as it
  -- comes. Then power is lost: what is left stands for the next world, and the station starts again from it. No fewer
  -- of the event's commands stand than the calls before that one carry out, and all of them where none failed by the
  -- arming; unless the count of failed writes stands at its last number and tells nothing.
  pub record IsCutOff (call : ℕ) (old : Stage B) (event : Event) (new : Stage B) : Type 0 where
    pub armed : B
    pub arms : ArmsOnly g cuts (Some (call - 1)) old.disk armed
    pub lost : B
    pub carries : CarriesOut g station old.world event armed lost
    pub left : B
    pub loses : LosesPower g cuts lost left
    pub keeps : KeepsPast g cuts lost left
    pub memory : cuts.is_starved left ≡ false
    pub stands : IfSome (g.content left) (StandsFor station new.world)
    pub no_fewer :
        g.write_faults lost < 18446744073709551615
        → IfSome (g.content left) (Makes (least_done (cuts.arming lost) (call - 1)) station old.world event)
    pub again : StartsAgain g station left new.disk

  -- What an event does to the disk, by what it is for the station, and by the cut that waits for it. In an event of
  -- another one the disk is the same.
  abbrev pub StepBy : Role → Option ℕ → Stage B → Event → Stage B → Type 0
  StepBy acts None old event new = CarriesOut g station old.world event old.disk new.disk
  StepBy acts (Some call) old event new = IsCutOff call old event new
  StepBy breaks_off waiting old event new = StartsAgain g station old.disk new.disk
  StepBy (will_be_cut call) waiting old event new = new.disk ≡ old.disk
  StepBy looks_on waiting old event new = new.disk ≡ old.disk

  -- From one stage to the next: the disk stands for the next world then, and for nothing else.
  pub record DiskStep (old : Stage B) (event : Event) (new : Stage B) : Type 0 where
    pub does : StepBy (role_of station event) old.waiting old event new
    pub waiting_is : new.waiting ≡ waiting_after (role_of station event) old.waiting
    pub stands : StandsNow g station new.world new.disk

  -- over these events these are the stages, one after each
  abbrev pub Follow : Stage B → List Event → List (Stage B) → Type 0
  Follow stage [] stages = stages ≡ []
  Follow stage (event ∷ events) stages =
      (next : Stage B) × (later : List (Stage B)) × (stages ≡ next ∷ later) × DiskStep stage event next
      × Follow next events later
