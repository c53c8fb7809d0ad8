-- The course of what a node drives: over which events it comes from where to where, and what it gives.
use Rattle.std.specs.Prelude.{◌≡◌, ℕ, ◌<◌, ◌≤◌, List, [], ◌++◌, length, take, Bool, true, false, Option, None, Some}
use Rattle.std.specs.Prelude.{Result, Ok, Err, ⊤}
use Rattle.std.specs.List.{AllByRecursion}
use Rattle.px_base.specs.Octets.{IsFront}
pub use Rattle.disk_model.specs.AtDisk.{AtDisk, at}
use Rattle.disk_model.specs.declared.halt.Halt.{Halt}
use Rattle.disk_model.specs.declared.halt.Halt.TheVariants as halt
use Rattle.turn_loop.specs.declared.stop.NodeStop.{NodeStop}
use Rattle.turn_loop.specs.declared.stop.NodeStop.TheVariants as stop

-- how a halt stops a node
abbrev pub stop_of : Halt → NodeStop
stop_of halt.Disk = stop.Disk
stop_of halt.OutOfMemory = stop.OutOfMemory

-- how a node stops where a put fails: by the halt that came before it, if one did
abbrev pub stop_at_put : Option Halt → NodeStop
stop_at_put None = stop.AirWrite
stop_at_put (Some why) = stop_of why

-- The course of something at its disk, over events.
pub record Course (S D E : Type 0) : Type 1 where
  -- It stands on its disk, and has nothing to give: it may take its next event.
  pub is_fit : AtDisk S D → Type 0
  -- Over these events it came from the first to the second, and gave this text.
  pub goes : AtDisk S D → List E → List ℕ → AtDisk S D → Type 0
  -- From the first on it took these events, and so far it gave this text. With what it has still to give it goes on,
  -- or it halts for this reason.
  pub owes : AtDisk S D → List E → Option Halt → List ℕ → AtDisk S D → Type 0
  -- It stopped at one of these events, for this reason and behind this text; a put of it failed, or none did.
  pub halts : AtDisk S D → List E → NodeStop → Bool → List ℕ → AtDisk S D → Type 0
  -- how many texts it has still to give, at most
  pub most : S → ℕ
  -- it takes no further turn
  pub is_over : S → Bool

-- It took these events, gave nothing yet, and halts, which stops its node so.
abbrev pub OwesStop : {S D E : Type 0} → Course S D E → AtDisk S D → List E → NodeStop → AtDisk S D → Type 0
OwesStop course start events stop now =
    (why : Halt) × (stop ≡ stop_of why) × course.owes start events (Some why) [] now

-- It took these events, gave nothing yet, and answers so: it goes on, or it halts.
abbrev pub OwesBy : {S D E : Type 0} → Course S D E → AtDisk S D → List E → Result ⊤ NodeStop → AtDisk S D → Type 0
OwesBy course start events (Ok done) now = course.owes start events None [] now
OwesBy course start events (Err stop) now = OwesStop course start events stop now

-- It took some events, and gave some of what they bring, or all.
abbrev pub OwesSome : {S D E : Type 0} → Course S D E → AtDisk S D → Type 0
OwesSome {S} {D} {E} course now =
    (start : AtDisk S D) × (events : List E) × (why : Option Halt) × (said : List ℕ)
    × course.owes start events why said now

-- All was given: it goes on, and is fit for its next event; or it halts.
abbrev pub Settles : {S D E : Type 0} → Course S D E → AtDisk S D → List E → Option Halt → List ℕ → AtDisk S D → Type 0
Settles course start events None said now = course.goes start events said now × course.is_fit now
Settles course start events (Some why) said now = course.halts start events (stop_of why) false said now

-- One text more is given. Where saying it fails, behind any front of it, that is where it stops.
pub record GivesNext {S D E : Type 0} (course : Course S D E) (old : AtDisk S D) (text : List ℕ)
    (new : AtDisk S D) : Type 0 where
  pub goes_on :
      (start : AtDisk S D) (events : List E) (why : Option Halt) (said : List ℕ)
      → course.owes start events why said old → course.owes start events why (said ++ text) new
  pub cut_off :
      (start : AtDisk S D) (events : List E) (why : Option Halt) (said front : List ℕ) → IsFront front text
      → course.owes start events why said old → course.halts start events (stop_at_put why) true (said ++ front) new

-- Nothing more is to be given.
abbrev pub GaveAll : {S D E : Type 0} → Course S D E → AtDisk S D → AtDisk S D → Type 0
GaveAll {S} {D} {E} course old new =
    (start : AtDisk S D) (events : List E) (why : Option Halt) (said : List ℕ)
    → course.owes start events why said old → Settles course start events why said new

-- It halts at what a front of these octets finishes, at least one, which stops its node so.
abbrev pub HaltsWithin :
    {S D E : Type 0} → Course S D E → AtDisk S D → (List ℕ → List E) → List ℕ → NodeStop → AtDisk S D → Type 0
HaltsWithin course start events octets stop now =
    (taken : ℕ) × (0 < taken) × (taken ≤ length octets) × OwesStop course start (events (take taken octets)) stop now

-- What holds of each course, whose events are these ones.
pub record IsLawful {S D E : Type 0} (course : Course S D E) (IsEvent : E → Type 0) : Type 0 where
  pub owes_none : (start : AtDisk S D) → course.is_fit start → course.owes start [] None [] start
  pub goes_none : (start : AtDisk S D) → course.is_fit start → course.goes start [] [] start
  pub goes_on :
      (start mid now : AtDisk S D) (events others : List E) (text more : List ℕ) → course.goes start events text mid
      → course.goes mid others more now → course.goes start (events ++ others) (text ++ more) now
  pub halts_behind :
      (start mid now : AtDisk S D) (events others : List E) (text more : List ℕ) (why : NodeStop) (unsaid : Bool)
      → course.goes start events text mid → course.halts mid others why unsaid more now
      → course.halts start (events ++ others) why unsaid (text ++ more) now
  pub halts_before :
      (start now : AtDisk S D) (events others : List E) (text : List ℕ) (why : NodeStop) (unsaid : Bool)
      → AllByRecursion IsEvent others → course.halts start events why unsaid text now
      → course.halts start (events ++ others) why unsaid text now
