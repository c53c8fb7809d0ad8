-- The course of a station on the air: its own, over the events that what it is handed brings.
use Rattle.std.specs.Prelude.{◌≡◌, ℕ, List, [], ◌∷◌, ◌++◌}
use Rattle.px_base.specs.CallSign.{CallSign}
use Rattle.px_base.specs.Octets.{IsOctets}
use Rattle.ax25_frames.specs.FrameText.{FrameValue}
use Rattle.disk_model.specs.AtDisk.{AtDisk, at}
use Rattle.turn_loop.specs.Course.{Course}
use Rattle.turn_loop.specs.Events.{Finishes, NodeEvent, heard_at, ticks}
use Rattle.turn_loop.specs.Inputs.{Input, octet, octets_in, tick}
use Rattle.turn_loop.specs.Reading.{HasHeard}
use Rattle.turn_loop.specs.Station.{StationValue}
use Rattle.turn_loop.specs.declared.on_air.OnAir.{OnAir}

-- Behind these octets, what is handed over brings these events to the station: each frame for it where its last octet
-- comes, and the ticks.
abbrev pub Brings : CallSign → List ℕ → List Input → List NodeEvent → Type 0
Brings me before [] events = events ≡ []
Brings me before (octet o moment ∷ inputs) events =
    (frames : List FrameValue) × (later : List NodeEvent) × Finishes me before (o ∷ []) frames
    × (events ≡ heard_at moment frames ++ later) × Brings me (before ++ o ∷ []) inputs later
Brings me before (tick moment ∷ inputs) events =
    (later : List NodeEvent) × (events ≡ ticks moment ∷ later) × Brings me before inputs later

-- the station at its disk
abbrev pub inner : {S D : Type 0} → AtDisk (OnAir S) D → AtDisk S D
inner a = at a.it.station a.disk

-- Whatever octets the reader has heard, what is handed over brings events over which this holds.
abbrev pub BringsOver :
    {S D : Type 0} → (S → CallSign) → AtDisk (OnAir S) D → List Input → (List ℕ → List NodeEvent → Type 0) → Type 0
BringsOver me old inputs Over =
    (all : List ℕ) → IsOctets all → HasHeard old.it.reader all
    → (events : List NodeEvent) × Brings (me old.it.station) all inputs events × Over all events

-- the reader has heard some octets
abbrev pub HasHeardSome : StationValue → Type 0
HasHeardSome reader = (all : List ℕ) × IsOctets all × HasHeard reader all

-- The reader and the station stay those of one call, and what is handed over is octets.
pub record StaysOnAir {S D : Type 0} (me : S → CallSign) (old : AtDisk (OnAir S) D) (inputs : List Input)
    (new : AtDisk (OnAir S) D) : Type 0 where
  pub some : HasHeardSome old.it.reader
  pub same_me : me new.it.station ≡ me old.it.station
  pub own : new.it.reader.me ≡ me new.it.station
  pub are_octets : IsOctets (octets_in inputs)

-- the course of a station on the air
abbrev pub on_air : {S D : Type 0} → (S → CallSign) → Course S D NodeEvent → Course (OnAir S) D Input
on_air me course =
    record {
      is_fit = λ a. course.is_fit (inner a) × (a.it.reader.me ≡ me a.it.station) × HasHeardSome a.it.reader;
      goes = λ old inputs text new.
          StaysOnAir me old inputs new
          × BringsOver me old inputs (λ all events. HasHeard new.it.reader (all ++ octets_in inputs)
          × course.goes (inner old) events text (inner new));
      owes = λ old inputs why said new.
          StaysOnAir me old inputs new
          × BringsOver me old inputs (λ all events. HasHeard new.it.reader (all ++ octets_in inputs)
          × course.owes (inner old) events why said (inner new));
      halts = λ old inputs why unsaid text new.
          IsOctets (octets_in inputs)
          × BringsOver me old inputs (λ all events. course.halts (inner old) events why unsaid text (inner new));
      most = λ it. course.most it.station;
      is_over = λ it. course.is_over it.station;
    }
