-- Events, one after another, up to a stop: what is said to them, and which commands of the store are done.
use Rattle.std.specs.Prelude.{◌≡◌, ◌≢◌, ℕ, ◌+◌, List, [], ◌∷◌, ◌++◌, Bool, Result, Ok, Err}
use Rattle.disk_model.specs.declared.disk.Disk.{Ghosts}
use Rattle.file_store.specs.Command.{Command}
use Rattle.file_store.specs.State.{IsKnown, StoreState}
use Rattle.file_store.specs.Working.{CutsOffAmongReads, DoesAmongReads, PutsAmongReads}
use Rattle.turn_loop.specs.Course.{AtDisk, at}
use Rattle.turn_loop.specs.declared.stop.NodeStop.{NodeStop}
use Rattle.turn_loop.specs.declared.stop.NodeStop.TheVariants as stop
use Rattle.server_node.specs.Stops.{FailsBy}
use Rattle.server_node.specs.declared.terms.Served.{Served}

-- what was made of events: the text that was said, the commands that were done, and how many reads that failed are told
-- of
pub record Made : Type 0 where
  pub text : List ℕ
  pub done : List Command
  pub missed : ℕ

abbrev pub made : List ℕ → List Command → ℕ → Made
made text done missed = record { text = text; done = done; missed = missed }

-- the one, and behind it the other
abbrev pub both : Made → Made → Made
both first second = made (first.text ++ second.text) (first.done ++ second.done) (first.missed + second.missed)

-- How something serves events.
pub record Steps (S E : Type 0) : Type 1 where
  -- Over these events, at none of which it stops, it comes from the first to the second.
  pub goes : S → List E → Made → S → Type 0
  -- It stops at this event, for this reason; a put failed, or none did. The disk failed in one of these commands, where
  -- it is the reason.
  pub stops : NodeStop → Bool → S → E → Made → List Command → Type 0

-- It stopped at one of these events. Of those before it all was said, and all their commands are done; of those after
-- it nothing was taken. Reads may have failed at any of them.
pub record StopsOver {S E : Type 0} (steps : Steps S E) (start : S) (events : List E) (why : NodeStop) (unsaid : Bool)
    (all : Made) (cut : List Command) : Type 0 where
  pub before : List E
  pub next : E
  pub later : List E
  pub events_are : events ≡ before ++ next ∷ later
  pub earlier : Made
  pub then_is : S
  pub goes : steps.goes start before earlier then_is
  pub last : Made
  pub stops : steps.stops why unsaid then_is next last cut
  pub all_is : all ≡ both earlier last

-- The same, where all of the first events were taken before the stop.
pub record StopsBehind {S E : Type 0} (least : List E) (steps : Steps S E) (start : S) (events : List E)
    (why : NodeStop) (unsaid : Bool) (all : Made) (cut : List Command) : Type 0 where
  pub stops : StopsOver steps start events why unsaid all cut
  pub between : List E
  pub in_order : stops.before ≡ least ++ between

-- All events were taken, at some of which reads failed, or at none: all was said, and all commands are done.
abbrev pub TakesAll : {S E : Type 0} → Steps S E → S → List E → Made → List Command → Type 0
TakesAll {S} steps start events all cut = (now : S) × steps.goes start events all now × (cut ≡ [])

-- What was made of these events, by how the serving ended: all of them were taken where the end of the air was read, a
-- poll failed, or as many polls were made as may be; else those up to a stop behind the least of them. Want of memory
-- stops nothing.
abbrev pub EndsOver :
    {S E : Type 0} → Result Served NodeStop → List E → Steps S E → S → List E → Bool → Made → List Command → Type 0
EndsOver (Ok served) least steps start events unsaid all cut = TakesAll steps start events all cut
EndsOver (Err stop.AirRead) least steps start events unsaid all cut = TakesAll steps start events all cut
EndsOver (Err stop.Spent) least steps start events unsaid all cut = TakesAll steps start events all cut
EndsOver (Err stop.AirWrite) least steps start events unsaid all cut =
    StopsBehind least steps start events stop.AirWrite unsaid all cut
EndsOver (Err stop.Disk) least steps start events unsaid all cut =
    StopsBehind least steps start events stop.Disk unsaid all cut
EndsOver (Err stop.OutOfMemory) least steps start events unsaid all cut = ⊥
EndsOver (Err (stop.NotAStore found)) least steps start events unsaid all cut = ⊥
EndsOver (Err (stop.Damaged place)) least steps start events unsaid all cut = ⊥

-- ---- on the disk

-- How something serves events on a disk: by which steps, with which store, and what it stands for there.
pub record Service (P S E D : Type 0) : Type 1 where
  pub disk : Ghosts D
  pub steps : Steps S E
  pub store : P → StoreState
  pub stands : AtDisk P D → S → Type 0

-- its store, at its disk
abbrev pub store_at : {P S E D : Type 0} → Service P S E D → AtDisk P D → AtDisk StoreState D
store_at by now = at (by.store now.it) now.disk

-- From this start it came over these events and said this, and the commands are done on the disk. The disk's count of
-- failed reads rose by at least as many as are told of, and not where none is.
pub record RunsTo {P S E D : Type 0} (by : Service P S E D) (start : S) (old new : AtDisk P D) (events : List E)
    (text : List ℕ) : Type 0 where
  pub next : S
  pub stands : by.stands new next
  pub done : List Command
  pub missed : ℕ
  pub goes : by.steps.goes start events (made text done missed) next
  pub does : DoesAmongReads by.disk ⊥ missed (by.store old.it) (by.store new.it) old.disk new.disk done

-- It stopped at one of these events, and its commands up to there are done on the disk.
pub record StopsTo {P S E D : Type 0} (by : Service P S E D) (start : S) (old new : AtDisk P D) (events : List E)
    (why : NodeStop) (unsaid : Bool) (text : List ℕ) : Type 0 where
  pub done : List Command
  pub cut : List Command
  pub missed : ℕ
  pub stops : StopsOver by.steps start events why unsaid (made text done missed) cut
  pub cuts : CutsOffAmongReads by.disk (FailsBy why) missed (store_at by old) (store_at by new) done cut

-- Over these events no write and no sync failed. Where it is known what octets the files have it ran so, whatever it
-- stood for.
pub record RunsOn {P S E D : Type 0} (by : Service P S E D) (old new : AtDisk P D) (events : List E) (text : List ℕ)
    : Type 0 where
  pub puts : PutsAmongReads by.disk ⊥ old.disk new.disk
  pub runs : IsKnown by.disk old.disk → (start : S) → by.stands old start → RunsTo by start old new events text

-- It stopped at one of them, and not for want of memory: no write and no sync came behind one that failed, and one did
-- where that is the reason. Where it is known what octets the files have it stopped so.
pub record StopsOn {P S E D : Type 0} (by : Service P S E D) (old new : AtDisk P D) (events : List E) (why : NodeStop)
    (unsaid : Bool) (text : List ℕ) : Type 0 where
  pub puts : PutsAmongReads by.disk (FailsBy why) old.disk new.disk
  pub memory : why ≢ stop.OutOfMemory
  pub stops :
      IsKnown by.disk old.disk → (start : S) → by.stands old start → StopsTo by start old new events why unsaid text
