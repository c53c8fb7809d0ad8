-- The turns of a node: what is heard, said and handed over, and why they end.
use Rattle.std.specs.Prelude.{◌≡◌, ◌⊎◌, ℕ, zero, suc, ◌<◌, ◌≤◌, List, [], ◌∷◌, ◌++◌, length, take, Bool}
use Rattle.std.specs.Prelude.{true, false, Option, None, Some}
use Rattle.std.specs.Prelude.{IfErr, MatchResult, Result, Ok, Err, ⊤}
use Rattle.std.specs.List.{AllByRecursion}
use Rattle.px_base.specs.Moments.{MomentsOf}
use Rattle.px_base.specs.Octets.{IsFront}
use Rattle.px_base.specs.Outside.{Gains, HasCause, Rose}
use Rattle.px_base.specs.Polling.{EndsWith, Hears, HearsAll, IsButLast, IsOpen}
use Rattle.px_base.specs.declared.air.Air.{Ghosts as AirGhosts}
use Rattle.px_base.specs.declared.air.AirDown.{AirDown}
use Rattle.px_base.specs.declared.air.Turn.{Turn}
use Rattle.px_base.specs.declared.air.Turn.TheVariants as turn
use Rattle.disk_model.specs.AtDisk.{AtDisk, at}
use Rattle.turn_loop.specs.Course.{Course, Settles, stop_at_put}
use Rattle.disk_model.specs.declared.halt.Halt.{Halt}
use Rattle.turn_loop.specs.Inputs.{Input, inputs_of}
use Rattle.turn_loop.specs.declared.stop.NodeStop.{NodeStop}
use Rattle.turn_loop.specs.declared.stop.NodeStop.TheVariants as stop
use Rattle.turn_loop.specs.declared.finished.Finished.{Finished}
use Rattle.turn_loop.specs.declared.finished.Finished.TheVariants as finished
use Rattle.turn_loop.specs.declared.terms.TurnTerms.{TurnTerms}

-- A put failed, and the air's count of those rose; or none did, and the count is as it was.
abbrev pub IsUnsaid : Bool → ℕ → ℕ → Type 0
IsUnsaid true writes writes_now = Rose writes writes_now
IsUnsaid false writes writes_now = writes_now ≡ writes

-- The air's counts of faults by how a call over it ended: where hearing or saying failed that count rose, and each
-- other is as it was. After a fault of the disk more was to be said, and that may have failed too.
abbrev pub CountsBy : {T : Type 0} → Result T NodeStop → ℕ → ℕ → ℕ → ℕ → Type 0
CountsBy (Ok value) reads reads_now writes writes_now = (reads_now ≡ reads) × (writes_now ≡ writes)
CountsBy (Err stop.AirRead) reads reads_now writes writes_now = Rose reads reads_now × (writes_now ≡ writes)
CountsBy (Err stop.AirWrite) reads reads_now writes writes_now = (reads_now ≡ reads) × Rose writes writes_now
CountsBy (Err stop.Disk) reads reads_now writes writes_now = (reads_now ≡ reads) × (writes ≤ writes_now)
CountsBy (Err stop.OutOfMemory) reads reads_now writes writes_now = (reads_now ≡ reads) × (writes ≤ writes_now)
CountsBy (Err stop.Spent) reads reads_now writes writes_now = (reads_now ≡ reads) × (writes_now ≡ writes)
CountsBy (Err (stop.NotAStore found)) reads reads_now writes writes_now = (reads_now ≡ reads) × (writes_now ≡ writes)
CountsBy (Err (stop.Damaged place)) reads reads_now writes writes_now = (reads_now ≡ reads) × (writes_now ≡ writes)

-- the same of an air, before the call and now
abbrev pub HasAirCause : {A T : Type 0} → AirGhosts A → A → A → Result T NodeStop → Type 0
HasAirCause air before now result =
    CountsBy result (air.read_faults before) (air.read_faults now) (air.write_faults before) (air.write_faults now)

-- a stop that comes by what the party does, or by saying what it gives
abbrev pub IsByParty : NodeStop → Type 0
IsByParty stop.AirRead = ⊥
IsByParty stop.AirWrite = ⊤
IsByParty stop.Disk = ⊤
IsByParty stop.OutOfMemory = ⊤
IsByParty stop.Spent = ⊥
IsByParty (stop.NotAStore found) = ⊥
IsByParty (stop.Damaged place) = ⊥

-- what a node is lent, with its party
pub record LentParty (P D A C : Type 0) : Type 0 where
  pub party : P
  pub disk : D
  pub air : A
  pub clock : C

abbrev pub lent_party : {P D A C : Type 0} → P → D → A → C → LentParty P D A C
lent_party party disk air clock = record { party = party; disk = disk; air = air; clock = clock }

-- the party at its disk
abbrev pub party_at : {P D A C : Type 0} → LentParty P D A C → AtDisk P D
party_at all = at all.party all.disk

-- The moments of the turns: the first one may have been taken before; the others are the one that is given, or the
-- clock's.
abbrev pub MomentsFrom : Option ℕ → Option ℕ → Option (List ℕ) → Option (List ℕ) → List ℕ → Type 0
MomentsFrom None given before now moments = MomentsOf given before now moments
MomentsFrom (Some first) given before now moments =
    ((moments ≡ []) × MomentsOf given before now [])
    ⊎ ((later : List ℕ) × (moments ≡ first ∷ later) × MomentsOf given before now later)

abbrev pub MomentsTaken : TurnTerms → Option (List ℕ) → Option (List ℕ) → List ℕ → Type 0
MomentsTaken terms before now moments = MomentsFrom terms.first terms.given before now moments

-- the moment of a turn, counted from 0, where the first one's may have been taken before, by what the clock has given
abbrev pub NextMoment : ℕ → Option ℕ → Option ℕ → Option (List ℕ) → Option (List ℕ) → ℕ → Type 0
NextMoment zero None given before now moment = MomentsOf given before now (moment ∷ [])
NextMoment zero (Some first) given before now moment = (moment ≡ first) × MomentsOf given before now []
NextMoment (suc turn) first given before now moment = MomentsOf given before now (moment ∷ [])

abbrev pub IsMomentOf : ℕ → TurnTerms → Option (List ℕ) → Option (List ℕ) → ℕ → Type 0
IsMomentOf turn terms before now moment = NextMoment turn terms.first terms.given before now moment

-- The turns, of which there are at most so many, by how they ended. No recovery that is refused comes of turns.
abbrev pub TurnsBy : Result Finished NodeStop → ℕ → List Turn → Type 0
TurnsBy (Ok (finished.Over count)) polls turns = AllByRecursion IsOpen turns × (count ≡ length turns)
TurnsBy (Ok (finished.Closed count)) polls turns = EndsWith turns turn.End × (count ≡ length turns)
TurnsBy (Err stop.AirRead) polls turns = EndsWith turns turn.Fail
TurnsBy (Err stop.AirWrite) polls turns = AllByRecursion IsOpen turns
TurnsBy (Err stop.Disk) polls turns = AllByRecursion IsOpen turns
TurnsBy (Err stop.OutOfMemory) polls turns = AllByRecursion IsOpen turns
TurnsBy (Err stop.Spent) polls turns = (length turns ≡ polls) × AllByRecursion IsOpen turns
TurnsBy (Err (stop.NotAStore found)) polls turns = ⊥
TurnsBy (Err (stop.Damaged place)) polls turns = ⊥

-- turns at moments, one each, and what they bring
pub record Brought (E : Type 0) : Type 0 where
  pub turns : List Turn
  pub moments : List ℕ
  pub events : List E

-- what turns at moments bring is what they hand over
abbrev pub AreHandedOver : List Turn → List ℕ → List Input → Type 0
AreHandedOver turns moments inputs = inputs ≡ inputs_of turns moments

-- Before each of these turns it wasn't over, behind what the turns before it bring; what it had given by then is a
-- front of this text.
abbrev pub IsOpenBefore :
    {S D E : Type 0} → (List Turn → List ℕ → List E → Type 0) → Course S D E → AtDisk S D → List Turn → List ℕ → List ℕ
    → Type 0
IsOpenBefore {S} {D} {E} Brings course start turns moments text =
    (earlier : List Turn) (next : Turn) (later : List Turn) (before behind : List ℕ) → turns ≡ earlier ++ next ∷ later
    → moments ≡ before ++ behind → length before ≡ length earlier
    → (events : List E) × Brings earlier before events
    × (front : List ℕ) × IsFront front text × (then_is : AtDisk S D) × course.goes start events front then_is
    × (course.is_over then_is.it ≡ false)

-- It took all these events, gave this text, and is over or isn't.
abbrev pub TookAll : {S D E : Type 0} → Course S D E → AtDisk S D → List E → List ℕ → AtDisk S D → Bool → Type 0
TookAll course start events text now over =
    course.goes start events text now × course.is_fit now × (course.is_over now.it ≡ over)

-- It took all that the turns but the last bring, and stopped in what that one does; where there is none it stopped
-- before any.
pub record StoppedInLast {S D E : Type 0} (Brings : List Turn → List ℕ → List E → Type 0) (course : Course S D E)
    (start : AtDisk S D) (all : Brought E) (why : NodeStop) (text : List ℕ) (unsaid : Bool) (now : AtDisk S D)
    : Type 0 where
  pub earlier : List Turn
  pub but_last : IsButLast all.turns earlier
  pub before : List ℕ
  pub behind : List ℕ
  pub split : all.moments ≡ before ++ behind
  pub one_each : length before ≡ length earlier
  pub least : List E
  pub brought : Brings earlier before least
  pub first : List ℕ
  pub last : List ℕ
  pub text_is : text ≡ first ++ last
  pub more : List E
  pub events_are : all.events ≡ least ++ more
  pub ends :
      ((all.turns ≡ []) × (least ≡ []) × (first ≡ []) × course.halts start more why unsaid last now)
      ⊎ ((then_is : AtDisk S D) × course.goes start least first then_is × course.halts then_is more why unsaid last now)

-- What became of all that the turns bring, by how they ended: it was all taken, or it stopped in the last turn's.
abbrev pub RanBy :
    {S D E : Type 0} → (List Turn → List ℕ → List E → Type 0) → Course S D E → AtDisk S D → Brought E
    → Result Finished NodeStop → List ℕ → Bool → AtDisk S D → Type 0
RanBy Brings course start all (Ok (finished.Over count)) text unsaid now = TookAll course start all.events text now true
RanBy Brings course start all (Ok (finished.Closed count)) text unsaid now =
    TookAll course start all.events text now false
RanBy Brings course start all (Err stop.AirRead) text unsaid now = TookAll course start all.events text now false
RanBy Brings course start all (Err stop.Spent) text unsaid now = TookAll course start all.events text now false
RanBy Brings course start all (Err stop.AirWrite) text unsaid now =
    StoppedInLast Brings course start all stop.AirWrite text unsaid now
RanBy Brings course start all (Err stop.Disk) text unsaid now =
    StoppedInLast Brings course start all stop.Disk text unsaid now
RanBy Brings course start all (Err stop.OutOfMemory) text unsaid now =
    StoppedInLast Brings course start all stop.OutOfMemory text unsaid now
RanBy Brings course start all (Err (stop.NotAStore found)) text unsaid now = ⊥
RanBy Brings course start all (Err (stop.Damaged place)) text unsaid now = ⊥

-- The turns of a node: what was heard, given and said, how they ended, and what came of what they bring.
pub record TookTurns {S D A C E : Type 0} (Brings : List Turn → List ℕ → List E → Type 0) (course : Course S D E)
    (air : AirGhosts A) (given : C → Option (List ℕ)) (old new : LentParty S D A C) (terms : TurnTerms)
    (result : Result Finished NodeStop) : Type 0 where
  pub all : Brought E
  pub text : List ℕ
  pub turns_heard : HearsAll (air.heard old.air) (air.heard new.air) all.turns
  pub moments_given : MomentsTaken terms (given old.clock) (given new.clock) all.moments
  pub text_said : Gains (air.said old.air) (air.said new.air) text
  pub one_each : length all.moments ≡ length all.turns
  pub brings : Brings all.turns all.moments all.events
  pub bound : length all.turns ≤ terms.polls
  pub ends : TurnsBy result terms.polls all.turns
  pub open_before : IsOpenBefore Brings course (party_at old) all.turns all.moments text
  pub counts : HasAirCause air old.air new.air result
  pub unsaid : Bool
  pub is_unsaid : IsUnsaid unsaid (air.write_faults old.air) (air.write_faults new.air)
  pub ran : RanBy Brings course (party_at old) all result text unsaid (party_at new)

-- All that the party had to give was said, or a front of it where a put failed.
pub record SaysAll {P D A : Type 0} (course : Course P D Input) (air : AirGhosts A) (before now : A)
    (old new : AtDisk P D) (result : Result ⊤ AirDown) : Type 0 where
  pub text : List ℕ
  pub text_said : Gains (air.said before) (air.said now) text
  pub ends :
      (start : AtDisk P D) (events : List Input) (why : Option Halt) (said : List ℕ)
      → course.owes start events why said old
      → MatchResult result (λ _. Settles course start events why (said ++ text) new)
      (λ _. course.halts start events (stop_at_put why) true (said ++ text) new)
  pub heard : air.heard now ≡ air.heard before
  pub reads : air.read_faults now ≡ air.read_faults before
  pub cause : HasCause (air.write_faults before) (air.write_faults now) result

-- The party took these inputs, or stopped at one of them, and this was said.
pub record Takes {P D A : Type 0} (course : Course P D Input) (air : AirGhosts A) (before now : A)
    (old new : AtDisk P D) (inputs : List Input) (result : Result ⊤ NodeStop) : Type 0 where
  pub text : List ℕ
  pub text_said : Gains (air.said before) (air.said now) text
  pub unsaid : Bool
  pub is_unsaid : IsUnsaid unsaid (air.write_faults before) (air.write_faults now)
  pub ends :
      MatchResult result (λ _. course.goes old inputs text new × course.is_fit new)
      (λ why. course.halts old inputs why unsaid text new)
  pub by_party : IfErr result IsByParty
  pub heard : air.heard now ≡ air.heard before
  pub counts : HasAirCause air before now result

-- Octets from the front of the piece were taken, at least one; or it stopped at one of them. What takes inputs is
-- given.
abbrev pub TakesPiece :
    (List Input → Result ⊤ NodeStop → Type 0) → (List ℕ → List Input) → List ℕ → Result ℕ NodeStop → Type 0
TakesPiece Taken inputs piece (Ok taken) =
    (0 < taken) × (taken ≤ length piece) × Taken (inputs (take taken piece)) (Ok tt)
TakesPiece Taken inputs piece (Err why) =
    (taken : ℕ) × (0 < taken) × (taken ≤ length piece) × Taken (inputs (take taken piece)) (Err why)

-- How a turn ended: all that it handed over was taken, and it left the air open, or closed it; or the poll failed; or
-- the party stopped at something that it handed over.
abbrev pub TurnEnds : Turn → Result Bool NodeStop → (Result ⊤ NodeStop → Type 0) → Type 0
TurnEnds next (Ok true) Taken = IsOpen next × Taken (Ok tt)
TurnEnds next (Ok false) Taken = (next ≡ turn.End) × Taken (Ok tt)
TurnEnds next (Err stop.AirRead) Taken = (next ≡ turn.Fail) × Taken (Ok tt)
TurnEnds next (Err stop.AirWrite) Taken = IsOpen next × Taken (Err stop.AirWrite)
TurnEnds next (Err stop.Disk) Taken = IsOpen next × Taken (Err stop.Disk)
TurnEnds next (Err stop.OutOfMemory) Taken = IsOpen next × Taken (Err stop.OutOfMemory)
TurnEnds next (Err stop.Spent) Taken = ⊥
TurnEnds next (Err (stop.NotAStore found)) Taken = ⊥
TurnEnds next (Err (stop.Damaged place)) Taken = ⊥

-- One turn: a poll, and what the party made of what the turn handed over; a turn that closed the air, or whose poll
-- failed, left it as it was.
pub record TookTurn {P D A : Type 0} (course : Course P D Input) (air : AirGhosts A) (before now : A)
    (old new : AtDisk P D) (hands_over : Turn → List Input) (result : Result Bool NodeStop) : Type 0 where
  pub next : Turn
  pub polled : A
  pub turn_heard : Hears (air.heard before) (air.heard now) next
  pub same_said : air.said polled ≡ air.said before
  pub same_writes : air.write_faults polled ≡ air.write_faults before
  pub ends : TurnEnds next result (Takes course air polled now old new (hands_over next))
  pub same : ¬ IsOpen next → new ≡ old
  pub counts : HasAirCause air before now result
