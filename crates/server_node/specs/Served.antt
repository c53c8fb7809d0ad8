-- A run of a session or a server, from the recovery of its store to its end: what it says, what it does to its disk,
-- and why it ends.
use Rattle.std.specs.Prelude.{◌≡◌, ◌⊎◌, ℕ, List, [], ◌++◌, length, Bool, Option, IfSome, Result, Ok, Err, IsErrOf}
use Rattle.std.specs.List.{AllByRecursion}
use Rattle.px_base.specs.Moments.{MomentsOf}
use Rattle.px_base.specs.Outside.{Gains}
use Rattle.px_base.specs.Polling.{EndsWith, HearsAll, IsOpen}
use Rattle.px_base.specs.declared.air.Turn.{Turn}
use Rattle.px_base.specs.declared.air.Turn.TheVariants as turn
use Rattle.file_journal.specs.Bounds.{RecoversInHalves}
use Rattle.file_journal.specs.Through.{StandsThrough}
use Rattle.disk_model.specs.Runs.{ChangesReads, Runs, TakesStep}
use Rattle.file_store.specs.Command.{Command}
use Rattle.file_store.specs.IsStore.{IsStore}
use Rattle.file_store.specs.Journal.{IsAfterRecovery}
use Rattle.file_store.specs.State.{IsKnown, IsReadOn, standing_of, store_form, store_layout, store_magic}
use Rattle.file_store.specs.Store.{Store}
use Rattle.file_store.specs.Walk.{state}
use Rattle.file_store.specs.Working.{CountsSome, PutsAmongReads}
use Rattle.file_store.specs.StoreFault.{StoreFault}
use Rattle.turn_loop.specs.Lent.{Lent, Seen}
use Rattle.turn_loop.specs.Turns.{IsUnsaid}
use Rattle.turn_loop.specs.declared.stop.NodeStop.{NodeStop}
use Rattle.turn_loop.specs.declared.stop.NodeStop.TheVariants as stop
use Rattle.server_node.specs.declared.terms.Served.{Served}
use Rattle.server_node.specs.OnDisk.{LeavesStanding}
use Rattle.server_node.specs.Steps.{Made}
use Rattle.turn_loop.specs.Stops.{stop_of_fault}

-- The turns, of which there are at most so many, by how the serving ended. Want of memory doesn't end them, nor does a
-- recovery that is refused.
abbrev pub TurnsBy : Result Served NodeStop → ℕ → List Turn → Type 0
TurnsBy (Ok served) polls turns = EndsWith turns turn.End × (served.turns ≡ length turns)
TurnsBy (Err stop.AirRead) polls turns = EndsWith turns turn.Fail
TurnsBy (Err stop.AirWrite) polls turns = AllByRecursion IsOpen turns
TurnsBy (Err stop.Disk) polls turns = AllByRecursion IsOpen turns
TurnsBy (Err stop.Spent) polls turns = (length turns ≡ polls) × AllByRecursion IsOpen turns
TurnsBy (Err stop.OutOfMemory) polls turns = ⊥
TurnsBy (Err (stop.NotAStore found)) polls turns = ⊥
TurnsBy (Err (stop.Damaged at)) polls turns = ⊥

-- What a run came to: its turns and their moments; all that was said and done, the commands in one of which the disk
-- failed, if it did, and whether a put failed.
pub record Run : Type 0 where
  pub turns : List Turn
  pub moments : List ℕ
  pub all : Made
  pub cut : List Command
  pub unsaid : Bool

-- The recovery of the store was refused, or there was no memory for the lists or the links: nothing was heard or said,
-- and the clock wasn't asked. Where the disk didn't fail no count of its faults rose. The disk got no longer than a
-- store of the block number that it had, or of this one where it had none, or than it was; what stood behind that
-- stays.
pub record IsUnrecovered {A C D : Type 0} (seen : Seen D A C) (blocks : ℕ) (old new : Lent D A C)
    (result : Result Served NodeStop) : Type 0 where
  pub fault : StoreFault
  pub answer : result ≡ Err (stop_of_fault fault)
  pub air : new.air ≡ old.air
  pub clock : new.clock ≡ old.clock
  pub leaves : LeavesStanding seen.disk blocks fault old.disk new.disk
  pub runs : Runs seen.disk (IsErrOf result stop.Disk) old.disk new.disk
  pub within : RecoversInHalves seen.disk store_layout blocks old.disk new.disk

-- Nothing was heard or said, and the clock wasn't asked: the serving ended before its first poll.
pub record IsBeforeTurns {A C : Type 0} (air air_now : A) (clock clock_now : C) : Type 0 where
  pub same_air : air_now ≡ air
  pub same_clock : clock_now ≡ clock

-- It was served over the store for which the disk's content stood. Its recovery changed no octet of a formatted store,
-- and made a formatted one of any other content. Only a write or a sync that failed ends it by the disk. What was heard
-- at which moments and what was said is told always. The disk got no longer than its store may be, or than it was, and
-- no crash since the start leaves it longer; what stood behind that stays. Where it is known what octets the store's
-- files have, these commands were done, at moments that are told by the room of the journal that the recovery left; and
-- without any the disk has at the end what it left. A read that failed is told by code 3, and the count of failed reads
-- rose by at least as many as were told, and not where none was.
pub record IsServed {A C D : Type 0} (seen : Seen D A C) (blocks : ℕ) (given : Option ℕ)
    (Ran : Store → Run → Type 0) (old new : Lent D A C) (result : Result Served NodeStop) : Type 0 where
  pub start : Store
  pub rules : IsStore start
  pub stood : IfSome (seen.disk.content old.disk) (λ octets. standing_of blocks octets ≡ state start)
  pub recovered : D
  pub octets : TakesStep seen.disk old.disk recovered (IsAfterRecovery store_magic store_layout blocks)
  pub run : Run
  pub turns_heard : HearsAll (seen.air.heard old.air) (seen.air.heard new.air) run.turns
  pub moments_given : MomentsOf given (seen.given old.clock) (seen.given new.clock) run.moments
  pub text_said : Gains (seen.air.said old.air) (seen.air.said new.air) run.all.text
  pub is_unsaid : IsUnsaid run.unsaid (seen.air.write_faults old.air) (seen.air.write_faults new.air)
  pub ran : Ran start run
  pub puts : PutsAmongReads seen.disk (IsErrOf result stop.Disk) old.disk new.disk
  pub within : RecoversInHalves seen.disk store_layout blocks old.disk new.disk
  pub reads :
      IsKnown seen.disk old.disk
      → CountsSome (seen.disk.read_faults old.disk) (seen.disk.read_faults new.disk) run.all.missed
  pub stands :
      IsKnown seen.disk old.disk
      → StandsThrough seen.disk store_form (IsErrOf result stop.Disk) start run.all.done run.cut old.disk new.disk
  pub ready : (known : IsKnown seen.disk old.disk) → (stands known).ready ≡ seen.disk.moment recovered
  pub journal : (known : IsKnown seen.disk old.disk) → IsReadOn seen.disk (stands known).journal recovered
  pub none :
      IsKnown seen.disk old.disk → run.all.done ++ run.cut ≡ [] → ChangesReads seen.disk recovered new.disk

-- Either of the two.
abbrev pub Ends :
    {A C D : Type 0} → Seen D A C → ℕ → Option ℕ → (Store → Run → Type 0) → Lent D A C → Lent D A C
    → Result Served NodeStop → Type 0
Ends seen blocks given Ran old new result =
    IsUnrecovered seen blocks old new result ⊎ IsServed seen blocks given Ran old new result
