-- One turn: what was polled, and what the party made of it.
use Rattle.std.proofs.Common.{◌≡◌, ℕ, List, Bool, true, false, Option, Result, Ok, Err, refl, sym, ◌∙◌, subst}
use Rattle.px_base.specs.declared.air.Turn.TheVariants as turn
use Rattle.turn_loop.specs.declared.stop.NodeStop.TheVariants as stop
use Rattle.turn_loop.proofs.Names.{⊤, Rose, Hears, IsOpen, Ghosts as AirGhosts, Turn, AtDisk, Course, IsLawful, Input, IsInput, turn_inputs, IsByParty, Takes, TookTurn, TurnEnds, NodeStop}
use Rattle.turn_loop.proofs.SayingLemmas.{counts-from, takes-none}

module _ {P D A : Type 0} (course : Course P D Input) (air : AirGhosts A) (before polled : A) (old : AtDisk P D) (last moment : ℕ)
    (said : air.said polled ≡ air.said before) (reads : air.read_faults polled ≡ air.read_faults before) (writes : air.write_faults polled ≡ air.write_faults before) where
  -- the turn was heard by the poll alone
  turn-heard : (now : A) (next : Turn) → Hears (air.heard before) (air.heard polled) next → air.heard now ≡ air.heard polled → Hears (air.heard before) (air.heard now) next
  turn-heard now next heard same = subst (λ (o : Option (List Turn)). Hears (air.heard before) o next) (sym same) heard

  pub turn-taken : (now : A) (new : AtDisk P D) (next : Turn) → Hears (air.heard before) (air.heard polled) next → IsOpen next → Takes course air polled now old new (turn_inputs next last moment) (Ok tt)
      → TookTurn course air before now old new (λ next. turn_inputs next last moment) (Ok true)
  turn-taken now new next heard is_open takes = record {
    next = next;
    polled = polled;
    turn_heard = turn-heard now next heard takes.heard;
    same_said = said;
    same_writes = writes;
    ends = (is_open, takes);
    same = λ not_open. absurd (not_open is_open);
    counts = (takes.counts.0 ∙ reads, takes.counts.1 ∙ writes);
  }

  -- how it ends by a stop of the party
  stops-by : (next : Turn) (why : NodeStop) (Taken : Result ⊤ NodeStop → Type 0) → IsByParty why → IsOpen next → Taken (Err why) → TurnEnds next (Err why) Taken
  stops-by next stop.AirRead Taken by is_open taken = absurd by
  stops-by next stop.AirWrite Taken by is_open taken = (is_open, taken)
  stops-by next stop.Disk Taken by is_open taken = (is_open, taken)
  stops-by next stop.OutOfMemory Taken by is_open taken = (is_open, taken)
  stops-by next stop.Spent Taken by is_open taken = absurd by
  stops-by next (stop.NotAStore found) Taken by is_open taken = absurd by
  stops-by next (stop.Damaged at) Taken by is_open taken = absurd by

  pub turn-stopped : (now : A) (new : AtDisk P D) (next : Turn) (why : NodeStop) → Hears (air.heard before) (air.heard polled) next → IsOpen next
      → Takes course air polled now old new (turn_inputs next last moment) (Err why) → TookTurn course air before now old new (λ next. turn_inputs next last moment) (Err why)
  turn-stopped now new next why heard is_open takes = record {
    next = next;
    polled = polled;
    turn_heard = turn-heard now next heard takes.heard;
    same_said = said;
    same_writes = writes;
    ends = stops-by next why (Takes course air polled now old new (turn_inputs next last moment)) takes.by_party is_open takes;
    same = λ not_open. absurd (not_open is_open);
    counts = counts-from {T = Bool} (Err why) _ _ _ _ _ _ reads writes takes.counts;
  }

  pub turn-closed : IsLawful course IsInput → course.is_fit old → Hears (air.heard before) (air.heard polled) turn.End → TookTurn course air before polled old old (λ next. turn_inputs next last moment) (Ok false)
  turn-closed lawful fit heard = record {
    next = turn.End;
    polled = polled;
    turn_heard = heard;
    same_said = said;
    same_writes = writes;
    ends = (refl, takes-none course air lawful polled old fit);
    same = λ not_open. refl;
    counts = (reads, writes);
  }

-- a poll that failed
module _ {P D A : Type 0} (course : Course P D Input) (air : AirGhosts A) (before polled : A) (old : AtDisk P D) (last moment : ℕ)
    (said : air.said polled ≡ air.said before) (writes : air.write_faults polled ≡ air.write_faults before) where
  pub turn-failed : IsLawful course IsInput → course.is_fit old → Hears (air.heard before) (air.heard polled) turn.Fail → Rose (air.read_faults before) (air.read_faults polled)
      → TookTurn course air before polled old old (λ next. turn_inputs next last moment) (Err stop.AirRead)
  turn-failed lawful fit heard rose = record {
    next = turn.Fail;
    polled = polled;
    turn_heard = heard;
    same_said = said;
    same_writes = writes;
    ends = (refl, takes-none course air lawful polled old fit);
    same = λ not_open. refl;
    counts = (rose, writes);
  }
