-- An event of a server has one step.
use Rattle.std.specs.Prelude.{◌≡◌, List, [], ◌∷◌, ⊤}
use Rattle.file_store.specs.Store.{Store}
use Rattle.turn_loop.specs.Events.{NodeEvent}
use Rattle.ftl0_session.specs.Uploads.Failures.{Failure}
use Rattle.ftl0_server.specs.Connection.Laws.{IsQueued}
use Rattle.ftl0_server.specs.Fits.{SlotsFit}
use Rattle.ftl0_server.specs.Server.{IsSilent, Server}
use Rattle.ftl0_server.specs.ServerStep.{ServerStep, Stepped}
use Rattle.ftl0_server.specs.Slots.{Slot, connected, free, leaving}

-- With these failures an event has at most one step, whether they list reads or not.
abbrev pub OneStepLaw : Type 0
OneStepLaw =
    (old : Server) (event : NodeEvent) (failures : List Failure) (one other : Stepped)
    → ServerStep old event failures one → ServerStep old event failures other → one ≡ other

-- all that is due at this place was queued, as far as there was room
abbrev pub SlotIsQueued : Store → Slot → Type 0
SlotIsQueued store free = ⊤
SlotIsQueued store (connected c) = IsQueued store c.state c.end
SlotIsQueued store (leaving c) = ⊤

abbrev pub AreQueued : Store → List Slot → Type 0
AreQueued store [] = ⊤
AreQueued store (slot ∷ slots) = SlotIsQueued store slot × AreQueued store slots

-- The server has nothing to send, the ends of its links are such as frames and ticks bring about, and all that is due
-- was queued at them, as far as there was room: a tick has nothing to queue.
pub record MayStep (server : Server) : Type 0 where
  pub silent : IsSilent server
  pub fits : SlotsFit server.window server.slots
  pub queued : AreQueued server.store server.slots

-- A step of the server for this event with these failures, after which it may step again.
pub record HasStep (old : Server) (event : NodeEvent) (failures : List Failure) : Type 0 where
  pub gives : Stepped
  pub step : ServerStep old event failures gives
  pub may_step : MayStep gives.new

-- With any failures an event has a step.
abbrev pub SomeStepLaw : Type 0
SomeStepLaw = (old : Server) (event : NodeEvent) (failures : List Failure) → MayStep old → HasStep old event failures
