-- Laws of a session over events.
use Rattle.std.specs.Prelude.{◌≡◌, List, ◌∷◌, ◌++◌}
use Rattle.px_base.specs.CallSign.{CallSign}
use Rattle.ftl0_packets.specs.Layout.{PacketValue}
use Rattle.ftl0_session.specs.Lists.Lists.{CallerList}
use Rattle.file_store.specs.Command.{Command, after_all}
use Rattle.file_store.specs.Store.{Store}
use Rattle.ftl0_session.specs.Run.{Event, RunsOver, event_row, session_over}
use Rattle.ftl0_session.specs.Table.{State}

-- A session that did these commands reached this event after the earlier ones, over a store and lists and in a state.
-- The commands of the event's row come after those of the earlier events, and others come after them.
pub record ComesTo (caller : CallSign) (start : Store) (lists : List CallerList) (state : State) (earlier : List Event)
    (next : Event) (commands : List Command) : Type 0 where
  pub said : List PacketValue
  pub before : List Command
  pub store_then : Store
  pub lists_then : List CallerList
  pub state_then : State
  pub runs :
      RunsOver caller (session_over start lists state) earlier said before
      (session_over store_then lists_then state_then)
  pub others : List Command
  pub commands_are :
      commands ≡ before ++ ((event_row caller store_then lists_then state_then next).commands ++ others)

-- Over the events that a session went over: the store that it ended with is the one after its commands, and it reached
-- each of them.
pub record RunsLaw : Type 0 where
  pub store :
      (caller : CallSign) (start : Store) (lists : List CallerList) (state : State) (events : List Event)
      (said : List PacketValue) (commands : List Command) (now : Store) (lists_now : List CallerList) (next : State)
      → RunsOver caller (session_over start lists state) events said commands (session_over now lists_now next)
      → now ≡ after_all start commands
  pub comes_to :
      (caller : CallSign) (start : Store) (lists : List CallerList) (state : State) (earlier : List Event)
      (next : Event) (later : List Event) (said : List PacketValue) (commands : List Command) (now : Store)
      (lists_now : List CallerList) (last : State)
      → RunsOver caller (session_over start lists state) (earlier ++ next ∷ later) said commands
      (session_over now lists_now last)
      → ComesTo caller start lists state earlier next commands
