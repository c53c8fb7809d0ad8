-- A session over events: the rows of their packets, one after another, up to the first packet that isn't of uploading.
use Rattle.std.specs.Prelude.{◌≡◌, List, [], ◌∷◌, ◌++◌, Option, None, Some}
use Rattle.px_base.specs.CallSign.{CallSign}
use Rattle.ftl0_packets.specs.Layout.{PacketValue}
use Rattle.file_store.specs.Command.{Command, after_all}
use Rattle.file_store.specs.Store.{Store}
use Rattle.ftl0_session.specs.Uploads.Events.{Event}
use Rattle.ftl0_session.specs.Uploads.Session.{Row, State, session_row}

-- what follows from a row, or what is given if there is none
abbrev pub on_row : {X : Type 0} → Option Row → X → (Row → X) → X
on_row None otherwise given = otherwise
on_row (Some row) otherwise given = given row

-- the replies to these events, in order
abbrev pub replies_to : CallSign → Store → State → List Event → List PacketValue
replies_to caller store state [] = []
replies_to caller store state (event ∷ events) =
    on_row (session_row caller event.moment store state event.packet) []
    (λ row. row.replies ++ replies_to caller (after_all store row.commands) row.state events)

-- the store's commands, in order
abbrev pub commands_of : CallSign → Store → State → List Event → List Command
commands_of caller store state [] = []
commands_of caller store state (event ∷ events) =
    on_row (session_row caller event.moment store state event.packet) []
    (λ row. row.commands ++ commands_of caller (after_all store row.commands) row.state events)

-- the store afterwards
abbrev pub store_after : CallSign → Store → State → List Event → Store
store_after caller store state [] = store
store_after caller store state (event ∷ events) =
    on_row (session_row caller event.moment store state event.packet) store
    (λ row. store_after caller (after_all store row.commands) row.state events)

-- the state afterwards
abbrev pub state_after : CallSign → Store → State → List Event → State
state_after caller store state [] = state
state_after caller store state (event ∷ events) =
    on_row (session_row caller event.moment store state event.packet) state
    (λ row. state_after caller (after_all store row.commands) row.state events)

-- the store afterwards is the one after all these commands
abbrev pub CommandsOfLaw : Type 0
CommandsOfLaw =
    (caller : CallSign) (store : Store) (state : State) (events : List Event)
    → store_after caller store state events ≡ after_all store (commands_of caller store state events)
