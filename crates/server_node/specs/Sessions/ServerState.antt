-- What a session's server is between two packets.
use Rattle.std.specs.Prelude.{ℕ, List, [], Bool, false}
use Rattle.px_base.specs.CallSign.{CallSign}
use Rattle.ftl0_session.specs.Lists.Lists.{CallerList}
use Rattle.file_store.specs.State.{StoreState}
use Rattle.ftl0_session.specs.Table.{State, command}

-- whose session it is, the store, the lists of all callers, the session's state, the octets that were heard and of
-- which no packet was taken yet, the text that is to be said next, and whether it takes nothing more
pub record ServerState : Type 0 where
  pub caller : CallSign
  pub store : StoreState
  pub lists : List CallerList
  pub state : State
  pub octets : List ℕ
  pub replies : List ℕ
  pub halted : Bool

-- before the first packet, over this store, without lists, and with this text to say
abbrev pub new_server : CallSign → StoreState → List ℕ → ServerState
new_server caller store text =
    record {
      caller = caller;
      store = store;
      lists = [];
      state = command;
      octets = [];
      replies = text;
      halted = false;
    }
