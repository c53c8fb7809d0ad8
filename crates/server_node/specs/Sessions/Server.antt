-- What contracts see of a session's server, and what it keeps.
use Rattle.std.specs.Prelude.{◌≡◌, ℕ, List, []}
use Rattle.px_base.specs.Octets.{IsOctets}
use Rattle.ftl0_packets.specs.Reading.{packets_of, rest_of, under_way}
use Rattle.file_store.specs.State.{store_in}
use Rattle.ftl0_session.specs.Uploads.SessionState.{IsHeld, IsOnlyOut}
use Rattle.ftl0_session.specs.Downloads.Needs.{AreComplete, IsDueIn}
use Rattle.ftl0_session.specs.SessionState.{caller_of, state_in}
use Rattle.server_node.specs.declared.sessions.server.SessionServer.TheInside.{Inside}
use Rattle.server_node.specs.Sessions.ServerState.{ServerState}

abbrev pub server_state : Inside → ServerState
server_state a =
    record {
      caller = caller_of a.session;
      store = a.store;
      lists = a.lists;
      state = state_in a.store a.session;
      octets = under_way a.reader;
      replies = a.replies.items;
      halted = a.halted;
    }

-- No packet is whole of these octets: they wait for the end of the one under way.
pub record IsWaiting (octets : List ℕ) : Type 0 where
  pub none : packets_of octets ≡ []
  pub left : rest_of octets ≡ octets
  pub are_octets : IsOctets octets

-- The store holds the session's upload, and no other of the session's caller is out; what is due lies within complete
-- files, and so do the lists. The octets that were heard and not taken wait.
pub record IsServer (a : Inside) : Type 0 where
  pub held : IsHeld a.store a.session.uploads
  pub only : IsOnlyOut a.store a.session.uploads
  pub due : IsDueIn (store_in a.store) a.session.downloads
  pub complete : AreComplete (store_in a.store) a.lists
  pub waiting : IsWaiting (under_way a.reader)
