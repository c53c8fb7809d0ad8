-- What a client keeps, and its fields as contracts see them.
use Rattle.ax25_link.specs.Window.{IsGoodK}
use Rattle.ftl0_client.specs.ClientState.{ClientState, HasLink}
use Rattle.ftl0_client.specs.declared.client.Client.TheInside.{Inside}

abbrev pub client_state : Inside → ClientState
client_state a =
    record {
      me = a.me;
      server = a.server;
      k = a.k;
      notes = a.notes;
      attempt = a.attempt;
      stray = a.stray;
    }

-- The window is one that a link may have, and the link is between this station and its server.
pub record IsInside (a : Inside) : Type 0 where
  pub good : IsGoodK a.k
  pub link : HasLink a.me a.server a.k a.attempt
