-- What a connection keeps, and its fields as contracts see them.
use Rattle.std.specs.Prelude.{◌≡◌, false}
use Rattle.packet_link.specs.PacketLink.{octets_in}
use Rattle.ftl0_session.specs.SessionState.{caller_of}
use Rattle.ftl0_server.specs.declared.connection.connection.Connection.TheInside.{Inside}
use Rattle.ftl0_server.specs.Connection.ConnectionState.{ConnectionState}

abbrev pub connection_state : Inside → ConnectionState
connection_state a = record { link = a.link.link; octets = octets_in a.link; session = a.session }

-- The link is the server's end of one to the session's caller, who called.
pub record IsInside (a : Inside) : Type 0 where
  pub called : a.link.link.called ≡ false
  pub peer : a.link.link.peer ≡ caller_of a.session
