-- A caller's connection as the definitions have it: the server's end of the link, and the session over it.
use Rattle.std.specs.Prelude.{ℕ, List, [], Bool}
use Rattle.px_base.specs.CallSign.{CallSign}
use Rattle.ax25_link.specs.Calls.{after_push}
use Rattle.ax25_link.specs.Ends.{LinkEnd, answering_end}
use Rattle.ftl0_packets.specs.Layout.{packet_text}
use Rattle.ftl0_session.specs.Table.{State, command, greeting}

-- the server's end, whose peer is the caller; the octets that were accepted and of which no packet was taken yet; and
-- the session's state
pub record Connected : Type 0 where
  pub end : LinkEnd
  pub rest : List ℕ
  pub state : State

-- whose connection it is
abbrev pub caller_of : Connected → CallSign
caller_of c = c.end.peer

-- the end at which LOGIN_RESP of this moment is queued, for a caller in whose list numbers are left or not
abbrev pub greeted : LinkEnd → ℕ → Bool → LinkEnd
greeted end moment left = after_push end (packet_text (greeting moment left))

-- a session that begins at this moment over an end: LOGIN_RESP is queued (FTL0 1990, LOGIN_RESP)
abbrev pub beginning : LinkEnd → ℕ → Bool → Connected
beginning end moment left = record { end = greeted end moment left; rest = []; state = command }

-- the connection of a station whose SABM with this P bit is answered at this moment
abbrev pub answering : CallSign → CallSign → Bool → ℕ → Bool → Connected
answering me caller poll moment left = beginning (answering_end me caller poll) moment left
