-- What a frame or a tick makes of an attempt (AX.25 2.0, 2.4; FTL0 1990).
use Rattle.std.specs.Prelude.{ℕ, List, [], ◌++◌, Option, None, Some}
use Rattle.ax25_frames.specs.FrameText.{FrameValue}
use Rattle.ax25_link.specs.declared.state.Heard.{Heard}
use Rattle.ax25_link.specs.declared.state.Heard.TheVariants.{Nothing, Opened, Reopened, Bytes, Closed}
use Rattle.ax25_link.specs.declared.state.Why.{Why}
use Rattle.ax25_link.specs.Ends.{LinkEnd}
use Rattle.ax25_link.specs.LinkStep.{heard_of_tick}
use Rattle.ax25_link.specs.Rows.{after_frame, heard_of}
use Rattle.ax25_link.specs.Timer.{after_tick, told_of_tick}
use Rattle.ax25_link.specs.Window.{Window}
use Rattle.ftl0_packets.specs.Layout.{Item}
use Rattle.ftl0_packets.specs.Reading.{packets_of, rest_of}
use Rattle.client_notes.specs.Notes.{Lists}
use Rattle.ftl0_client_job.specs.declared.ending.Ending.{Ending}
use Rattle.ftl0_client.specs.Attempt.Attempted.{Attempted}
use Rattle.ftl0_client.specs.Attempt.Settling.{settled}
use Rattle.ftl0_client.specs.Attempt.Taking.{Happened, taking}

-- with this end of the link
abbrev pub with_end : Attempted → LinkEnd → Attempted
with_end a end = record a { end = end }

-- why the link went down before an outcome, once it went down for this reason
abbrev pub down_by : Option Ending → Option Why → Why → Option Why
down_by None down why = Some why
down_by (Some ending) down why = down

abbrev pub closing : Attempted → Why → Attempted
closing a why = record a { down = down_by a.job.ending a.down why }

-- these octets are next in the stream, and its packets are to be taken
abbrev pub accepting : Attempted → List ℕ → Attempted
accepting a octets = record a { rest = rest_of (a.rest ++ octets) }

-- The attempt by what the link reported of a frame with this information, before packets are taken. An end that calls
-- reports no further SABM.
abbrev pub after_told : Heard → Attempted → List ℕ → Attempted
after_told Nothing a octets = a
after_told Opened a octets = a
after_told Reopened a octets = a
after_told Bytes a octets = accepting a octets
after_told (Closed why) a octets = closing a why

-- the packets that are to be taken then: those that the information finishes, if it is next in the stream
abbrev pub packets_told : Heard → Attempted → List ℕ → List Item
packets_told Nothing a octets = []
packets_told Opened a octets = []
packets_told Reopened a octets = []
packets_told Bytes a octets = packets_of (a.rest ++ octets)
packets_told (Closed why) a octets = []

-- the same of a frame from the server
abbrev pub after_hearing : Window → Attempted → FrameValue → Attempted
after_hearing w a frame =
    after_told (heard_of w a.end frame) (with_end a (after_frame w a.end frame)) frame.kind.information

abbrev pub packets_heard : Window → Attempted → FrameValue → List Item
packets_heard w a frame = packets_told (heard_of w a.end frame) a frame.kind.information

-- with what is done at the end of the event
abbrev pub settling : Happened → Happened
settling happened = record happened { after = settled happened.after }

-- What a frame from the server makes of the attempt, over these notes.
abbrev pub hearing : Window → Lists → Attempted → FrameValue → Happened
hearing w lists a frame = settling (taking lists (after_hearing w a frame) (packets_heard w a frame))

-- What a tick makes of it: if the server doesn't answer the link is down.
abbrev pub after_ticking : Attempted → Attempted
after_ticking a = after_told (heard_of_tick (told_of_tick a.end)) (with_end a (after_tick a.end)) []

abbrev pub ticking : Attempted → Attempted
ticking a = settled (after_ticking a)
