-- What a frame or a tick makes of a connection (AX.25 2.0, 2.4; FTL0 1990).
use Rattle.std.specs.Prelude.{◌≡◌, ℕ, ◌++◌, List, [], Bool, true, false, ⊤}
use Rattle.ax25_frames.specs.FrameText.{FrameValue}
use Rattle.ax25_link.specs.declared.state.Heard.{Heard}
use Rattle.ax25_link.specs.declared.state.Heard.TheVariants.{Nothing, Opened, Reopened, Bytes, Closed}
use Rattle.ax25_link.specs.Kept.{is_there}
use Rattle.ax25_link.specs.Rows.{after_frame, heard_of}
use Rattle.ax25_link.specs.Ends.{LinkEnd}
use Rattle.ax25_link.specs.Timer.{after_tick, told_of_tick}
use Rattle.ax25_link.specs.Window.{Window}
use Rattle.ftl0_packets.specs.Reading.{packets_of, rest_of}
use Rattle.ftl0_session.specs.Lists.Lists.{CallerList, has_left}
use Rattle.file_store.specs.Command.{Command}
use Rattle.file_store.specs.Store.{Store}
use Rattle.ftl0_session.specs.Run.{session_over}
use Rattle.ftl0_session.specs.Downloads.Sending.{is_due}
use Rattle.ftl0_session.specs.Uploads.Failures.{Failure}
use Rattle.ftl0_session.specs.Table.{State, command, download_part}
use Rattle.ftl0_server.specs.Connection.Connected.{Connected, caller_of, greeted}
use Rattle.ftl0_server.specs.Connection.Taking.{Halt, LookAtNone, Progress, queued, resting, taking}

-- What an event makes of a connection: what it is now, and the lists of all callers; whether its session is over, so
-- that only its link's last frames are left; how many parts of the event reported that a read failed; the store's
-- commands that are done, and those in one of which the disk failed; and why no more of the event was taken.
pub record Happened : Type 0 where
  pub after : Connected
  pub lists : List CallerList
  pub over : Bool
  pub missed : ℕ
  pub done : List Command
  pub cut : List Command
  pub halt : Halt

-- with this end of the link
abbrev pub with_end : Connected → LinkEnd → Connected
with_end c end = record c { end = end }

-- the parts of an event were taken, and these octets are left, less than a whole packet
abbrev pub progressed : List ℕ → Progress → Happened
progressed left progress =
    record {
      after = record { end = progress.end; rest = left; state = progress.state };
      lists = progress.lists;
      over = progress.over;
      missed = progress.missed;
      done = progress.done;
      cut = progress.cut;
      halt = progress.halt;
    }

-- Information came, next in the stream: the packets are taken that it finishes, at this moment. They are the parts of
-- the event from 0 on.
abbrev pub taking_octets : ℕ → Store → List CallerList → Connected → LinkEnd → List ℕ → List Failure → Progress
taking_octets moment store lists c end octets failures =
    taking (caller_of c) moment (session_over store lists c.state) end (packets_of (c.rest ++ octets)) failures 0

-- What the parts of a frame make of a connection whose end is this one after it, by what the link reports: a further
-- SABM ends the session and begins a new one, information that is next brings packets, and the session is over if the
-- link is down. These are the event's failures.
abbrev pub parts_as : Heard → ℕ → Store → List CallerList → Connected → LinkEnd → List ℕ → List Failure → Progress
parts_as Nothing moment store lists c end octets failures = resting end c.state lists 0
parts_as Opened moment store lists c end octets failures = resting end c.state lists 0
parts_as Reopened moment store lists c end octets failures =
    resting (greeted end moment (has_left lists (caller_of c))) command lists 0
parts_as Bytes moment store lists c end octets failures = taking_octets moment store lists c end octets failures
parts_as (Closed why) moment store lists c end octets failures = record (resting end c.state lists 0) { over = true }

-- the octets of which no packet was taken yet
abbrev pub rest_as : Heard → Connected → List ℕ → List ℕ
rest_as Nothing c octets = c.rest
rest_as Opened c octets = c.rest
rest_as Reopened c octets = []
rest_as Bytes c octets = rest_of (c.rest ++ octets)
rest_as (Closed why) c octets = c.rest

-- what a frame makes of it before what is due is queued
abbrev pub parts_of_frame : Window → ℕ → Store → List CallerList → Connected → FrameValue → List Failure → Progress
parts_of_frame w moment store lists c frame failures =
    parts_as (heard_of w c.end frame) moment store lists c (after_frame w c.end frame) frame.kind.information failures

-- the octets of which no packet was taken after it
abbrev pub rest_of_frame : Window → Connected → FrameValue → List ℕ
rest_of_frame w c frame = rest_as (heard_of w c.end frame) c frame.kind.information

-- What a frame from the caller makes of the connection, at this moment, over this store and the lists of all callers.
-- At its end what is due is queued.
abbrev pub hearing : Window → ℕ → Store → List CallerList → Connected → FrameValue → List Failure → Happened
hearing w moment store lists c frame failures =
    progressed (rest_of_frame w c frame)
    (queued store failures (parts_of_frame w moment store lists c frame failures))

-- nothing is due in this state
abbrev pub NoneDue : State → Type 0
NoneDue state = is_due (download_part state) ≡ false

-- nothing is due after these parts, if the session goes on
abbrev pub NoneDueBehind : Progress → Type 0
NoneDueBehind progress = progress.over ≡ false → NoneDue progress.state

-- By what the link reports of a frame no octet of a file is looked at: no packet comes, or packets come for which none
-- is; and nothing is due after them.
abbrev pub LooksAtNoneAs : Heard → ℕ → Store → List CallerList → Connected → LinkEnd → List ℕ → Type 0
LooksAtNoneAs Nothing moment store lists c end octets = NoneDue c.state
LooksAtNoneAs Opened moment store lists c end octets = NoneDue c.state
LooksAtNoneAs Reopened moment store lists c end octets = ⊤
LooksAtNoneAs Bytes moment store lists c end octets =
    LookAtNone (caller_of c) moment (session_over store lists c.state) (packets_of (c.rest ++ octets))
    × NoneDueBehind (taking_octets moment store lists c end octets [])
LooksAtNoneAs (Closed why) moment store lists c end octets = ⊤

-- the same of this frame
abbrev pub LooksAtNone : Window → ℕ → Store → List CallerList → Connected → FrameValue → Type 0
LooksAtNone w moment store lists c frame =
    LooksAtNoneAs (heard_of w c.end frame) moment store lists c (after_frame w c.end frame) frame.kind.information

-- what a tick makes of a connection: what it is then, and whether its session is over
pub record Ticked : Type 0 where
  pub after : Connected
  pub over : Bool

-- If the peer doesn't answer, the session is over. A tick frees no octets, so nothing more of what is due is queued.
abbrev pub ticking : Connected → Ticked
ticking c = record { after = with_end c (after_tick c.end); over = is_there (told_of_tick c.end) }
