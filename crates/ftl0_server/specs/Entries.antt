-- What a session does with a frame, packet by packet: each packet that it takes with the row that the store and the
-- lists gave, and each packet that it queues by itself (FTL0 1990).
use Rattle.std.specs.Prelude.{◌≡◌, ℕ, zero, suc, List, [], ◌∷◌, ◌++◌, flat_map, nat_le, false, if◌then◌else◌, Some, ⊤}
use Rattle.std.specs.List.{AllByRecursion}
use Rattle.px_base.specs.CallSign.{CallSign}
use Rattle.ax25_frames.specs.FrameText.{FrameValue}
use Rattle.ax25_link.specs.Calls.{Doing, DoesAll, after_push}
use Rattle.ax25_link.specs.declared.state.Heard.{Heard}
use Rattle.ax25_link.specs.declared.state.Heard.TheVariants.{Nothing, Opened, Reopened, Bytes, Closed}
use Rattle.ax25_link.specs.declared.state.LinkState.TheVariants.{Up}
use Rattle.ax25_link.specs.Ends.{LinkEnd, free_octets}
use Rattle.ax25_link.specs.Rows.{after_frame, heard_of, is_call}
use Rattle.ax25_link.specs.Window.{Window}
use Rattle.ftl0_packets.specs.Items.{texts}
use Rattle.ftl0_packets.specs.Layout.{Item, PacketValue, packet_text}
use Rattle.ftl0_packets.specs.Reading.{packets_of}
use Rattle.packet_link.specs.Queuing.{enough_free, fits, on_due}
use Rattle.ftl0_session.specs.Lists.Lists.{CallerList}
use Rattle.ftl0_session.specs.Run.{Session, session_over}
use Rattle.ftl0_session.specs.Table.{DuePacket, Row, State, next_due, session_row}
use Rattle.file_store.specs.Command.{Command, after_all}
use Rattle.file_store.specs.Store.{Store}
use Rattle.ftl0_server.specs.Connection.Connected.{Connected, caller_of}
use Rattle.ftl0_server.specs.Connection.Hearing.{Happened, hearing, parts_of_frame}
use Rattle.ftl0_server.specs.Connection.Taking.{Progress}

pub data SessionEntry : Type 0 where
  -- this packet was taken, with this row, and its replies were queued
  took : Item → Row → SessionEntry
  -- this packet was taken, with this row, but its replies didn't fit: none was queued, and the session was over
  lost : Item → Row → SessionEntry
  -- this packet was due, and was queued
  queued : DuePacket → SessionEntry

-- the packets that an entry took
abbrev pub items_of : SessionEntry → List Item
items_of (took item row) = item ∷ []
items_of (lost item row) = item ∷ []
items_of (queued due) = []

-- the packets that it queued
abbrev pub packets_said : SessionEntry → List PacketValue
packets_said (took item row) = row.replies
packets_said (lost item row) = []
packets_said (queued due) = due.packet ∷ []

-- the store's commands that it did
abbrev pub commands_of : SessionEntry → List Command
commands_of (took item row) = row.commands
commands_of (lost item row) = row.commands
commands_of (queued due) = []

-- the replies fitted
abbrev pub IsNotLost : SessionEntry → Type 0
IsNotLost (took item row) = ⊤
IsNotLost (lost item row) = ⊥
IsNotLost (queued due) = ⊤

-- the same of entries, in order
abbrev pub items_in : List SessionEntry → List Item
items_in entries = flat_map items_of entries

abbrev pub said_in : List SessionEntry → List PacketValue
said_in entries = flat_map packets_said entries

abbrev pub commands_in : List SessionEntry → List Command
commands_in entries = flat_map commands_of entries

-- the row of a packet, if no read of the disk fails
abbrev pub row_of : CallSign → ℕ → Session → Item → Row
row_of caller moment session item =
    session_row caller moment session.store session.lists session.state item false

-- the session after a row
abbrev pub after_row : Session → Row → Session
after_row session row = session_over (after_all session.store row.commands) row.lists row.state

-- The packets are taken one after another, each over the store after the commands before it, up to one whose replies
-- don't fit.
abbrev pub entries_taken : CallSign → ℕ → Session → LinkEnd → List Item → List SessionEntry
entries_taken caller moment session end [] = []
entries_taken caller moment session end (item ∷ items) =
    let row : Row = row_of caller moment session item in
    if fits end (texts row.replies)
    then took item row
    ∷ entries_taken caller moment (after_row session row) (after_push end (texts row.replies)) items
    else lost item row ∷ []

-- What is due is queued, one packet after another, while enough octets are free: this number of them at most.
abbrev pub entries_due : ℕ → Store → LinkEnd → State → List SessionEntry
entries_due zero store end state = []
entries_due (suc more) store end state =
    if nat_le enough_free (free_octets end)
    then on_due (next_due store state false) []
    (λ due. queued due ∷ entries_due more store (after_push end (packet_text due.packet)) due.state)
    else []

-- what is due after the packets of a frame, but not if the session is over
abbrev pub entries_behind : Store → Progress → List SessionEntry
entries_behind store progress =
    if progress.over then []
    else entries_due (free_octets progress.end) (after_all store progress.done) progress.end progress.state

-- the packets that the link reports: those that the information finishes, if it is next in the stream
abbrev pub packets_told : Heard → Connected → List ℕ → List Item
packets_told Nothing c octets = []
packets_told Opened c octets = []
packets_told Reopened c octets = []
packets_told Bytes c octets = packets_of (c.rest ++ octets)
packets_told (Closed why) c octets = []

abbrev pub packets_heard : Window → Connected → FrameValue → List Item
packets_heard w c frame = packets_told (heard_of w c.end frame) c frame.kind.information

-- What a connection's session does with a frame of its caller that is no SABM, at this moment, if no disk call fails.
abbrev pub entries_heard : Window → ℕ → Store → List CallerList → Connected → FrameValue → List SessionEntry
entries_heard w moment store lists c frame =
    entries_taken (caller_of c) moment (session_over store lists c.state) (after_frame w c.end frame)
    (packets_heard w c frame)
    ++ entries_behind store (parts_of_frame w moment store lists c frame [])

-- At this moment these entries come one after another, from a session to another: each packet has its row over the
-- store after the commands before it, and what is queued is what is due.
abbrev pub GoesBy : CallSign → ℕ → Session → List SessionEntry → Session → Type 0
GoesBy caller moment session [] now = now ≡ session
GoesBy caller moment session (took item row ∷ entries) now =
    (row ≡ row_of caller moment session item) × GoesBy caller moment (after_row session row) entries now
GoesBy caller moment session (lost item row ∷ entries) now =
    (row ≡ row_of caller moment session item) × (entries ≡ []) × (now ≡ after_row session row)
GoesBy caller moment session (queued due ∷ entries) now =
    (next_due session.store session.state false ≡ Some due)
    × GoesBy caller moment (record session { state = due.state }) entries now

-- the session that a connection has after what happened to it
abbrev pub session_after : Store → Happened → Session
session_after store happened = session_over (after_all store happened.done) happened.lists happened.after.state

-- What a frame makes of a connection is what these entries make of its end, its session, the store and the lists. They
-- took the first of the packets that came: all of them, unless the last one that they took was lost. None was lost if
-- the session goes on.
pub record HeardBy (w : Window) (frame : FrameValue) (c : Connected) (happened : Happened) (entries : List SessionEntry)
    : Type 0 where
  pub doings : List Doing
  pub does : DoesAll (after_frame w c.end frame) doings happened.after.end
  pub said : happened.after.end.pushed ≡ (after_frame w c.end frame).pushed ++ texts (said_in entries)
  pub unread : List Item
  pub packets : packets_heard w c frame ≡ items_in entries ++ unread
  pub all : AllByRecursion IsNotLost entries → unread ≡ []
  pub none_lost : happened.over ≡ false → AllByRecursion IsNotLost entries
  pub done : happened.done ≡ commands_in entries

-- Each frame except a SABM makes that of a connection whose end is up, by the entries that come of it one after
-- another.
abbrev pub HearingLaw : Type 0
HearingLaw =
    (w : Window) (moment : ℕ) (store : Store) (lists : List CallerList) (c : Connected) (frame : FrameValue)
    → c.end.state ≡ Up → is_call frame.kind.control ≡ false
    → HeardBy w frame c (hearing w moment store lists c frame []) (entries_heard w moment store lists c frame)
    × GoesBy (caller_of c) moment (session_over store lists c.state) (entries_heard w moment store lists c frame)
    (session_after store (hearing w moment store lists c frame []))
