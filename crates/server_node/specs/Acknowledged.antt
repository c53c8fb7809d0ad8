-- The files that a session or a server acknowledges in a run, and from which moment of its disk on each of them stands.
use Rattle.std.specs.Prelude.{◌≡◌, ◌⊎◌, ℕ, ◌+◌, ◌≤◌, List, [], ◌∷◌, ◌++◌, length, slice_get, slice_index}
use Rattle.std.specs.Prelude.{false, None, Some, IfSome, Result, Ok}
use Rattle.px_base.specs.CallSign.{CallSign}
use Rattle.px_base.specs.Octets.{IsFront}
use Rattle.disk_model.specs.Moments.{LeavesSince}
use Rattle.disk_model.specs.declared.disk.Disk.{Ghosts}
use Rattle.ax25_frames.specs.FrameText.{FrameValue}
use Rattle.ax25_link.specs.Rows.{after_frame, heard_of}
use Rattle.ax25_link.specs.declared.state.Heard.TheVariants.{Bytes}
use Rattle.ftl0_packets.specs.Items.{texts}
use Rattle.ftl0_packets.specs.Layout.{Item, PacketValue, data_end, ul_ack_resp}
use Rattle.ftl0_packets.specs.Reading.{packets_of}
use Rattle.file_journal.specs.Commands.{calls_of}
use Rattle.file_journal.specs.Through.{HadRoom, StandsThrough}
use Rattle.file_store.specs.Command.{Command, after_all}
use Rattle.file_store.specs.State.{IsKnown, store_form}
use Rattle.file_store.specs.Store.{Entry, Store}
use Rattle.ftl0_session.specs.Lists.Lists.{CallerList}
use Rattle.ftl0_session.specs.Run.{Event, RunsOver, session_over}
use Rattle.ftl0_session.specs.Table.{Row, receiving, session_row}
use Rattle.ftl0_session.specs.Uploads.Failures.{Failure, write_fails}
use Rattle.ftl0_session.specs.Uploads.Laws.{HasEntry, IsWhole, kept}
use Rattle.ftl0_server.specs.Connection.Connected.{Connected, caller_of}
use Rattle.ftl0_server.specs.Connection.Laws.{row_behind}
use Rattle.ftl0_server.specs.Connection.Taking.{Progress, goes_on, taking}
use Rattle.ftl0_server.specs.Server.{Server}
use Rattle.ftl0_server.specs.ServerStep.{happening}
use Rattle.ftl0_server.specs.Serving.{ServesOver}
use Rattle.ftl0_server.specs.Slots.{connected, place_of}
use Rattle.turn_loop.specs.Events.{NodeEvent, hears}
use Rattle.turn_loop.specs.Lent.{Lent, Seen}
use Rattle.server_node.specs.Served.{IsServed}
use Rattle.server_node.specs.OnAir.Served.{ServerEnds, ServerRan, server_from}
use Rattle.server_node.specs.Sessions.Running.{first_session}
use Rattle.server_node.specs.Sessions.SessionRan.{SessionEnds, SessionRan, login_text}
use Rattle.turn_loop.specs.declared.stop.NodeStop.{NodeStop}
use Rattle.server_node.specs.declared.terms.Served.{Served}
use Rattle.server_node.specs.declared.terms.ServerTerms.{ServerTerms}
use Rattle.server_node.specs.declared.terms.SessionTerms.{SessionTerms}

-- DATA_END of a file at which no read of the disk fails: whose upload it is, which commands were done before, over
-- which store and lists it comes, when it comes, the file's number, and the last of its octets, which aren't held yet.
pub record FileEnd : Type 0 where
  pub caller : CallSign
  pub before : List Command
  pub store : Store
  pub lists : List CallerList
  pub moment : ℕ
  pub number : ℕ
  pub rest : List ℕ

-- its row of the session's table
abbrev pub row_of_end : FileEnd → Row
row_of_end file =
    session_row file.caller file.moment file.store file.lists (receiving file.number file.rest) (Ok data_end) false

-- All octets of the file came, over the store to which the commands before lead, and its row replies UL_ACK_RESP. Since
-- the last call of the disk for the row's commands, which is in this run, the file's entry is complete with the octets
-- that came, stamped, in each image that a crash leaves. That is the moment at which so many commands are done: each
-- takes the calls of the disk that the form of a store says, since the recovery was done, and no more where there was
-- room for the records of all.
pub record AcknowledgedSince {D : Type 0} (g : Ghosts D) (file : FileEnd) (start : Store) (time : ℕ → ℕ)
    (room : Type 0) (disk disk_now : D) : Type 0 where
  pub behind : file.store ≡ after_all start file.before
  pub entry : Entry
  pub held : List ℕ
  pub whole : IsWhole file.store file.number entry held file.rest
  pub replies : (row_of_end file).replies ≡ ul_ack_resp ∷ []
  pub since : ℕ
  pub since_is : since ≡ time (length (file.before ++ (row_of_end file).commands))
  pub no_sooner : time 0 + calls_of store_form (file.before ++ (row_of_end file).commands) ≤ since
  pub exactly : room → since ≡ time 0 + calls_of store_form (file.before ++ (row_of_end file).commands)
  pub in_run : IfSome (g.content disk) (λ _. since ≤ g.moment disk_now)
  pub stands :
      IfSome (g.content disk) (λ _. LeavesSince since (g.images_since disk_now)
      (HasEntry file.number (kept entry (held ++ file.rest) file.moment)))

-- so in a run whose commands stand on the disk
abbrev pub AcknowledgedIn :
    {D A C : Type 0} (seen : Seen D A C) (old new : Lent D A C) (start : Store) → FileEnd → {failed : Type 0}
    {done cut : List Command} → StandsThrough seen.disk store_form failed start done cut old.disk new.disk → Type 0
AcknowledgedIn seen old new start file stands =
    AcknowledgedSince seen.disk file start stands.time (HadRoom stands) old.disk new.disk

-- ---- a session

-- A session of this caller that has said these packets behind LOGIN_RESP receives the file.
pub record IsReceived (caller : CallSign) (start : Store) (said : List PacketValue) (file : FileEnd) : Type 0 where
  pub caller_is : file.caller ≡ caller
  pub events : List Event
  pub runs :
      RunsOver caller (first_session start) events said file.before
      (session_over file.store file.lists (receiving file.number file.rest))

-- what a session of these terms came to, and how it ended
abbrev pub IsSessionServed :
    {D A C : Type 0} → Seen D A C → Lent D A C → Lent D A C → SessionTerms → Result Served NodeStop → Type 0
IsSessionServed seen old new terms ended =
    IsServed seen terms.limits.blocks terms.moment
    (λ start run. SessionRan (IsKnown seen.disk old.disk) terms start run ended) old new ended

-- The session that was served said LOGIN_RESP and these packets, or a front of them. For each UL_ACK_RESP among them a
-- file stands on the disk: the one that the session was receiving when it had said the packets before.
pub record SessionSays {D A C : Type 0} (seen : Seen D A C) (old new : Lent D A C) (terms : SessionTerms)
    (ended : Result Served NodeStop) (served : IsSessionServed seen old new terms ended)
    (known : IsKnown seen.disk old.disk) : Type 0 where
  pub said : List PacketValue
  pub front : IsFront served.run.all.text (login_text (slice_index served.run.moments 0) ++ texts said)
  pub each :
      (before later : List PacketValue) → said ≡ before ++ ul_ack_resp ∷ later
      → (file : FileEnd) × IsReceived terms.caller served.start before file
      × AcknowledgedIn seen old new served.start file (served.stands known)

-- A session of these terms was served. Where it is known what octets the store's files have, a file stands on the disk
-- for each UL_ACK_RESP that it said.
pub record SessionAcknowledges {D A C : Type 0} (seen : Seen D A C) (old new : Lent D A C) (terms : SessionTerms) :
    Type 0 where
  pub ended : Result Served NodeStop
  pub served : IsSessionServed seen old new terms ended
  pub says : (known : IsKnown seen.disk old.disk) → SessionSays seen old new terms ended served known

-- ---- a server

-- A server that does these commands over these events comes to one of them, at which these failures of the disk are:
-- the event's commands are behind those of the events before it, and others are behind them.
pub record MeetsEvent (server : Server) (events : List NodeEvent) (done : List Command) : Type 0 where
  pub earlier : List NodeEvent
  pub event : NodeEvent
  pub later : List NodeEvent
  pub in_order : events ≡ earlier ++ event ∷ later
  pub frames : List FrameValue
  pub before : List Command
  pub missed : ℕ
  pub now : Server
  pub serves : ServesOver server earlier frames before missed now
  pub failures : List Failure
  pub others : List Command
  pub done_are : done ≡ before ++ ((happening now event failures).done ++ others)

-- what the first packets of a frame make of a connection of the server
abbrev pub taken_first : Server → FrameValue → ℕ → List Failure → Connected → List Item → Progress
taken_first server frame moment failures c items =
    taking (caller_of c) moment (session_over server.store server.lists c.state) (after_frame server.window c.end frame)
    items failures 0

-- The event is a frame that brings a connection of the server information next in its stream. These packets are taken,
-- and then the one behind them, which has this row, and at which no write and no sync fails.
pub record TakesPacket (server : Server) (event : NodeEvent) (failures : List Failure) : Type 0 where
  pub frame : FrameValue
  pub moment : ℕ
  pub is_event : event ≡ hears frame moment
  pub place : ℕ
  pub is_place : place_of frame.src server.slots ≡ Some place
  pub c : Connected
  pub is_there : slice_get server.slots place ≡ Some (connected c)
  pub is_next : heard_of server.window c.end frame ≡ Bytes
  pub items : List Item
  pub packet : Item
  pub others : List Item
  pub packets_are : packets_of (c.rest ++ frame.kind.information) ≡ items ++ packet ∷ others
  pub goes : (taken_first server frame moment failures c items).halt ≡ goes_on
  pub not_over : (taken_first server frame moment failures c items).over ≡ false
  pub written : write_fails failures (length items) ≡ false
  pub row : Row
  pub row_is :
      row_behind (caller_of c) moment (session_over server.store server.lists c.state)
      (after_frame server.window c.end frame) items failures packet
      ≡ row

-- The packet is DATA_END of this file, which its sender's session receives.
pub record IsEndOf (server : Server) (event : NodeEvent) (failures : List Failure) (before : List Command)
    (taken : TakesPacket server event failures) (file : FileEnd) : Type 0 where
  pub caller_is : file.caller ≡ caller_of taken.c
  pub moment_is : file.moment ≡ taken.moment
  pub receives :
      (taken_first server taken.frame taken.moment failures taken.c taken.items).state
      ≡ receiving file.number file.rest
  pub before_is :
      file.before ≡ before ++ (taken_first server taken.frame taken.moment failures taken.c taken.items).done

-- what a server of these terms came to, and how it ended
abbrev pub IsServerServed :
    {D A C : Type 0} → Seen D A C → Lent D A C → Lent D A C → ServerTerms → Result Served NodeStop → Type 0
IsServerServed seen old new terms ended =
    IsServed seen terms.limits.blocks None
    (λ start run. ServerRan (IsKnown seen.disk old.disk) (server_from terms start) terms.polls run ended) old new ended

-- The server that served took the first of its events: all of them, or, where it stopped, those that all turns but the
-- last one brought, and some more. It met each of these. For each packet that it takes at an event that it meets, and
-- to which UL_ACK_RESP is a reply, a file stands on the disk: the one that the packet ends.
pub record ServerTakes {D A C : Type 0} (seen : Seen D A C) (old new : Lent D A C) (terms : ServerTerms)
    (ended : Result Served NodeStop) (served : IsServerServed seen old new terms ended)
    (known : IsKnown seen.disk old.disk) : Type 0 where
  pub taken : List NodeEvent
  pub others : List NodeEvent
  pub in_order : served.ran.events ≡ taken ++ others
  pub whole : (others ≡ []) ⊎ ((between : List NodeEvent) × (taken ≡ served.ran.least ++ between))
  pub met :
      (earlier : List NodeEvent) (event : NodeEvent) (later : List NodeEvent) → taken ≡ earlier ++ event ∷ later
      → (meets : MeetsEvent (server_from terms served.start) served.ran.events served.run.all.done)
      × (meets.earlier ≡ earlier) × (meets.event ≡ event)
  pub each :
      (meets : MeetsEvent (server_from terms served.start) served.ran.events served.run.all.done)
      (taken : TakesPacket meets.now meets.event meets.failures) (before later : List PacketValue)
      → taken.row.replies ≡ before ++ ul_ack_resp ∷ later
      → (file : FileEnd) × IsEndOf meets.now meets.event meets.failures meets.before taken file
      × AcknowledgedIn seen old new served.start file (served.stands known)

-- A server of these terms was served. Where it is known what octets the store's files have, a file stands on the disk
-- for each packet to which it replied UL_ACK_RESP.
pub record ServerAcknowledges {D A C : Type 0} (seen : Seen D A C) (old new : Lent D A C) (terms : ServerTerms) :
    Type 0 where
  pub ended : Result Served NodeStop
  pub served : IsServerServed seen old new terms ended
  pub takes : (known : IsKnown seen.disk old.disk) → ServerTakes seen old new terms ended served known

-- ---- as laws

-- What a session acknowledges stands, or nothing was said.
abbrev pub SessionAcknowledgesLaw : {D A C : Type 0} → Seen D A C → Type 0
SessionAcknowledgesLaw {D} {A} {C} seen =
    (old new : Lent D A C) (terms : SessionTerms) (ended : Result Served NodeStop)
    → SessionEnds seen old new terms ended → (new.air ≡ old.air) ⊎ SessionAcknowledges seen old new terms

-- So it is with a server.
abbrev pub ServerAcknowledgesLaw : {D A C : Type 0} → Seen D A C → Type 0
ServerAcknowledgesLaw {D} {A} {C} seen =
    (old new : Lent D A C) (terms : ServerTerms) (ended : Result Served NodeStop)
    → ServerEnds seen old new terms ended → (new.air ≡ old.air) ⊎ ServerAcknowledges seen old new terms
