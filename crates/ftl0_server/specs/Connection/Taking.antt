-- What the packets of a frame make of a connection, one after another, and what is queued of what is due after them.
use Rattle.std.specs.Prelude.{◌≡◌, ℕ, ◌+◌, suc, List, [], ◌∷◌, ◌++◌, Bool, true, false, if◌then◌else◌, ⊤}
use Rattle.px_base.specs.CallSign.{CallSign}
use Rattle.ax25_link.specs.Calls.{after_abandon, after_push}
use Rattle.ax25_link.specs.Ends.{LinkEnd, free_octets}
use Rattle.ftl0_packets.specs.Items.{texts}
use Rattle.ftl0_packets.specs.Layout.{Item, packet_text}
use Rattle.packet_link.specs.Queuing.{filling}
pub use Rattle.packet_link.specs.Queuing.{enough_free, fits}
use Rattle.ftl0_session.specs.Lists.Lists.{CallerList}
use Rattle.file_store.specs.Command.{Command, after_all}
use Rattle.file_store.specs.OnDisk.{outlined_all}
use Rattle.file_store.specs.Store.{Store}
use Rattle.file_store.specs.Working.{one_if}
use Rattle.ftl0_session.specs.Run.{Session, session_over}
use Rattle.ftl0_session.specs.Uploads.Failures.{Failure, write_fails}
use Rattle.ftl0_session.specs.Table.{DuePacket, Row, State, command, due_at, fault_reply, row_at, failed_reads_told}
use Rattle.ftl0_session.specs.Table.{session_row, tells_failed_read}

-- the end after replies of this text: they are queued, or the link is given up if they don't fit
abbrev pub replied : LinkEnd → List ℕ → LinkEnd
replied end text = if fits end text then after_push end text else after_abandon end

-- Why no more is taken: all was, or the session is over; or a write or a sync of the disk failed in a packet's
-- commands, and the server stops.
pub data Halt : Type 0 where
  goes_on : Halt
  fails : Halt

-- What the parts of an event make of a connection: its end and its session's state, and the lists of all callers; the
-- number of the event's next part; whether the session is over; how many parts reported that a read failed; the store's
-- commands that are done, and those in one of which the disk failed; and why no more was taken.
pub record Progress : Type 0 where
  pub end : LinkEnd
  pub state : State
  pub lists : List CallerList
  pub part : ℕ
  pub over : Bool
  pub missed : ℕ
  pub done : List Command
  pub cut : List Command
  pub halt : Halt

-- no more packets come
abbrev pub resting : LinkEnd → State → List CallerList → ℕ → Progress
resting end state lists part =
    record {
      end = end;
      state = state;
      lists = lists;
      part = part;
      over = false;
      missed = 0;
      done = [];
      cut = [];
      halt = goes_on;
    }

-- this row was taken before
abbrev pub after_row : Row → Progress → Progress
after_row row progress =
    record progress {
      missed = failed_reads_told row.replies + progress.missed;
      done = row.commands ++ progress.done;
    }

-- A write or a sync of the disk fails at this packet's commands: code 3 is replied, the session is over, and the server
-- stops.
abbrev pub failing_at : LinkEnd → State → List CallerList → Row → ℕ → Progress
failing_at end state lists row part =
    record {
      end = replied end (texts (fault_reply state ∷ []));
      state = command;
      lists = lists;
      part = suc part;
      over = true;
      missed = failed_reads_told row.replies;
      done = [];
      cut = row.commands;
      halt = fails;
    }

-- the replies to this packet don't fit: the link is given up, and the session over
abbrev pub giving_up : LinkEnd → Row → ℕ → Progress
giving_up end row part =
    record {
      end = after_abandon end;
      state = row.state;
      lists = row.lists;
      part = suc part;
      over = true;
      missed = failed_reads_told row.replies;
      done = row.commands;
      cut = [];
      halt = goes_on;
    }

-- What a packet with this row makes: a write or a sync fails or none does, and its replies fit or don't. After it comes
-- what is given.
abbrev pub taking_row : LinkEnd → State → List CallerList → ℕ → Bool → Progress → Row → Progress
taking_row end state lists part failed later row =
    if failed then failing_at end state lists row part
    else if fits end (texts row.replies) then after_row row later
    else giving_up end row part

-- The packets are taken one after another, each by its row of the session's table, all at this moment, up to one at
-- whose replies the link is given up, or one for which these failures list a write or a sync. The first of them is the
-- event's part of this number, and each other one the next part. A part for which they list a read has the row for
-- that.
abbrev pub taking : CallSign → ℕ → Session → LinkEnd → List Item → List Failure → ℕ → Progress
taking caller moment session end [] failures part = resting end session.state session.lists part
taking caller moment session end (item ∷ items) failures part =
    let row : Row = row_at caller moment session.store session.lists session.state item failures part in
    taking_row end session.state session.lists part (write_fails failures part)
    (taking caller moment (session_over (after_all session.store row.commands) row.lists row.state)
    (after_push end (texts row.replies)) items failures (suc part))
    row

-- No octet of a file is looked at for these packets, taken one after another over this session, and by none of them
-- octets become held: each has this row, whether a read fails or none does.
abbrev pub LookAtNone : CallSign → ℕ → Session → List Item → Type 0
LookAtNone caller moment session [] = ⊤
LookAtNone caller moment session (item ∷ items) =
    (row : Row)
    × ((fails : Bool) → session_row caller moment session.store session.lists session.state item fails ≡ row)
    × (outlined_all row.commands ≡ row.commands)
    × LookAtNone caller moment (session_over (after_all session.store row.commands) row.lists row.state) items

-- a packet that is due was queued
abbrev pub after_due : DuePacket → Progress → Progress
after_due due progress =
    record progress {
      end = after_push progress.end (packet_text due.packet);
      state = due.state;
      part = suc progress.part;
      missed = progress.missed + one_if (tells_failed_read due.packet);
    }

-- Packets that are due are queued, one after another, each a part of the event, while enough octets are free: this
-- number of them at most.
abbrev pub queuing : ℕ → Store → List Failure → Progress → Progress
queuing more store failures progress =
    filling (λ at. at.end) (λ at. due_at store at.state failures at.part) after_due more progress

-- At the end of an event DATA and DATA_END that are due are queued while enough octets are free, but not if the session
-- is over. Each takes some of the octets that are free, so there are no more of them than that.
abbrev pub queued : Store → List Failure → Progress → Progress
queued store failures progress =
    if progress.over then progress
    else queuing (free_octets progress.end) (after_all store progress.done) failures progress
