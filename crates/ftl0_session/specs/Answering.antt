-- The answer to a packet while it is sent: what is due of it so far, and how much is left.
use Rattle.std.specs.Prelude.{◌≡◌, ℕ, suc, ◌+◌, ◌≤◌, List, [], ◌∷◌, ◌++◌, length, false, Some, ⊤}
use Rattle.px_base.specs.CallSign.{CallSign}
use Rattle.ftl0_packets.specs.Layout.{PacketValue}
use Rattle.file_store.specs.Command.{Command, after_all}
use Rattle.file_store.specs.Store.{Store}
use Rattle.ftl0_session.specs.Lists.Lists.{CallerList}
use Rattle.ftl0_session.specs.Uploads.Events.{Event as Heard}
use Rattle.ftl0_session.specs.Uploads.Failures.{Failure, failed_reads, read_fails}
pub use Rattle.ftl0_session.specs.Downloads.Sending.{octets_left}
use Rattle.ftl0_session.specs.Run.{Event, Session, event_row}
use Rattle.ftl0_session.specs.Table.{Row, State, due_at}

-- an event at some of whose parts reads failed
abbrev pub met_with : Heard → List ℕ → Event
met_with event parts = record { moment = event.moment; packet = event.packet; failures = failed_reads parts }

-- These packets are sent from the state on, one after another, the first as the event's part of this number, up to this
-- state; others may be due in it.
abbrev pub SendsTo : Store → State → List Failure → ℕ → List PacketValue → State → Type 0
SendsTo store state failures part [] now = now ≡ state
SendsTo store state failures part (packet ∷ packets) now =
    (next : State) × (due_at store state failures part ≡ Some (record { packet = packet; state = next }))
    × SendsTo store next failures (suc part) packets now

-- These packets are sent from the state on, one after another, the first as the event's part of this number; others may
-- be due after them.
abbrev pub SendsSome : Store → State → List Failure → ℕ → List PacketValue → Type 0
SendsSome store state failures part [] = ⊤
SendsSome store state failures part (packet ∷ packets) =
    (next : State) × (due_at store state failures part ≡ Some (record { packet = packet; state = next }))
    × SendsSome store next failures (suc part) packets

-- A packet was taken, which leaves these lists and this state: the answer to it is its row's replies, and so far these
-- packets that are due after them. Reads may have failed at some of its parts up to there.
pub record IsAnswering (caller : CallSign) (start : Session) (event : Heard) (said : List PacketValue)
    (commands : List Command) (lists : List CallerList) (state : State) : Type 0 where
  pub parts : List ℕ
  pub row : Row
  pub is_row : event_row caller start.store start.lists start.state (met_with event parts) ≡ row
  pub sent : List PacketValue
  pub none_later : (number : ℕ) → 1 + length sent ≤ number → read_fails (failed_reads parts) number ≡ false
  pub sends : SendsTo (after_all start.store row.commands) row.state (failed_reads parts) 1 sent state
  pub said_is : said ≡ row.replies ++ sent
  pub commands_are : commands ≡ row.commands
  pub lists_are : lists ≡ row.lists
