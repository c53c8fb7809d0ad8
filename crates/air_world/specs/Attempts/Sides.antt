-- The two sides of an attempt: the server's session, and the client's job, each with its end of the link, as it is
-- or, once it is over, as it was last; and with what it did, packet by packet.
use Rattle.std.specs.Prelude.{◌≡◌, ◌≢◌, ◌⊎◌, ℕ, List, [], ◌∷◌, ◌++◌, Bool, true, false, None, Some}
use Rattle.std.specs.List.{AllByRecursion, concat}
use Rattle.px_base.specs.CallSign.{CallSign}
use Rattle.ax25_link.specs.declared.state.LinkState.TheVariants.{Calling, Up}
use Rattle.ax25_link.specs.declared.state.Why.{Why}
use Rattle.ftl0_packets.specs.Items.{kind_of_item, texts}
use Rattle.ftl0_packets.specs.Layout.{Fits, Item, PacketValue}
use Rattle.ftl0_packets.specs.Reading.{packets_of, rest_of}
use Rattle.file_store.specs.Store.{Store}
use Rattle.ftl0_session.specs.Lists.Lists.{CallerList}
use Rattle.ftl0_session.specs.Table.{DuePacket, Row, State, command, greeting, next_due, session_row}
use Rattle.ftl0_server.specs.Connection.Connected.{Connected, caller_of}
use Rattle.ftl0_server.specs.Entries as session
use Rattle.ftl0_server.specs.Entries.{SessionEntry}
use Rattle.client_notes.specs.Notes.{Lists}
use Rattle.ftl0_client_job.specs.declared.work.Work.{Work}
use Rattle.ftl0_client_job.specs.Due.{next_due as next_due_of_job}
use Rattle.ftl0_client_job.specs.JobState.{IsNotBegun}
use Rattle.ftl0_client_job.specs.Row.{Row as JobRow}
use Rattle.ftl0_client_job.specs.Table.{JobState, job_after, job_row, new_job}
use Rattle.ftl0_client.specs.Attempt.Attempted.{Attempted, outcome_of}
use Rattle.ftl0_client.specs.Attempt.Laws.{IsToldDown}
use Rattle.ftl0_client.specs.Entries as job
use Rattle.ftl0_client.specs.Entries.{JobEntry}

-- the server's side: the connection; LOGIN_RESP, with which it began; what the session did since; whether it is up
pub record ServerSide : Type 0 where
  pub connected : Connected
  pub greeting : PacketValue
  pub entries : List SessionEntry
  pub is_up : Bool

-- the client's side: its link and its job, the work as it was asked, and what the job did since
pub record ClientSide : Type 0 where
  pub attempted : Attempted
  pub asked : Work
  pub entries : List JobEntry

-- the packets that a side has said, one after another
abbrev pub said_by_server : ServerSide → List PacketValue
said_by_server side = side.greeting ∷ session.said_in side.entries

abbrev pub said_by_client : ClientSide → List PacketValue
said_by_client side = job.said_in side.entries

-- the row is the table's of this packet, by what the store and the lists gave at some moment
abbrev pub IsRow : CallSign → State → Item → Row → Type 0
IsRow caller state item row =
    (moment : ℕ) × (store : Store) × (lists : List CallerList)
    × (row ≡ session_row caller moment store lists state item false)

-- this is due in the state, by what the store gave
abbrev pub IsDue : State → DuePacket → Type 0
IsDue state due = (store : Store) × (next_due store state false ≡ Some due)

-- These entries lead a session of this caller from a state to another, each by its row of the table.
abbrev pub SessionReaches : CallSign → State → List SessionEntry → State → Type 0
SessionReaches caller state [] now = now ≡ state
SessionReaches caller state (session.took item row ∷ entries) now =
    IsRow caller state item row × SessionReaches caller row.state entries now
SessionReaches caller state (session.lost item row ∷ entries) now =
    IsRow caller state item row × (entries ≡ []) × (now ≡ row.state)
SessionReaches caller state (session.queued due ∷ entries) now =
    IsDue state due × SessionReaches caller due.state entries now

-- the row is the client's table's of this packet, by what the notes gave
abbrev pub IsJobRow : JobState → Item → JobRow Work → Type 0
IsJobRow doing item row = (doing.ending ≡ None) × ((lists : Lists) × (row ≡ job_row lists doing item))

-- These entries lead a job from a state to another, each by its row of the client's table. After its outcome no
-- packet changes it.
abbrev pub JobReaches : JobState → List JobEntry → JobState → Type 0
JobReaches doing [] now = now ≡ doing
JobReaches doing (job.took item row ∷ entries) now =
    IsJobRow doing item row × JobReaches (job_after row) entries now
JobReaches doing (job.lost item row ∷ entries) now =
    IsJobRow doing item row × JobReaches (job.after_losing (kind_of_item item) row) entries now
JobReaches doing (job.passed item ∷ entries) now = (doing.ending ≢ None) × JobReaches doing entries now
JobReaches doing (job.queued due ∷ entries) now =
    (next_due_of_job doing ≡ Some due) × JobReaches due.state entries now

-- this is a LOGIN_RESP
abbrev pub IsGreeting : PacketValue → Type 0
IsGreeting packet = (moment : ℕ) × (left : Bool) × (packet ≡ greeting moment left)

-- The session is in the state to which its packets lead, those of the octets that its end accepted and those that it
-- queued. It has said LOGIN_RESP, and then its replies and what it queued, in order. This is true also of one that is
-- over. It has taken each packet, except those after one whose replies didn't fit: with that one it was over. The
-- octets of the packets that it didn't take are neither in its entries nor in its rest.
pub record IsSession (side : ServerSide) : Type 0 where
  pub reached : SessionReaches (caller_of side.connected) command side.entries side.connected.state
  pub unread : List Item
  pub packets : packets_of (concat side.connected.end.taken) ≡ session.items_in side.entries ++ unread
  pub all : AllByRecursion session.IsNotLost side.entries → unread ≡ []
  pub none_lost : side.is_up ≡ true → AllByRecursion session.IsNotLost side.entries
  pub rest : side.connected.rest ≡ rest_of (concat side.connected.end.taken)
  pub said : side.connected.end.pushed ≡ texts (said_by_server side)
  pub greets : IsGreeting side.greeting
  pub fits : AllByRecursion Fits (said_by_server side)

-- The job is in the state to which its packets lead, those of the octets that its end accepted and those that it
-- queued, with the outcome, if they have one. If its link closed before an outcome, that is what became of the attempt.
-- It has said its replies and what it queued, in order. This is true also of one that is gone.
pub record IsJob (side : ClientSide) : Type 0 where
  pub begun : IsNotBegun side.asked
  pub reached : JobReaches (new_job side.asked) side.entries side.attempted.job
  pub packets : packets_of (concat side.attempted.end.taken) ≡ job.items_in side.entries
  pub rest : side.attempted.rest ≡ rest_of (concat side.attempted.end.taken)
  pub said : side.attempted.end.pushed ≡ texts (said_by_client side)
  pub fits : AllByRecursion Fits (said_by_client side)
  pub told_down : IsToldDown side.attempted
  pub closed : (why : Why) → side.attempted.down ≡ Some why → side.attempted.job.ending ≡ None
  pub working :
      outcome_of side.attempted ≡ None
      → (side.attempted.end.state ≡ Calling) ⊎ (side.attempted.end.state ≡ Up)
