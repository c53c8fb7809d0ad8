-- What a job does with a frame or a tick, packet by packet: each packet that it takes with the row that the notes gave,
-- and each packet that it queues without being asked (FTL0 1990).
use Rattle.std.specs.Prelude.{◌≡◌, ◌≢◌, ℕ, zero, suc, List, [], ◌∷◌, ◌++◌, flat_map, nat_le, if◌then◌else◌}
use Rattle.std.specs.Prelude.{Option, None, Some}
use Rattle.ax25_frames.specs.FrameText.{FrameValue}
use Rattle.ax25_link.specs.Calls.{Doing, DoesAll}
use Rattle.ax25_link.specs.Ends.{LinkEnd, free_octets}
use Rattle.ax25_link.specs.Rows.{after_frame}
use Rattle.ax25_link.specs.Timer.{after_tick, is_up}
use Rattle.ax25_link.specs.Window.{Window}
use Rattle.ftl0_packets.specs.Items.{kind_of_item, texts}
use Rattle.ftl0_packets.specs.Layout.{Item, PacketValue}
use Rattle.packet_link.specs.Queuing.{enough_free, fits, on_due}
use Rattle.client_notes.specs.Command.{NotesCommand}
use Rattle.client_notes.specs.Laws.{after_all}
use Rattle.client_notes.specs.Notes.{Lists}
use Rattle.ftl0_client_job.specs.declared.ending.Ending.{Ending}
use Rattle.ftl0_client_job.specs.declared.work.Work.{Work}
use Rattle.ftl0_client_job.specs.Due.{DuePacket, next_due}
use Rattle.ftl0_client_job.specs.Row.{Row, strange_ending}
use Rattle.ftl0_client_job.specs.Table.{JobState, job_after, job_row}
use Rattle.ftl0_client.specs.Attempt.Attempted.{Attempted}
use Rattle.ftl0_client.specs.Attempt.Hearing.{after_hearing, after_ticking, hearing, packets_heard, ticking}
use Rattle.ftl0_client.specs.Attempt.Settling.{after_due}
use Rattle.ftl0_client.specs.Attempt.Taking.{Happened, taking, taking_one}

pub data JobEntry : Type 0 where
  -- this packet was taken, with this row, and its replies were queued
  took : Item → Row Work → JobEntry
  -- this packet was taken, with this row, but its replies didn't fit: none was queued, and the packet was strange
  lost : Item → Row Work → JobEntry
  -- this packet came after the outcome, and changed nothing
  passed : Item → JobEntry
  -- this packet was due, and was queued
  queued : DuePacket JobState → JobEntry

-- the packets that an entry took
abbrev pub items_of : JobEntry → List Item
items_of (took item row) = item ∷ []
items_of (lost item row) = item ∷ []
items_of (passed item) = item ∷ []
items_of (queued due) = []

-- the packets that it queued
abbrev pub packets_said : JobEntry → List PacketValue
packets_said (took item row) = row.replies
packets_said (lost item row) = []
packets_said (passed item) = []
packets_said (queued due) = due.packet ∷ []

-- the notes' commands that it did
abbrev pub commands_of : JobEntry → List NotesCommand
commands_of (took item row) = row.commands
commands_of (lost item row) = row.commands
commands_of (passed item) = []
commands_of (queued due) = []

-- the same of entries, in order
abbrev pub items_in : List JobEntry → List Item
items_in entries = flat_map items_of entries

abbrev pub said_in : List JobEntry → List PacketValue
said_in entries = flat_map packets_said entries

abbrev pub commands_in : List JobEntry → List NotesCommand
commands_in entries = flat_map commands_of entries

-- the job after a row whose replies didn't fit, of a packet of this type
abbrev pub after_losing : ℕ → Row Work → JobState
after_losing kind row = record (job_after row) { ending = Some (strange_ending kind) }

-- what becomes of one packet, over these notes
abbrev pub entry_by : Option Ending → Lists → Attempted → Item → JobEntry
entry_by (Some ending) lists a item = passed item
entry_by None lists a item =
    if fits a.end (texts (job_row lists a.job item).replies) then took item (job_row lists a.job item)
    else lost item (job_row lists a.job item)

-- The packets are taken one after another, each over the notes after the commands before it.
abbrev pub entries_taken : Lists → Attempted → List Item → List JobEntry
entries_taken lists a [] = []
entries_taken lists a (item ∷ items) =
    let one : Happened = taking_one lists a item in
    entry_by a.job.ending lists a item ∷ entries_taken (after_all lists one.noted) one.after items

-- What is due is queued, one packet after another, while enough octets are free: this number of them at most.
abbrev pub entries_due : ℕ → Attempted → List JobEntry
entries_due zero a = []
entries_due (suc more) a =
    if nat_le enough_free (free_octets a.end)
    then on_due (next_due a.job) [] (λ due. queued due ∷ entries_due more (after_due due a))
    else []

-- what is due at the end of an event, while the link is up
abbrev pub entries_behind : Attempted → List JobEntry
entries_behind a = if is_up a.end.state then entries_due (free_octets a.end) a else []

-- the attempt after the packets of a frame from the server
abbrev pub after_packets : Window → Lists → Attempted → FrameValue → Attempted
after_packets w lists a frame = (taking lists (after_hearing w a frame) (packets_heard w a frame)).after

-- what a job does with a frame from the server, over these notes
abbrev pub entries_heard : Window → Lists → Attempted → FrameValue → List JobEntry
entries_heard w lists a frame =
    entries_taken lists (after_hearing w a frame) (packets_heard w a frame)
    ++ entries_behind (after_packets w lists a frame)

-- what it does at a tick
abbrev pub entries_ticked : Attempted → List JobEntry
entries_ticked a = entries_behind (after_ticking a)

-- These entries come one after another, from notes and a job to others: each packet has its row over the notes after
-- the commands before it, and what is queued is what is due.
abbrev pub GoesBy : Lists → JobState → List JobEntry → Lists → JobState → Type 0
GoesBy lists job [] lists_now now = (lists_now ≡ lists) × (now ≡ job)
GoesBy lists job (took item row ∷ entries) lists_now now =
    (job.ending ≡ None) × (row ≡ job_row lists job item)
    × GoesBy (after_all lists row.commands) (job_after row) entries lists_now now
GoesBy lists job (lost item row ∷ entries) lists_now now =
    (job.ending ≡ None) × (row ≡ job_row lists job item)
    × GoesBy (after_all lists row.commands) (after_losing (kind_of_item item) row) entries lists_now now
GoesBy lists job (passed item ∷ entries) lists_now now =
    (job.ending ≢ None) × GoesBy lists job entries lists_now now
GoesBy lists job (queued due ∷ entries) lists_now now =
    (next_due job ≡ Some due) × GoesBy lists due.state entries lists_now now

-- What an event makes of an attempt whose end is this one once the frame or the tick came is what these entries make
-- of its end, its job and the notes.
pub record HappensBy (end : LinkEnd) (happened : Happened) (entries : List JobEntry) : Type 0 where
  pub doings : List Doing
  pub does : DoesAll end doings happened.after.end
  pub said : happened.after.end.pushed ≡ end.pushed ++ texts (said_in entries)
  pub noted : happened.noted ≡ commands_in entries

-- Each frame from the server makes that of an attempt by the entries that come of it, which take all packets that
-- came.
abbrev pub HearingLaw : Type 0
HearingLaw =
    (w : Window) (lists : Lists) (a : Attempted) (frame : FrameValue)
    → HappensBy (after_frame w a.end frame) (hearing w lists a frame) (entries_heard w lists a frame)
    × (packets_heard w a frame ≡ items_in (entries_heard w lists a frame))
    × GoesBy lists a.job (entries_heard w lists a frame) (after_all lists (hearing w lists a frame).noted)
    (hearing w lists a frame).after.job

-- The same of a tick, which brings no packet and has no command.
abbrev pub TickingLaw : Type 0
TickingLaw =
    (lists : Lists) (a : Attempted)
    → HappensBy (after_tick a.end) (record { after = ticking a; noted = [] }) (entries_ticked a)
    × (items_in (entries_ticked a) ≡ []) × GoesBy lists a.job (entries_ticked a) lists (ticking a).job
