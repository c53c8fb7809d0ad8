-- Which commands of the notes an event of a client begins that stops at a packet, if the disk fails or there is no
-- memory.
use Rattle.std.specs.Prelude.{◌≡◌, List, ◌∷◌, ◌++◌, None}
use Rattle.ax25_frames.specs.FrameText.{FrameValue}
use Rattle.ax25_link.specs.Window.{Window}
use Rattle.ftl0_packets.specs.Layout.{Item}
use Rattle.client_notes.specs.Command.{NotesCommand}
use Rattle.client_notes.specs.Laws.{after_all}
use Rattle.client_notes.specs.Notes.{Lists}
use Rattle.ftl0_client_job.specs.Table.{job_row}
use Rattle.ftl0_client.specs.Attempt.Attempted.{Attempted}
use Rattle.ftl0_client.specs.Attempt.Hearing.{after_hearing, hearing, packets_heard}
use Rattle.ftl0_client.specs.Attempt.Taking.{Happened, taking}

-- the commands that are begun if the event stops at this packet: those of the packets before it, and its row's
abbrev pub begun_at : Lists → Attempted → List Item → Item → List NotesCommand
begun_at lists a before item =
    let taken : Happened = taking lists a before in
    taken.noted ++ (job_row (after_all lists taken.noted) taken.after.job item).commands

-- The commands that a frame's event begins that stops at one of its packets, before the job has an outcome, are the
-- first of those that the event has if nothing stops it.
abbrev pub FrontOfEventLaw : Type 0
FrontOfEventLaw =
    (w : Window) (lists : Lists) (a : Attempted) (frame : FrameValue) (before : List Item) (item : Item)
    (behind : List Item) → packets_heard w a frame ≡ before ++ item ∷ behind
    → (taking lists (after_hearing w a frame) before).after.job.ending ≡ None
    → (others : List NotesCommand)
    × ((hearing w lists a frame).noted ≡ begun_at lists (after_hearing w a frame) before item ++ others)
