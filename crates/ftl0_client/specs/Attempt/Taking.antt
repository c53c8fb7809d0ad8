-- What the packets of a frame make of an attempt, one after another (FTL0 1990). The link is up while they are taken.
use Rattle.std.specs.Prelude.{ℕ, List, [], ◌∷◌, ◌++◌, Bool, true, false, if◌then◌else◌}
use Rattle.std.specs.Prelude.{Option, None, Some}
use Rattle.ax25_link.specs.Calls.{after_hang_up, after_push}
use Rattle.ax25_link.specs.Ends.{LinkEnd}
use Rattle.ftl0_packets.specs.Items.{kind_of_item, texts}
use Rattle.ftl0_packets.specs.Layout.{Item}
use Rattle.packet_link.specs.Queuing.{fits}
use Rattle.client_notes.specs.Command.{NotesCommand}
use Rattle.client_notes.specs.Laws.{after_all}
use Rattle.client_notes.specs.Notes.{Lists}
use Rattle.ftl0_client_job.specs.declared.ending.Ending.{Ending}
use Rattle.ftl0_client_job.specs.declared.work.Work.{Work}
use Rattle.ftl0_client_job.specs.Row.{Row, strange_ending}
use Rattle.ftl0_client_job.specs.Table.{JobState, job_after, job_row}
use Rattle.ftl0_client.specs.Attempt.Attempted.{Attempted}

-- the end after replies of this text: they are queued if they fit, and else nothing of them is
abbrev pub replied : LinkEnd → List ℕ → LinkEnd
replied end text = if fits end text then after_push end text else end

-- the job after replies to a packet of this type, which fit or don't: if they don't, the packet is strange
abbrev pub after_replies : JobState → ℕ → Bool → JobState
after_replies job kind true = job
after_replies job kind false = record job { ending = Some (strange_ending kind) }

-- the end once the job is so: an outcome hangs it up at once, except one after which that is to be done later
abbrev pub parting : Option Ending → LinkEnd → LinkEnd
parting None end = end
parting (Some ending) end = if ending.later then end else after_hang_up end

-- what an event makes of an attempt, and the commands of the notes that it has, in order
pub record Happened : Type 0 where
  pub after : Attempted
  pub noted : List NotesCommand

-- nothing is noted
abbrev pub quietly : Attempted → Happened
quietly a = record { after = a; noted = [] }

-- these commands come before
abbrev pub after_noting : List NotesCommand → Happened → Happened
after_noting commands happened = record happened { noted = commands ++ happened.noted }

-- the attempt with this job, after replies of this text, and hung up if the job's outcome asks for it at once
abbrev pub with_replies : Attempted → JobState → List ℕ → Attempted
with_replies a job text = record a { end = parting job.ending (replied a.end text); job = job }

-- what a packet of this type with this row makes: its commands, its replies, and the job after it
abbrev pub answering : Attempted → ℕ → Row Work → Happened
answering a kind row =
    record {
      after = with_replies a (after_replies (job_after row) kind (fits a.end (texts row.replies))) (texts row.replies);
      noted = row.commands;
    }

-- what one packet makes, over these notes; one that comes after the outcome changes nothing
abbrev pub taking_by : Option Ending → Lists → Attempted → Item → Happened
taking_by None lists a item = answering a (kind_of_item item) (job_row lists a.job item)
taking_by (Some ending) lists a item = quietly a

abbrev pub taking_one : Lists → Attempted → Item → Happened
taking_one lists a item = taking_by a.job.ending lists a item

-- The packets are taken one after another, each over the notes after the commands of those before it.
abbrev pub taking : Lists → Attempted → List Item → Happened
taking lists a [] = quietly a
taking lists a (item ∷ items) =
    let one : Happened = taking_one lists a item in
    after_noting one.noted (taking (after_all lists one.noted) one.after items)
